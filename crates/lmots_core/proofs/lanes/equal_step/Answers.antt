use Rattle.lmots_core.proofs.lanes.equal_step.Goals as goal

pub returns : goal.returns
returns c = λ j lt p head. rw (c.splat.ensures j lt, c.from.ensures) at (c.chain_step.ensures j lt p head)
