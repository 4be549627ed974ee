use Rattle.std.proofs.Common.{refl, sym, ◌∙◌, ◌++◌, arith, slice_index}
use Rattle.std.specs.Int.{w16, to_be_bytes}
use Rattle.sha2.specs.Sha256.{digest_bytes}
use Rattle.sha256_lanes.specs.Lanes.{value_in}
use Rattle.lmots_core.proofs.Steps.{steps_done, steps_more}
use Rattle.lmots_core.proofs.lanes.run.Goals as goal

pub steps-init : goal.steps-init
steps-init c = λ j lt p head. refl

pub steps-preserved : goal.steps-preserved
steps-preserved c = λ j lt p head.
    rw (c.equal_step-next.ensures j lt p head)
    (sym (steps_more (p ++ to_be_bytes w16 (slice_index c.args.chains j)) c.steps.number c.args.to (digest_bytes (value_in j c.steps.value) 8) (omega arith))
    ∙ c.steps.invariant j lt p head)

pub returns : goal.returns
returns c = λ j lt p head.
    sym (steps_done (p ++ to_be_bytes w16 (slice_index c.args.chains j)) c.steps.number c.args.to (digest_bytes (value_in j c.steps.value) 8) (omega arith))
    ∙ c.steps.invariant j lt p head
