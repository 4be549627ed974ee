use Rattle.std.proofs.Common.{take, arith}
use Rattle.lmots_core.proofs.lanes.four_chains.Goals as goal

pub equal_step-start-requires : goal.equal_step-start-requires
equal_step-start-requires c = λ j lt. omega (arith, c.chain_numbers-chains.ensures j lt)

pub run-requires : goal.run-requires
run-requires c = λ j lt. omega (arith, c.chain_numbers-chains.ensures j lt)

pub returns : goal.returns
returns c = λ j lt.
    let p = take 20 c.args.block.now in
    let head = c.head_words-head.ensures in
    rw (c.equal_step-start.ensures j lt p head, c.splat_bytes.ensures j lt, c.chain_numbers-chains.ensures j lt) at (c.run.ensures j lt p head)
