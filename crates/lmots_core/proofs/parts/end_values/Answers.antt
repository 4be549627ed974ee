use Rattle.std.proofs.Common.{◌≡◌, ◌++◌, arith, slice_index}
use Rattle.std.specs.Int.{w32, to_be_bytes}
use Rattle.lmots_core.specs.Chains.{digit}
use Rattle.lmots_core.proofs.Sizes.{chains_few}
use Rattle.lmots_core.proofs.Standing.{front_same}
use Rattle.lmots_core.proofs.parts.end_values.Goals as goal

pub returns-clause-ends : goal.returns-clause-ends
returns-clause-ends c = λ k lt.
    let p = c.args.id.now ++ to_be_bytes w32 c.args.q in
    let few = chains_few c.args.width in
    let start : slice_index c.fill_digits.new.digits k ≡ digit c.args.width c.args.hash.now k = c.fill_digits.ensures.digits k lt in
    let end : slice_index c.split_at.result.0.now k ≡ c.greatest-ends.result = front_same c.chains-2.result 265 k c.greatest-ends.result _ c.split_at.ensures.front (omega (arith, few)) (omega arith) in
    rw (start, end, c.greatest-ends.ensures, c.read_parts.ensures.parts k lt) at (c.advance.ensures.stand p c.leaf_head.ensures k (omega arith))
