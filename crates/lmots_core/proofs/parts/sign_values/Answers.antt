use Rattle.std.proofs.Common.{◌≡◌, ◌++◌, arith, slice_index}
use Rattle.std.specs.Int.{w32, to_be_bytes}
use Rattle.lmots_core.specs.Chains.{digit}
use Rattle.lmots_core.proofs.Sizes.{chains_few}
use Rattle.lmots_core.proofs.Standing.{front_same}
use Rattle.lmots_core.proofs.parts.sign_values.Goals as goal

pub returns-clause-parts : goal.returns-clause-parts
returns-clause-parts c = λ k lt.
    let p = c.args.id.now ++ to_be_bytes w32 c.args.q in
    let few = chains_few c.args.width in
    let start : slice_index c.split_at_mut-starts.result.0.now k ≡ 0 = front_same c.chains-2.result 265 k 0 _ c.split_at_mut-starts.ensures.front (omega (arith, few)) (omega arith) in
    let end : slice_index c.fill_digits.new.digits k ≡ digit c.args.width c.args.hash.now k = c.fill_digits.ensures.digits k lt in
    rw (start, end, c.fill_secrets.ensures.secrets p c.leaf_head-head.ensures k (omega arith)) at (c.advance.ensures.stand p c.leaf_head-head.ensures k (omega arith))
