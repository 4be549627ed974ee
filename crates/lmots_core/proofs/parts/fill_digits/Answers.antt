use Rattle.std.proofs.Common.{◌≡◌, ◌∙◌, length-set, arith}
use Rattle.lmots_core.specs.Chains.{digit}
use Rattle.lmots_core.proofs.Standing.{digits_more}
use Rattle.lmots_core.proofs.parts.fill_digits.Goals as goal

pub digits-preserved : goal.digits-preserved
digits-preserved c =
    let is : c.digit.result ≡ digit c.args.width c.args.hash.now c.digits.i = cc in
    record {
      len = length-set c.digits.digits c.digits.i c.digit.result ∙ c.digits.invariant.len;
      filled = digits_more (digit c.args.width c.args.hash.now) c.digits.i c.digits.digits c.digit.result (omega arith) is c.digits.invariant.filled;
    }
