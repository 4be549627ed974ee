use Rattle.std.proofs.Common.{sym, arith}
use Rattle.lmots_core.specs.Parameters.{bits_of, greatest_of}
use Rattle.lmots_core.proofs.Steps.{below_more, shortfall_more, shortfall_none}
use Rattle.lmots_core.proofs.digits.shortfall.Goals as goal

pub digits-init : goal.digits-init
digits-init c = record {
  value = sym (shortfall_none c.args.hash.now (bits_of c.args.width));
  small = omega arith;
}

pub digits-preserved : goal.digits-preserved
digits-preserved c = record {
  value = rw shortfall_more (cc);
  small = below_more (greatest_of c.args.width) c.digits.sum c.from-sum.result c.digits.i c.digits.invariant.small (omega arith);
}
