use Rattle.std.proofs.Common.{◌≡◌, ◌*◌, ◌≤◌}
use Rattle.lmots_core.specs.Parameters.{bits_of, greatest_of}
use Rattle.lmots_core.specs.Chains.{shortfall}
use Rattle.lmots_core.proofs.digits.shortfall.Given as goal

abbrev pub invariant-digits : goal.invariant-digits
invariant-digits l = record {
  value : l.sum ≡ shortfall l.hash (bits_of l.width) l.i;
  small : l.sum ≤ greatest_of l.width * l.i;
}
