use Rattle.std.proofs.Common.{ℕ}
use Rattle.shutoff_filter.specs.InForce.{IsPast}
use Rattle.shutoff_filter.proofs.in_force.place_of.Given as goal

abbrev pub invariant-places : goal.invariant-places
invariant-places l = (until : ℕ) → IsPast (record { to = l.to; until = until }) l.kept l.place
