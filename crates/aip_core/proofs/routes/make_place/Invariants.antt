use Rattle.std.proofs.Common.{ℕ, ◌+◌, ◌-◌, List, length}
use Rattle.domain_routes.specs.declared.Edge.{Edge}
use Rattle.domain_routes.specs.declared.Goal.{Goal}
use Rattle.aip_core.specs.Routes.{AreKept}
use Rattle.aip_core.proofs.routes.make_place.Given as goal

-- what was kept is still kept
abbrev pub invariant-places : goal.invariant-places
invariant-places l = (domains : List ℕ) (edges : List Edge) (kind : ℕ → Goal) → AreKept domains edges kind l.initial.slots.items → AreKept domains edges kind l.slots.items

abbrev pub decreases-places : goal.decreases-places
decreases-places l = (l.number + 1) - length l.slots.items
