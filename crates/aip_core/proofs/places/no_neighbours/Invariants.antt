use Rattle.std.proofs.Common.{◌≡◌, ℕ, [], length}
use Rattle.aip_core.specs.Places.{row_of}
use Rattle.aip_core.proofs.places.no_neighbours.Given as goal

-- so many rows, and nothing in any
abbrev pub invariant-loop-router : goal.invariant-loop-router
invariant-loop-router l = (length l.rows.items ≡ l.router) × ((other : ℕ) → row_of l.rows.items other ≡ [])
