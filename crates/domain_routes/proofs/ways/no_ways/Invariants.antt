use Rattle.std.proofs.Common.{◌≡◌, ℕ, [], length}
use Rattle.domain_routes.specs.Levels.{row_of}
use Rattle.domain_routes.proofs.ways.no_ways.Given as goal

-- so many rows, and no ways in any
abbrev pub invariant-loop-router : goal.invariant-loop-router
invariant-loop-router l = (length l.all.items ≡ l.router) × ((other : ℕ) → row_of l.all.items other ≡ [])
