use Rattle.domain_routes.proofs.SearchLemmas.{IsZeroUpTo}
use Rattle.domain_routes.proofs.levels.level_zero.Given as goal

abbrev pub invariant-loop-router : goal.invariant-loop-router
invariant-loop-router l = IsZeroUpTo l.domains l.goal l.router l.levels.items
