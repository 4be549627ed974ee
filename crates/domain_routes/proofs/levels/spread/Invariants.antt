use Rattle.domain_routes.proofs.SpreadLemmas.{IsSpread}
use Rattle.domain_routes.proofs.levels.spread.Given as goal

abbrev pub invariant-loop-router : goal.invariant-loop-router
invariant-loop-router l = IsSpread l.graph.edges.items l.level l.router l.initial.levels l.levels l.found
