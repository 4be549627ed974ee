use Rattle.domain_routes.specs.Levels.{unset}
use Rattle.domain_routes.proofs.SearchLemmas.{IsSearched}
use Rattle.domain_routes.proofs.levels.distances.Given as goal

abbrev pub invariant-levels : goal.invariant-levels
invariant-levels l = IsSearched l.graph.domains.items l.graph.edges.items l.fn.goal l.level l.levels.items

abbrev pub decreases-levels : goal.decreases-levels
decreases-levels l = unset l.levels.items
