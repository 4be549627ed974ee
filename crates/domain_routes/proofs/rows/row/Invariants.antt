use Rattle.domain_routes.proofs.RowLemmas.{IsRowUpTo}
use Rattle.domain_routes.proofs.rows.row.Given as goal

abbrev pub invariant-loop-router : goal.invariant-loop-router
invariant-loop-router l = IsRowUpTo l.graph.domains.items l.graph.edges.items l.fn.goal l.router l.ports.items
