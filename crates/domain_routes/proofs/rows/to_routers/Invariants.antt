use Rattle.domain_routes.specs.declared.Goal.TheVariants.{Router}
use Rattle.domain_routes.proofs.RowLemmas.{AreRowsUpTo}
use Rattle.domain_routes.proofs.rows.to_routers.Given as goal

abbrev pub invariant-loop-target : goal.invariant-loop-target
invariant-loop-target l = AreRowsUpTo l.graph.domains.items l.graph.edges.items (λ r. Router r) l.target l.rows.items
