use Rattle.domain_routes.specs.declared.Goal.TheVariants.{Domain}
use Rattle.domain_routes.proofs.RowLemmas.{AreRowsUpTo}
use Rattle.domain_routes.proofs.rows.to_domains.Given as goal

abbrev pub invariant-loop-domain : goal.invariant-loop-domain
invariant-loop-domain l = AreRowsUpTo l.graph.domains.items l.graph.edges.items (λ d. Domain d) l.domain l.rows.items
