use Rattle.std.proofs.Common.{arith}
use Rattle.domain_routes.specs.declared.Goal.TheVariants.{Domain}
use Rattle.domain_routes.proofs.RowLemmas.{rows_turn, domain_rows_all}
use Rattle.domain_routes.proofs.rows.to_domains.Goals as goal

pub loop-domain-preserved : goal.loop-domain-preserved
loop-domain-preserved c =
    rows_turn c.args.graph.now.domains.items c.args.graph.now.edges.items (λ d. Domain d) c.loop-domain.domain c.loop-domain.rows.items c.push.new.self.items c.in_ok-domain_row.field-0
    c.loop-domain.invariant c.in_ok-domain_row.ensures c.in_ok-push.ensures.items

pub returns : goal.returns
returns c =
    domain_rows_all c.args.graph.now.domains.items c.deref.result.now c.args.graph.now.edges.items c.domain_limit-domain-end.result c.loop-domain.domain c.loop-domain.rows.items
    c.loop-domain.invariant c.domain_limit-domain-end.ensures.above c.deref.ensures.value (omega arith)
