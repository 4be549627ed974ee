use Rattle.std.proofs.Common.{arith}
use Rattle.domain_routes.specs.declared.Goal.TheVariants.{Router}
use Rattle.domain_routes.proofs.RowLemmas.{rows_turn, router_rows_all}
use Rattle.domain_routes.proofs.rows.to_routers.Goals as goal

pub loop-target-preserved : goal.loop-target-preserved
loop-target-preserved c =
    rows_turn c.args.graph.now.domains.items c.args.graph.now.edges.items (λ r. Router r) c.loop-target.target c.loop-target.rows.items c.push.new.self.items c.in_ok-row.field-0
    c.loop-target.invariant c.in_ok-row.ensures c.in_ok-push.ensures.items

pub returns : goal.returns
returns c = router_rows_all c.args.graph.now.domains.items c.args.graph.now.edges.items c.loop-target.target c.loop-target.rows.items c.loop-target.invariant (omega arith)
