use Rattle.std.proofs.Common.{◌∙◌, ap, arith, length}
use Rattle.domain_routes.proofs.SpreadLemmas.{row_is, row_inside}
use Rattle.domain_routes.proofs.RowLemmas.{row_turn, row_all}
use Rattle.domain_routes.proofs.rows.row.Goals as goal

pub lowest_port-requires : goal.lowest_port-requires
lowest_port-requires c =
    row_inside c.args.graph.now.domains.items c.args.graph.now.edges.items c.deref.result.now c.loop-router.router (length c.deref-in-loop-router.result.now) c.requires.edges
    (c.deref.ensures.value ∙ row_is c.args.graph.now.domains.items c.args.graph.now.edges.items c.args.ways.now c.loop-router.router c.index-ways-router.result c.requires.ways (omega (arith, c.requires.ways.count)) c.index-ways-router.is)
    (ap length c.deref-in-loop-router.ensures.value ∙ c.in_ok-distances.ensures.count)

pub loop-router-preserved : goal.loop-router-preserved
loop-router-preserved c =
    row_turn c.args.graph.now.domains.items c.args.graph.now.edges.items c.args.goal c.loop-router.router c.loop-router.ports.items c.push.new.self.items c.in_ok-distances.distances.items c.deref-in-loop-router.result.now c.deref.result.now c.index.result.now c.lowest_port.result
    c.loop-router.invariant c.in_ok-distances.ensures c.deref-in-loop-router.ensures.value
    (c.deref.ensures.value ∙ row_is c.args.graph.now.domains.items c.args.graph.now.edges.items c.args.ways.now c.loop-router.router c.index-ways-router.result c.requires.ways (omega (arith, c.requires.ways.count)) c.index-ways-router.is)
    (omega (arith, c.requires.ways.count, c.in_ok-distances.ensures.count)) c.index.ensures c.lowest_port.ensures c.in_ok-push.ensures.items

pub returns : goal.returns
returns c =
    row_all c.args.graph.now.domains.items c.args.graph.now.edges.items c.args.goal c.loop-router.router c.loop-router.ports.items c.in_ok-distances.distances.items c.loop-router.invariant c.in_ok-distances.ensures (omega (arith, c.requires.ways.count))
