use Rattle.aip_core.proofs.Slots.{kept_set}
use Rattle.aip_core.proofs.routes.port_by.Goals as goal

pub returns-in_err-make_place-clause-kept : goal.returns-in_err-make_place-clause-kept
returns-in_err-make_place-clause-kept c = λ kind same h.
    c.make_place.ensures.kept c.args.graph.now.domains.items c.args.graph.now.edges.items kind h

pub returns-clause-kept : goal.returns-clause-kept
returns-clause-kept c = λ kind same h.
    kept_set c.args.graph.now.domains.items c.args.graph.now.edges.items kind c.make_place.new.slots.items c.args.number c.args.goal c.in_ok-routes.routes same c.in_ok-routes.ensures
    (c.make_place.ensures.kept c.args.graph.now.domains.items c.args.graph.now.edges.items kind h)
