use Rattle.domain_routes.proofs.PortLemmas.{routes_of}
use Rattle.domain_routes.proofs.Routes.compute.Goals as goal

pub returns : goal.returns
returns c =
    routes_of c.args.graph.now.domains.items c.args.graph.now.edges.items (record { by_domain = c.in_ok-by_domain.by_domain; by_router = c.in_ok-by_router.by_router })
    c.in_ok-by_domain.ensures c.in_ok-by_router.ensures
