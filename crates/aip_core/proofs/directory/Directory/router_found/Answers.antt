use Rattle.std.specs.Str.{bytes_eq}
use Rattle.aip_topo.specs.declared.topology.Router.{Router}
use Rattle.aip_core.proofs.Keys.{looked_up}
use Rattle.aip_core.proofs.directory.Directory.router_found.Goals as goal

pub returns : goal.returns
returns c =
    looked_up (λ (router : Router). bytes_eq router.name c.args.name.now) c.args.self.now.routers c.routers.result.now c.place_of_router.result c.router_at.result
    c.router_at.ensures c.routers.ensures.routers c.place_of_router.ensures
