-- The links as they are, and what lies at each port.
use Rattle.std.specs.Prelude.{◌≡◌, ℕ, ◌<◌, ◌^◌, List, length, All, Vec, ⊤}
use Rattle.std.specs.declared.alloc.Global.{Global}
use Rattle.domain_routes.specs.declared.Edge.{Edge}
use Rattle.domain_routes.specs.Walks.{IsSoundGraph}
use Rattle.aip_topo.specs.declared.topology.Topology.{Topology}
use Rattle.aip_rules.specs.declared.Neighbour.{Neighbour}
use Rattle.aip_rules.specs.declared.Neighbour.TheVariants.{Host, Link}
use Rattle.aip_rules.specs.Nodes.{neighbours_of}
use Rattle.aip_rules.specs.Routes.{domains_of_routers}
use Rattle.aip_core.specs.Places.{row_of}
use Rattle.aip_core.specs.Routes.{AreRoutesOver}
use Rattle.aip_core.specs.declared.wiring.Wiring.TheInside.{Inside}

-- the domain of each router, the links as they are, and for each router what lies at its ports
pub record Wired : Type 0 where
  pub domains : List ℕ
  pub links : List Edge
  pub rows : List (Vec Neighbour Global)

-- the links join routers, no router has more ports than 16 bits number, and the routes that are kept are those over the
-- links
pub record HoldsRoutes (wiring : Inside) : Type 0 where
  pub sound : IsSoundGraph wiring.graph.domains.items wiring.graph.edges.items
  pub short : (router : ℕ) → length (row_of wiring.rows.items router) < 2 ^ 16
  pub routes : AreRoutesOver wiring.graph.domains.items wiring.graph.edges.items wiring.routes

-- what lies at a port leads to one of the first n routers, if it is a link's end
abbrev pub LeadsBelow : ℕ → Neighbour → Type 0
LeadsBelow n (Host name) = ⊤
LeadsBelow n (Link router port trusted) = router < n

-- the wiring is that of a topology
pub record IsWiringOf (topo : Topology) (wired : Wired) : Type 0 where
  pub domains : wired.domains ≡ domains_of_routers topo.routers
  pub rows : (router : ℕ) → row_of wired.rows router ≡ neighbours_of topo router
  pub leads : (router : ℕ) → All (LeadsBelow (length topo.routers)) (row_of wired.rows router)
