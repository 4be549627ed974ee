-- The port of a router towards an address, over the links that are up.
use Rattle.std.specs.Prelude.{ℕ, ◌+◌, ◌==◌, Bool, if◌then◌else◌, List, [], ◌∷◌, map, Option, Some, None}
use Rattle.aip_addr.specs.declared.ids.Address.{Address}
use Rattle.aip_topo.specs.declared.topology.Router.{Router}
use Rattle.aip_topo.specs.declared.topology.Topology.{Topology}
use Rattle.domain_routes.specs.declared.Edge.{Edge}
use Rattle.domain_routes.specs.declared.Goal.{Goal}
use Rattle.domain_routes.specs.declared.Goal.TheVariants as goal
use Rattle.domain_routes.specs.Walks.{port_towards}
use Rattle.aip_rules.specs.declared.Entry.{Entry}
use Rattle.aip_rules.specs.declared.Seat.{Seat}
use Rattle.aip_rules.specs.State.{is_up}
use Rattle.aip_addr.specs.Ids.{is_same_address}
use Rattle.aip_rules.specs.Nodes.{seats_of, links_of, seat_with_address, router_with_address, domain_with_ad}

-- the domain of each router
abbrev pub domains_of_routers : List Router → List ℕ
domains_of_routers routers = map (λ router. router.domain) routers

-- the links, numbered from n, each up or cut by the test
abbrev pub links_by : (ℕ → Bool) → ℕ → List Edge → List Edge
links_by up n [] = []
links_by up n (e ∷ es) = record e { up = up n } ∷ links_by up (n + 1) es

-- the links as they are after a trace
abbrev pub links_now : Topology → List Entry → List Edge
links_now topo tr = links_by (is_up tr) 0 (links_of topo)

-- the goal inside a router's own domain: the router with the address, or the router of the host with it
abbrev pub goal_inside : Option ℕ → Option Seat → Option Goal
goal_inside (Some router) seat = Some (goal.Router router)
goal_inside None (Some seat) = Some (goal.Router seat.router)
goal_inside None None = None

-- the goal of an address at a router of domain `own`: the domain with its AD, or inside of the own domain a router
abbrev pub goal_by_domain : Topology → ℕ → Address → Option ℕ → Option Goal
goal_by_domain topo own address None = None
goal_by_domain topo own address (Some d) =
    if d == own
    then goal_inside (router_with_address topo.routers address) (seat_with_address (seats_of topo) address)
    else Some (goal.Domain d)

-- the goal of an address at a router of domain `own`, if some domain, router or host has it
abbrev pub goal_of : Topology → ℕ → Address → Option Goal
goal_of topo own address = goal_by_domain topo own address (domain_with_ad topo.domains address.ad)

-- the port towards the goal over these links, if there is one
abbrev pub port_to_goal : Topology → List Edge → ℕ → Option Goal → Option ℕ
port_to_goal topo links router None = None
port_to_goal topo links router (Some goal) = port_towards (domains_of_routers topo.routers) links router goal

-- the port of a host that stands at this router
abbrev pub port_of_seat : ℕ → Option Seat → Option ℕ
port_of_seat router None = None
port_of_seat router (Some seat) = if seat.router == router then Some seat.port else None

-- the first port, or else the second
abbrev pub port_or : Option ℕ → Option ℕ → Option ℕ
port_or None second = second
port_or (Some port) second = Some port

-- the port of a router towards an address over these links: none for its own, the port of a host that stands at it, or
-- else the lowest port whose link is up and whose neighbour is one step nearer to the address's goal
abbrev pub port_over : Topology → List Edge → ℕ → Router → Address → Option ℕ
port_over topo links router self address =
    if is_same_address self.address address
    then None
    else port_or
    (port_of_seat router (seat_with_address (seats_of topo) address))
    (port_to_goal topo links router (goal_of topo self.domain address))

-- the port of a router towards an address, over the links as they are after a trace
abbrev pub port_to : Topology → List Entry → ℕ → Router → Address → Option ℕ
port_to topo tr router self address = port_over topo (links_now topo tr) router self address
