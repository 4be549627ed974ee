-- Where the nodes of a topology stand: names, addresses, and what lies at each port. A router's ports are numbered from
-- 0 in the order of the host and link lines that name it, so a port's number is how many of the router's ports the
-- lines before it take.
use Rattle.std.specs.Prelude.{ℕ, ◌+◌, ◌==◌, Bool, true, false, if◌then◌else◌, List, [], ◌∷◌, ◌++◌, find, position, slice_get, Option, Some, None}
use Rattle.std.specs.Str.{bytes_eq}
use Rattle.aip_addr.specs.declared.ids.Id.{Id}
use Rattle.aip_addr.specs.Ids.{is_same_address, is_same_id}
use Rattle.aip_addr.specs.declared.ids.Address.{Address}
use Rattle.aip_event.specs.declared.input.Target.{Target}
use Rattle.aip_event.specs.declared.input.Target.TheVariants as target
use Rattle.aip_topo.specs.declared.topology.Domain.{Domain}
use Rattle.aip_topo.specs.declared.topology.Router.{Router}
use Rattle.aip_topo.specs.declared.topology.HostPart.{HostPart}
use Rattle.aip_topo.specs.declared.topology.Key.{Key}
use Rattle.aip_topo.specs.declared.topology.Key.TheVariants as key
use Rattle.aip_topo.specs.declared.topology.Part.{Part}
use Rattle.aip_topo.specs.declared.topology.Part.TheVariants.{Host, Link}
use Rattle.aip_topo.specs.declared.topology.Topology.{Topology}
use Rattle.domain_routes.specs.declared.Edge.{Edge}
use Rattle.lms_core.specs.Tree.{Key as PrivateKey}
use Rattle.aip_rules.specs.declared.Seat.{Seat}
use Rattle.aip_rules.specs.declared.Neighbour.{Neighbour}
use Rattle.aip_rules.specs.declared.Neighbour.TheVariants as neighbour

-- one port, where the line names this router
abbrev pub port_if : ℕ → ℕ → ℕ
port_if named router = if named == router then 1 else 0

-- how many ports of a router a host line or a link line takes
abbrev pub ports_of_part : Part → ℕ → ℕ
ports_of_part (Host host) router = port_if host.router router
ports_of_part (Link link) router = port_if link.a router + port_if link.b router

-- how many ports of a router these lines take
abbrev pub ports_in : List Part → ℕ → ℕ
ports_in [] router = 0
ports_in (part ∷ parts) router = ports_of_part part router + ports_in parts router

-- the domain's id of a router, if there is one
abbrev pub ad_of : Option Router → Id
ad_of None = record { bytes = [] }
ad_of (Some router) = router.address.ad

-- a host's address: the domain of its router, and its own id
abbrev pub host_address : List Router → HostPart → Address
host_address routers host = record { ad = ad_of (slice_get routers host.router); eid = host.eid }

-- the hosts of these lines with their ports, where the lines `before` stand before them
abbrev pub seats_after : List Router → List Part → List Part → List Seat
seats_after routers before [] = []
seats_after routers before (Host host ∷ parts) =
    record { name = host.name; router = host.router; port = ports_in before host.router; address = host_address routers host }
    ∷ seats_after routers (Host host ∷ before) parts
seats_after routers before (Link link ∷ parts) = seats_after routers (Link link ∷ before) parts

-- the hosts of a topology with their ports, in the order of their lines
abbrev pub seats_of : Topology → List Seat
seats_of topo = seats_after topo.routers [] topo.parts

-- the links of these lines with the ports at their two ends, where the lines `before` stand before them
abbrev pub links_after : List Part → List Part → List Edge
links_after before [] = []
links_after before (Host host ∷ parts) = links_after (Host host ∷ before) parts
links_after before (Link link ∷ parts) =
    record { a = link.a; a_port = ports_in before link.a; b = link.b; b_port = ports_in before link.b; up = true }
    ∷ links_after (Link link ∷ before) parts

-- the links of a topology with the ports at their two ends, numbered from 0 in the order of their lines
abbrev pub links_of : Topology → List Edge
links_of topo = links_after [] topo.parts

-- the host of this name
abbrev pub seat_named : List Seat → List ℕ → Option Seat
seat_named seats name = find (λ seat. bytes_eq seat.name name) seats

-- the host with this address
abbrev pub seat_with_address : List Seat → Address → Option Seat
seat_with_address seats address = find (λ seat. is_same_address seat.address address) seats

-- the host of this name on these lines
abbrev pub host_named : List Part → List ℕ → Option HostPart
host_named [] name = None
host_named (Host host ∷ parts) name = if bytes_eq host.name name then Some host else host_named parts name
host_named (Link link ∷ parts) name = host_named parts name

-- the private key that was made from a seed, if one was
abbrev pub made_key : Key → Option PrivateKey
made_key key.Given = None
made_key (key.Made tree) = Some tree

-- the private key of a host, if there is a host and it has one
abbrev pub key_of_host : Option HostPart → Option PrivateKey
key_of_host None = None
key_of_host (Some host) = made_key host.key

-- the private key of the host of this name
abbrev pub key_named : List Part → List ℕ → Option PrivateKey
key_named parts name = key_of_host (host_named parts name)

-- there is a host, and a guard stands before its sending
abbrev pub is_guarded_host : Option HostPart → Bool
is_guarded_host None = false
is_guarded_host (Some host) = host.guarded

-- a guard stands before the sending of the host of this name
abbrev pub is_guarded : List Part → List ℕ → Bool
is_guarded parts name = is_guarded_host (host_named parts name)

-- the place of the router of this name
abbrev pub place_of_router : List Router → List ℕ → Option ℕ
place_of_router routers name = position (λ router. bytes_eq router.name name) routers

-- the place of the router with this address
abbrev pub router_with_address : List Router → Address → Option ℕ
router_with_address routers address = position (λ router. is_same_address router.address address) routers

-- the place of the domain with this id
abbrev pub domain_with_ad : List Domain → Id → Option ℕ
domain_with_ad domains ad = position (λ domain. is_same_id domain.ad ad) domains

-- the address of a host, or else of a router
abbrev pub address_of_node : Option Seat → Option Router → Option Address
address_of_node (Some seat) router = Some seat.address
address_of_node None (Some router) = Some router.address
address_of_node None None = None

-- the address of the host or router of this name
abbrev pub address_named : Topology → List ℕ → Option Address
address_named topo name =
    address_of_node (seat_named (seats_of topo) name) (find (λ router. bytes_eq router.name name) topo.routers)

-- the name of a router, if there is one
abbrev pub name_in : Option Router → List ℕ
name_in None = []
name_in (Some router) = router.name

-- the name of the router at a place
abbrev pub name_at : List Router → ℕ → List ℕ
name_at routers router = name_in (slice_get routers router)

-- what lies at the next ports of a router that a host line or a link line takes, where the lines `before` stand before it
abbrev pub neighbours_by : List Part → Part → ℕ → List Neighbour
neighbours_by before (Host host) router = if host.router == router then neighbour.Host host.name ∷ [] else []
neighbours_by before (Link link) router =
    (if link.a == router then neighbour.Link link.b (ports_in before link.b) link.a_trusts ∷ [] else [])
    ++ (if link.b == router then neighbour.Link link.a (ports_in before link.a) link.b_trusts ∷ [] else [])

-- what lies at the ports of a router that these lines take, where the lines `before` stand before them
abbrev pub neighbours_after : List Part → List Part → ℕ → List Neighbour
neighbours_after before [] router = []
neighbours_after before (part ∷ parts) router =
    neighbours_by before part router ++ neighbours_after (part ∷ before) parts router

-- what lies at the ports of a router, in the order of the ports: a host, or a link's end with the port at its other end
-- and whether the end here is marked as trusted
abbrev pub neighbours_of : Topology → ℕ → List Neighbour
neighbours_of topo router = neighbours_after [] topo.parts router

-- what lies at a port of a router
abbrev pub neighbour_at : Topology → ℕ → ℕ → Option Neighbour
neighbour_at topo router port = slice_get (neighbours_of topo router) port

-- where a frame goes that is put towards what lies at a port; a port with nothing at it is its own
abbrev pub target_towards : List Router → Option Neighbour → ℕ → ℕ → Target
target_towards routers (Some (neighbour.Host name)) router port = target.Host name
target_towards routers (Some (neighbour.Link other far trusted)) router port = target.Port (name_at routers other) far
target_towards routers None router port = target.Port (name_at routers router) port

-- where a frame goes that a router puts on a port
abbrev pub target_at : Topology → ℕ → ℕ → Target
target_at topo router port = target_towards topo.routers (neighbour_at topo router port) router port
