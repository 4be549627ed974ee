-- The nodes of a sound topology: their names are short, and the numbers of their ports are low.
use Rattle.std.proofs.Common.{◌≡◌, ℕ, ◌+◌, ◌*◌, ◌≤◌, ◌==◌, ◌&&◌, Bool, cond, List, [], ◌∷◌, length, Option, Some, None, refl, sym, subst, arith, lit≤}
use Rattle.std.specs.Prelude.{IfSome, slice_get}
use Rattle.std.specs.List.{AllByRecursion}
use Rattle.std.proofs.Math.Nat.{min-le_left}
use Rattle.std.proofs.lemmas.Bool.{cond_both}
use Rattle.std.proofs.lemmas.List.{append-nil}
use Rattle.aip_addr.specs.declared.ids.Address.{Address}
use Rattle.domain_routes.specs.declared.Edge.{Edge}
use Rattle.domain_routes.specs.declared.Goal.{Goal}
use Rattle.domain_routes.specs.Walks.{distance, is_one_less, lower_of, lowest, nearer_ports, port_towards, ways}
use Rattle.aip_topo.specs.Sound.{IsPartOf, IsRouterOf, IsSound}
use Rattle.aip_topo.specs.declared.topology.Domain.{Domain}
use Rattle.aip_topo.specs.declared.topology.Part.{Part}
use Rattle.aip_topo.specs.declared.topology.Part.TheVariants.{Host, Link}
use Rattle.aip_topo.specs.declared.topology.Router.{Router}
use Rattle.aip_topo.specs.declared.topology.Topology.{Topology}
use Rattle.aip_rules.specs.declared.Entry.{Entry}
use Rattle.aip_rules.specs.declared.Neighbour.{Neighbour}
use Rattle.aip_rules.specs.declared.Neighbour.TheVariants as neighbour
use Rattle.aip_rules.specs.declared.Seat.{Seat}
use Rattle.aip_addr.specs.Ids.{is_same_address}
use Rattle.aip_rules.specs.Nodes.{links_after, links_of, name_at, name_in, neighbour_at, neighbours_after, neighbours_by, neighbours_of, port_if, ports_in, ports_of_part, seat_named, seat_with_address, seats_after, seats_of, target_at, target_towards}
use Rattle.aip_rules.specs.Routes.{domains_of_routers, goal_of, links_by, links_now, port_of_seat, port_or, port_to, port_to_goal}
use Rattle.aip_rules.specs.State.{is_up}
use Rattle.aip_rules.proofs.Sizes.{found_all, placed_all}
use Rattle.aip_core.proofs.RouterPorts.{short_row}
use Rattle.aip_core.proofs.Stands.{few_parts}
use Rattle.aip_replay.proofs.Feeds.{all_append}
use Rattle.aip_replay.proofs.Short.{IsLow, IsShortName, IsShortTarget}
use Rattle.aip_replay.proofs.Words.{name_word, word}

-- ## Ports

one_port : (named router : ℕ) → port_if named router ≤ 1
one_port named router = cond_both (named == router) 1 0 (λ n. n ≤ 1) (λ e. lit≤ tt) (λ e. lit≤ tt)

two_ports : (part : Part) (router : ℕ) → ports_of_part part router ≤ 2
two_ports (Host host) router = omega (arith, one_port host.router router)
two_ports (Link link) router = omega (arith, one_port link.a router, one_port link.b router)

-- lines take at most two ports each of a router
few_ports : (parts : List Part) (router : ℕ) → ports_in parts router ≤ 2 * length parts
few_ports [] router = lit≤ tt
few_ports (part ∷ parts) router = omega (arith, two_ports part router, few_ports parts router)

-- the number of a port behind at most 5,120 lines is low
low_port : (before : List Part) (router : ℕ) → length before ≤ 5120 → IsLow (ports_in before router)
low_port before router few = omega (arith, few_ports before router)

-- ## Hosts

-- a host has a short name, and its port a low number
pub record IsShortSeat (seat : Seat) : Type 0 where
  pub name : IsShortName seat.name
  pub port : IsLow seat.port

seats_short : (routers : List Router) (before parts : List Part) (n : ℕ) → AllByRecursion (IsPartOf n) parts → length before + length parts ≤ 5120
    → AllByRecursion IsShortSeat (seats_after routers before parts)
seats_short routers before [] n is few = tt
seats_short routers before (Host host ∷ parts) n is few = (
  record { name = name_word host.name is.0.0; port = low_port before host.router (omega arith) },
  seats_short routers (Host host ∷ before) parts n is.1 (omega arith),
)
seats_short routers before (Link link ∷ parts) n is few = seats_short routers (Link link ∷ before) parts n is.1 (omega arith)

-- so has each host of a sound topology
pub all_seats : (topo : Topology) → IsSound topo → AllByRecursion IsShortSeat (seats_of topo)
all_seats topo sound = seats_short topo.routers [] topo.parts (length topo.routers) sound.parts (omega (arith, few_parts topo sound))

-- and the one that is found by its name
pub seat_short : (topo : Topology) (name : List ℕ) → IsSound topo → IfSome (seat_named (seats_of topo) name) IsShortSeat
seat_short topo name sound = found_all IsShortSeat _ (seats_of topo) (all_seats topo sound)

-- ## Routers

-- a router has a short name
abbrev pub HasShortName : Router → Type 0
HasShortName router = IsShortName router.name

routers_named : (domains : List Domain) (routers : List Router) → AllByRecursion (IsRouterOf domains) routers → AllByRecursion HasShortName routers
routers_named domains [] is = tt
routers_named domains (router ∷ routers) is = (name_word router.name is.0.0, routers_named domains routers is.1)

pub all_routers : (topo : Topology) → IsSound topo → AllByRecursion HasShortName topo.routers
all_routers topo sound = routers_named topo.domains topo.routers sound.routers

name_of : (router : Option Router) → IfSome router HasShortName → IsShortName (name_in router)
name_of None is = word 16 [] refl (lit≤ tt)
name_of (Some router) is = is

-- the name of the router at a place is short, if there is one
pub name_short : (routers : List Router) (place : ℕ) → AllByRecursion HasShortName routers → IsShortName (name_at routers place)
name_short routers place all = name_of (slice_get routers place) (placed_all HasShortName routers place all)

-- ## Neighbours

-- a host's name is short, and the number of a port at a link's other end low
abbrev pub IsShortNeighbour : Neighbour → Type 0
IsShortNeighbour (neighbour.Host name) = IsShortName name
IsShortNeighbour (neighbour.Link other far trusted) = IsLow far

one_if : (b : Bool) (n : Neighbour) → IsShortNeighbour n → AllByRecursion IsShortNeighbour (cond b (n ∷ []) [])
one_if b n is = cond_both b (n ∷ []) [] (AllByRecursion IsShortNeighbour) (λ e. (is, tt)) (λ e. tt)

by_short : (before : List Part) (part : Part) (router n : ℕ) → IsPartOf n part → length before ≤ 5120 → AllByRecursion IsShortNeighbour (neighbours_by before part router)
by_short before (Host host) router n is few = one_if (host.router == router) (neighbour.Host host.name) (name_word host.name is.0)
by_short before (Link link) router n is few =
    all_append IsShortNeighbour _ _
    (one_if (link.a == router) (neighbour.Link link.b (ports_in before link.b) link.a_trusts) (low_port before link.b few))
    (one_if (link.b == router) (neighbour.Link link.a (ports_in before link.a) link.b_trusts) (low_port before link.a few))

neighbours_short : (before parts : List Part) (router n : ℕ) → AllByRecursion (IsPartOf n) parts → length before + length parts ≤ 5120
    → AllByRecursion IsShortNeighbour (neighbours_after before parts router)
neighbours_short before [] router n is few = tt
neighbours_short before (part ∷ parts) router n is few =
    all_append IsShortNeighbour _ _ (by_short before part router n is.0 (omega arith)) (neighbours_short (part ∷ before) parts router n is.1 (omega arith))

-- what lies at a port of a router of a sound topology
pub neighbour_short : (topo : Topology) (router port : ℕ) → IsSound topo → IfSome (neighbour_at topo router port) IsShortNeighbour
neighbour_short topo router port sound =
    placed_all IsShortNeighbour (neighbours_of topo router) port
    (neighbours_short [] topo.parts router (length topo.routers) sound.parts (omega (arith, few_parts topo sound)))

-- a router has few ports
pub few_at : (topo : Topology) (router : ℕ) → IsSound topo → IsLow (length (neighbours_of topo router))
few_at topo router sound =
    omega (arith, short_row [] [] topo.parts (neighbours_of topo router) router (append-nil (neighbours_of topo router)) (few_parts topo sound))

towards_short : (routers : List Router) (found : Option Neighbour) (router port : ℕ) → AllByRecursion HasShortName routers → IfSome found IsShortNeighbour → IsLow port
    → IsShortTarget (target_towards routers found router port)
towards_short routers (Some (neighbour.Host name)) router port all is low = is
towards_short routers (Some (neighbour.Link other far trusted)) router port all is low = (name_short routers other all, is)
towards_short routers None router port all is low = (name_short routers router all, low)

-- where a frame goes that a router puts on a port
pub target_short : (topo : Topology) (router port : ℕ) → IsSound topo → IsLow port → IsShortTarget (target_at topo router port)
target_short topo router port sound low =
    towards_short topo.routers (neighbour_at topo router port) router port (all_routers topo sound) (neighbour_short topo router port sound) low

-- ## Routes

-- the ports at the ends of a link have low numbers
pub record IsLowEdge (e : Edge) : Type 0 where
  pub a : IsLow e.a_port
  pub b : IsLow e.b_port

links_low : (before parts : List Part) → length before + length parts ≤ 5120 → AllByRecursion IsLowEdge (links_after before parts)
links_low before [] few = tt
links_low before (Host host ∷ parts) few = links_low (Host host ∷ before) parts (omega arith)
links_low before (Link link ∷ parts) few = (
  record { a = low_port before link.a (omega arith); b = low_port before link.b (omega arith) },
  links_low (Link link ∷ before) parts (omega arith),
)

by_low : (up : ℕ → Bool) (n : ℕ) (links : List Edge) → AllByRecursion IsLowEdge links → AllByRecursion IsLowEdge (links_by up n links)
by_low up n [] low = tt
by_low up n (e ∷ links) low = (record { a = low.0.a; b = low.0.b }, by_low up (n + 1) links low.1)

-- the ports of the ways out of a router have low numbers
ways_low : (links : List Edge) (router : ℕ) → AllByRecursion IsLowEdge links → AllByRecursion (λ w. IsLow w.port) (ways links router)
ways_low [] router low = tt
ways_low (e ∷ links) router low =
    all_append (λ w. IsLow w.port) _ _ (cond_both (e.up && (e.a == router)) (_ ∷ []) [] (AllByRecursion (λ w. IsLow w.port)) (λ there. (low.0.a, tt)) (λ none. tt))
    (all_append (λ w. IsLow w.port) _ _ (cond_both (e.up && (e.b == router)) (_ ∷ []) [] (AllByRecursion (λ w. IsLow w.port)) (λ there. (low.0.b, tt)) (λ none. tt)) (ways_low links router low.1))

-- and so have those that lead nearer
nearer_low : (at : ℕ → Option ℕ) (own : Option ℕ) (ws : _) (ports : List ℕ) → ports ≡ nearer_ports at own ws → AllByRecursion (λ w. IsLow w.port) ws → AllByRecursion IsLow ports
nearer_low at own [] ports is low = subst (AllByRecursion IsLow) (sym is) tt
nearer_low at own (w ∷ ws) ports is low =
    subst (AllByRecursion IsLow) (sym is)
    (cond_both (is_one_less (at w.neighbour) own) (w.port ∷ nearer_ports at own ws) (nearer_ports at own ws) (AllByRecursion IsLow)
    (λ e. (low.0, nearer_low at own ws (nearer_ports at own ws) refl low.1)) (λ e. nearer_low at own ws (nearer_ports at own ws) refl low.1))

lower_low : (p : ℕ) (q : Option ℕ) → IsLow p → IfSome (lower_of (Some p) q) IsLow
lower_low p None low = low
lower_low p (Some q) low = omega (arith, min-le_left p q)

lowest_low : (ports : List ℕ) → AllByRecursion IsLow ports → IfSome (lowest ports) IsLow
lowest_low [] low = tt
lowest_low (p ∷ ports) low = lower_low p (lowest ports) low.0

towards_low : (domains : List ℕ) (links : List Edge) (router : ℕ) (goal : Goal) → AllByRecursion IsLowEdge links → IfSome (port_towards domains links router goal) IsLow
unfolding port_towards
towards_low domains links router goal low =
    lowest_low _ (nearer_low (distance domains links goal) (distance domains links goal router) (ways links router) _ refl (ways_low links router low))

goal_low : (topo : Topology) (links : List Edge) (router : ℕ) (goal : Option Goal) → AllByRecursion IsLowEdge links → IfSome (port_to_goal topo links router goal) IsLow
goal_low topo links router None low = tt
goal_low topo links router (Some goal) low = towards_low (domains_of_routers topo.routers) links router goal low

of_seat_low : (router : ℕ) (seat : Option Seat) → IfSome seat IsShortSeat → IfSome (port_of_seat router seat) IsLow
of_seat_low router None is = tt
of_seat_low router (Some seat) is = cond_both (seat.router == router) (Some seat.port) None (λ o. IfSome o IsLow) (λ e. is.port) (λ e. tt)

or_low : (first second : Option ℕ) → IfSome first IsLow → IfSome second IsLow → IfSome (port_or first second) IsLow
or_low None second p q = q
or_low (Some port) second p q = p

-- the port of a router towards an address has a low number
pub port_low : (topo : Topology) (tr : List Entry) (router : ℕ) (self : Router) (address : Address) → IsSound topo → IfSome (port_to topo tr router self address) IsLow
port_low topo tr router self address sound =
    let links = by_low (is_up tr) 0 (links_of topo) (links_low [] topo.parts (omega (arith, few_parts topo sound))) in
    let seat = seat_with_address (seats_of topo) address in
    let goal = goal_of topo self.domain address in
    cond_both (is_same_address self.address address) None (port_or (port_of_seat router seat) (port_to_goal topo (links_now topo tr) router goal)) (λ o. IfSome o IsLow)
    (λ e. tt)
    (λ e. or_low (port_of_seat router seat) (port_to_goal topo (links_now topo tr) router goal) (of_seat_low router seat (found_all IsShortSeat _ (seats_of topo) (all_seats topo sound)))
    (goal_low topo (links_now topo tr) router goal links))
