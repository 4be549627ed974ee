-- What a core keeps of a name: the host or the router that the rules find by it.
use Rattle.std.proofs.Common.{◌≡◌, ℕ, zero, suc, ◌<◌, List, [], ◌∷◌, length, Option, Some, None, refl, sym, ◌∙◌, ap, subst, arith}
use Rattle.std.specs.Prelude.{slice_get, option_and_then, position}
use Rattle.std.specs.Str.{bytes_eq}
use Rattle.std.proofs.lemmas.Option.{slice_get_within}
use Rattle.aip_topo.specs.declared.topology.Router.{Router}
use Rattle.aip_topo.specs.declared.topology.Topology.{Topology}
use Rattle.aip_rules.specs.declared.Entry.{Entry}
use Rattle.aip_rules.specs.declared.Seat.{Seat}
use Rattle.aip_rules.specs.Nodes.{seats_of, seat_named, place_of_router}
use Rattle.aip_host.specs.HostState.{HostState}
use Rattle.aip_host.specs.StandsFor.{HostStandsFor}
use Rattle.aip_core.specs.RouterMachine.{RouterState}
use Rattle.aip_core.specs.Machine.{seat_place}
use Rattle.aip_core.specs.RouterStands.{RouterStands, RoutersStand}
use Rattle.aip_core.specs.StandsFor.{HostsStand}
use Rattle.aip_core.proofs.Keys.{found_at}

-- what stands within a list
pub there_is : {A : Type 0} (xs : List A) (k : ℕ) → k < length xs → (x : A) × (slice_get xs k ≡ Some x)
there_is [] k low = absurd (omega arith)
there_is (x ∷ xs) zero low = (x, refl)
there_is (x ∷ xs) (suc k) low = there_is xs k (omega arith)

-- lists of one length have something at the same places
pub beside : {A B : Type 0} (xs : List A) (ys : List B) (k : ℕ) (x : A) → length ys ≡ length xs → slice_get xs k ≡ Some x → (y : B) × (slice_get ys k ≡ Some y)
beside xs ys k x same at = let low : k < length xs = slice_get_within xs k x at in there_is ys k (omega arith)

-- a host of the rules and what is kept of it, or neither
abbrev pub HostBoth : Topology → List Entry → Option Seat → Option HostState → Type 0
HostBoth topo tr (Some seat) (Some host) = HostStandsFor topo tr seat host
HostBoth topo tr None None = Unit {0}
HostBoth topo tr (Some seat) None = ⊥
HostBoth topo tr None (Some host) = ⊥

host_at_place : (topo : Topology) (tr : List Entry) (hosts : List HostState) (place : ℕ) (seat : Option Seat) (host : Option HostState) → HostsStand topo tr hosts
    → slice_get (seats_of topo) place ≡ seat → slice_get hosts place ≡ host → HostBoth topo tr seat host
host_at_place topo tr hosts place (Some seat) (Some host) h s k = h.each place seat host s k
host_at_place topo tr hosts place None None h s k = tt
host_at_place topo tr hosts place (Some seat) None h s k =
    let other = beside (seats_of topo) hosts place seat h.count s in absurd (let no : Some other.0 ≡ None = sym other.1 ∙ k in cc)
host_at_place topo tr hosts place None (Some host) h s k =
    let other = beside hosts (seats_of topo) place host (sym h.count) k in absurd (let no : Some other.0 ≡ None = sym other.1 ∙ s in cc)

host_at_if : (topo : Topology) (tr : List Entry) (hosts : List HostState) (place : Option ℕ) → HostsStand topo tr hosts
    → HostBoth topo tr (option_and_then (λ n. slice_get (seats_of topo) n) place) (option_and_then (λ n. slice_get hosts n) place)
host_at_if topo tr hosts None h = tt
host_at_if topo tr hosts (Some place) h = host_at_place topo tr hosts place (slice_get (seats_of topo) place) (slice_get hosts place) h refl refl

-- what is kept of the host of a name stands for the host of the rules
pub host_found : (topo : Topology) (tr : List Entry) (hosts : List HostState) (name : List ℕ) → HostsStand topo tr hosts
    → HostBoth topo tr (seat_named (seats_of topo) name) (option_and_then (λ n. slice_get hosts n) (seat_place (seats_of topo) name))
host_found topo tr hosts name h =
    subst (λ (seat : Option Seat). HostBoth topo tr seat (option_and_then (λ n. slice_get hosts n) (seat_place (seats_of topo) name)))
    (found_at (λ (seat : Seat). bytes_eq seat.name name) (seats_of topo)) (host_at_if topo tr hosts (seat_place (seats_of topo) name) h)

-- a router of the rules and what is kept of it, or neither
abbrev pub RouterBoth : Topology → List Entry → Option Router → Option RouterState → Type 0
RouterBoth topo tr (Some self) (Some state) = RouterStands topo tr self state
RouterBoth topo tr None None = Unit {0}
RouterBoth topo tr (Some self) None = ⊥
RouterBoth topo tr None (Some state) = ⊥

router_at_place : (topo : Topology) (tr : List Entry) (routers : List RouterState) (place : ℕ) (self : Option Router) (state : Option RouterState) → RoutersStand topo tr routers
    → slice_get topo.routers place ≡ self → slice_get routers place ≡ state → RouterBoth topo tr self state
router_at_place topo tr routers place (Some self) (Some state) h s k = h.each place self state s k
router_at_place topo tr routers place None None h s k = tt
router_at_place topo tr routers place (Some self) None h s k =
    let other = beside topo.routers routers place self h.all s in absurd (let no : Some other.0 ≡ None = sym other.1 ∙ k in cc)
router_at_place topo tr routers place None (Some state) h s k =
    let other = beside routers topo.routers place state (sym h.all) k in absurd (let no : Some other.0 ≡ None = sym other.1 ∙ s in cc)

-- what is kept of the router at a place stands for the router of the rules
pub router_found : (topo : Topology) (tr : List Entry) (routers : List RouterState) (place : ℕ) → RoutersStand topo tr routers → RouterBoth topo tr (slice_get topo.routers place) (slice_get routers place)
router_found topo tr routers place h = router_at_place topo tr routers place (slice_get topo.routers place) (slice_get routers place) h refl refl
