-- Which node an input reaches, by its place and by its name.
use Rattle.std.proofs.Common.{◌≡◌, ℕ, Bool, true, false, cond, List, Option, Some, None, refl, sym, ◌∙◌, ap, subst}
use Rattle.std.specs.Prelude.{slice_get, option_and_then, position}
use Rattle.std.specs.Str.{bytes_eq}
use Rattle.std.proofs.lemmas.Slice.Eq.{bytes_eq-Decides}
use Rattle.aip_event.specs.declared.input.Input.{Input}
use Rattle.aip_event.specs.declared.input.Input.TheVariants.{Tick, Send, Raw, Deliver, Inject, Cut, Mend, Shutoff, Restart, Stop, Halt, Publish}
use Rattle.aip_event.specs.declared.input.Target.{Target}
use Rattle.aip_event.specs.declared.input.Target.TheVariants as target
use Rattle.aip_topo.specs.Sound.{IsSound}
use Rattle.aip_topo.specs.declared.topology.Router.{Router}
use Rattle.aip_topo.specs.declared.topology.Topology.{Topology}
use Rattle.aip_rules.specs.declared.Arming.{Arming}
use Rattle.aip_rules.specs.declared.Entry.{Entry}
use Rattle.aip_rules.specs.declared.Flight.{Flight}
use Rattle.aip_rules.specs.declared.Seat.{Seat}
use Rattle.aip_rules.specs.State.{flights_of, flight_at, is_restart_of, stop_after_input}
use Rattle.aip_rules.specs.Nodes.{seats_of, place_of_router}
use Rattle.aip_rules.specs.Standing.{lets_act, is_host_target, reaches_host}
use Rattle.aip_core.specs.Machine.{seat_place}
use Rattle.aip_core.specs.Moves.{host_at, host_named_by, host_touched, router_at, router_unless}
use Rattle.aip_core.proofs.Positions.{PassesAt, position_passes, none_passes}
use Rattle.aip_core.proofs.Names.{turned, two_hosts, two_routers, router_and_host}

-- the host at the place of a name has this name
pub name_at_place : (topo : Topology) (name : List ℕ) (p : ℕ) (seat : Seat) → seat_place (seats_of topo) name ≡ Some p → slice_get (seats_of topo) p ≡ Some seat → seat.name ≡ name
name_at_place topo name p seat at there =
    let found = position_passes (λ (s : Seat). bytes_eq s.name name) (seats_of topo) p at in
    let is : Some found.item ≡ Some seat = sym found.there ∙ there in
    let same : found.item ≡ seat = cc in
    sym (ap (λ (s : Seat). s.name) same) ∙ (bytes_eq-Decides found.item.name name).0 found.passes

-- the router at the place of a name has this name
pub router_at_name : (topo : Topology) (name : List ℕ) (p : ℕ) (self : Router) → place_of_router topo.routers name ≡ Some p → slice_get topo.routers p ≡ Some self → self.name ≡ name
router_at_name topo name p self at there =
    let found = position_passes (λ (r : Router). bytes_eq r.name name) topo.routers p at in
    let is : Some found.item ≡ Some self = sym found.there ∙ there in
    let same : found.item ≡ self = cc in
    sym (ap (λ (r : Router). r.name) same) ∙ (bytes_eq-Decides found.item.name name).0 found.passes

named_at : (topo : Topology) (named : Option (List ℕ)) (p : ℕ) (seat : Seat) → option_and_then (λ name. seat_place (seats_of topo) name) named ≡ Some p → slice_get (seats_of topo) p ≡ Some seat → named ≡ Some seat.name
named_at topo None p seat touched there = absurd cc
named_at topo (Some name) p seat touched there = ap (λ n. Some n) (sym (name_at_place topo name p seat touched there))

-- the host that an input reaches has the name that the input gives
pub touched_name : (topo : Topology) (flights : List Flight) (input : Input) (p : ℕ) (seat : Seat) → host_touched topo flights input ≡ Some p → slice_get (seats_of topo) p ≡ Some seat
    → host_named_by flights input ≡ Some seat.name
touched_name topo flights input p seat touched there = named_at topo (host_named_by flights input) p seat touched there

other_place : (topo : Topology) (name : List ℕ) (p : ℕ) (seat : Seat) (place : Option ℕ) → IsSound topo → seat_place (seats_of topo) name ≡ place → (place ≡ Some p → ⊥) → slice_get (seats_of topo) p ≡ Some seat
    → bytes_eq name seat.name ≡ false
other_place topo name p seat None sound at untouched there = turned seat.name name (none_passes (λ (s : Seat). bytes_eq s.name name) (seats_of topo) p seat at there)
other_place topo name p seat (Some q) sound at untouched there =
    let found = position_passes (λ (s : Seat). bytes_eq s.name name) (seats_of topo) q at in
    subst (λ n. bytes_eq n seat.name ≡ false) ((bytes_eq-Decides found.item.name name).0 found.passes)
    (two_hosts topo q p found.item seat sound (λ same. untouched (ap (λ n. Some n) same)) found.there there)

-- a host that an input doesn't reach has another name
pub untouched_name : (topo : Topology) (flights : List Flight) (input : Input) (p : ℕ) (seat : Seat) → IsSound topo → (host_touched topo flights input ≡ Some p → ⊥) → slice_get (seats_of topo) p ≡ Some seat
    → (name : List ℕ) → host_named_by flights input ≡ Some name → bytes_eq name seat.name ≡ false
untouched_name topo flights input p seat sound untouched there name is =
    other_place topo name p seat (seat_place (seats_of topo) name) sound refl
    (λ e. untouched (ap (λ (o : Option (List ℕ)). option_and_then (λ n. seat_place (seats_of topo) n) o) is ∙ e)) there

-- the same bytes are found to be the same
pub itself : (a b : List ℕ) → Some a ≡ Some b → bytes_eq a b ≡ true
itself a b e = let same : a ≡ b = cc in (bytes_eq-Decides a b).1 same

target_reached : (to : Target) (name : List ℕ) → host_at to ≡ Some name → is_host_target to name ≡ true
target_reached (target.Host host) name is = itself host name is
target_reached (target.Port router port) name is = absurd cc

flight_reached : (flight : Option Flight) (name : List ℕ) → option_and_then (λ f. host_at f.target) flight ≡ Some name → reaches_host flight name ≡ true
flight_reached None name is = absurd cc
flight_reached (Some flight) name is = target_reached flight.target name is

-- a delivery lets the host of its target act
pub delivery_acts : (tr : List Entry) (number : ℕ) (name : List ℕ) → host_named_by (flights_of tr) (Deliver number) ≡ Some name → lets_act tr (Deliver number) name ≡ true
delivery_acts tr number name is = flight_reached (flight_at tr number) name is

-- the name that an input gives is another
abbrev pub IsUnnamed : List Flight → Input → List ℕ → Type 0
IsUnnamed flights input name = (node : List ℕ) → host_named_by flights input ≡ Some node → bytes_eq node name ≡ false

target_passes : (to : Target) (name : List ℕ) → ((node : List ℕ) → host_at to ≡ Some node → bytes_eq node name ≡ false) → is_host_target to name ≡ false
target_passes (target.Host host) name other = other host refl
target_passes (target.Port router port) name other = refl

flight_passes : (flight : Option Flight) (name : List ℕ) → ((node : List ℕ) → option_and_then (λ f. host_at f.target) flight ≡ Some node → bytes_eq node name ≡ false) → reaches_host flight name ≡ false
flight_passes None name other = refl
flight_passes (Some flight) name other = target_passes flight.target name other

-- an input that names another host lets this one do nothing
pub lets_nothing : (tr : List Entry) (input : Input) (name : List ℕ) → IsUnnamed (flights_of tr) input name → lets_act tr input name ≡ false
lets_nothing tr (Send host node packet body) name other = other host refl
lets_nothing tr (Raw host bytes) name other = other host refl
lets_nothing tr (Shutoff host flight ttl) name other = other host refl
lets_nothing tr (Deliver flight) name other = flight_passes (flight_at tr flight) name other
lets_nothing tr (Tick ticks) name other = refl
lets_nothing tr (Inject to bytes) name other = refl
lets_nothing tr (Cut link) name other = refl
lets_nothing tr (Mend link) name other = refl
lets_nothing tr (Restart node) name other = refl
lets_nothing tr (Stop host call byte) name other = refl
lets_nothing tr (Halt host call byte) name other = refl
lets_nothing tr (Publish bytes) name other = refl
