-- What the routers keep stands for the trace after a step.
use Rattle.std.proofs.Common.{◌≡◌, ℕ, ◌⊎◌, inl, inr, Bool, true, false, cond, List, [], ◌∷◌, ◌++◌, length, Option, Some, None, Result, Ok, Err, refl, sym, ◌∙◌, ap, subst, eqb}
use Rattle.std.specs.Prelude.{IfOk, slice_get, option_and_then, position}
use Rattle.std.specs.Str.{bytes_eq}
use Rattle.std.proofs.lemmas.Slice.Eq.{bytes_eq-Decides}
use Rattle.aip_event.specs.declared.event.Event.{Event}
use Rattle.aip_event.specs.declared.event.Event.TheVariants as event
use Rattle.aip_event.specs.declared.input.Input.{Input}
use Rattle.aip_event.specs.declared.input.Input.TheVariants.{Tick, Send, Raw, Deliver, Inject, Cut, Mend, Shutoff, Restart, Stop, Halt, Publish}
use Rattle.aip_event.specs.declared.input.Target.{Target}
use Rattle.aip_event.specs.declared.input.Target.TheVariants as target
use Rattle.aip_topo.specs.Sound.{IsSound}
use Rattle.aip_topo.specs.declared.topology.Router.{Router}
use Rattle.aip_topo.specs.declared.topology.Topology.{Topology}
use Rattle.aip_rules.specs.declared.Entry.{Entry}
use Rattle.aip_rules.specs.declared.Flight.{Flight}
use Rattle.aip_rules.specs.declared.Reaction.{Reaction}
use Rattle.aip_rules.specs.declared.Seat.{Seat}
use Rattle.aip_rules.specs.declared.StepFault.{StepFault}
use Rattle.aip_rules.specs.State.{flights_of, flight_at, is_restart_of}
use Rattle.aip_rules.specs.Nodes.{seats_of, place_of_router}
use Rattle.aip_rules.specs.Reaction.{numbered}
use Rattle.aip_rules.specs.Router.{Arrival}
use Rattle.aip_rules.specs.Step.{after_step, outcome_of}
use Rattle.aip_host.specs.HostState.{HostState}
use Rattle.aip_core.specs.Machine.{basis_in, seat_place, router_reached, port_reached, target_reached, kept_delivered, kept_outcome}
use Rattle.aip_core.specs.Moves.{MovesAt, RouterMoves, after_flight, after_target, anew_at, anew_if, host_touched, router_at, router_touched, router_unless, routers_with}
use Rattle.aip_core.specs.RouterMachine.{RouterState, after_arrival, after_place, kept_at_place, kept_at_router, started_anew}
use Rattle.aip_core.specs.RouterStands.{RouterStands, RoutersStand, AreNoUses, is_use_of}
use Rattle.aip_core.proofs.Found.{beside}
use Rattle.aip_core.proofs.Stays.{is_here, moved_from, anew_here, anew_elsewhere, anew_count}
use Rattle.aip_core.proofs.Positions.{position_passes, none_passes}
use Rattle.aip_core.proofs.Names.{turned, two_routers, router_and_host}
use Rattle.aip_core.proofs.Naming.{node_of}
use Rattle.aip_core.proofs.Elsewhere.{names, AreElsewhere, numbered_elsewhere, outcome_else}
use Rattle.aip_core.proofs.Touched.{name_at_place, router_at_name}
use Rattle.aip_core.proofs.Outcomes.{kept_of}
use Rattle.aip_core.proofs.RouterStays.{stays}
use Rattle.aip_core.proofs.RouterUses.{others_stay, restarts}

-- ---- events that name no router use nothing there

unused : (event : Event) (name : List ℕ) → names (node_of event) name ≡ false → is_use_of event name ≡ false
unused (event.Proved router source port) name is = is
unused (event.Wild router ad port) name is = is
unused (event.Forward router port out cause) name is = is
unused event name is = refl

all_unused : (events : List Event) (name : List ℕ) → AreElsewhere name events → AreNoUses name events
all_unused [] name are = tt
all_unused (event ∷ events) name are = (unused event name are.0, all_unused events name are.1)

-- the events of a step that doesn't reach a router use nothing at it
events_unused : (topo : Topology) (tr : List Entry) (input : Input) (reaction : Reaction) (number p : ℕ) (self : Router) → IsSound topo → outcome_of topo tr input ≡ Ok reaction
    → slice_get topo.routers p ≡ Some self → (router_touched topo (flights_of tr) input ≡ Some p → ⊥) → AreNoUses self.name (numbered number reaction)
events_unused topo tr input reaction number p self sound given there untouched =
    let are : AreElsewhere self.name reaction.events =
    subst (λ (o : Result Reaction StepFault). IfOk o (λ r. AreElsewhere self.name r.events)) given
    (outcome_else topo tr self.name input
    (λ q seat at seat_there. turned self.name seat.name (router_and_host topo p q self seat sound there seat_there))
    (λ q other at other_there. two_routers topo q p other self sound (λ same. untouched (at ∙ ap (λ n. Some n) same)) other_there there)) in
    all_unused (numbered number reaction) self.name (numbered_elsewhere self.name reaction.events number reaction.put are)

-- ---- the router that a delivery reaches

-- a flight crosses the router: it reacts and keeps what its machine says
crossed_port : (topo : Topology) (tr : List Entry) (hosts : List HostState) (routers : List RouterState) (number n p : ℕ) (self : Router) (old new : RouterState) (reaction : Reaction)
    (flight : Flight) (port : ℕ) (place : Option ℕ) → flight_at tr number ≡ Some flight
    → port_reached (kept_of topo tr hosts routers) place port flight.bytes ≡ reaction → place ≡ Some p
    → slice_get topo.routers p ≡ Some self → slice_get routers p ≡ Some old
    → new ≡ after_place (basis_in (kept_of topo tr hosts routers) old) p (slice_get topo.routers p) port flight.bytes → RouterStands topo tr self old
    → RouterStands topo (after_step tr (Deliver number) (numbered n reaction)) self new
crossed_port topo tr hosts routers number n p self old new reaction flight port place put given named there at moves stands =
    let at_port : Arrival = record { place = p; self = self; port = port } in
    let kept = kept_of topo tr hosts routers in
    let here : port_reached kept place port flight.bytes ≡ kept_at_router (basis_in kept old) at_port flight.bytes =
    ap (λ (o : Option ℕ). port_reached kept o port flight.bytes) named
    ∙ ap (λ (o : Option RouterState). router_reached kept p port flight.bytes o) at
    ∙ ap (λ (o : Option Router). kept_at_place (basis_in kept old) p o port flight.bytes) there in
    let after : new ≡ after_arrival (basis_in kept old) at_port flight.bytes =
    moves ∙ ap (λ (o : Option Router). after_place (basis_in kept old) p o port flight.bytes) there in
    subst (λ (s : RouterState). RouterStands topo (after_step tr (Deliver number) (numbered n reaction)) self s) (sym after)
    (subst (λ (r : Reaction). RouterStands topo (after_step tr (Deliver number) (numbered n r)) self (after_arrival (basis_in kept old) at_port flight.bytes)) (sym here ∙ given)
    (stays topo tr at_port (basis_in kept old) n number flight flight.bytes stands refl refl put refl))

crossed_target : (topo : Topology) (tr : List Entry) (hosts : List HostState) (routers : List RouterState) (number n p : ℕ) (self : Router) (old new : RouterState) (reaction : Reaction)
    (flight : Flight) (to : Target) → flight_at tr number ≡ Some flight
    → target_reached (kept_of topo tr hosts routers) (Deliver number) to flight.bytes ≡ Ok reaction
    → option_and_then (λ name. place_of_router topo.routers name) (router_at to) ≡ Some p
    → slice_get topo.routers p ≡ Some self → slice_get routers p ≡ Some old
    → new ≡ after_target (kept_of topo tr hosts routers) p old to flight.bytes → RouterStands topo tr self old
    → RouterStands topo (after_step tr (Deliver number) (numbered n reaction)) self new
crossed_target topo tr hosts routers number n p self old new reaction flight (target.Host name) put given named there at moves stands = absurd cc
crossed_target topo tr hosts routers number n p self old new reaction flight (target.Port name port) put given named there at moves stands =
    let is : port_reached (kept_of topo tr hosts routers) (place_of_router topo.routers name) port flight.bytes ≡ reaction = cc in
    crossed_port topo tr hosts routers number n p self old new reaction flight port (place_of_router topo.routers name) put is named there at moves stands

crossed : (topo : Topology) (tr : List Entry) (hosts : List HostState) (routers : List RouterState) (number n p : ℕ) (self : Router) (old new : RouterState) (reaction : Reaction)
    (flight : Option Flight) → flight_at tr number ≡ flight
    → kept_delivered (kept_of topo tr hosts routers) (Deliver number) flight ≡ Ok reaction
    → option_and_then (λ name. place_of_router topo.routers name) (option_and_then (λ f. router_at f.target) flight) ≡ Some p
    → slice_get topo.routers p ≡ Some self → slice_get routers p ≡ Some old
    → new ≡ after_flight (kept_of topo tr hosts routers) p old flight → RouterStands topo tr self old
    → RouterStands topo (after_step tr (Deliver number) (numbered n reaction)) self new
crossed topo tr hosts routers number n p self old new reaction None put given named there at moves stands = absurd cc
crossed topo tr hosts routers number n p self old new reaction (Some flight) put given named there at moves stands =
    crossed_target topo tr hosts routers number n p self old new reaction flight flight.target put given named there at moves stands

delivered_stands : (topo : Topology) (tr : List Entry) (hosts : List HostState) (routers : List RouterState) (number n p : ℕ) (self : Router) (old new : RouterState) (reaction : Reaction) (place : Option ℕ)
    → kept_outcome (kept_of topo tr hosts routers) (Deliver number) ≡ Ok reaction → router_touched topo (flights_of tr) (Deliver number) ≡ Some p
    → slice_get topo.routers p ≡ Some self → slice_get routers p ≡ Some old → place ≡ Some p
    → RouterMoves (kept_of topo tr hosts routers) place (Deliver number) old new → RouterStands topo tr self old
    → RouterStands topo (after_step tr (Deliver number) (numbered n reaction)) self new
delivered_stands topo tr hosts routers number n p self old new reaction place given touched there at is moves stands =
    crossed topo tr hosts routers number n p self old new reaction (flight_at tr number) refl given touched there at
    (subst (λ (o : Option ℕ). RouterMoves (kept_of topo tr hosts routers) o (Deliver number) old new) is moves) stands

-- the router that an input reaches stands for the longer trace as it moved
touched_stands : (topo : Topology) (tr : List Entry) (hosts : List HostState) (routers : List RouterState) (input : Input) (n p : ℕ) (self : Router) (old new : RouterState) (reaction : Reaction) (place : Option ℕ)
    → kept_outcome (kept_of topo tr hosts routers) input ≡ Ok reaction → router_touched topo (flights_of tr) input ≡ Some p
    → slice_get topo.routers p ≡ Some self → slice_get routers p ≡ Some old → place ≡ Some p
    → RouterMoves (kept_of topo tr hosts routers) place input old new → RouterStands topo tr self old
    → RouterStands topo (after_step tr input (numbered n reaction)) self new
touched_stands topo tr hosts routers (Deliver number) n p self old new reaction place given touched there at is moves stands =
    delivered_stands topo tr hosts routers number n p self old new reaction place given touched there at is moves stands
touched_stands topo tr hosts routers input n p self old new reaction place given touched there at is moves stands = absurd cc

-- ---- restarts

-- a router of another name than a restart's stays
not_started : (topo : Topology) (tr : List Entry) (node : List ℕ) (reaction : Reaction) (n p : ℕ) (self : Router) (state : RouterState) → IsSound topo → outcome_of topo tr (Restart node) ≡ Ok reaction
    → slice_get topo.routers p ≡ Some self → bytes_eq node self.name ≡ false → RouterStands topo tr self state → RouterStands topo (after_step tr (Restart node) (numbered n reaction)) self state
not_started topo tr node reaction n p self state sound given there other stands =
    others_stay topo self state (Restart node) (numbered n reaction) tr other
    (events_unused topo tr (Restart node) reaction n p self sound given there (λ e. absurd (let no : None ≡ Some p = e in cc))) stands

is_started : (topo : Topology) (tr : List Entry) (node : List ℕ) (reaction : Reaction) (n p : ℕ) (self : Router) (state : RouterState) → IsSound topo → outcome_of topo tr (Restart node) ≡ Ok reaction
    → slice_get topo.routers p ≡ Some self → self.name ≡ node → RouterStands topo tr self state → RouterStands topo (after_step tr (Restart node) (numbered n reaction)) self (started_anew state)
is_started topo tr node reaction n p self state sound given there named stands =
    restarts topo self state (Restart node) (numbered n reaction) tr ((bytes_eq-Decides node self.name).1 (sym named))
    (events_unused topo tr (Restart node) reaction n p self sound given there (λ e. absurd (let no : None ≡ Some p = e in cc))) stands

-- what stands at a place of a list once one of them started anew
anew_stands : (topo : Topology) (tr : List Entry) (states : List RouterState) (node : List ℕ) (reaction : Reaction) (n p q : ℕ) (self : Router) (new : RouterState) (b : (q ≡ p) ⊎ (q ≡ p → ⊥))
    → IsSound topo → outcome_of topo tr (Restart node) ≡ Ok reaction → RoutersStand topo tr states → place_of_router topo.routers node ≡ Some q
    → slice_get topo.routers p ≡ Some self → slice_get (anew_at states q) p ≡ Some new → RouterStands topo (after_step tr (Restart node) (numbered n reaction)) self new
anew_stands topo tr states node reaction n p q self new (inl same) sound given stand named there at =
    let old = beside topo.routers states p self stand.all there in
    let now : Some (started_anew old.0) ≡ Some new =
    sym (anew_here states p old.0 old.1) ∙ ap (λ k. slice_get (anew_at states k) p) (sym same) ∙ at in
    let is : started_anew old.0 ≡ new = cc in
    subst (λ (s : RouterState). RouterStands topo (after_step tr (Restart node) (numbered n reaction)) self s) is
    (is_started topo tr node reaction n p self old.0 sound given there (router_at_name topo node p self (named ∙ ap (λ k. Some k) same) there) (stand.each p self old.0 there old.1))
anew_stands topo tr states node reaction n p q self new (inr apart) sound given stand named there at =
    let other = position_passes (λ (r : Router). bytes_eq r.name node) topo.routers q named in
    let differs : bytes_eq node self.name ≡ false =
    subst (λ m. bytes_eq m self.name ≡ false) ((bytes_eq-Decides other.item.name node).0 other.passes) (two_routers topo q p other.item self sound apart other.there there) in
    not_started topo tr node reaction n p self new sound given there differs (stand.each p self new there (sym (anew_elsewhere states q p apart) ∙ at))

same_place : (q p : ℕ) → (q ≡ p) ⊎ (q ≡ p → ⊥)
same_place q p = from (is_here (Some q) p) where
  from : (Some q ≡ Some p) ⊎ (Some q ≡ Some p → ⊥) → (q ≡ p) ⊎ (q ≡ p → ⊥)
  from (inl e) = inl (let is : q ≡ p = cc in is)
  from (inr other) = inr (λ e. other (ap (λ k. Some k) e))

router_restarted : (topo : Topology) (tr : List Entry) (states : List RouterState) (node : List ℕ) (reaction : Reaction) (n p : ℕ) (self : Router) (new : RouterState) (place : Option ℕ)
    → IsSound topo → outcome_of topo tr (Restart node) ≡ Ok reaction → RoutersStand topo tr states → place_of_router topo.routers node ≡ place
    → slice_get topo.routers p ≡ Some self → slice_get (anew_if states place) p ≡ Some new → RouterStands topo (after_step tr (Restart node) (numbered n reaction)) self new
router_restarted topo tr states node reaction n p self new None sound given stand named there at =
    not_started topo tr node reaction n p self new sound given there
    (turned self.name node (none_passes (λ (r : Router). bytes_eq r.name node) topo.routers p self named there)) (stand.each p self new there at)
router_restarted topo tr states node reaction n p self new (Some q) sound given stand named there at =
    anew_stands topo tr states node reaction n p q self new (same_place q p) sound given stand named there at

node_restarted : (topo : Topology) (tr : List Entry) (states : List RouterState) (node : List ℕ) (reaction : Reaction) (n p : ℕ) (self : Router) (new : RouterState) (host : Option ℕ)
    → IsSound topo → outcome_of topo tr (Restart node) ≡ Ok reaction → RoutersStand topo tr states → seat_place (seats_of topo) node ≡ host
    → slice_get topo.routers p ≡ Some self → slice_get (anew_if states (router_unless host (place_of_router topo.routers node))) p ≡ Some new
    → RouterStands topo (after_step tr (Restart node) (numbered n reaction)) self new
node_restarted topo tr states node reaction n p self new None sound given stand seated there at =
    router_restarted topo tr states node reaction n p self new (place_of_router topo.routers node) sound given stand refl there at
node_restarted topo tr states node reaction n p self new (Some q) sound given stand seated there at =
    let host = position_passes (λ (s : Seat). bytes_eq s.name node) (seats_of topo) q seated in
    let differs : bytes_eq node self.name ≡ false =
    subst (λ m. bytes_eq m self.name ≡ false) ((bytes_eq-Decides host.item.name node).0 host.passes)
    (turned self.name host.item.name (router_and_host topo p q self host.item sound there host.there)) in
    not_started topo tr node reaction n p self new sound given there differs (stand.each p self new there at)

anew_if_count : (states : List RouterState) (place : Option ℕ) → length (anew_if states place) ≡ length states
anew_if_count states None = refl
anew_if_count states (Some q) = anew_count states q

-- ---- the whole

-- the routers as they moved, before one is started anew: where an input reaches none, they are as before
moved_stand : (topo : Topology) (tr : List Entry) (input : Input) (kept : _) (old new : List RouterState) → router_touched topo (flights_of tr) input ≡ None
    → MovesAt RouterState (router_touched topo (flights_of tr) input) kept old new → RoutersStand topo tr old → RoutersStand topo tr new
moved_stand topo tr input kept old new none moved stand = record {
  all = moved.count ∙ stand.all;
  each = λ p self state there at.
      let before = moved_from RouterState (router_touched topo (flights_of tr) input) kept old new p state moved at in
      let same : before.0 ≡ state = before.2 (λ e. absurd (let no : None ≡ Some p = sym none ∙ e in cc)) in
      subst (λ (s : RouterState). RouterStands topo tr self s) same (stand.each p self before.0 there before.1);
}

-- after an input that starts no router anew
went_on : (topo : Topology) (tr : List Entry) (hosts : List HostState) (old new : List RouterState) (input : Input) (reaction : Reaction) (n : ℕ) → IsSound topo
    → kept_outcome (kept_of topo tr hosts old) input ≡ Ok reaction → outcome_of topo tr input ≡ Ok reaction → ((name : List ℕ) → is_restart_of input name ≡ false) → RoutersStand topo tr old
    → MovesAt RouterState (router_touched topo (flights_of tr) input) (RouterMoves (kept_of topo tr hosts old) (router_touched topo (flights_of tr) input) input) old new
    → RoutersStand topo (after_step tr input (numbered n reaction)) new
went_on topo tr hosts old new input reaction n sound kept_given given on stand moved = record {
  all = moved.count ∙ stand.all;
  each = λ p self state there at. at_place p self state there at (is_here (router_touched topo (flights_of tr) input) p);
} where
  at_place : (p : ℕ) (self : Router) (state : RouterState) → slice_get topo.routers p ≡ Some self → slice_get new p ≡ Some state
      → (router_touched topo (flights_of tr) input ≡ Some p) ⊎ (router_touched topo (flights_of tr) input ≡ Some p → ⊥) → RouterStands topo (after_step tr input (numbered n reaction)) self state
  at_place p self state there at (inl touched) =
      let before = moved_from RouterState (router_touched topo (flights_of tr) input) (RouterMoves (kept_of topo tr hosts old) (router_touched topo (flights_of tr) input) input) old new p state moved at in
      touched_stands topo tr hosts old input n p self before.0 state reaction (router_touched topo (flights_of tr) input) kept_given touched there before.1 touched
      (moved.here p before.0 state touched before.1 at) (stand.each p self before.0 there before.1)
  at_place p self state there at (inr untouched) =
      let before = moved_from RouterState (router_touched topo (flights_of tr) input) (RouterMoves (kept_of topo tr hosts old) (router_touched topo (flights_of tr) input) input) old new p state moved at in
      others_stay topo self state input (numbered n reaction) tr (on self.name) (events_unused topo tr input reaction n p self sound given there untouched)
      (subst (λ (s : RouterState). RouterStands topo tr self s) (before.2 untouched) (stand.each p self before.0 there before.1))

-- what the routers keep stands for the longer trace
pub routers_after : (topo : Topology) (tr : List Entry) (hosts : List HostState) (old new : List RouterState) (input : Input) (reaction : Reaction) (n : ℕ) → IsSound topo
    → kept_outcome (kept_of topo tr hosts old) input ≡ Ok reaction → outcome_of topo tr input ≡ Ok reaction → RoutersStand topo tr old
    → MovesAt RouterState (router_touched topo (flights_of tr) input) (RouterMoves (kept_of topo tr hosts old) (router_touched topo (flights_of tr) input) input) old new
    → RoutersStand topo (after_step tr input (numbered n reaction)) (routers_with topo input new)
routers_after topo tr hosts old new (Restart node) reaction n sound kept_given given stand moved =
    let same = moved_stand topo tr (Restart node) (RouterMoves (kept_of topo tr hosts old) None (Restart node)) old new refl moved stand in
    let place = router_unless (seat_place (seats_of topo) node) (place_of_router topo.routers node) in
    record {
      all = anew_if_count new place ∙ same.all;
      each = λ p self state there at. node_restarted topo tr new node reaction n p self state (seat_place (seats_of topo) node) sound given same refl there at;
    }
routers_after topo tr hosts old new input reaction n sound kept_given given stand moved = went_on topo tr hosts old new input reaction n sound kept_given given (λ name. refl) stand moved
