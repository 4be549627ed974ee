-- The hosts stand for the trace after a step.
use Rattle.std.proofs.Common.{◌≡◌, ℕ, ◌==◌, ◌||◌, ◌⊎◌, inl, inr, Bool, true, false, cond, List, [], ◌∷◌, ◌++◌, length, Option, Some, None, Result, Ok, Err, refl, sym, ◌∙◌, ap, subst}
use Rattle.std.specs.Prelude.{IfOk, nat_le, nat_lt, slice_get, option_and_then, IsSome}
use Rattle.std.specs.Str.{bytes_eq}
use Rattle.std.specs.List.{AllByRecursion}
use Rattle.std.proofs.lemmas.Slice.Eq.{bytes_eq-Decides}
use Rattle.aip_event.specs.declared.event.Event.{Event}
use Rattle.aip_event.specs.declared.event.Event.TheVariants as event
use Rattle.aip_event.specs.declared.input.Input.{Input}
use Rattle.aip_event.specs.declared.input.Input.TheVariants.{Tick, Send, Raw, Deliver, Inject, Cut, Mend, Shutoff, Restart, Stop, Halt, Publish}
use Rattle.aip_topo.specs.Sound.{IsSound}
use Rattle.aip_topo.specs.declared.topology.Router.{Router}
use Rattle.aip_topo.specs.declared.topology.Topology.{Topology}
use Rattle.aip_rules.specs.declared.Entry.{Entry}
use Rattle.aip_rules.specs.declared.Reaction.{Reaction}
use Rattle.aip_rules.specs.declared.Seat.{Seat}
use Rattle.aip_rules.specs.declared.StepFault.{StepFault}
use Rattle.aip_rules.specs.declared.StepFault.TheVariants as fault
use Rattle.aip_rules.specs.State.{now_of, flights_of}
use Rattle.aip_rules.specs.Nodes.{seats_of, seat_named, place_of_router, key_named}
use Rattle.aip_rules.specs.Reaction.{nothing, numbered}
use Rattle.aip_rules.specs.Standing.{standing, lets_act}
use Rattle.aip_rules.specs.Host.{back_up}
use Rattle.aip_rules.specs.Step.{has_key, refused_if, after_step, armed_with_stop, armed_with_halt, restarted, outcome_of}
use Rattle.aip_host.specs.Elsewhere.{concerns, resets, AreElsewhere as ConcernNone}
use Rattle.aip_host.specs.HostState.{HostState}
use Rattle.aip_host.specs.StandsFor.{DisksServe, HostStandsFor}
use Rattle.aip_host.proofs.Corresponds.{follows}
use Rattle.aip_host.proofs.Inputs.{stops, halts, restarts, others_stay}
use Rattle.aip_core.specs.Machine.{seat_place}
use Rattle.aip_core.specs.Moves.{MovesAt, GoesOn, IsStopped, IsHalted, IsAnew, HostMoves, host_named_by, host_touched, router_touched}
use Rattle.aip_core.specs.StandsFor.{HostsStand}
use Rattle.aip_core.proofs.Keys.{found_at}
use Rattle.aip_core.proofs.Positions.{PassesAt, none_passes, position_passes}
use Rattle.aip_core.proofs.Stays.{is_here, moved_from}
use Rattle.aip_core.proofs.Names.{two_hosts, router_and_host}
use Rattle.aip_core.proofs.Naming.{node_of}
use Rattle.aip_core.proofs.Elsewhere.{names, AreElsewhere, numbered_elsewhere, outcome_else}
use Rattle.aip_core.proofs.Touched.{IsUnnamed, touched_name, untouched_name, delivery_acts, lets_nothing}

-- ---- events that name no host concern none

unconcerned : (event : Event) (name : List ℕ) → names (node_of event) name ≡ false → concerns event name ≡ false
unconcerned (event.Signed host leaf) name is = is
unconcerned (event.Stopped host leaf call byte) name is = is
unconcerned (event.Obeyed host sender until) name is = is
unconcerned (event.Halted host sender until call byte) name is = is
unconcerned event name is = refl

all_unconcerned : (events : List Event) (name : List ℕ) → AreElsewhere name events → ConcernNone name events
all_unconcerned [] name are = tt
all_unconcerned (event ∷ events) name are = (unconcerned event name are.0, all_unconcerned events name are.1)

-- an input that names another host neither stops nor halts this one, and starts it not anew
no_reset : (tr : List Entry) (input : Input) (name : List ℕ) → IsUnnamed (flights_of tr) input name → resets input name ≡ false
no_reset tr (Restart node) name other = other node refl
no_reset tr (Stop host call byte) name other = other host refl
no_reset tr (Halt host call byte) name other = other host refl
no_reset tr input name other = refl

-- the events of a step that doesn't reach a host name it nowhere
events_else : (topo : Topology) (tr : List Entry) (input : Input) (reaction : Reaction) (p : ℕ) (seat : Seat) → IsSound topo → outcome_of topo tr input ≡ Ok reaction
    → slice_get (seats_of topo) p ≡ Some seat → (host_touched topo (flights_of tr) input ≡ Some p → ⊥) → AreElsewhere seat.name reaction.events
events_else topo tr input reaction p seat sound given there untouched =
    subst (λ (o : Result Reaction StepFault). IfOk o (λ r. AreElsewhere seat.name r.events)) given
    (outcome_else topo tr seat.name input
    (λ q other at other_there. two_hosts topo q p other seat sound (λ same. untouched (at ∙ ap (λ n. Some n) same)) other_there there)
    (λ q self at self_there. router_and_host topo q p self seat sound self_there there))

-- a host that a step doesn't reach stands for the longer trace as it was
untouched_stands : (topo : Topology) (tr : List Entry) (input : Input) (reaction : Reaction) (number p : ℕ) (seat : Seat) (host : HostState) → IsSound topo → outcome_of topo tr input ≡ Ok reaction
    → slice_get (seats_of topo) p ≡ Some seat → (host_touched topo (flights_of tr) input ≡ Some p → ⊥) → HostStandsFor topo tr seat host
    → HostStandsFor topo (after_step tr input (numbered number reaction)) seat host
untouched_stands topo tr input reaction number p seat host sound given there untouched stands =
    let unnamed = untouched_name topo (flights_of tr) input p seat sound untouched there in
    others_stay topo tr seat host input (numbered number reaction) stands
    (no_reset tr input seat.name unnamed)
    (all_unconcerned (numbered number reaction) seat.name (numbered_elsewhere seat.name reaction.events number reaction.put (events_else topo tr input reaction p seat sound given there untouched)))
    (inl (lets_nothing tr input seat.name unnamed))

-- ---- the host that a step reaches

-- an outcome that says nothing
abbrev pub SaysNothing : Result Reaction StepFault → Type 0
SaysNothing outcome = IfOk outcome (λ reaction. reaction ≡ nothing)

unless : (test : Bool) (f : StepFault) (outcome : Result Reaction StepFault) → SaysNothing outcome → SaysNothing (refused_if test f outcome)
unless true f outcome h = tt
unless false f outcome h = h

keyed : (test : Bool) → SaysNothing (cond test (Ok nothing) (Err fault.Keyless))
keyed true = refl
keyed false = tt

stop_says : (topo : Topology) (seat : Option Seat) (call byte : ℕ) → SaysNothing (armed_with_stop topo seat call byte)
stop_says topo None call byte = tt
stop_says topo (Some seat) call byte =
    unless ((call == 0) || (nat_lt 2 call || nat_le 256 byte)) fault.Range (cond (has_key (key_named topo.parts seat.name)) (Ok nothing) (Err fault.Keyless)) (keyed (has_key (key_named topo.parts seat.name)))

halt_says : (seat : Option Seat) (call byte : ℕ) → SaysNothing (armed_with_halt seat call byte)
halt_says None call byte = tt
halt_says (Some seat) call byte = unless ((call == 0) || (nat_lt 4 call || nat_le 256 byte)) fault.Range (Ok nothing) refl

said : (outcome : Result Reaction StepFault) (reaction : Reaction) → SaysNothing outcome → outcome ≡ Ok reaction → reaction ≡ nothing
said outcome reaction says given = subst (λ (o : Result Reaction StepFault). SaysNothing o) given says

same_bytes : (a b : List ℕ) → Some a ≡ Some b → bytes_eq a b ≡ true
same_bytes a b e = let same : a ≡ b = cc in (bytes_eq-Decides a b).1 same

-- the reaction is nothing
module _ (topo : Topology) (tr : List Entry) (seat : Seat) (old new : HostState) (number : ℕ) (reaction : Reaction) where
  abbrev After : Input → Reaction → Type 0
  After input r = HostStandsFor topo (after_step tr input (numbered number r)) seat new

  stopped : (host : List ℕ) (call byte : ℕ) → HostStandsFor topo tr seat old → bytes_eq host seat.name ≡ true → IsStopped (record { call = call; byte = byte }) old new → reaction ≡ nothing
      → After (Stop host call byte) reaction
  stopped host call byte stands named moves none =
      subst (λ (r : Reaction). After (Stop host call byte) r) (sym none)
      (subst (λ (s : HostState). HostStandsFor topo (after_step tr (Stop host call byte) []) seat s) (sym moves.stopped)
      (stops topo tr seat old host call byte stands named moves.keyed (subst DisksServe moves.stopped moves.disks)))

  halted : (host : List ℕ) (call byte : ℕ) → HostStandsFor topo tr seat old → bytes_eq host seat.name ≡ true → IsHalted (record { call = call; byte = byte }) old new → reaction ≡ nothing
      → After (Halt host call byte) reaction
  halted host call byte stands named moves none =
      subst (λ (r : Reaction). After (Halt host call byte) r) (sym none)
      (subst (λ (s : HostState). HostStandsFor topo (after_step tr (Halt host call byte) []) seat s) (sym moves.halted)
      (halts topo tr seat old host call byte stands named (subst DisksServe moves.halted moves.disks)))

  anew : (node : List ℕ) → HostStandsFor topo tr seat old → bytes_eq node seat.name ≡ true → IsAnew old new → reaction ≡ back_up (standing topo tr seat) → After (Restart node) reaction
  anew node stands named moves says =
      subst (λ (r : Reaction). After (Restart node) r) (sym says) (restarts topo tr seat old new node number stands named moves.anew moves.disks)

  acted : (input : Input) → HostStandsFor topo tr seat old → GoesOn (now_of tr) reaction old new → lets_act tr input seat.name ≡ true → After input reaction
  acted input stands moves acts = follows topo tr seat old new input number reaction stands moves.follows moves.disks acts

-- the host that a step reaches stands for the longer trace as it moved
touched_stands : (topo : Topology) (tr : List Entry) (input : Input) (reaction : Reaction) (number p : ℕ) (seat : Seat) (old new : HostState) → outcome_of topo tr input ≡ Ok reaction
    → seat_named (seats_of topo) seat.name ≡ Some seat
    → host_named_by (flights_of tr) input ≡ Some seat.name → HostStandsFor topo tr seat old → HostMoves (now_of tr) input reaction old new
    → HostStandsFor topo (after_step tr input (numbered number reaction)) seat new
touched_stands topo tr (Send host node packet body) reaction number p seat old new given found named stands moves =
    acted topo tr seat old new number reaction (Send host node packet body) stands moves (same_bytes host seat.name named)
touched_stands topo tr (Raw host bytes) reaction number p seat old new given found named stands moves =
    acted topo tr seat old new number reaction (Raw host bytes) stands moves (same_bytes host seat.name named)
touched_stands topo tr (Shutoff host flight ttl) reaction number p seat old new given found named stands moves =
    acted topo tr seat old new number reaction (Shutoff host flight ttl) stands moves (same_bytes host seat.name named)
touched_stands topo tr (Deliver flight) reaction number p seat old new given found named stands moves =
    acted topo tr seat old new number reaction (Deliver flight) stands moves (delivery_acts tr flight seat.name named)
touched_stands topo tr (Stop host call byte) reaction number p seat old new given found named stands moves =
    stopped topo tr seat old new number reaction host call byte stands (same_bytes host seat.name named) moves
    (said (armed_with_stop topo (seat_named (seats_of topo) host) call byte) reaction (stop_says topo (seat_named (seats_of topo) host) call byte) given)
touched_stands topo tr (Halt host call byte) reaction number p seat old new given found named stands moves =
    halted topo tr seat old new number reaction host call byte stands (same_bytes host seat.name named) moves
    (said (armed_with_halt (seat_named (seats_of topo) host) call byte) reaction (halt_says (seat_named (seats_of topo) host) call byte) given)
touched_stands topo tr (Restart node) reaction number p seat old new given found named stands moves =
    let same : node ≡ seat.name = cc in
    let this : seat_named (seats_of topo) node ≡ Some seat = ap (λ n. seat_named (seats_of topo) n) same ∙ found in
    let says : ◌≡◌ {A = Result Reaction StepFault} (Ok reaction) (Ok (back_up (standing topo tr seat))) =
    sym given ∙ ap (λ (s : Option Seat). restarted topo tr s (place_of_router topo.routers node)) this in
    anew topo tr seat old new number reaction node stands (same_bytes node seat.name named) moves cc
touched_stands topo tr (Tick ticks) reaction number p seat old new given found named stands moves = absurd cc
touched_stands topo tr (Inject to bytes) reaction number p seat old new given found named stands moves = absurd cc
touched_stands topo tr (Cut link) reaction number p seat old new given found named stands moves = absurd cc
touched_stands topo tr (Mend link) reaction number p seat old new given found named stands moves = absurd cc
touched_stands topo tr (Publish bytes) reaction number p seat old new given found named stands moves = absurd cc

-- ---- the whole

found_by : (topo : Topology) (p : ℕ) (seat : Seat) (place : Option ℕ) → IsSound topo → slice_get (seats_of topo) p ≡ Some seat → seat_place (seats_of topo) seat.name ≡ place
    → option_and_then (λ n. slice_get (seats_of topo) n) place ≡ Some seat
found_by topo p seat None sound there at =
    let never = none_passes (λ (s : Seat). bytes_eq s.name seat.name) (seats_of topo) p seat at there in
    absurd (let no : false ≡ true = sym never ∙ (bytes_eq-Decides seat.name seat.name).1 refl in cc)
found_by topo p seat (Some q) sound there at = one (is_here (Some q) p) where
  found : PassesAt Seat (λ (s : Seat). bytes_eq s.name seat.name) (seats_of topo) q
  found = position_passes (λ (s : Seat). bytes_eq s.name seat.name) (seats_of topo) q at

  one : (Some q ≡ Some p) ⊎ (Some q ≡ Some p → ⊥) → slice_get (seats_of topo) q ≡ Some seat
  one (inl same) = let is : q ≡ p = cc in ap (λ n. slice_get (seats_of topo) n) is ∙ there
  one (inr other) =
      let differs = two_hosts topo q p found.item seat sound (λ e. other (ap (λ n. Some n) e)) found.there there in
      absurd (let no : false ≡ true = sym differs ∙ found.passes in cc)

-- the host at a place is found by its name
seat_found : (topo : Topology) (p : ℕ) (seat : Seat) → IsSound topo → slice_get (seats_of topo) p ≡ Some seat → seat_named (seats_of topo) seat.name ≡ Some seat
seat_found topo p seat sound there =
    sym (found_at (λ (s : Seat). bytes_eq s.name seat.name) (seats_of topo)) ∙ found_by topo p seat (seat_place (seats_of topo) seat.name) sound there refl

-- the hosts stand for the longer trace
pub hosts_after : (topo : Topology) (tr : List Entry) (old new : List HostState) (input : Input) (reaction : Reaction) (number : ℕ) → IsSound topo → outcome_of topo tr input ≡ Ok reaction
    → HostsStand topo tr old → MovesAt HostState (host_touched topo (flights_of tr) input) (HostMoves (now_of tr) input reaction) old new
    → HostsStand topo (after_step tr input (numbered number reaction)) new
hosts_after topo tr old new input reaction number sound given stand moved = record {
  count = moved.count ∙ stand.count;
  each = λ p seat host there at. at_place p seat host there at (is_here (host_touched topo (flights_of tr) input) p);
} where
  at_place : (p : ℕ) (seat : Seat) (host : HostState) → slice_get (seats_of topo) p ≡ Some seat → slice_get new p ≡ Some host
      → (host_touched topo (flights_of tr) input ≡ Some p) ⊎ (host_touched topo (flights_of tr) input ≡ Some p → ⊥) → HostStandsFor topo (after_step tr input (numbered number reaction)) seat host
  at_place p seat host there at (inl touched) =
      let before = moved_from HostState (host_touched topo (flights_of tr) input) (HostMoves (now_of tr) input reaction) old new p host moved at in
      let stands = stand.each p seat before.0 there before.1 in
      touched_stands topo tr input reaction number p seat before.0 host given (seat_found topo p seat sound there)
      (touched_name topo (flights_of tr) input p seat touched there) stands (moved.here p before.0 host touched before.1 at)
  at_place p seat host there at (inr untouched) =
      let before = moved_from HostState (host_touched topo (flights_of tr) input) (HostMoves (now_of tr) input reaction) old new p host moved at in
      untouched_stands topo tr input reaction number p seat host sound given there untouched
      (subst (λ (h : HostState). HostStandsFor topo tr seat h) (before.2 untouched) (stand.each p seat before.0 there before.1))
