-- Each forward is justified: what comes of each input keeps a trace backed.
use Rattle.std.proofs.Common.{◌≡◌, ℕ, ◌+◌, ◌^◌, ◌==◌, ◌||◌, Bool, true, false, cond, List, [], ◌∷◌, length, Option, Some, None, Result, Ok, Err, refl, ap, ◌∙◌, subst}
use Rattle.std.specs.Prelude.{IfOk, nat_le, nat_lt, slice_get}
use Rattle.aip_addr.specs.declared.ids.Address.{Address}
use Rattle.aip_frame.specs.declared.frame.Frame.{Frame}
use Rattle.aip_frame.specs.Frame.{frame_of, frame_bytes, most_body}
use Rattle.aip_event.specs.declared.event.Event.{Event}
use Rattle.aip_event.specs.declared.input.Input.{Input}
use Rattle.aip_event.specs.declared.input.Input.TheVariants.{Tick, Send, Raw, Deliver, Inject, Cut, Mend, Shutoff, Restart, Stop, Halt, Publish}
use Rattle.aip_event.specs.declared.input.Target.{Target}
use Rattle.aip_event.specs.declared.input.Target.TheVariants as target
use Rattle.lms_core.specs.Tree.{Key}
use Rattle.aip_topo.specs.declared.topology.Router.{Router}
use Rattle.aip_topo.specs.declared.topology.Topology.{Topology}
use Rattle.aip_topo.specs.Sound.{IsSound}
use Rattle.aip_rules.specs.declared.Entry.{Entry}
use Rattle.aip_rules.specs.declared.Entry.TheVariants.{Taken}
use Rattle.aip_rules.specs.declared.Flight.{Flight}
use Rattle.aip_rules.specs.declared.Reaction.{Reaction}
use Rattle.aip_rules.specs.declared.Seat.{Seat}
use Rattle.aip_rules.specs.declared.StepFault.{StepFault}
use Rattle.aip_rules.specs.declared.StepFault.TheVariants as fault
use Rattle.aip_rules.specs.State.{now_of, input_count, flight_at, flight_count, frame_in}
use Rattle.aip_rules.specs.Nodes.{seats_of, seat_named, place_of_router, address_named, links_of, neighbours_of, key_named}
use Rattle.aip_rules.specs.Reaction.{nothing, puts, events_on}
use Rattle.aip_rules.specs.Records.{publishes, records_kept}
use Rattle.aip_rules.specs.Standing.{standing}
use Rattle.aip_rules.specs.Host.{sent_frame}
use Rattle.aip_rules.specs.Step.{most_bytes, most_inputs, can_be_put, refused_if, sent, put_raw, arrives_at_router, arrives_at_port, arrives_at_seat, arrives, delivered, injected_at_port, injected_at_host, injected, shut_with, shut_named, shut_off, restarted, has_key, armed_with_stop, armed_with_halt, published, outcome_of, events_of, step_of, after_step, goes_on, trace_from}
use Rattle.aip_rules.specs.Promises.{ForwardsAreJustified, HoldsOfAll}
use Rattle.aip_rules.proofs.Publications.{of_publication}
use Rattle.aip_rules.proofs.JustifiedBacked.{IsQuiet, AreBacked, Follow, quiet_follow, put_follows, still_backed, forwards_backed}
use Rattle.aip_rules.proofs.JustifiedReasons.{found_name}
use Rattle.aip_rules.proofs.JustifiedRouter.{delivering, router_follows}
use Rattle.aip_rules.proofs.JustifiedHosts.{IsQuietReaction, put_quiet, shut_quiet, host_quiet, back_quiet}

-- an outcome that isn't a fault wants no backing
abbrev IsQuietOutcome : Result Reaction StepFault → Type 0
IsQuietOutcome outcome = IfOk outcome IsQuietReaction

-- and so does one that a test may refuse
unless : (test : Bool) (f : StepFault) (outcome : Result Reaction StepFault) → IsQuietOutcome outcome → IsQuietOutcome (refused_if test f outcome)
unless true f outcome quiet = tt
unless false f outcome quiet = quiet

where_allowed : (test : Bool) (f : StepFault) (outcome : Result Reaction StepFault) → IsQuietOutcome outcome → IsQuietOutcome (cond test outcome (Err f))
where_allowed true f outcome quiet = quiet
where_allowed false f outcome quiet = tt

-- ---- inputs other than deliveries

sent_quiet : (topo : Topology) (tr : List Entry) (seat : Option Seat) (to : Option Address) (packet : ℕ) (body : List ℕ) → IsQuietOutcome (sent topo tr seat to packet body)
sent_quiet topo tr None to packet body = tt
sent_quiet topo tr (Some seat) None packet body = tt
sent_quiet topo tr (Some seat) (Some to) packet body =
    unless (nat_le (2 ^ 32) packet || nat_lt most_body (length body)) fault.Range _
    (put_quiet (standing topo tr seat) (frame_bytes (sent_frame to seat.address packet body)))

raw_quiet : (topo : Topology) (tr : List Entry) (seat : Option Seat) (bytes : List ℕ) → IsQuietOutcome (put_raw topo tr seat bytes)
raw_quiet topo tr None bytes = tt
raw_quiet topo tr (Some seat) bytes = where_allowed (can_be_put (length bytes)) fault.Range _ (put_quiet (standing topo tr seat) bytes)

injected_port_quiet : (topo : Topology) (place : Option ℕ) (to : Target) (port : ℕ) (bytes : List ℕ) → IsQuietOutcome (injected_at_port topo place to port bytes)
injected_port_quiet topo None to port bytes = tt
injected_port_quiet topo (Some place) to port bytes =
    unless (nat_le (length (neighbours_of topo place)) port) fault.Range _ (where_allowed (can_be_put (length bytes)) fault.Range (Ok (puts to bytes)) tt)

injected_host_quiet : (seat : Option Seat) (to : Target) (bytes : List ℕ) → IsQuietOutcome (injected_at_host seat to bytes)
injected_host_quiet None to bytes = tt
injected_host_quiet (Some seat) to bytes = where_allowed (can_be_put (length bytes)) fault.Range (Ok (puts to bytes)) tt

injected_quiet : (topo : Topology) (to : Target) (bytes : List ℕ) → IsQuietOutcome (injected topo to bytes)
injected_quiet topo (target.Port name port) bytes = injected_port_quiet topo (place_of_router topo.routers name) _ port bytes
injected_quiet topo (target.Host name) bytes = injected_host_quiet (seat_named (seats_of topo) name) _ bytes

shut_with_quiet : (topo : Topology) (tr : List Entry) (seat : Seat) (named : Frame) (ttl : ℕ) (key : Option Key) → IsQuietOutcome (shut_with topo tr seat named ttl key)
shut_with_quiet topo tr seat named ttl None = tt
shut_with_quiet topo tr seat named ttl (Some key) = shut_quiet (standing topo tr seat) key named ttl

shut_named_quiet : (topo : Topology) (tr : List Entry) (seat : Seat) (named : Option Frame) (ttl : ℕ) → IsQuietOutcome (shut_named topo tr seat named ttl)
shut_named_quiet topo tr seat None ttl = tt
shut_named_quiet topo tr seat (Some named) ttl =
    unless (nat_le (2 ^ 32) ttl) fault.Range _ (shut_with_quiet topo tr seat named ttl (key_named topo.parts seat.name))

shut_off_quiet : (topo : Topology) (tr : List Entry) (seat : Option Seat) (flight : Option Flight) (ttl : ℕ) → IsQuietOutcome (shut_off topo tr seat flight ttl)
shut_off_quiet topo tr None flight ttl = tt
shut_off_quiet topo tr (Some seat) flight ttl = shut_named_quiet topo tr seat (frame_in flight) ttl

restarted_quiet : (topo : Topology) (tr : List Entry) (seat : Option Seat) (router : Option ℕ) → IsQuietOutcome (restarted topo tr seat router)
restarted_quiet topo tr (Some seat) router = back_quiet (standing topo tr seat)
restarted_quiet topo tr None (Some router) = tt
restarted_quiet topo tr None None = tt

armed_quiet : (topo : Topology) (seat : Option Seat) (call byte : ℕ) → IsQuietOutcome (armed_with_stop topo seat call byte)
armed_quiet topo None call byte = tt
armed_quiet topo (Some seat) call byte =
    unless ((call == 0) || (nat_lt 2 call || nat_le 256 byte)) fault.Range _ (where_allowed (has_key (key_named topo.parts seat.name)) fault.Keyless (Ok nothing) tt)

halt_quiet : (seat : Option Seat) (call byte : ℕ) → IsQuietOutcome (armed_with_halt seat call byte)
halt_quiet None call byte = tt
halt_quiet (Some seat) call byte = unless ((call == 0) || (nat_lt 4 call || nat_le 256 byte)) fault.Range (Ok nothing) tt

published_quiet : (tr : List Entry) (bytes : List ℕ) → IsQuietOutcome (published tr bytes)
published_quiet tr bytes =
    unless (nat_lt most_bytes (length bytes)) fault.Range (Ok (publishes (records_kept tr) bytes))
    (of_publication IsQuiet (λ ad other number until. tt) (λ ad other number until. tt) (λ number. tt) (records_kept tr) bytes, tt)

-- ---- deliveries

-- what comes of an outcome follows the input
abbrev OutcomeFollows : Topology → List Entry → Result Reaction StepFault → Type 0
OutcomeFollows topo tr outcome = IfOk outcome (λ reaction. Follow topo tr reaction.events)

quiet_outcome : (topo : Topology) (tr : List Entry) (outcome : Result Reaction StepFault) → IsQuietOutcome outcome → OutcomeFollows topo tr outcome
quiet_outcome topo tr (Ok reaction) quiet = quiet_follow topo tr reaction.events quiet
quiet_outcome topo tr (Err f) quiet = tt

module _ (topo : Topology) (sound : IsSound topo) (tr : List Entry) (backed : AreBacked topo tr) (number : ℕ) (flight : Flight) (put : flight_at tr number ≡ Some flight) where
  at_place_follows : (name : List ℕ) (port : ℕ) → flight.target ≡ target.Port name port → (place : ℕ) → place_of_router topo.routers name ≡ Some place
      → (self : Option Router) → slice_get topo.routers place ≡ self → Follow topo (delivering tr number) (arrives_at_router topo tr place self port flight.bytes).events
  at_place_follows name port to place named None there = tt
  at_place_follows name port to place named (Some self) there =
      let name_is = found_name topo.routers name place self named there in
      router_follows topo tr number flight (record { place = place; self = self; port = port }) (record {
        sound = sound;
        backed = backed;
        put = put;
        named = record { named = subst (λ n. place_of_router topo.routers n ≡ Some place) name_is named; there = there };
        arrives = to ∙ ap (λ n. target.Port n port) name_is;
      }) (frame_of flight.bytes) refl

  at_port_follows : (name : List ℕ) (port : ℕ) → flight.target ≡ target.Port name port → (place : Option ℕ) → place_of_router topo.routers name ≡ place
      → Follow topo (delivering tr number) (arrives_at_port topo tr place port flight.bytes).events
  at_port_follows name port to None named = tt
  at_port_follows name port to (Some place) named = at_place_follows name port to place named (slice_get topo.routers place) refl

  at_seat_follows : (seat : Option Seat) → Follow topo (delivering tr number) (arrives_at_seat topo tr seat flight.bytes).events
  at_seat_follows None = tt
  at_seat_follows (Some seat) = quiet_follow topo (delivering tr number) _ (host_quiet (standing topo tr seat) flight.bytes)

  at_target_follows : (to : Target) → flight.target ≡ to → Follow topo (delivering tr number) (arrives topo tr to flight.bytes).events
  at_target_follows (target.Port name port) to = at_port_follows name port to (place_of_router topo.routers name) refl
  at_target_follows (target.Host name) to = at_seat_follows (seat_named (seats_of topo) name)

delivered_follows : (topo : Topology) → IsSound topo → (tr : List Entry) (number : ℕ) → AreBacked topo tr → (flight : Option Flight) → flight_at tr number ≡ flight
    → OutcomeFollows topo (delivering tr number) (delivered topo tr flight)
delivered_follows topo sound tr number backed None put = tt
delivered_follows topo sound tr number backed (Some flight) put = at_target_follows topo sound tr backed number flight put flight.target refl

-- ---- a step, and a trace

-- what comes of an input follows it
outcome_follows : (topo : Topology) → IsSound topo → (tr : List Entry) (input : Input) → AreBacked topo tr → OutcomeFollows topo (Taken input ∷ tr) (outcome_of topo tr input)
outcome_follows topo sound tr (Deliver flight) backed = delivered_follows topo sound tr flight backed (flight_at tr flight) refl
outcome_follows topo sound tr (Tick ticks) backed = quiet_outcome topo _ _ (unless ((ticks == 0) || nat_le (2 ^ 48) (now_of tr + ticks)) fault.Range (Ok nothing) tt)
outcome_follows topo sound tr (Send host node packet body) backed =
    quiet_outcome topo _ _ (sent_quiet topo tr (seat_named (seats_of topo) host) (address_named topo node) packet body)
outcome_follows topo sound tr (Raw host bytes) backed = quiet_outcome topo _ _ (raw_quiet topo tr (seat_named (seats_of topo) host) bytes)
outcome_follows topo sound tr (Inject to bytes) backed = quiet_outcome topo _ _ (injected_quiet topo to bytes)
outcome_follows topo sound tr (Cut link) backed = quiet_outcome topo _ _ (where_allowed (nat_lt link (length (links_of topo))) fault.Range (Ok nothing) tt)
outcome_follows topo sound tr (Mend link) backed = quiet_outcome topo _ _ (where_allowed (nat_lt link (length (links_of topo))) fault.Range (Ok nothing) tt)
outcome_follows topo sound tr (Shutoff host flight ttl) backed =
    quiet_outcome topo _ _ (shut_off_quiet topo tr (seat_named (seats_of topo) host) (flight_at tr flight) ttl)
outcome_follows topo sound tr (Restart node) backed =
    quiet_outcome topo _ _ (restarted_quiet topo tr (seat_named (seats_of topo) node) (place_of_router topo.routers node))
outcome_follows topo sound tr (Stop host call byte) backed = quiet_outcome topo _ _ (armed_quiet topo (seat_named (seats_of topo) host) call byte)
outcome_follows topo sound tr (Halt host call byte) backed = quiet_outcome topo _ _ (halt_quiet (seat_named (seats_of topo) host) call byte)
outcome_follows topo sound tr (Publish bytes) backed = quiet_outcome topo _ _ (published_quiet tr bytes)

-- the events of a step keep a trace backed
step_backed : (topo : Topology) → IsSound topo → (tr : List Entry) (input : Input) → AreBacked topo tr → IfOk (step_of topo tr input) (λ events. AreBacked topo (after_step tr input events))
step_backed topo sound tr input backed = by (nat_le most_inputs (input_count tr)) (outcome_of topo tr input) (outcome_follows topo sound tr input backed)
  where
    by : (many : Bool) (outcome : Result Reaction StepFault) → OutcomeFollows topo (Taken input ∷ tr) outcome
        → IfOk (events_of tr (refused_if many fault.Many outcome)) (λ events. AreBacked topo (after_step tr input events))
    by true outcome follows = tt
    by false (Err f) follows = tt
    by false (Ok reaction) follows =
        still_backed topo (Taken input ∷ tr) (events_on tr reaction) backed
        (put_follows topo (Taken input ∷ tr) reaction.events (flight_count tr) reaction.put follows)

-- a trace that the rules give from a backed one is backed
trace_backed : (topo : Topology) → IsSound topo → (inputs : List Input) (tr end : List Entry) → AreBacked topo tr → trace_from topo tr inputs ≡ Some end → AreBacked topo end
trace_backed topo sound [] tr end backed e = let same : tr ≡ end = cc in subst (AreBacked topo) same backed
trace_backed topo sound (input ∷ inputs) tr end backed e = by (step_of topo tr input) (step_backed topo sound tr input backed) e (λ events. trace_backed topo sound inputs (after_step tr input events) end)
  where
    by : (step : Result (List Event) StepFault) → IfOk step (λ events. AreBacked topo (after_step tr input events))
        → goes_on step (λ events. trace_from topo (after_step tr input events) inputs) ≡ Some end
        → ((events : List Event) → AreBacked topo (after_step tr input events) → trace_from topo (after_step tr input events) inputs ≡ Some end → AreBacked topo end)
        → AreBacked topo end
    by (Ok events) after goes more = more events after goes
    by (Err f) after goes more = absurd cc

pub justified : HoldsOfAll ForwardsAreJustified
justified = λ topo sound inputs tr given. forwards_backed topo tr (trace_backed topo sound inputs [] tr tt given)
