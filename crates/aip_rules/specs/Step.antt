-- What a step of the network is: the fault that refuses an input, or the events that come of it.
use Rattle.std.specs.Prelude.{ℕ, ◌+◌, ◌^◌, ◌==◌, ◌||◌, Bool, true, false, if◌then◌else◌, nat_lt, nat_le, List, [], ◌∷◌, length, slice_get, Option, Some, None, Result, Ok, Err}
use Rattle.aip_addr.specs.declared.ids.Address.{Address}
use Rattle.aip_frame.specs.declared.frame.Frame.{Frame}
use Rattle.aip_frame.specs.Frame.{frame_bytes, most_body}
use Rattle.aip_event.specs.declared.input.Input.{Input}
use Rattle.aip_event.specs.declared.input.Input.TheVariants.{Tick, Send, Raw, Deliver, Inject, Cut, Mend, Shutoff, Restart, Stop, Halt, Publish}
use Rattle.aip_event.specs.declared.event.Event.{Event}
use Rattle.aip_event.specs.declared.input.Target.{Target}
use Rattle.aip_event.specs.declared.input.Target.TheVariants as target
use Rattle.aip_topo.specs.declared.topology.Router.{Router}
use Rattle.aip_topo.specs.declared.topology.Topology.{Topology}
use Rattle.aip_rules.specs.declared.Entry.{Entry}
use Rattle.aip_rules.specs.declared.Entry.TheVariants.{Taken, Happened}
use Rattle.aip_rules.specs.declared.Flight.{Flight}
use Rattle.aip_rules.specs.declared.Reaction.{Reaction}
use Rattle.aip_rules.specs.declared.Seat.{Seat}
use Rattle.aip_rules.specs.declared.StepFault.{StepFault}
use Rattle.aip_rules.specs.declared.StepFault.TheVariants as fault
use Rattle.aip_rules.specs.State.{now_of, input_count, flight_at, frame_in}
use Rattle.aip_rules.specs.Nodes.{seats_of, seat_named, place_of_router, address_named, links_of, neighbours_of, key_named}
use Rattle.aip_rules.specs.Reaction.{nothing, puts, events_on}
use Rattle.aip_rules.specs.Records.{publishes, records_kept}
use Rattle.aip_rules.specs.Router.{at_router}
use Rattle.aip_rules.specs.Standing.{standing}
use Rattle.aip_rules.specs.Host.{at_host, back_up, put_by, sent_frame, shut_by}
use Rattle.lms_core.specs.Tree.{Key}

-- the most bytes that are put at once
abbrev pub most_bytes : ℕ
most_bytes = 9216

-- so many bytes can be put: at least one, and no more than the most
abbrev pub can_be_put : ℕ → Bool
can_be_put count = if count == 0 then false else nat_le count most_bytes

-- the outcome, unless a test refuses it
abbrev pub refused_if : Bool → StepFault → Result Reaction StepFault → Result Reaction StepFault
refused_if test fault outcome = if test then Err fault else outcome

-- time moves by at least one tick and stays below 2^48
abbrev pub ticked : ℕ → ℕ → Result Reaction StepFault
ticked now ticks = refused_if ((ticks == 0) || nat_le (2 ^ 48) (now + ticks)) fault.Range (Ok nothing)

-- a host sends a data frame: both ends are known, the packet id is below 2^32, and the body fits a frame
abbrev pub sent : Topology → List Entry → Option Seat → Option Address → ℕ → List ℕ → Result Reaction StepFault
sent topo tr None to packet body = Err fault.Unknown
sent topo tr (Some seat) None packet body = Err fault.Unknown
sent topo tr (Some seat) (Some to) packet body =
    refused_if (nat_le (2 ^ 32) packet || nat_lt most_body (length body)) fault.Range
    (Ok (put_by (standing topo tr seat) (frame_bytes (sent_frame to seat.address packet body))))

-- a host puts bytes as they are
abbrev pub put_raw : Topology → List Entry → Option Seat → List ℕ → Result Reaction StepFault
put_raw topo tr None bytes = Err fault.Unknown
put_raw topo tr (Some seat) bytes =
    if can_be_put (length bytes) then Ok (put_by (standing topo tr seat) bytes) else Err fault.Range

-- what happens where bytes arrive at the router at this place, if there is one
abbrev pub arrives_at_router : Topology → List Entry → ℕ → Option Router → ℕ → List ℕ → Reaction
arrives_at_router topo tr place None port bytes = nothing
arrives_at_router topo tr place (Some self) port bytes =
    at_router topo tr (record { place = place; self = self; port = port }) bytes

-- what happens where bytes arrive at a port of a router, if there is one of this name
abbrev pub arrives_at_port : Topology → List Entry → Option ℕ → ℕ → List ℕ → Reaction
arrives_at_port topo tr None port bytes = nothing
arrives_at_port topo tr (Some place) port bytes =
    arrives_at_router topo tr place (slice_get topo.routers place) port bytes

-- what happens where bytes arrive at a host, if there is one of this name
abbrev pub arrives_at_seat : Topology → List Entry → Option Seat → List ℕ → Reaction
arrives_at_seat topo tr None bytes = nothing
arrives_at_seat topo tr (Some seat) bytes = at_host (standing topo tr seat) bytes

-- what happens where bytes arrive at a target
abbrev pub arrives : Topology → List Entry → Target → List ℕ → Reaction
arrives topo tr (target.Port name port) bytes = arrives_at_port topo tr (place_of_router topo.routers name) port bytes
arrives topo tr (target.Host name) bytes = arrives_at_seat topo tr (seat_named (seats_of topo) name) bytes

-- a flight is delivered to its target, if it was put
abbrev pub delivered : Topology → List Entry → Option Flight → Result Reaction StepFault
delivered topo tr None = Err fault.NoFlight
delivered topo tr (Some flight) = Ok (arrives topo tr flight.target flight.bytes)

-- bytes come from outside towards a port of a router that is there
abbrev pub injected_at_port : Topology → Option ℕ → Target → ℕ → List ℕ → Result Reaction StepFault
injected_at_port topo None to port bytes = Err fault.Unknown
injected_at_port topo (Some place) to port bytes =
    refused_if (nat_le (length (neighbours_of topo place)) port) fault.Range
    (if can_be_put (length bytes) then Ok (puts to bytes) else Err fault.Range)

-- bytes come from outside towards a host
abbrev pub injected_at_host : Option Seat → Target → List ℕ → Result Reaction StepFault
injected_at_host None to bytes = Err fault.Unknown
injected_at_host (Some seat) to bytes = if can_be_put (length bytes) then Ok (puts to bytes) else Err fault.Range

-- bytes come from outside towards a target
abbrev pub injected : Topology → Target → List ℕ → Result Reaction StepFault
injected topo (target.Port name port) bytes =
    injected_at_port topo (place_of_router topo.routers name) (target.Port name port) port bytes
injected topo (target.Host name) bytes = injected_at_host (seat_named (seats_of topo) name) (target.Host name) bytes

-- a link is cut or mended: it is there
abbrev pub relinked : Topology → ℕ → Result Reaction StepFault
relinked topo link = if nat_lt link (length (links_of topo)) then Ok nothing else Err fault.Range

-- the host has a key, and signs a shut-off with it
abbrev pub shut_with : Topology → List Entry → Seat → Frame → ℕ → Option Key → Result Reaction StepFault
shut_with topo tr seat named ttl None = Err fault.Keyless
shut_with topo tr seat named ttl (Some key) = Ok (shut_by (standing topo tr seat) key named ttl)

-- a host signs a shut-off that names a frame: the time that it lasts is below 2^32, and the host has a key
abbrev pub shut_named : Topology → List Entry → Seat → Option Frame → ℕ → Result Reaction StepFault
shut_named topo tr seat None ttl = Err fault.NoFlight
shut_named topo tr seat (Some named) ttl =
    refused_if (nat_le (2 ^ 32) ttl) fault.Range (shut_with topo tr seat named ttl (key_named topo.parts seat.name))

-- a host signs a shut-off of a flight: the host is known, and the flight was put and is a frame
abbrev pub shut_off : Topology → List Entry → Option Seat → Option Flight → ℕ → Result Reaction StepFault
shut_off topo tr None flight ttl = Err fault.Unknown
shut_off topo tr (Some seat) flight ttl = shut_named topo tr seat (frame_in flight) ttl

-- a node starts anew: a host or a router of this name is known. A router says nothing.
abbrev pub restarted : Topology → List Entry → Option Seat → Option ℕ → Result Reaction StepFault
restarted topo tr (Some seat) router = Ok (back_up (standing topo tr seat))
restarted topo tr None (Some router) = Ok nothing
restarted topo tr None None = Err fault.Unknown

-- the host has a key
abbrev pub has_key : Option Key → Bool
has_key None = false
has_key (Some key) = true

-- a stop of a host's signing is armed: the host is known and has a key, the call is 1 or 2, and the byte is one
abbrev pub armed_with_stop : Topology → Option Seat → ℕ → ℕ → Result Reaction StepFault
armed_with_stop topo None call byte = Err fault.Unknown
armed_with_stop topo (Some seat) call byte =
    refused_if ((call == 0) || (nat_lt 2 call || nat_le 256 byte)) fault.Range
    (if has_key (key_named topo.parts seat.name) then Ok nothing else Err fault.Keyless)

-- a halt of the disk on which a host keeps shut-offs is armed: the host is known, whether it is guarded or not, the call is
-- 1 to 4, and the byte is one
abbrev pub armed_with_halt : Option Seat → ℕ → ℕ → Result Reaction StepFault
armed_with_halt None call byte = Err fault.Unknown
armed_with_halt (Some seat) call byte =
    refused_if ((call == 0) || (nat_lt 4 call || nat_le 256 byte)) fault.Range (Ok nothing)

-- bytes are published after those of a trace: they are no more than can be put at once
abbrev pub published : List Entry → List ℕ → Result Reaction StepFault
published tr bytes = refused_if (nat_lt most_bytes (length bytes)) fault.Range (Ok (publishes (records_kept tr) bytes))

-- what comes of an input, where one more may be taken: the first fault that applies, or a reaction
abbrev pub outcome_of : Topology → List Entry → Input → Result Reaction StepFault
outcome_of topo tr (Tick ticks) = ticked (now_of tr) ticks
outcome_of topo tr (Send host node packet body) =
    sent topo tr (seat_named (seats_of topo) host) (address_named topo node) packet body
outcome_of topo tr (Raw host bytes) = put_raw topo tr (seat_named (seats_of topo) host) bytes
outcome_of topo tr (Deliver flight) = delivered topo tr (flight_at tr flight)
outcome_of topo tr (Inject to bytes) = injected topo to bytes
outcome_of topo tr (Cut link) = relinked topo link
outcome_of topo tr (Mend link) = relinked topo link
outcome_of topo tr (Shutoff host flight ttl) =
    shut_off topo tr (seat_named (seats_of topo) host) (flight_at tr flight) ttl
outcome_of topo tr (Restart node) = restarted topo tr (seat_named (seats_of topo) node) (place_of_router topo.routers node)
outcome_of topo tr (Stop host call byte) = armed_with_stop topo (seat_named (seats_of topo) host) call byte
outcome_of topo tr (Halt host call byte) = armed_with_halt (seat_named (seats_of topo) host) call byte
outcome_of topo tr (Publish bytes) = published tr bytes

-- the most inputs of a trace
abbrev pub most_inputs : ℕ
most_inputs = 65536

-- what comes of an input: Many where no further one may be taken, or else what the input itself comes to
abbrev pub reaction_of : Topology → List Entry → Input → Result Reaction StepFault
reaction_of topo tr input = refused_if (nat_le most_inputs (input_count tr)) fault.Many (outcome_of topo tr input)

-- the events of a reaction on a trace, where the input isn't refused
abbrev pub events_of : List Entry → Result Reaction StepFault → Result (List Event) StepFault
events_of tr (Ok reaction) = Ok (events_on tr reaction)
events_of tr (Err f) = Err f

-- a step: the first fault that applies, or the events that come of the input
abbrev pub step_of : Topology → List Entry → Input → Result (List Event) StepFault
step_of topo tr input = events_of tr (reaction_of topo tr input)

-- the trace with these events on top, the last of them newest
abbrev pub with_events : List Event → List Entry → List Entry
with_events [] tr = tr
with_events (event ∷ events) tr = with_events events (Happened event ∷ tr)

-- the trace after an input was taken and its events came
abbrev pub after_step : List Entry → Input → List Event → List Entry
after_step tr input events = with_events events (Taken input ∷ tr)

-- what follows a step: nothing where it is refused
abbrev pub goes_on : Result (List Event) StepFault → (List Event → Option (List Entry)) → Option (List Entry)
goes_on (Ok events) go = go events
goes_on (Err f) go = None

-- the trace of these inputs, the first first, from a trace on; none where one of them is refused
abbrev pub trace_from : Topology → List Entry → List Input → Option (List Entry)
trace_from topo tr [] = Some tr
trace_from topo tr (input ∷ inputs) =
    goes_on (step_of topo tr input) (λ events. trace_from topo (after_step tr input events) inputs)

-- the trace of these inputs, the first first; none where one of them is refused
abbrev pub trace_of : Topology → List Input → Option (List Entry)
trace_of topo inputs = trace_from topo [] inputs
