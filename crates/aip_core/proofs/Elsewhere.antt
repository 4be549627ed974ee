-- The events of a step name none but the node that the input reaches.
use Rattle.std.proofs.Common.{◌≡◌, ℕ, ◌+◌, ◌^◌, ◌==◌, ◌||◌, Bool, true, false, cond, List, [], ◌∷◌, ◌++◌, length, Option, Some, None, Result, Ok, Err, refl, sym, ◌∙◌, ap, subst}
use Rattle.std.specs.Prelude.{IfOk, IfSome, nat_le, nat_lt, slice_get, option_and_then, position, find}
use Rattle.std.specs.Str.{bytes_eq}
use Rattle.aip_addr.specs.declared.ids.Address.{Address}
use Rattle.aip_frame.specs.declared.frame.Frame.{Frame}
use Rattle.aip_frame.specs.Frame.{frame_bytes, most_body}
use Rattle.aip_event.specs.declared.event.Event.{Event}
use Rattle.aip_event.specs.declared.input.Input.{Input}
use Rattle.aip_event.specs.declared.input.Input.TheVariants.{Tick, Send, Raw, Deliver, Inject, Cut, Mend, Shutoff, Restart, Stop, Halt, Publish}
use Rattle.aip_event.specs.declared.input.Target.{Target}
use Rattle.aip_event.specs.declared.input.Target.TheVariants as target
use Rattle.aip_topo.specs.declared.topology.Router.{Router}
use Rattle.aip_topo.specs.declared.topology.Topology.{Topology}
use Rattle.lms_core.specs.Tree.{Key}
use Rattle.aip_rules.specs.declared.Entry.{Entry}
use Rattle.aip_rules.specs.declared.Flight.{Flight}
use Rattle.aip_rules.specs.declared.Reaction.{Reaction}
use Rattle.aip_rules.specs.declared.Seat.{Seat}
use Rattle.aip_rules.specs.declared.StepFault.{StepFault}
use Rattle.aip_rules.specs.declared.StepFault.TheVariants as fault
use Rattle.aip_rules.specs.State.{now_of, flights_of, flight_at, frame_in}
use Rattle.aip_rules.specs.Nodes.{seats_of, seat_named, place_of_router, address_named, neighbours_of, links_of, key_named}
use Rattle.aip_rules.specs.Reaction.{nothing, numbered, put_event, puts}
use Rattle.aip_rules.specs.Records.{publishes, records_kept}
use Rattle.aip_rules.specs.Standing.{standing}
use Rattle.aip_rules.specs.Host.{put_by, sent_frame}
use Rattle.aip_rules.specs.Step.{can_be_put, has_key, refused_if, sent, put_raw, arrives_at_router, arrives_at_port, arrives_at_seat, arrives, delivered, injected_at_port, injected_at_host, injected, relinked, shut_with, shut_named, shut_off, restarted, armed_with_stop, armed_with_halt, most_bytes, outcome_of, published}
use Rattle.aip_rules.proofs.Publications.{of_publication}
use Rattle.aip_core.specs.Machine.{seat_place}
use Rattle.aip_core.specs.Moves.{host_at, host_named_by, host_touched, router_at, router_touched}
use Rattle.aip_core.proofs.Keys.{found_at}
use Rattle.aip_core.proofs.Naming.{node_of, AreOf, put_by_of, shut_by_of, at_host_of, back_up_of, at_router_of}

-- a node that is named is this one
abbrev pub names : Option (List ℕ) → List ℕ → Bool
names None name = false
names (Some node) name = bytes_eq node name

-- none of the events names this node
abbrev pub AreElsewhere : List ℕ → List Event → Type 0
AreElsewhere name [] = Unit {0}
AreElsewhere name (event ∷ events) = (names (node_of event) name ≡ false) × AreElsewhere name events

-- events of another node don't
elsewhere : (node name : List ℕ) (events : List Event) → bytes_eq node name ≡ false → AreOf node events → AreElsewhere name events
elsewhere node name [] apart of = tt
elsewhere node name (event ∷ events) apart of = (ap (λ (o : Option (List ℕ)). names o name) of.0 ∙ apart, elsewhere node name events apart of.1)

-- nor does the event of a put behind them
pub numbered_elsewhere : (name : List ℕ) (events : List Event) (n : ℕ) (put : Option Flight) → AreElsewhere name events → AreElsewhere name (events ++ put_event n put)
numbered_elsewhere name [] n None h = tt
numbered_elsewhere name [] n (Some flight) h = (refl, tt)
numbered_elsewhere name (event ∷ events) n put h = (h.0, numbered_elsewhere name events n put h.1)

-- an outcome's events name no such node
abbrev pub IsElsewhere : List ℕ → Result Reaction StepFault → Type 0
IsElsewhere name outcome = IfOk outcome (λ reaction. AreElsewhere name reaction.events)

unless : (name : List ℕ) (test : Bool) (f : StepFault) (outcome : Result Reaction StepFault) → IsElsewhere name outcome → IsElsewhere name (refused_if test f outcome)
unless name true f outcome h = tt
unless name false f outcome h = h

where_allowed : (name : List ℕ) (test : Bool) (f : StepFault) (outcome : Result Reaction StepFault) → IsElsewhere name outcome → IsElsewhere name (cond test outcome (Err f))
where_allowed name true f outcome h = h
where_allowed name false f outcome h = tt

-- the host, if there is one, has another name
abbrev pub IsOtherHost : List ℕ → Option Seat → Type 0
IsOtherHost name seat = IfSome seat (λ s. bytes_eq s.name name ≡ false)

sent_else : (topo : Topology) (tr : List Entry) (name : List ℕ) (seat : Option Seat) (to : Option Address) (packet : ℕ) (body : List ℕ) → IsOtherHost name seat → IsElsewhere name (sent topo tr seat to packet body)
sent_else topo tr name None to packet body other = tt
sent_else topo tr name (Some seat) None packet body other = tt
sent_else topo tr name (Some seat) (Some to) packet body other =
    let bytes = frame_bytes (sent_frame to seat.address packet body) in
    unless name (nat_le (2 ^ 32) packet || nat_lt most_body (length body)) fault.Range (Ok (put_by (standing topo tr seat) bytes))
    (elsewhere seat.name name (put_by (standing topo tr seat) bytes).events other (put_by_of (standing topo tr seat) bytes))

raw_else : (topo : Topology) (tr : List Entry) (name : List ℕ) (seat : Option Seat) (bytes : List ℕ) → IsOtherHost name seat → IsElsewhere name (put_raw topo tr seat bytes)
raw_else topo tr name None bytes other = tt
raw_else topo tr name (Some seat) bytes other =
    where_allowed name (can_be_put (length bytes)) fault.Range (Ok (put_by (standing topo tr seat) bytes))
    (elsewhere seat.name name (put_by (standing topo tr seat) bytes).events other (put_by_of (standing topo tr seat) bytes))

shut_with_else : (topo : Topology) (tr : List Entry) (name : List ℕ) (seat : Seat) (named : Frame) (ttl : ℕ) (key : Option Key) → bytes_eq seat.name name ≡ false → IsElsewhere name (shut_with topo tr seat named ttl key)
shut_with_else topo tr name seat named ttl None other = tt
shut_with_else topo tr name seat named ttl (Some key) other = elsewhere seat.name name _ other (shut_by_of (standing topo tr seat) key named ttl)

shut_named_else : (topo : Topology) (tr : List Entry) (name : List ℕ) (seat : Seat) (named : Option Frame) (ttl : ℕ) → bytes_eq seat.name name ≡ false → IsElsewhere name (shut_named topo tr seat named ttl)
shut_named_else topo tr name seat None ttl other = tt
shut_named_else topo tr name seat (Some named) ttl other =
    unless name (nat_le (2 ^ 32) ttl) fault.Range (shut_with topo tr seat named ttl (key_named topo.parts seat.name)) (shut_with_else topo tr name seat named ttl (key_named topo.parts seat.name) other)

shut_else : (topo : Topology) (tr : List Entry) (name : List ℕ) (seat : Option Seat) (flight : Option Flight) (ttl : ℕ) → IsOtherHost name seat → IsElsewhere name (shut_off topo tr seat flight ttl)
shut_else topo tr name None flight ttl other = tt
shut_else topo tr name (Some seat) flight ttl other = shut_named_else topo tr name seat (frame_in flight) ttl other

restart_else : (topo : Topology) (tr : List Entry) (name : List ℕ) (seat : Option Seat) (router : Option ℕ) → IsOtherHost name seat → IsElsewhere name (restarted topo tr seat router)
restart_else topo tr name (Some seat) router other = elsewhere seat.name name _ other (back_up_of (standing topo tr seat))
restart_else topo tr name None (Some router) other = tt
restart_else topo tr name None None other = tt

stop_else : (topo : Topology) (name : List ℕ) (seat : Option Seat) (call byte : ℕ) → IsElsewhere name (armed_with_stop topo seat call byte)
stop_else topo name None call byte = tt
stop_else topo name (Some seat) call byte =
    unless name ((call == 0) || (nat_lt 2 call || nat_le 256 byte)) fault.Range (cond (has_key (key_named topo.parts seat.name)) (Ok nothing) (Err fault.Keyless))
    (where_allowed name (has_key (key_named topo.parts seat.name)) fault.Keyless (Ok nothing) tt)

halt_else : (name : List ℕ) (seat : Option Seat) (call byte : ℕ) → IsElsewhere name (armed_with_halt seat call byte)
halt_else name None call byte = tt
halt_else name (Some seat) call byte = unless name ((call == 0) || (nat_lt 4 call || nat_le 256 byte)) fault.Range (Ok nothing) tt

injected_port_else : (topo : Topology) (name : List ℕ) (place : Option ℕ) (to : Target) (port : ℕ) (bytes : List ℕ) → IsElsewhere name (injected_at_port topo place to port bytes)
injected_port_else topo name None to port bytes = tt
injected_port_else topo name (Some place) to port bytes =
    unless name (nat_le (length (neighbours_of topo place)) port) fault.Range (cond (can_be_put (length bytes)) (Ok (puts to bytes)) (Err fault.Range))
    (where_allowed name (can_be_put (length bytes)) fault.Range (Ok (puts to bytes)) tt)

injected_host_else : (name : List ℕ) (seat : Option Seat) (to : Target) (bytes : List ℕ) → IsElsewhere name (injected_at_host seat to bytes)
injected_host_else name None to bytes = tt
injected_host_else name (Some seat) to bytes = where_allowed name (can_be_put (length bytes)) fault.Range (Ok (puts to bytes)) tt

injected_else : (topo : Topology) (name : List ℕ) (to : Target) (bytes : List ℕ) → IsElsewhere name (injected topo to bytes)
injected_else topo name (target.Port router port) bytes = injected_port_else topo name (place_of_router topo.routers router) (target.Port router port) port bytes
injected_else topo name (target.Host host) bytes = injected_host_else name (seat_named (seats_of topo) host) (target.Host host) bytes

-- ---- deliveries

seat_else : (topo : Topology) (tr : List Entry) (name : List ℕ) (seat : Option Seat) (bytes : List ℕ) → IsOtherHost name seat → AreElsewhere name (arrives_at_seat topo tr seat bytes).events
seat_else topo tr name None bytes other = tt
seat_else topo tr name (Some seat) bytes other = elsewhere seat.name name _ other (at_host_of (standing topo tr seat) bytes)

router_else : (topo : Topology) (tr : List Entry) (name : List ℕ) (place : ℕ) (self : Option Router) (port : ℕ) (bytes : List ℕ) → IfSome self (λ s. bytes_eq s.name name ≡ false)
    → AreElsewhere name (arrives_at_router topo tr place self port bytes).events
router_else topo tr name place None port bytes other = tt
router_else topo tr name place (Some self) port bytes other = elsewhere self.name name _ other (at_router_of topo tr (record { place = place; self = self; port = port }) bytes)

-- the hosts that stand at such a place have another name
abbrev pub OtherHosts : Topology → List ℕ → Option ℕ → Type 0
OtherHosts topo name place = (q : ℕ) (seat : Seat) → place ≡ Some q → slice_get (seats_of topo) q ≡ Some seat → bytes_eq seat.name name ≡ false

-- the routers at such a place have another name
abbrev pub OtherRouters : Topology → List ℕ → Option ℕ → Type 0
OtherRouters topo name place = (q : ℕ) (self : Router) → place ≡ Some q → slice_get topo.routers q ≡ Some self → bytes_eq self.name name ≡ false

some_if : {A : Type 0} (P : A → Type 0) (o : Option A) → ((x : A) → o ≡ Some x → P x) → IfSome o P
some_if P None h = tt
some_if P (Some x) h = h x refl

at_place : {A : Type 0} (P : A → Type 0) (xs : List A) (place : Option ℕ) → ((q : ℕ) (x : A) → place ≡ Some q → slice_get xs q ≡ Some x → P x) → IfSome (option_and_then (λ n. slice_get xs n) place) P
at_place P xs None h = tt
at_place P xs (Some q) h = some_if P (slice_get xs q) (λ x e. h q x refl e)

other_seat : (topo : Topology) (name host : List ℕ) → OtherHosts topo name (seat_place (seats_of topo) host) → IsOtherHost name (seat_named (seats_of topo) host)
other_seat topo name host h =
    subst (λ (o : Option Seat). IsOtherHost name o) (found_at (λ (seat : Seat). bytes_eq seat.name host) (seats_of topo))
    (at_place (λ (s : Seat). bytes_eq s.name name ≡ false) (seats_of topo) (seat_place (seats_of topo) host) h)

port_else : (topo : Topology) (tr : List Entry) (name : List ℕ) (place : Option ℕ) (port : ℕ) (bytes : List ℕ) → OtherRouters topo name place → AreElsewhere name (arrives_at_port topo tr place port bytes).events
port_else topo tr name None port bytes h = tt
port_else topo tr name (Some place) port bytes h =
    router_else topo tr name place (slice_get topo.routers place) port bytes (some_if (λ (s : Router). bytes_eq s.name name ≡ false) (slice_get topo.routers place) (λ s e. h place s refl e))

target_else : (topo : Topology) (tr : List Entry) (name : List ℕ) (to : Target) (bytes : List ℕ)
    → OtherHosts topo name (option_and_then (λ host. seat_place (seats_of topo) host) (host_at to))
    → OtherRouters topo name (option_and_then (λ router. place_of_router topo.routers router) (router_at to))
    → AreElsewhere name (arrives topo tr to bytes).events
target_else topo tr name (target.Port router port) bytes hosts routers = port_else topo tr name (place_of_router topo.routers router) port bytes routers
target_else topo tr name (target.Host host) bytes hosts routers = seat_else topo tr name (seat_named (seats_of topo) host) bytes (other_seat topo name host hosts)

delivered_else : (topo : Topology) (tr : List Entry) (name : List ℕ) (flight : Option Flight)
    → OtherHosts topo name (option_and_then (λ host. seat_place (seats_of topo) host) (option_and_then (λ f. host_at f.target) flight))
    → OtherRouters topo name (option_and_then (λ router. place_of_router topo.routers router) (option_and_then (λ f. router_at f.target) flight))
    → IsElsewhere name (delivered topo tr flight)
delivered_else topo tr name None hosts routers = tt
delivered_else topo tr name (Some flight) hosts routers = target_else topo tr name flight.target flight.bytes hosts routers

-- the event of a publication names no node
abbrev NamesNone : List ℕ → Event → Type 0
NamesNone name event = names (node_of event) name ≡ false

published_else : (tr : List Entry) (name bytes : List ℕ) → IsElsewhere name (published tr bytes)
published_else tr name bytes =
    unless name (nat_lt most_bytes (length bytes)) fault.Range (Ok (publishes (records_kept tr) bytes))
    (of_publication (NamesNone name) (λ ad other number until. refl) (λ ad other number until. refl) (λ number. refl) (records_kept tr) bytes, tt)

-- ---- the whole

-- where the nodes that an input reaches have other names, so have the nodes of its events
pub outcome_else : (topo : Topology) (tr : List Entry) (name : List ℕ) (input : Input) → OtherHosts topo name (host_touched topo (flights_of tr) input)
    → OtherRouters topo name (router_touched topo (flights_of tr) input) → IsElsewhere name (outcome_of topo tr input)
outcome_else topo tr name (Tick ticks) hosts routers = unless name ((ticks == 0) || nat_le (2 ^ 48) (now_of tr + ticks)) fault.Range (Ok nothing) tt
outcome_else topo tr name (Send host node packet body) hosts routers = sent_else topo tr name (seat_named (seats_of topo) host) (address_named topo node) packet body (other_seat topo name host hosts)
outcome_else topo tr name (Raw host bytes) hosts routers = raw_else topo tr name (seat_named (seats_of topo) host) bytes (other_seat topo name host hosts)
outcome_else topo tr name (Deliver flight) hosts routers = delivered_else topo tr name (flight_at tr flight) hosts routers
outcome_else topo tr name (Inject to bytes) hosts routers = injected_else topo name to bytes
outcome_else topo tr name (Cut link) hosts routers = where_allowed name (nat_lt link (length (links_of topo))) fault.Range (Ok nothing) tt
outcome_else topo tr name (Mend link) hosts routers = where_allowed name (nat_lt link (length (links_of topo))) fault.Range (Ok nothing) tt
outcome_else topo tr name (Shutoff host flight ttl) hosts routers = shut_else topo tr name (seat_named (seats_of topo) host) (flight_at tr flight) ttl (other_seat topo name host hosts)
outcome_else topo tr name (Restart node) hosts routers = restart_else topo tr name (seat_named (seats_of topo) node) (place_of_router topo.routers node) (other_seat topo name node hosts)
outcome_else topo tr name (Stop host call byte) hosts routers = stop_else topo name (seat_named (seats_of topo) host) call byte
outcome_else topo tr name (Halt host call byte) hosts routers = halt_else name (seat_named (seats_of topo) host) call byte
outcome_else topo tr name (Publish bytes) hosts routers = published_else tr name bytes
