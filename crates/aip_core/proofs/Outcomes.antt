-- What comes of an input by what is kept is what the rules give.
use Rattle.std.proofs.Common.{◌≡◌, ℕ, ◌^◌, ◌==◌, ◌||◌, Bool, true, false, cond, List, length, Option, Some, None, Result, Ok, Err, refl, sym, ◌∙◌, ap, subst}
use Rattle.std.specs.Prelude.{nat_le, nat_lt, slice_get, option_and_then}
use Rattle.aip_addr.specs.declared.ids.Address.{Address}
use Rattle.aip_frame.specs.declared.frame.Frame.{Frame}
use Rattle.aip_frame.specs.Frame.{frame_of, frame_bytes, most_body}
use Rattle.aip_event.specs.declared.input.Input.{Input}
use Rattle.aip_event.specs.declared.input.Input.TheVariants.{Tick, Send, Raw, Deliver, Inject, Cut, Mend, Shutoff, Restart, Stop, Halt, Publish}
use Rattle.aip_event.specs.declared.input.Target.{Target}
use Rattle.aip_event.specs.declared.input.Target.TheVariants as target
use Rattle.aip_topo.specs.declared.topology.Router.{Router}
use Rattle.aip_topo.specs.declared.topology.Topology.{Topology}
use Rattle.lms_core.specs.Tree.{Key}
use Rattle.aip_rules.specs.declared.Entry.{Entry}
use Rattle.aip_rules.specs.declared.Flight.{Flight}
use Rattle.aip_rules.specs.declared.Reaction.{Reaction}
use Rattle.aip_rules.specs.declared.Seat.{Seat}
use Rattle.aip_rules.specs.declared.StepFault.{StepFault}
use Rattle.aip_rules.specs.declared.StepFault.TheVariants as fault
use Rattle.aip_rules.specs.State.{now_of, input_count, flights_of, flight_at, frame_in}
use Rattle.aip_rules.specs.Nodes.{seats_of, seat_named, place_of_router, address_named, key_named}
use Rattle.aip_rules.specs.Routes.{links_now}
use Rattle.aip_rules.specs.Reaction.{nothing}
use Rattle.aip_rules.specs.Records.{records_kept}
use Rattle.aip_rules.specs.Standing.{standing}
use Rattle.aip_rules.specs.Host.{at_host, back_up, put_by, sent_frame, shut_by}
use Rattle.aip_rules.specs.Router.{Arrival}
use Rattle.aip_rules.specs.Step.{can_be_put, has_key, most_inputs, refused_if, sent, put_raw, arrives_at_router, arrives_at_port, arrives_at_seat, arrives, delivered, relinked, shut_with, shut_named, shut_off, restarted, armed_with_stop, armed_with_halt, outcome_of, reaction_of}
use Rattle.aip_host.specs.HostState.{HostState, key_in, standing_of}
use Rattle.aip_host.specs.StandsFor.{HostStandsFor}
use Rattle.aip_core.specs.Kept.{Kept}
use Rattle.aip_core.specs.RouterMachine.{RouterState, kept_at_place}
use Rattle.aip_core.specs.Machine.{basis_in, host_of, kept_sent, kept_raw, kept_heard, kept_shut_with, kept_shut_named, kept_stop, kept_halt, host_outcome, at_host_or, router_reached, port_reached, target_reached, kept_delivered, kept_relinked, router_restarted, kept_outcome, kept_reaction}
use Rattle.aip_core.specs.RouterStands.{RoutersStand}
use Rattle.aip_core.specs.StandsFor.{HostsStand, StandsFor}
use Rattle.aip_host.proofs.Corresponds.{arrives_as, puts_as, shuts_as, restarts_as}
use Rattle.aip_core.proofs.RouterReacts.{reacts}
use Rattle.aip_core.proofs.LinksNow.{length-links_now}
use Rattle.aip_core.proofs.Found.{HostBoth, RouterBoth, host_found, router_found}

-- what is kept of a trace, with these hosts and these states of routers
abbrev pub kept_of : Topology → List Entry → List HostState → List RouterState → Kept
kept_of topo tr hosts routers = record {
  topo = topo;
  links = links_now topo tr;
  flights = flights_of tr;
  hosts = hosts;
  routers = routers;
  records = records_kept tr;
  ticks = now_of tr;
  inputs = input_count tr;
}

sent_here : (topo : Topology) (tr : List Entry) (seat : Seat) (host : HostState) (to : Option Address) (packet : ℕ) (body : List ℕ) → HostStandsFor topo tr seat host
    → kept_sent (now_of tr) host to packet body ≡ sent topo tr (Some seat) to packet body
sent_here topo tr seat host None packet body h = refl
sent_here topo tr seat host (Some to) packet body h =
    let wrong = nat_le (2 ^ 32) packet || nat_lt most_body (length body) in
    ap (λ (s : Seat). refused_if wrong fault.Range (Ok (put_by (standing_of host (now_of tr)) (frame_bytes (sent_frame to s.address packet body))))) h.seat
    ∙ ap (λ (r : Reaction). refused_if wrong fault.Range (Ok r)) (puts_as topo tr seat host h (frame_bytes (sent_frame to seat.address packet body)))

sent_is : (topo : Topology) (tr : List Entry) (kept : Kept) (name node : List ℕ) (packet : ℕ) (body : List ℕ) (seat : Option Seat) (host : Option HostState)
    → kept.topo ≡ topo → kept.ticks ≡ now_of tr → HostBoth topo tr seat host
    → at_host_or (Err fault.Unknown) kept (Send name node packet body) host ≡ sent topo tr seat (address_named topo node) packet body
sent_is topo tr kept name node packet body None None t n h = refl
sent_is topo tr kept name node packet body (Some seat) (Some host) t n h =
    ap (λ (x : Topology). kept_sent kept.ticks host (address_named x node) packet body) t
    ∙ ap (λ now. kept_sent now host (address_named topo node) packet body) n
    ∙ sent_here topo tr seat host (address_named topo node) packet body h
sent_is topo tr kept name node packet body None (Some host) t n h = absurd h
sent_is topo tr kept name node packet body (Some seat) None t n h = absurd h

raw_is : (topo : Topology) (tr : List Entry) (hosts : List HostState) (routers : List RouterState) (name bytes : List ℕ) (seat : Option Seat) (host : Option HostState)
    → HostBoth topo tr seat host
    → at_host_or (Err fault.Unknown) (kept_of topo tr hosts routers) (Raw name bytes) host ≡ put_raw topo tr seat bytes
raw_is topo tr hosts routers name bytes None None h = refl
raw_is topo tr hosts routers name bytes (Some seat) (Some host) h =
    ap (λ (r : Reaction). cond (can_be_put (length bytes)) (Ok r) (Err fault.Range)) (puts_as topo tr seat host h bytes)
raw_is topo tr hosts routers name bytes None (Some host) h = absurd h
raw_is topo tr hosts routers name bytes (Some seat) None h = absurd h

shut_with_is : (topo : Topology) (tr : List Entry) (seat : Seat) (host : HostState) (named : Frame) (ttl : ℕ) (key : Option Key) → HostStandsFor topo tr seat host
    → kept_shut_with (now_of tr) host named ttl key ≡ shut_with topo tr seat named ttl key
shut_with_is topo tr seat host named ttl None h = refl
shut_with_is topo tr seat host named ttl (Some key) h = ap (λ (r : Reaction). Ok r) (shuts_as topo tr seat host h key named ttl)

shut_named_is : (topo : Topology) (tr : List Entry) (seat : Seat) (host : HostState) (named : Option Frame) (ttl : ℕ) → HostStandsFor topo tr seat host
    → kept_shut_named (now_of tr) host named ttl ≡ shut_named topo tr seat named ttl
shut_named_is topo tr seat host None ttl h = refl
shut_named_is topo tr seat host (Some named) ttl h =
    ap (λ (r : Result Reaction StepFault). refused_if (nat_le (2 ^ 32) ttl) fault.Range r)
    (ap (λ (k : Option Key). kept_shut_with (now_of tr) host named ttl k) h.key
    ∙ shut_with_is topo tr seat host named ttl (key_named topo.parts seat.name) h)

shut_off_is : (topo : Topology) (tr : List Entry) (hosts : List HostState) (routers : List RouterState) (name : List ℕ) (flight ttl : ℕ) (seat : Option Seat) (host : Option HostState)
    → HostBoth topo tr seat host
    → at_host_or (Err fault.Unknown) (kept_of topo tr hosts routers) (Shutoff name flight ttl) host ≡ shut_off topo tr seat (flight_at tr flight) ttl
shut_off_is topo tr hosts routers name flight ttl None None h = refl
shut_off_is topo tr hosts routers name flight ttl (Some seat) (Some host) h = shut_named_is topo tr seat host (frame_in (flight_at tr flight)) ttl h
shut_off_is topo tr hosts routers name flight ttl None (Some host) h = absurd h
shut_off_is topo tr hosts routers name flight ttl (Some seat) None h = absurd h

router_restarts : (topo : Topology) (tr : List Entry) (router : Option ℕ) → router_restarted router ≡ restarted topo tr None router
router_restarts topo tr None = refl
router_restarts topo tr (Some place) = refl

restart_is : (topo : Topology) (tr : List Entry) (hosts : List HostState) (routers : List RouterState) (node : List ℕ) (router : Option ℕ) (seat : Option Seat) (host : Option HostState)
    → HostBoth topo tr seat host
    → at_host_or (router_restarted router) (kept_of topo tr hosts routers) (Restart node) host ≡ restarted topo tr seat router
restart_is topo tr hosts routers node router None None h = router_restarts topo tr router
restart_is topo tr hosts routers node router (Some seat) (Some host) h = ap (λ (r : Reaction). Ok r) (restarts_as topo tr seat host h)
restart_is topo tr hosts routers node router None (Some host) h = absurd h
restart_is topo tr hosts routers node router (Some seat) None h = absurd h

stop_is : (topo : Topology) (tr : List Entry) (hosts : List HostState) (routers : List RouterState) (name : List ℕ) (call byte : ℕ) (seat : Option Seat) (host : Option HostState)
    → HostBoth topo tr seat host
    → at_host_or (Err fault.Unknown) (kept_of topo tr hosts routers) (Stop name call byte) host ≡ armed_with_stop topo seat call byte
stop_is topo tr hosts routers name call byte None None h = refl
stop_is topo tr hosts routers name call byte (Some seat) (Some host) h =
    ap (λ (k : Option Key). refused_if ((call == 0) || (nat_lt 2 call || nat_le 256 byte)) fault.Range (cond (has_key k) (Ok nothing) (Err fault.Keyless))) h.key
stop_is topo tr hosts routers name call byte None (Some host) h = absurd h
stop_is topo tr hosts routers name call byte (Some seat) None h = absurd h

halt_is : (topo : Topology) (tr : List Entry) (hosts : List HostState) (routers : List RouterState) (name : List ℕ) (call byte : ℕ) (seat : Option Seat) (host : Option HostState)
    → HostBoth topo tr seat host
    → at_host_or (Err fault.Unknown) (kept_of topo tr hosts routers) (Halt name call byte) host ≡ armed_with_halt seat call byte
halt_is topo tr hosts routers name call byte None None h = refl
halt_is topo tr hosts routers name call byte (Some seat) (Some host) h = refl
halt_is topo tr hosts routers name call byte None (Some host) h = absurd h
halt_is topo tr hosts routers name call byte (Some seat) None h = absurd h

-- ---- deliveries

heard_here : (topo : Topology) (tr : List Entry) (seat : Seat) (host : HostState) (found : Option Flight) (flight : Flight) → found ≡ Some flight → HostStandsFor topo tr seat host
    → kept_heard (now_of tr) host found ≡ Ok (at_host (standing topo tr seat) flight.bytes)
heard_here topo tr seat host found flight is h =
    ap (λ (o : Option Flight). kept_heard (now_of tr) host o) is ∙ ap (λ (r : Reaction). Ok r) (arrives_as topo tr seat host h flight.bytes)

host_reached : (topo : Topology) (tr : List Entry) (hosts : List HostState) (routers : List RouterState) (number : ℕ) (flight : Flight) (seat : Option Seat) (host : Option HostState)
    → flight_at tr number ≡ Some flight → HostBoth topo tr seat host
    → at_host_or (Ok nothing) (kept_of topo tr hosts routers) (Deliver number) host ≡ Ok (arrives_at_seat topo tr seat flight.bytes)
host_reached topo tr hosts routers number flight None None is h = refl
host_reached topo tr hosts routers number flight (Some seat) (Some host) is h = heard_here topo tr seat host (flight_at tr number) flight is h
host_reached topo tr hosts routers number flight None (Some host) is h = absurd h
host_reached topo tr hosts routers number flight (Some seat) None is h = absurd h

reached_at : (topo : Topology) (tr : List Entry) (hosts : List HostState) (routers : List RouterState) (place port : ℕ) (bytes : List ℕ) (self : Option Router) (state : Option RouterState)
    → slice_get topo.routers place ≡ self → RouterBoth topo tr self state
    → router_reached (kept_of topo tr hosts routers) place port bytes state ≡ arrives_at_router topo tr place self port bytes
reached_at topo tr hosts routers place port bytes None None at h = refl
reached_at topo tr hosts routers place port bytes (Some self) (Some state) at h =
    ap (λ (o : Option Router). kept_at_place (basis_in (kept_of topo tr hosts routers) state) place o port bytes) at
    ∙ reacts topo tr (basis_in (kept_of topo tr hosts routers) state) (record { place = place; self = self; port = port }) h bytes refl refl refl refl
reached_at topo tr hosts routers place port bytes None (Some state) at h = absurd h
reached_at topo tr hosts routers place port bytes (Some self) None at h = absurd h

port_is : (topo : Topology) (tr : List Entry) (hosts : List HostState) (routers : List RouterState) (place : Option ℕ) (port : ℕ) (bytes : List ℕ) → RoutersStand topo tr routers
    → port_reached (kept_of topo tr hosts routers) place port bytes ≡ arrives_at_port topo tr place port bytes
port_is topo tr hosts routers None port bytes h = refl
port_is topo tr hosts routers (Some place) port bytes h =
    reached_at topo tr hosts routers place port bytes (slice_get topo.routers place) (slice_get routers place) refl (router_found topo tr routers place h)

target_is : (topo : Topology) (tr : List Entry) (hosts : List HostState) (routers : List RouterState) (number : ℕ) (flight : Flight) (to : Target)
    → flight_at tr number ≡ Some flight → HostsStand topo tr hosts → RoutersStand topo tr routers
    → target_reached (kept_of topo tr hosts routers) (Deliver number) to flight.bytes ≡ Ok (arrives topo tr to flight.bytes)
target_is topo tr hosts routers number flight (target.Port name port) is h r = ap (λ (x : Reaction). Ok x) (port_is topo tr hosts routers (place_of_router topo.routers name) port flight.bytes r)
target_is topo tr hosts routers number flight (target.Host name) is h r =
    host_reached topo tr hosts routers number flight (seat_named (seats_of topo) name) (host_of (kept_of topo tr hosts routers) name) is (host_found topo tr hosts name h)

delivered_is : (topo : Topology) (tr : List Entry) (hosts : List HostState) (routers : List RouterState) (number : ℕ) (flight : Option Flight)
    → flight_at tr number ≡ flight → HostsStand topo tr hosts → RoutersStand topo tr routers
    → kept_delivered (kept_of topo tr hosts routers) (Deliver number) flight ≡ delivered topo tr flight
delivered_is topo tr hosts routers number None is h r = refl
delivered_is topo tr hosts routers number (Some flight) is h r = target_is topo tr hosts routers number flight flight.target is h r

relinked_is : (topo : Topology) (tr : List Entry) (link : ℕ) → kept_relinked (links_now topo tr) link ≡ relinked topo link
relinked_is topo tr link = ap (λ n. cond (nat_lt link n) (Ok nothing) (Err fault.Range)) (length-links_now topo tr)

-- ---- the whole

-- what comes of an input is what the rules give
pub outcome_is : (topo : Topology) (tr : List Entry) (hosts : List HostState) (routers : List RouterState) (input : Input) → HostsStand topo tr hosts → RoutersStand topo tr routers
    → kept_outcome (kept_of topo tr hosts routers) input ≡ outcome_of topo tr input
outcome_is topo tr hosts routers (Tick ticks) h r = refl
outcome_is topo tr hosts routers (Send host node packet body) h r =
    sent_is topo tr (kept_of topo tr hosts routers) host node packet body (seat_named (seats_of topo) host) (host_of (kept_of topo tr hosts routers) host) refl refl (host_found topo tr hosts host h)
outcome_is topo tr hosts routers (Raw host bytes) h r =
    raw_is topo tr hosts routers host bytes (seat_named (seats_of topo) host) (host_of (kept_of topo tr hosts routers) host) (host_found topo tr hosts host h)
outcome_is topo tr hosts routers (Deliver flight) h r = delivered_is topo tr hosts routers flight (flight_at tr flight) refl h r
outcome_is topo tr hosts routers (Inject to bytes) h r = refl
outcome_is topo tr hosts routers (Cut link) h r = relinked_is topo tr link
outcome_is topo tr hosts routers (Mend link) h r = relinked_is topo tr link
outcome_is topo tr hosts routers (Shutoff host flight ttl) h r =
    shut_off_is topo tr hosts routers host flight ttl (seat_named (seats_of topo) host) (host_of (kept_of topo tr hosts routers) host) (host_found topo tr hosts host h)
outcome_is topo tr hosts routers (Restart node) h r =
    restart_is topo tr hosts routers node (place_of_router topo.routers node) (seat_named (seats_of topo) node) (host_of (kept_of topo tr hosts routers) node) (host_found topo tr hosts node h)
outcome_is topo tr hosts routers (Stop host call byte) h r =
    stop_is topo tr hosts routers host call byte (seat_named (seats_of topo) host) (host_of (kept_of topo tr hosts routers) host) (host_found topo tr hosts host h)
outcome_is topo tr hosts routers (Halt host call byte) h r =
    halt_is topo tr hosts routers host call byte (seat_named (seats_of topo) host) (host_of (kept_of topo tr hosts routers) host) (host_found topo tr hosts host h)
outcome_is topo tr hosts routers (Publish bytes) h r = refl

-- and so is the reaction
pub reaction_is : (topo : Topology) (tr : List Entry) (hosts : List HostState) (routers : List RouterState) (input : Input) → HostsStand topo tr hosts → RoutersStand topo tr routers
    → kept_reaction (kept_of topo tr hosts routers) input ≡ reaction_of topo tr input
reaction_is topo tr hosts routers input h r =
    ap (λ (outcome : Result Reaction StepFault). refused_if (nat_le most_inputs (input_count tr)) fault.Many outcome) (outcome_is topo tr hosts routers input h r)
