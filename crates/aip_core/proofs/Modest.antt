-- A step by what is kept puts at most one flight, of at most 9,216 bytes.
use Rattle.std.proofs.Common.{◌≡◌, ℕ, zero, suc, ◌+◌, ◌≤◌, ◌^◌, ◌==◌, ◌||◌, Bool, true, false, cond, List, [], ◌∷◌, length, map, Option, Some, None, Result, Ok, Err, refl, ap, subst, sym, arith, lit≤}
use Rattle.std.specs.Prelude.{IfOk, IfSome, nat_le, nat_lt, slice_get, option_and_then}
use Rattle.std.specs.List.{AllByRecursion}
use Rattle.std.proofs.lemmas.List.{length-append}
use Rattle.aip_addr.specs.declared.ids.Address.{Address}
use Rattle.aip_frame.specs.declared.frame.Frame.{Frame}
use Rattle.aip_frame.specs.Frame.{Fits, frame_bytes, most_body}
use Rattle.aip_event.specs.declared.event.Event.{Event}
use Rattle.aip_event.specs.declared.input.Input.{Input}
use Rattle.aip_event.specs.declared.input.Input.TheVariants.{Tick, Send, Raw, Deliver, Inject, Cut, Mend, Shutoff, Restart, Stop, Halt, Publish}
use Rattle.aip_event.specs.declared.input.Target.{Target}
use Rattle.aip_event.specs.declared.input.Target.TheVariants as target
use Rattle.aip_topo.specs.Sound.{IsSound}
use Rattle.aip_topo.specs.declared.topology.Topology.{Topology}
use Rattle.lms_core.specs.Tree.{Key}
use Rattle.aip_registry.specs.declared.records.Record.{Record}
use Rattle.aip_rules.specs.declared.Flight.{Flight}
use Rattle.aip_rules.specs.declared.Reaction.{Reaction}
use Rattle.aip_rules.specs.declared.Seat.{Seat}
use Rattle.aip_rules.specs.declared.StepFault.{StepFault}
use Rattle.aip_rules.specs.declared.StepFault.TheVariants as fault
use Rattle.aip_rules.specs.State.{frame_in}
use Rattle.aip_rules.specs.Nodes.{seats_of, seats_after, place_of_router, address_named}
use Rattle.aip_rules.specs.Reaction.{nothing, in_put, numbered}
use Rattle.aip_rules.specs.Records.{publishes}
use Rattle.aip_rules.specs.Host.{put_by, sent_frame}
use Rattle.aip_rules.specs.Step.{can_be_put, has_key, most_bytes, most_inputs, refused_if}
use Rattle.aip_rules.specs.Laws.{PutAtMostOne}
use Rattle.aip_rules.proofs.Sizes.{IsSizedAddress, HasSizedAddress, address_sized, all_routers_sized, hosts_sized, router_at_sized}
use Rattle.aip_rules.proofs.Modest.{IsCalm, IsModest, IsModestOutcome, happens_modest, nothing_modest, unless, where_allowed, modest_puts}
use Rattle.aip_rules.proofs.Publications.{of_publication}
use Rattle.aip_rules.proofs.PutsHost.{put_by_modest, shut_by_modest, at_host_modest, back_up_modest}
use Rattle.aip_rules.proofs.Puts.{short_put, sent_short, injected_modest, flight_fits}
use Rattle.aip_host.specs.HostState.{HostState, key_in, standing_of}
use Rattle.aip_core.specs.Kept.{Kept}
use Rattle.aip_core.specs.RouterMachine.{RouterState}
use Rattle.aip_core.specs.Machine.{AreSeated, basis_in, seat_place, host_of, kept_sent, kept_raw, kept_heard, kept_shut_with, kept_shut_named, kept_stop, kept_halt, host_outcome, at_host_or, router_reached, port_reached, target_reached, kept_delivered, kept_published, router_restarted, kept_outcome}
use Rattle.aip_core.specs.Moves.{IsKeptStep, kept_after}
use Rattle.aip_core.proofs.RouterModest.{place_modest}

-- ---- at a host

sent_modest : (now : ℕ) (host : HostState) (to : Option Address) (packet : ℕ) (body : List ℕ) → HasSizedAddress host.seat → IfSome to IsSizedAddress → IsModestOutcome (kept_sent now host to packet body)
sent_modest now host None packet body s t = tt
sent_modest now host (Some to) packet body s t =
    let bytes = frame_bytes (sent_frame to host.seat.address packet body) in
    unless (nat_le (2 ^ 32) packet || nat_lt most_body (length body)) fault.Range (Ok (put_by (standing_of host now) bytes))
    (λ e. put_by_modest (standing_of host now) bytes (sent_short to host.seat.address packet body t s e))

raw_modest : (now : ℕ) (host : HostState) (bytes : List ℕ) → IsModestOutcome (kept_raw now host bytes)
raw_modest now host bytes =
    where_allowed (can_be_put (length bytes)) fault.Range (Ok (put_by (standing_of host now) bytes)) (λ e. put_by_modest (standing_of host now) bytes (short_put (length bytes) e))

heard_modest : (now : ℕ) (host : HostState) (flight : Option Flight) → HasSizedAddress host.seat → IsModestOutcome (kept_heard now host flight)
heard_modest now host None s = tt
heard_modest now host (Some flight) s = at_host_modest (standing_of host now) flight.bytes s

shut_with_modest : (now : ℕ) (host : HostState) (named : Frame) (ttl : ℕ) (key : Option Key) → HasSizedAddress host.seat → Fits named → IsModestOutcome (kept_shut_with now host named ttl key)
shut_with_modest now host named ttl None s fits = tt
shut_with_modest now host named ttl (Some key) s fits = shut_by_modest (standing_of host now) key named ttl s fits

shut_modest : (now : ℕ) (host : HostState) (named : Option Frame) (ttl : ℕ) → HasSizedAddress host.seat → IfSome named Fits → IsModestOutcome (kept_shut_named now host named ttl)
shut_modest now host None ttl s fits = tt
shut_modest now host (Some named) ttl s fits =
    unless (nat_le (2 ^ 32) ttl) fault.Range (kept_shut_with now host named ttl (key_in host.key)) (λ e. shut_with_modest now host named ttl (key_in host.key) s fits)

stop_modest : (host : HostState) (call byte : ℕ) → IsModestOutcome (kept_stop host call byte)
stop_modest host call byte =
    unless ((call == 0) || (nat_lt 2 call || nat_le 256 byte)) fault.Range (cond (has_key (key_in host.key)) (Ok nothing) (Err fault.Keyless))
    (λ e. where_allowed (has_key (key_in host.key)) fault.Keyless (Ok nothing) (λ e. nothing_modest))

halt_modest : (call byte : ℕ) → IsModestOutcome (kept_halt call byte)
halt_modest call byte = unless ((call == 0) || (nat_lt 4 call || nat_le 256 byte)) fault.Range (Ok nothing) (λ e. nothing_modest)

host_modest : (topo : Topology) (flights : List Flight) (now : ℕ) (host : HostState) (input : Input) → IsSound topo → HasSizedAddress host.seat → IsModestOutcome (host_outcome topo flights now host input)
host_modest topo flights now host (Send name node packet body) sound s = sent_modest now host (address_named topo node) packet body s (address_sized topo node sound)
host_modest topo flights now host (Raw name bytes) sound s = raw_modest now host bytes
host_modest topo flights now host (Deliver flight) sound s = heard_modest now host (slice_get flights flight) s
host_modest topo flights now host (Shutoff name flight ttl) sound s = shut_modest now host (frame_in (slice_get flights flight)) ttl s (flight_fits (slice_get flights flight))
host_modest topo flights now host (Restart node) sound s = back_up_modest (standing_of host now)
host_modest topo flights now host (Stop name call byte) sound s = stop_modest host call byte
host_modest topo flights now host (Halt name call byte) sound s = halt_modest call byte
host_modest topo flights now host (Tick ticks) sound s = nothing_modest
host_modest topo flights now host (Inject to bytes) sound s = nothing_modest
host_modest topo flights now host (Cut link) sound s = nothing_modest
host_modest topo flights now host (Mend link) sound s = nothing_modest
host_modest topo flights now host (Publish bytes) sound s = nothing_modest

-- ---- the hosts have addresses of their size

at_seats : (hosts : List HostState) (k : ℕ) → AllByRecursion HasSizedAddress (map (λ host. host.seat) hosts) → IfSome (slice_get hosts k) (λ host. HasSizedAddress host.seat)
at_seats [] k h = tt
at_seats (host ∷ hosts) zero h = h.0
at_seats (host ∷ hosts) (suc k) h = at_seats hosts k h.1

at_seats_if : (hosts : List HostState) (place : Option ℕ) → AllByRecursion HasSizedAddress (map (λ host. host.seat) hosts)
    → IfSome (option_and_then (λ k. slice_get hosts k) place) (λ host. HasSizedAddress host.seat)
at_seats_if hosts None h = tt
at_seats_if hosts (Some k) h = at_seats hosts k h

host_sized : (kept : Kept) (name : List ℕ) → IsSound kept.topo → AreSeated kept.topo kept.hosts → IfSome (host_of kept name) (λ host. HasSizedAddress host.seat)
host_sized kept name sound seated =
    at_seats_if kept.hosts (seat_place (seats_of kept.topo) name)
    (subst (λ (ss : List Seat). AllByRecursion HasSizedAddress ss) (sym seated)
    (hosts_sized kept.topo.routers [] kept.topo.parts (all_routers_sized kept.topo sound) sound.parts))

-- ---- the whole

at_host_modest_or : (other : Result Reaction StepFault) (kept : Kept) (input : Input) (host : Option HostState) → IsSound kept.topo → IsModestOutcome other → IfSome host (λ h. HasSizedAddress h.seat)
    → IsModestOutcome (at_host_or other kept input host)
at_host_modest_or other kept input None sound modest s = modest
at_host_modest_or other kept input (Some host) sound modest s = host_modest kept.topo kept.flights kept.ticks host input sound s

reached_modest : (kept : Kept) (place port : ℕ) (bytes : List ℕ) (state : Option RouterState) → IsSound kept.topo → IsModest (router_reached kept place port bytes state)
reached_modest kept place port bytes None sound = nothing_modest
reached_modest kept place port bytes (Some state) sound =
    place_modest (basis_in kept state) place (slice_get kept.topo.routers place) port bytes (router_at_sized kept.topo place sound)

port_modest : (kept : Kept) (place : Option ℕ) (port : ℕ) (bytes : List ℕ) → IsSound kept.topo → IsModest (port_reached kept place port bytes)
port_modest kept None port bytes sound = nothing_modest
port_modest kept (Some place) port bytes sound = reached_modest kept place port bytes (slice_get kept.routers place) sound

target_modest : (kept : Kept) (input : Input) (to : Target) (bytes : List ℕ) → IsSound kept.topo → AreSeated kept.topo kept.hosts → IsModestOutcome (target_reached kept input to bytes)
target_modest kept input (target.Port name port) bytes sound seated = port_modest kept (place_of_router kept.topo.routers name) port bytes sound
target_modest kept input (target.Host name) bytes sound seated = at_host_modest_or (Ok nothing) kept input (host_of kept name) sound nothing_modest (host_sized kept name sound seated)

delivered_modest : (kept : Kept) (input : Input) (flight : Option Flight) → IsSound kept.topo → AreSeated kept.topo kept.hosts → IsModestOutcome (kept_delivered kept input flight)
delivered_modest kept input None sound seated = tt
delivered_modest kept input (Some flight) sound seated = target_modest kept input flight.target flight.bytes sound seated

restarted_modest : (router : Option ℕ) → IsModestOutcome (router_restarted router)
restarted_modest None = tt
restarted_modest (Some place) = nothing_modest

published_modest : (records : List Record) (bytes : List ℕ) → IsModestOutcome (kept_published records bytes)
published_modest records bytes =
    unless (nat_lt most_bytes (length bytes)) fault.Range (Ok (publishes records bytes))
    (λ e. happens_modest _ (of_publication IsCalm (λ ad other number until. refl) (λ ad other number until. refl) (λ number. refl) records bytes))

outcome_modest : (kept : Kept) (input : Input) → IsSound kept.topo → AreSeated kept.topo kept.hosts → IsModestOutcome (kept_outcome kept input)
outcome_modest kept (Tick ticks) sound seated = unless ((ticks == 0) || nat_le (2 ^ 48) (kept.ticks + ticks)) fault.Range (Ok nothing) (λ e. nothing_modest)
outcome_modest kept (Send host node packet body) sound seated = at_host_modest_or (Err fault.Unknown) kept (Send host node packet body) (host_of kept host) sound tt (host_sized kept host sound seated)
outcome_modest kept (Raw host bytes) sound seated = at_host_modest_or (Err fault.Unknown) kept (Raw host bytes) (host_of kept host) sound tt (host_sized kept host sound seated)
outcome_modest kept (Deliver flight) sound seated = delivered_modest kept (Deliver flight) (slice_get kept.flights flight) sound seated
outcome_modest kept (Inject to bytes) sound seated = injected_modest kept.topo to bytes
outcome_modest kept (Cut link) sound seated = where_allowed (nat_lt link (length kept.links)) fault.Range (Ok nothing) (λ e. nothing_modest)
outcome_modest kept (Mend link) sound seated = where_allowed (nat_lt link (length kept.links)) fault.Range (Ok nothing) (λ e. nothing_modest)
outcome_modest kept (Shutoff host flight ttl) sound seated = at_host_modest_or (Err fault.Unknown) kept (Shutoff host flight ttl) (host_of kept host) sound tt (host_sized kept host sound seated)
outcome_modest kept (Restart node) sound seated =
    at_host_modest_or (router_restarted (place_of_router kept.topo.routers node)) kept (Restart node) (host_of kept node) sound (restarted_modest (place_of_router kept.topo.routers node)) (host_sized kept node sound seated)
outcome_modest kept (Stop host call byte) sound seated = at_host_modest_or (Err fault.Unknown) kept (Stop host call byte) (host_of kept host) sound tt (host_sized kept host sound seated)
outcome_modest kept (Halt host call byte) sound seated = at_host_modest_or (Err fault.Unknown) kept (Halt host call byte) (host_of kept host) sound tt (host_sized kept host sound seated)
outcome_modest kept (Publish bytes) sound seated = published_modest kept.records bytes

-- the events of a step put at most one flight
pub step_puts : (kept : Kept) (input : Input) (after : Kept) (events : List Event) → IsSound kept.topo → AreSeated kept.topo kept.hosts → IsKeptStep kept input after events → PutAtMostOne events
step_puts kept input after events sound seated step =
    let modest : IsModest step.reaction =
    subst (λ (o : Result Reaction StepFault). IsModestOutcome o) step.given
    (unless (nat_le most_inputs kept.inputs) fault.Many (kept_outcome kept input) (λ e. outcome_modest kept input sound seated)) in
    subst PutAtMostOne (sym step.events) (modest_puts (length kept.flights) step.reaction modest)

-- a reaction puts at most one flight
pub in_put_one : (put : Option Flight) → length (in_put put) ≤ 1
in_put_one None = lit≤ tt
in_put_one (Some flight) = lit≤ tt

-- a step adds at most one flight
pub step_adds : (kept : Kept) (input : Input) (after : Kept) (events : List Event) → IsKeptStep kept input after events → length after.flights ≤ length kept.flights + 1
step_adds kept input after events step =
    let same : length step.core.flights ≡ length kept.flights = ap (λ (fs : List Flight). length fs) step.moved.flights in
    subst (λ (k : Kept). length k.flights ≤ length kept.flights + 1) (sym step.after)
    (omega (arith, length-append step.core.flights (in_put step.reaction.put), in_put_one step.reaction.put))
