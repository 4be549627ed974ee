-- What a core makes of an input, as functions of what it keeps. Nothing above this crate reads them.
use Rattle.std.specs.Prelude.{◌≡◌, ℕ, ◌^◌, ◌==◌, ◌||◌, Bool, true, false, if◌then◌else◌, nat_lt, nat_le, List, length, map, position, slice_get, option_and_then, Option, Some, None, Result, Ok, Err}
use Rattle.std.specs.Str.{bytes_eq}
use Rattle.aip_addr.specs.declared.ids.Address.{Address}
use Rattle.aip_frame.specs.declared.frame.Frame.{Frame}
use Rattle.aip_frame.specs.Frame.{frame_bytes, most_body}
use Rattle.aip_event.specs.declared.input.Input.{Input}
use Rattle.aip_event.specs.declared.input.Input.TheVariants.{Tick, Send, Raw, Deliver, Inject, Cut, Mend, Shutoff, Restart, Stop, Halt, Publish}
use Rattle.aip_event.specs.declared.input.Target.{Target}
use Rattle.aip_event.specs.declared.input.Target.TheVariants as target
use Rattle.aip_topo.specs.declared.topology.Topology.{Topology}
use Rattle.lms_core.specs.Tree.{Key}
use Rattle.aip_registry.specs.declared.records.Record.{Record}
use Rattle.aip_rules.specs.declared.Flight.{Flight}
use Rattle.aip_rules.specs.declared.Reaction.{Reaction}
use Rattle.aip_rules.specs.declared.Seat.{Seat}
use Rattle.aip_rules.specs.declared.StepFault.{StepFault}
use Rattle.aip_rules.specs.declared.StepFault.TheVariants as fault
use Rattle.aip_rules.specs.State.{frame_in}
use Rattle.aip_rules.specs.Nodes.{seats_of, place_of_router, address_named}
use Rattle.aip_rules.specs.Reaction.{nothing, puts}
use Rattle.aip_rules.specs.Records.{publishes}
use Rattle.aip_rules.specs.Host.{at_host, back_up, put_by, sent_frame, shut_by}
use Rattle.aip_rules.specs.Step.{can_be_put, has_key, injected, most_bytes, most_inputs, refused_if, ticked}
use Rattle.domain_routes.specs.declared.Edge.{Edge}
use Rattle.aip_host.specs.HostState.{HostState, key_in, standing_of}
use Rattle.aip_core.specs.Kept.{Kept}
use Rattle.aip_core.specs.RouterMachine.{Basis, RouterState, kept_at_place}

-- the place of the host of this name
abbrev pub seat_place : List Seat → List ℕ → Option ℕ
seat_place seats name = position (λ seat. bytes_eq seat.name name) seats

-- what is kept of the host of this name
abbrev pub host_of : Kept → List ℕ → Option HostState
host_of kept name = option_and_then (λ place. slice_get kept.hosts place) (seat_place (seats_of kept.topo) name)

-- each host stands at its seat
abbrev pub AreSeated : Topology → List HostState → Type 0
AreSeated topo hosts = map (λ host. host.seat) hosts ≡ seats_of topo

-- ---- at a host

-- a data frame that a host sends
abbrev pub kept_sent : ℕ → HostState → Option Address → ℕ → List ℕ → Result Reaction StepFault
kept_sent now host None packet body = Err fault.Unknown
kept_sent now host (Some to) packet body =
    refused_if (nat_le (2 ^ 32) packet || nat_lt most_body (length body)) fault.Range
    (Ok (put_by (standing_of host now) (frame_bytes (sent_frame to host.seat.address packet body))))

-- bytes that a host puts as they are
abbrev pub kept_raw : ℕ → HostState → List ℕ → Result Reaction StepFault
kept_raw now host bytes = if can_be_put (length bytes) then Ok (put_by (standing_of host now) bytes) else Err fault.Range

-- a flight at the host that it is for, if it was put
abbrev pub kept_heard : ℕ → HostState → Option Flight → Result Reaction StepFault
kept_heard now host None = Err fault.NoFlight
kept_heard now host (Some flight) = Ok (at_host (standing_of host now) flight.bytes)

-- a shut-off that a host signs, if it has a key
abbrev pub kept_shut_with : ℕ → HostState → Frame → ℕ → Option Key → Result Reaction StepFault
kept_shut_with now host named ttl None = Err fault.Keyless
kept_shut_with now host named ttl (Some key) = Ok (shut_by (standing_of host now) key named ttl)

-- a shut-off of a frame, if there is one
abbrev pub kept_shut_named : ℕ → HostState → Option Frame → ℕ → Result Reaction StepFault
kept_shut_named now host None ttl = Err fault.NoFlight
kept_shut_named now host (Some named) ttl = refused_if (nat_le (2 ^ 32) ttl) fault.Range (kept_shut_with now host named ttl (key_in host.key))

-- a stop of a host's signing that is armed
abbrev pub kept_stop : HostState → ℕ → ℕ → Result Reaction StepFault
kept_stop host call byte =
    refused_if ((call == 0) || (nat_lt 2 call || nat_le 256 byte)) fault.Range
    (if has_key (key_in host.key) then Ok nothing else Err fault.Keyless)

-- a halt of a host's filter that is armed
abbrev pub kept_halt : ℕ → ℕ → Result Reaction StepFault
kept_halt call byte = refused_if ((call == 0) || (nat_lt 4 call || nat_le 256 byte)) fault.Range (Ok nothing)

-- the input lets a host act, stops, halts or restarts one, if it names one
abbrev pub is_at_host : Input → Bool
is_at_host (Send name node packet body) = true
is_at_host (Raw name bytes) = true
is_at_host (Deliver flight) = true
is_at_host (Shutoff name flight ttl) = true
is_at_host (Restart node) = true
is_at_host (Stop name call byte) = true
is_at_host (Halt name call byte) = true
is_at_host (Tick ticks) = false
is_at_host (Inject to bytes) = false
is_at_host (Cut link) = false
is_at_host (Mend link) = false
is_at_host (Publish bytes) = false

-- what comes of an input at the host that it lets act, stops, halts or restarts
abbrev pub host_outcome : Topology → List Flight → ℕ → HostState → Input → Result Reaction StepFault
host_outcome topo flights now host (Send name node packet body) = kept_sent now host (address_named topo node) packet body
host_outcome topo flights now host (Raw name bytes) = kept_raw now host bytes
host_outcome topo flights now host (Deliver flight) = kept_heard now host (slice_get flights flight)
host_outcome topo flights now host (Shutoff name flight ttl) = kept_shut_named now host (frame_in (slice_get flights flight)) ttl
host_outcome topo flights now host (Restart node) = Ok (back_up (standing_of host now))
host_outcome topo flights now host (Stop name call byte) = kept_stop host call byte
host_outcome topo flights now host (Halt name call byte) = kept_halt call byte
host_outcome topo flights now host (Tick ticks) = Ok nothing
host_outcome topo flights now host (Inject to bytes) = Ok nothing
host_outcome topo flights now host (Cut link) = Ok nothing
host_outcome topo flights now host (Mend link) = Ok nothing
host_outcome topo flights now host (Publish bytes) = Ok nothing

-- what comes of an input at a host, or else this
abbrev pub at_host_or : Result Reaction StepFault → Kept → Input → Option HostState → Result Reaction StepFault
at_host_or other kept input None = other
at_host_or other kept input (Some host) = host_outcome kept.topo kept.flights kept.ticks host input

-- ---- at a router

-- what a router goes by that keeps this
abbrev pub basis_in : Kept → RouterState → Basis
basis_in kept state = record { topo = kept.topo; links = kept.links; records = kept.records; state = state; now = kept.ticks }

-- bytes at a port of the router at a place that keeps this
abbrev pub router_reached : Kept → ℕ → ℕ → List ℕ → Option RouterState → Reaction
router_reached kept place port bytes None = nothing
router_reached kept place port bytes (Some state) = kept_at_place (basis_in kept state) place (slice_get kept.topo.routers place) port bytes

-- bytes at a port of a router, if there is one at a place
abbrev pub port_reached : Kept → Option ℕ → ℕ → List ℕ → Reaction
port_reached kept None port bytes = nothing
port_reached kept (Some place) port bytes = router_reached kept place port bytes (slice_get kept.routers place)

-- ---- the whole

-- a flight that is delivered, towards its target
abbrev pub target_reached : Kept → Input → Target → List ℕ → Result Reaction StepFault
target_reached kept input (target.Port name port) bytes = Ok (port_reached kept (place_of_router kept.topo.routers name) port bytes)
target_reached kept input (target.Host name) bytes = at_host_or (Ok nothing) kept input (host_of kept name)

-- a flight that is delivered, if it was put
abbrev pub kept_delivered : Kept → Input → Option Flight → Result Reaction StepFault
kept_delivered kept input None = Err fault.NoFlight
kept_delivered kept input (Some flight) = target_reached kept input flight.target flight.bytes

-- bytes that come from outside towards a target, unless something hinders them
abbrev pub unless_hindered : Option StepFault → Target → List ℕ → Result Reaction StepFault
unless_hindered (Some f) to bytes = Err f
unless_hindered None to bytes = if can_be_put (length bytes) then Ok (puts to bytes) else Err fault.Range

-- a link that is cut or mended
abbrev pub kept_relinked : List Edge → ℕ → Result Reaction StepFault
kept_relinked links link = if nat_lt link (length links) then Ok nothing else Err fault.Range

-- bytes that are published to the records that are kept
abbrev pub kept_published : List Record → List ℕ → Result Reaction StepFault
kept_published records bytes = refused_if (nat_lt most_bytes (length bytes)) fault.Range (Ok (publishes records bytes))

-- a router that starts anew, if there is one
abbrev pub router_restarted : Option ℕ → Result Reaction StepFault
router_restarted None = Err fault.Unknown
router_restarted (Some place) = Ok nothing

-- what comes of an input, where one more may be taken
abbrev pub kept_outcome : Kept → Input → Result Reaction StepFault
kept_outcome kept (Tick ticks) = ticked kept.ticks ticks
kept_outcome kept (Send host node packet body) = at_host_or (Err fault.Unknown) kept (Send host node packet body) (host_of kept host)
kept_outcome kept (Raw host bytes) = at_host_or (Err fault.Unknown) kept (Raw host bytes) (host_of kept host)
kept_outcome kept (Deliver flight) = kept_delivered kept (Deliver flight) (slice_get kept.flights flight)
kept_outcome kept (Inject to bytes) = injected kept.topo to bytes
kept_outcome kept (Cut link) = kept_relinked kept.links link
kept_outcome kept (Mend link) = kept_relinked kept.links link
kept_outcome kept (Shutoff host flight ttl) = at_host_or (Err fault.Unknown) kept (Shutoff host flight ttl) (host_of kept host)
kept_outcome kept (Restart node) = at_host_or (router_restarted (place_of_router kept.topo.routers node)) kept (Restart node) (host_of kept node)
kept_outcome kept (Stop host call byte) = at_host_or (Err fault.Unknown) kept (Stop host call byte) (host_of kept host)
kept_outcome kept (Halt host call byte) = at_host_or (Err fault.Unknown) kept (Halt host call byte) (host_of kept host)
kept_outcome kept (Publish bytes) = kept_published kept.records bytes

-- what comes of an input
abbrev pub kept_reaction : Kept → Input → Result Reaction StepFault
kept_reaction kept input = refused_if (nat_le most_inputs kept.inputs) fault.Many (kept_outcome kept input)
