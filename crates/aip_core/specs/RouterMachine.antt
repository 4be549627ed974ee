-- What a router makes of bytes that reach it, and what it keeps then, as functions of what it keeps. It goes by the rules'
-- own functions but for its looks at what it keeps. Nothing above this crate reads them.
use Rattle.std.specs.Prelude.{ℕ, ◌+◌, ◌&&◌, Bool, true, not, if◌then◌else◌, nat_le, List, Option, Some, None}
use Rattle.aip_addr.specs.declared.ids.Address.{Address}
use Rattle.aip_frame.specs.declared.frame.Frame.{Frame}
use Rattle.aip_frame.specs.Frame.{frame_of}
use Rattle.aip_event.specs.declared.event.Cause.TheVariants as cause
use Rattle.aip_event.specs.declared.event.Reason.TheVariants as reason
use Rattle.aip_topo.specs.declared.topology.Router.{Router}
use Rattle.aip_topo.specs.declared.topology.Settings.{Settings}
use Rattle.aip_topo.specs.declared.topology.Topology.{Topology}
use Rattle.domain_routes.specs.declared.Edge.{Edge}
use Rattle.accept_cache.specs.Keys.{pair_of, wildcard_of}
use Rattle.accept_cache.specs.Kept.{Kept as Accepted, nothing_kept, has_fresh, has_fresh_wild, is_promoted, after_hit, after_hit_wild, after_proved, after_promote}
use Rattle.verify_packet.specs.declared.responses.Checked.{Checked}
use Rattle.verify_packet.specs.declared.responses.Checked.TheVariants as checked
use Rattle.verify_packet.specs.Response.{response_verdict}
use Rattle.aip_registry.specs.declared.records.Record.{Record}
use Rattle.aip_rules.specs.declared.Neighbour.{Neighbour}
use Rattle.aip_rules.specs.declared.Reaction.{Reaction}
use Rattle.aip_rules.specs.declared.Verdict.{Verdict}
use Rattle.aip_rules.specs.declared.Verdict.TheVariants.{Forwards}
use Rattle.aip_rules.specs.Accepted.{limits_of}
use Rattle.aip_addr.specs.Ids.{is_same_address}
use Rattle.aip_rules.specs.Nodes.{neighbour_at}
use Rattle.aip_rules.specs.Routes.{port_over}
use Rattle.aip_rules.specs.Reaction.{nothing, dropped}
use Rattle.aip_rules.specs.Router.{Arrival, SourceKnown, forwarded, is_challenge, is_link, is_response, key_after, by_verdict, proved, refused, verdict_by}
use Rattle.aip_core.specs.declared.network.Network.{Network}
use Rattle.aip_core.specs.declared.router.Arrival.{Arrival as Reached}

-- what a router keeps: how often it was started anew, and what it accepted since
pub record RouterState : Type 0 where
  pub boot : ℕ
  pub cache : Accepted

-- where a flight arrives, without the time
abbrev pub arrival_of : Reached → Arrival
arrival_of at = record { place = at.place; self = at.own; port = at.port }

-- what a router keeps before any input
abbrev pub router_at_start : Settings → RouterState
router_at_start settings = record { boot = 0; cache = nothing_kept (limits_of settings) }

-- what a router keeps once it was started anew: one start more, and nothing accepted
abbrev pub started_anew : RouterState → RouterState
started_anew state = record { boot = state.boot + 1; cache = nothing_kept state.cache.limits }

-- ---- what it goes by

-- what a router goes by: the topology, the links as they are, the records that are kept, what it keeps itself, and the time
pub record Basis : Type 0 where
  pub topo : Topology
  pub links : List Edge
  pub records : List Record
  pub state : RouterState
  pub now : ℕ

-- what a router of a network goes by that keeps this at a time
abbrev pub basis_of : Network → RouterState → ℕ → Basis
basis_of network state now = record {
  topo = network.directory;
  links = network.wiring.links;
  records = network.registry;
  state = state;
  now = now;
}

-- ---- what it does

-- what is known of the source of a frame
abbrev pub kept_known : Basis → Arrival → Address → SourceKnown
kept_known basis at source = record {
  address = source;
  back = port_over basis.topo basis.links at.place at.self source;
  fresh = has_fresh basis.state.cache (pair_of source at.port) basis.now;
  wild = has_fresh_wild basis.state.cache (wildcard_of source.ad at.port) basis.now;
}

-- the verdict on the source of a frame, by what lies at the port at which it came
abbrev pub kept_verdict : Basis → Arrival → Option Neighbour → Address → Verdict
kept_verdict basis at neighbour source = verdict_by basis.topo basis.records basis.now at neighbour (kept_known basis at source)

-- a frame of a source that is checked, by what lies at the port at which it came
abbrev pub kept_judged : Basis → Arrival → Frame → ℕ → Option Neighbour → Reaction
kept_judged basis at frame out neighbour =
    by_verdict basis.topo (key_after basis.topo basis.state.boot at.place at.self) basis.now at frame out (kept_verdict basis at neighbour frame.from)

-- a frame that the router could put on the port `out`
abbrev pub kept_checked : Basis → Arrival → Frame → ℕ → Reaction
kept_checked basis at frame out =
    if not at.self.checking then forwarded basis.topo at out cause.Open frame else
    if is_challenge frame.kind then forwarded basis.topo at out cause.Exempt frame else
    kept_judged basis at frame out (neighbour_at basis.topo at.place at.port)

-- a frame that has a hop left and isn't for the router, towards a port or none
abbrev pub kept_passed : Basis → Arrival → Frame → Option ℕ → Reaction
kept_passed basis at frame None = dropped at.self.name reason.NoRoute
kept_passed basis at frame (Some out) = kept_checked basis at frame out

-- a proved source makes a wildcard of its domain at its port
abbrev pub kept_wild : Basis → ℕ → Address → ℕ → Bool
kept_wild basis place source port =
    is_link (neighbour_at basis.topo place port)
    && is_promoted (after_proved basis.state.cache (pair_of source port) basis.now) (wildcard_of source.ad port) basis.now

-- what the router does with a response that it has judged
abbrev pub kept_responded : Basis → ℕ → Router → Checked → Reaction
kept_responded basis place self (checked.Proved source port) = proved self source port (kept_wild basis place source port)
kept_responded basis place self checked.Body = refused self checked.Body
kept_responded basis place self checked.Other = refused self checked.Other
kept_responded basis place self checked.Old = refused self checked.Old
kept_responded basis place self checked.Tag = refused self checked.Tag
kept_responded basis place self checked.Port = refused self checked.Port
kept_responded basis place self checked.Key = refused self checked.Key
kept_responded basis place self checked.Signature = refused self checked.Signature

-- the verdict on a response to a router
abbrev pub kept_answer : Basis → Arrival → Frame → Checked
kept_answer basis at frame = response_verdict (key_after basis.topo basis.state.boot at.place at.self) basis.now frame

-- a frame for the router itself
abbrev pub kept_own : Basis → Arrival → Frame → Reaction
kept_own basis at frame =
    if at.self.checking && is_response frame.kind
    then kept_responded basis at.place at.self (kept_answer basis at frame)
    else dropped at.self.name reason.Mine

-- a frame at a router
abbrev pub kept_frame : Basis → Arrival → Frame → Reaction
kept_frame basis at frame =
    if is_same_address at.self.address frame.to then kept_own basis at frame else
    if nat_le frame.hop 1 then dropped at.self.name reason.Hops else
    kept_passed basis at frame (port_over basis.topo basis.links at.place at.self frame.to)

-- a frame, or bytes that are none, at a router
abbrev pub kept_taken : Basis → Arrival → Option Frame → Reaction
kept_taken basis at None = dropped at.self.name reason.Bad
kept_taken basis at (Some frame) = kept_frame basis at frame

-- what happens where bytes arrive at a port of a router
abbrev pub kept_at_router : Basis → Arrival → List ℕ → Reaction
kept_at_router basis at bytes = kept_taken basis at (frame_of bytes)

-- ---- what it keeps then

-- what is accepted after a verdict: a source or a domain by which the frame is forwarded is hit
abbrev pub after_verdict : RouterState → Address → ℕ → Verdict → RouterState
after_verdict state source port (Forwards cause.Proved) = record state { cache = after_hit state.cache (pair_of source port) true }
after_verdict state source port (Forwards cause.Wild) = record state { cache = after_hit_wild state.cache (wildcard_of source.ad port) true }
after_verdict state source port _ = state

-- after a frame of a source that is checked
abbrev pub after_judged : Basis → Arrival → Frame → Option Neighbour → RouterState
after_judged basis at frame neighbour = after_verdict basis.state frame.from at.port (kept_verdict basis at neighbour frame.from)

-- after a frame that the router could put on a port
abbrev pub after_checked : Basis → Arrival → Frame → RouterState
after_checked basis at frame =
    if not at.self.checking then basis.state else
    if is_challenge frame.kind then basis.state else
    after_judged basis at frame (neighbour_at basis.topo at.place at.port)

-- after a frame that has a hop left and isn't for the router
abbrev pub after_passed : Basis → Arrival → Frame → Option ℕ → RouterState
after_passed basis at frame None = basis.state
after_passed basis at frame (Some out) = after_checked basis at frame

-- after a proof: the source is accepted at the port, and its domain where it is made a wildcard
abbrev pub after_proof : Basis → ℕ → Address → ℕ → RouterState
after_proof basis place source port = record basis.state {
  cache = after_promote (after_proved basis.state.cache (pair_of source port) basis.now) (wildcard_of source.ad port) basis.now (kept_wild basis place source port);
}

-- after a response that was judged
abbrev pub after_response : Basis → ℕ → Checked → RouterState
after_response basis place (checked.Proved source port) = after_proof basis place source port
after_response basis place _ = basis.state

-- after a frame for the router itself
abbrev pub after_own : Basis → Arrival → Frame → RouterState
after_own basis at frame =
    if at.self.checking && is_response frame.kind
    then after_response basis at.place (kept_answer basis at frame)
    else basis.state

-- after a frame
abbrev pub after_frame : Basis → Arrival → Frame → RouterState
after_frame basis at frame =
    if is_same_address at.self.address frame.to then after_own basis at frame else
    if nat_le frame.hop 1 then basis.state else
    after_passed basis at frame (port_over basis.topo basis.links at.place at.self frame.to)

-- after a frame, or bytes that are none
abbrev pub after_taken : Basis → Arrival → Option Frame → RouterState
after_taken basis at None = basis.state
after_taken basis at (Some frame) = after_frame basis at frame

-- what a router keeps after bytes arrived at a port
abbrev pub after_arrival : Basis → Arrival → List ℕ → RouterState
after_arrival basis at bytes = after_taken basis at (frame_of bytes)

-- ---- at a place where a router may be

-- what happens where bytes arrive at a port of the router at this place, if there is one
abbrev pub kept_at_place : Basis → ℕ → Option Router → ℕ → List ℕ → Reaction
kept_at_place basis place None port bytes = nothing
kept_at_place basis place (Some self) port bytes = kept_at_router basis (record { place = place; self = self; port = port }) bytes

-- what the router at this place keeps then
abbrev pub after_place : Basis → ℕ → Option Router → ℕ → List ℕ → RouterState
after_place basis place None port bytes = basis.state
after_place basis place (Some self) port bytes = after_arrival basis (record { place = place; self = self; port = port }) bytes
