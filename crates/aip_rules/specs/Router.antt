-- What happens where a flight arrives at a router.
use Rattle.std.specs.Prelude.{ℕ, ◌-◌, ◌&&◌, Bool, true, false, not, if◌then◌else◌, nat_le, List, [], ◌∷◌, length, Option, Some, None}
use Rattle.aip_addr.specs.declared.ids.Address.{Address}
use Rattle.aip_frame.specs.declared.frame.Frame.{Frame}
use Rattle.aip_frame.specs.declared.frame.Kind.{Kind}
use Rattle.aip_frame.specs.declared.frame.Kind.TheVariants.{Data, Challenge, Response, ShutOff}
use Rattle.aip_frame.specs.Frame.{frame_bytes, frame_of, packet_hash_of}
use Rattle.aip_event.specs.declared.event.Event.TheVariants as event
use Rattle.aip_event.specs.declared.event.Cause.{Cause}
use Rattle.aip_event.specs.declared.event.Cause.TheVariants as cause
use Rattle.aip_event.specs.declared.event.Reason.TheVariants as reason
use Rattle.aip_topo.specs.declared.topology.Router.{Router}
use Rattle.aip_topo.specs.declared.topology.Topology.{Topology}
use Rattle.aip_addr.specs.Ids.{is_same_id, is_same_address}
use Rattle.accept_cache.specs.Keys.{pair_of, wildcard_of}
use Rattle.accept_cache.specs.Accepted.{is_fresh_pair, is_fresh_wildcard, promotes}
use Rattle.first_hop.specs.declared.HostVerdict.{HostVerdict}
use Rattle.first_hop.specs.declared.HostVerdict.TheVariants as host
use Rattle.first_hop.specs.Verdict.{host_verdict}
use Rattle.border_check.specs.declared.PortVerdict.{PortVerdict}
use Rattle.border_check.specs.declared.PortVerdict.TheVariants as border
use Rattle.border_check.specs.Verdict.{port_verdict, leads_back}
use Rattle.aip_registry.specs.declared.records.Record.{Record}
use Rattle.verify_packet.specs.declared.challenges.RouterKey.{RouterKey}
use Rattle.verify_packet.specs.declared.responses.Checked.{Checked}
use Rattle.verify_packet.specs.declared.responses.Checked.TheVariants as checked
use Rattle.verify_packet.specs.Challenge.{challenge_of, epoch_at}
use Rattle.verify_packet.specs.Response.{response_verdict, refusal_number}
use Rattle.aip_rules.specs.declared.Entry.{Entry}
use Rattle.aip_rules.specs.declared.Entry.TheVariants.{Happened}
use Rattle.aip_rules.specs.declared.Neighbour.{Neighbour}
use Rattle.aip_rules.specs.declared.Neighbour.TheVariants as neighbour
use Rattle.aip_rules.specs.declared.Reaction.{Reaction}
use Rattle.aip_rules.specs.declared.Verdict.{Verdict}
use Rattle.aip_rules.specs.declared.Verdict.TheVariants.{Forwards, Foreign, Asks}
use Rattle.aip_rules.specs.State.{now_of, restarts_of}
use Rattle.aip_rules.specs.Nodes.{neighbours_of, neighbour_at, target_at}
use Rattle.aip_rules.specs.Routes.{port_to}
use Rattle.aip_rules.specs.Accepted.{limits_of, pair_uses, wildcard_uses}
use Rattle.aip_rules.specs.Reaction.{dropped, happens, happens_and_puts}
use Rattle.aip_rules.specs.Records.{records_kept, trusts}

-- where a flight arrives: a router at its place among the routers, and its port
pub record Arrival : Type 0 where
  pub place : ℕ
  pub self : Router
  pub port : ℕ

-- what a router judges responses by and makes challenges with, after so many restarts
abbrev pub key_after : Topology → ℕ → ℕ → Router → RouterKey
key_after topo boot place self = record {
  address = self.address;
  master = self.master;
  boot = boot;
  epoch_length = topo.settings.epoch;
  ports = length (neighbours_of topo place);
}

-- what a router judges responses by and makes challenges with, after a trace
abbrev pub router_key : Topology → List Entry → ℕ → Router → RouterKey
router_key topo tr place self = key_after topo (restarts_of tr self.name) place self

-- the frame with its hop limit lowered by one
abbrev pub one_hop_less : Frame → Frame
one_hop_less frame = record frame { hop = frame.hop - 1 }

-- the router forwards a frame on the port `out` for a cause
abbrev pub forwarded : Topology → Arrival → ℕ → Cause → Frame → Reaction
forwarded topo at out cause frame =
    happens_and_puts (event.Forward at.self.name at.port out cause) (target_at topo at.place out) (frame_bytes (one_hop_less frame))

-- the challenge that asks the source of a frame: hop limit 64, the frame's packet id, and a body that names
-- the router, the source, the packet's hash, the port at which it came and the current epoch, under the router's tag
abbrev pub challenge_frame : RouterKey → ℕ → ℕ → Frame → Frame
challenge_frame key now port frame = record {
  kind = Challenge;
  hop = 64;
  packet = frame.packet;
  to = frame.from;
  from = key.address;
  body = challenge_of key (record {
    router = key.address;
    source = frame.from;
    hash = packet_hash_of frame;
    port = port;
    epoch = epoch_at key now;
  });
}

-- the router asks the source of a frame, by the port `back`; without one it drops the frame
abbrev pub asked : Topology → RouterKey → ℕ → Arrival → Frame → Option ℕ → Reaction
asked topo key now at frame None = dropped at.self.name reason.NoBack
asked topo key now at frame (Some back) =
    happens_and_puts (event.Ask at.self.name at.port back) (target_at topo at.place back) (frame_bytes (challenge_frame key now at.port frame))

-- the verdict at a host's port: the challenge leaves by that port
abbrev pub of_host : ℕ → HostVerdict → Verdict
of_host port host.Foreign = Foreign
of_host port host.Proved = Forwards cause.Proved
of_host port host.Ask = Asks (Some port)

-- the verdict at a link's port: the challenge leaves by the port towards the source
abbrev pub of_border : Option ℕ → PortVerdict → Verdict
of_border back border.Trusted = Forwards cause.Trusted
of_border back border.Reverse = Forwards cause.Reverse
of_border back border.Proved = Forwards cause.Proved
of_border back border.Wild = Forwards cause.Wild
of_border back border.Ask = Asks back

-- what is known of the source of a frame at the port at which it came: its address, the port towards it, whether it is
-- freshly proved there, and whether its domain is a fresh wildcard there
pub record SourceKnown : Type 0 where
  pub address : Address
  pub back : Option ℕ
  pub fresh : Bool
  pub wild : Bool

-- the verdict on a source, by the records that are kept, the time, what lies at the port at which its frame came, and what is
-- known of it there
abbrev pub verdict_by : Topology → List Record → (now : ℕ) → Arrival → Option Neighbour → SourceKnown → Verdict
verdict_by topo kept now at None source = Asks source.back
verdict_by topo kept now at (Some (neighbour.Host name)) source =
    of_host at.port (host_verdict (not (is_same_id source.address.ad at.self.address.ad)) source.fresh)
verdict_by topo kept now at (Some (neighbour.Link other far marked)) source =
    of_border source.back (port_verdict (trusts topo kept now at.self other marked) (leads_back source.back at.port) source.fresh source.wild)

-- what is known of a source after a trace
abbrev pub source_known : Topology → List Entry → Arrival → Address → SourceKnown
source_known topo tr at source = record {
  address = source;
  back = port_to topo tr at.place at.self source;
  fresh = is_fresh_pair (limits_of topo.settings) (pair_uses tr at.self.name) (now_of tr) (pair_of source at.port);
  wild = is_fresh_wildcard (limits_of topo.settings) (wildcard_uses tr at.self.name) (now_of tr) (wildcard_of source.ad at.port);
}

-- the verdict on the source of a frame after a trace
abbrev pub verdict_at : Topology → List Entry → Arrival → Address → Verdict
verdict_at topo tr at source =
    verdict_by topo (records_kept tr) (now_of tr) at (neighbour_at topo at.place at.port) (source_known topo tr at source)

-- what a checking router does by its verdict
abbrev pub by_verdict : Topology → RouterKey → ℕ → Arrival → Frame → ℕ → Verdict → Reaction
by_verdict topo key now at frame out (Forwards cause) = forwarded topo at out cause frame
by_verdict topo key now at frame out Foreign = dropped at.self.name reason.Foreign
by_verdict topo key now at frame out (Asks back) = asked topo key now at frame back

-- whether the frame is a challenge
abbrev pub is_challenge : Kind → Bool
is_challenge Data = false
is_challenge Challenge = true
is_challenge Response = false
is_challenge ShutOff = false

-- a frame that the router could put on the port `out`: an open router forwards it, and any router a challenge; a checking
-- one goes by its verdict
abbrev pub checked_frame : Topology → List Entry → Arrival → Frame → ℕ → Reaction
checked_frame topo tr at frame out =
    if not at.self.checking then forwarded topo at out cause.Open frame else
    if is_challenge frame.kind then forwarded topo at out cause.Exempt frame else
    by_verdict topo (router_key topo tr at.place at.self) (now_of tr) at frame out (verdict_at topo tr at frame.from)

-- a frame that has a hop left and isn't for the router: without a port towards its destination it is dropped
abbrev pub passed : Topology → List Entry → Arrival → Frame → Option ℕ → Reaction
passed topo tr at frame None = dropped at.self.name reason.NoRoute
passed topo tr at frame (Some out) = checked_frame topo tr at frame out

-- a link lies at the port
abbrev pub is_link : Option Neighbour → Bool
is_link None = false
is_link (Some (neighbour.Host name)) = false
is_link (Some (neighbour.Link other far marked)) = true

-- a proved source makes a wildcard of its domain where its port is a link's, enough sources of the domain are fresh there,
-- this one among them, and no fresh wildcard of it is there yet
abbrev pub makes_wildcard : Topology → List Entry → ℕ → Router → Address → ℕ → Bool
makes_wildcard topo tr place self source port =
    is_link (neighbour_at topo place port)
    && promotes (limits_of topo.settings) (pair_uses (Happened (event.Proved self.name source port) ∷ tr) self.name) (wildcard_uses tr self.name) (now_of tr) (wildcard_of source.ad port)

-- a source is proved at a port, and its domain may become a wildcard there
abbrev pub proved : Router → Address → ℕ → Bool → Reaction
proved self source port wild = record {
  events = event.Proved self.name source port ∷ (if wild then event.Wild self.name source.ad port ∷ [] else []);
  put = None;
}

-- a response is refused, with the number of the reason
abbrev pub refused : Router → Checked → Reaction
refused self verdict = happens (event.Refuse self.name (refusal_number verdict))

-- what a router does with a response that it has judged
abbrev pub responded : Topology → List Entry → ℕ → Router → Checked → Reaction
responded topo tr place self (checked.Proved source port) = proved self source port (makes_wildcard topo tr place self source port)
responded topo tr place self checked.Body = refused self checked.Body
responded topo tr place self checked.Other = refused self checked.Other
responded topo tr place self checked.Old = refused self checked.Old
responded topo tr place self checked.Tag = refused self checked.Tag
responded topo tr place self checked.Port = refused self checked.Port
responded topo tr place self checked.Key = refused self checked.Key
responded topo tr place self checked.Signature = refused self checked.Signature

-- whether the frame is a response
abbrev pub is_response : Kind → Bool
is_response Data = false
is_response Challenge = false
is_response Response = true
is_response ShutOff = false

-- a frame for the router itself: a checking router judges a response, and all else is dropped
abbrev pub own_frame : Topology → List Entry → Arrival → Frame → Reaction
own_frame topo tr at frame =
    if at.self.checking && is_response frame.kind
    then responded topo tr at.place at.self (response_verdict (router_key topo tr at.place at.self) (now_of tr) frame)
    else dropped at.self.name reason.Mine

-- a frame at a router, by the first line that applies: it is for the router itself, it has no hop left, or it passes
abbrev pub frame_at_router : Topology → List Entry → Arrival → Frame → Reaction
frame_at_router topo tr at frame =
    if is_same_address at.self.address frame.to then own_frame topo tr at frame else
    if nat_le frame.hop 1 then dropped at.self.name reason.Hops else
    passed topo tr at frame (port_to topo tr at.place at.self frame.to)

-- a frame, or bytes that are none, at a router
abbrev pub taken_at_router : Topology → List Entry → Arrival → Option Frame → Reaction
taken_at_router topo tr at None = dropped at.self.name reason.Bad
taken_at_router topo tr at (Some frame) = frame_at_router topo tr at frame

-- what happens where these bytes arrive at a port of a router
abbrev pub at_router : Topology → List Entry → Arrival → List ℕ → Reaction
at_router topo tr at bytes = taken_at_router topo tr at (frame_of bytes)
