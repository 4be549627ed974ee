-- The node that an event names: a host's reaction names this host alone, and a router's this router.
use Rattle.std.proofs.Common.{◌≡◌, ℕ, ◌&&◌, Bool, true, false, cond, not, ◌==◌, List, [], ◌∷◌, Option, Some, None, refl, sym, subst, ap}
use Rattle.std.specs.Prelude.{nat_le}
use Rattle.std.specs.Str.{bytes_eq}
use Rattle.aip_addr.specs.Ids.{key_id_of, is_same_address}
use Rattle.aip_addr.specs.declared.ids.KeyId.{KeyId}
use Rattle.aip_frame.specs.declared.frame.Frame.{Frame}
use Rattle.aip_frame.specs.declared.frame.Kind.{Kind}
use Rattle.aip_frame.specs.declared.frame.Kind.TheVariants.{Data, Challenge, Response, ShutOff}
use Rattle.aip_frame.specs.Frame.{frame_of, frame_bytes, packet_hash_of}
use Rattle.aip_event.specs.declared.event.Event.{Event}
use Rattle.aip_event.specs.declared.event.Event.TheVariants as event
use Rattle.aip_event.specs.declared.event.Cause.TheVariants as cause
use Rattle.aip_event.specs.declared.event.Reason.TheVariants as reason
use Rattle.aip_topo.specs.declared.topology.Router.{Router}
use Rattle.aip_topo.specs.declared.topology.Topology.{Topology}
use Rattle.lms_core.specs.Tree.{Key, signature_of}
use Rattle.sent_log.specs.Log.{is_logged_at_all}
use Rattle.verify_packet.specs.Challenge.{Asked, asked_in}
use Rattle.verify_packet.specs.Response.{response_text_of, response_verdict}
use Rattle.verify_packet.specs.declared.challenges.RouterKey.{RouterKey}
use Rattle.verify_packet.specs.declared.responses.Checked.{Checked}
use Rattle.verify_packet.specs.declared.responses.Checked.TheVariants as checked
use Rattle.shutoff_filter.specs.Body.{shutoff_text_of}
use Rattle.shutoff_filter.specs.declared.entries.ShutOffEntry.{ShutOffEntry as ShutOffEntry}
use Rattle.shutoff_filter.specs.declared.judging.Heard.{Heard}
use Rattle.shutoff_filter.specs.declared.judging.Heard.TheVariants as heard
use Rattle.aip_rules.specs.declared.Entry.{Entry}
use Rattle.aip_rules.specs.declared.Arming.{Arming}
use Rattle.aip_rules.specs.declared.Reaction.{Reaction}
use Rattle.aip_rules.specs.declared.Verdict.{Verdict}
use Rattle.aip_rules.specs.declared.Verdict.TheVariants.{Forwards, Foreign, Asks}
use Rattle.aip_rules.specs.State.{now_of, restarts_of}
use Rattle.aip_rules.specs.Reaction.{nothing, dropped, happens, puts}
use Rattle.aip_rules.specs.Routes.{port_to}
use Rattle.aip_rules.specs.Standing.{Standing}
use Rattle.aip_rules.specs.Host.{withheld_key, handed_to, handed_down, put_by, Signing, Dry, Stops, Signs, signing, signed, answer_frame, shutoff_frame, shut_by, answered, challenged, hearing, outlasts, obeyed_by, heard_by, kind_at_host, taken_at_host, at_host, kept_events, back_up}
use Rattle.aip_rules.specs.Router.{Arrival, forwarded, asked, verdict_at, by_verdict, is_challenge, is_response, checked_frame, passed, proved, refused, responded, makes_wildcard, router_key, own_frame, frame_at_router, taken_at_router, at_router}

-- the node that an event names, if it names one
abbrev pub node_of : Event → Option (List ℕ)
node_of (event.Put number target bytes) = None
node_of (event.Forward router port out cause) = Some router
node_of (event.Ask router port out) = Some router
node_of (event.Proved router source port) = Some router
node_of (event.Wild router ad port) = Some router
node_of (event.Refuse router number) = Some router
node_of (event.Drop node reason) = Some node
node_of (event.Got host packet) = Some host
node_of (event.Signed host leaf) = Some host
node_of (event.Stopped host leaf call byte) = Some host
node_of (event.Withheld host to) = Some host
node_of (event.Obeyed host sender until) = Some host
node_of (event.Heard host number) = Some host
node_of (event.Halted host sender until call byte) = Some host
node_of (event.Kept host sender until) = Some host
node_of (event.PublishedPeer ad other number until) = None
node_of (event.PublishedBind ad other number until) = None
node_of (event.Unpublished number) = None

-- each of the events names this node
abbrev pub AreOf : List ℕ → List Event → Type 0
AreOf name [] = Unit {0}
AreOf name (event ∷ events) = (node_of event ≡ Some name) × AreOf name events

-- the events of one reaction or of another
either : (name : List ℕ) (test : Bool) (a b : Reaction) → AreOf name a.events → AreOf name b.events → AreOf name (cond test a b).events
either name true a b p q = p
either name false a b p q = q

-- ---- hosts

handed_to_of : (s : Standing) (bytes : List ℕ) (for : Option KeyId) → AreOf s.seat.name (handed_to s bytes for).events
handed_to_of s bytes None = tt
handed_to_of s bytes (Some to) = (refl, tt)

handed_of : (s : Standing) (bytes : List ℕ) → AreOf s.seat.name (handed_down s bytes).events
handed_of s bytes = handed_to_of s bytes (withheld_key s (frame_of bytes))

-- what a host puts where it is asked to
pub put_by_of : (s : Standing) (bytes : List ℕ) → AreOf s.seat.name (put_by s bytes).events
put_by_of s bytes = either s.seat.name s.down (dropped s.seat.name reason.Down) (handed_down s bytes) (refl, tt) (handed_of s bytes)

signed_of : (s : Standing) (key : Key) (text : List ℕ) (frame : List ℕ → Frame) (ends : Signing) → AreOf s.seat.name (signed s key text frame ends).events
signed_of s key text frame Dry = (refl, tt)
signed_of s key text frame (Stops leaf arming) = (refl, tt)
signed_of s key text frame (Signs leaf) = (refl, handed_of s (frame_bytes (frame (signature_of key leaf text))))

-- a shut-off that a host signs
pub shut_by_of : (s : Standing) (key : Key) (named : Frame) (ttl : ℕ) → AreOf s.seat.name (shut_by s key named ttl).events
shut_by_of s key named ttl =
    let text = shutoff_text_of s.seat.address named.from (packet_hash_of named) s.now ttl in
    either s.seat.name s.down (dropped s.seat.name reason.Down) (signed s key text (shutoff_frame s key named ttl) (signing s key))
    (refl, tt) (signed_of s key text (shutoff_frame s key named ttl) (signing s key))

answered_of : (s : Standing) (frame : Frame) (key : Option Key) → AreOf s.seat.name (answered s frame key).events
answered_of s frame None = (refl, tt)
answered_of s frame (Some key) = signed_of s key (response_text_of frame.body) (answer_frame s key frame) (signing s key)

challenged_of : (s : Standing) (frame : Frame) (asked : Asked) → AreOf s.seat.name (challenged s frame asked).events
challenged_of s frame asked =
    let unknown = not (is_logged_at_all s.log asked.hash) in
    either s.seat.name (not (is_same_address asked.source s.seat.address)) (dropped s.seat.name reason.NotMine) (cond unknown (dropped s.seat.name reason.Unlogged) (answered s frame s.key))
    (refl, tt)
    (either s.seat.name unknown (dropped s.seat.name reason.Unlogged) (answered s frame s.key) (refl, tt) (answered_of s frame s.key))

obeyed_of : (s : Standing) (to : KeyId) (until : ℕ) (halt : Option Arming) → AreOf s.seat.name (obeyed_by s to until halt).events
obeyed_of s to until None = (refl, tt)
obeyed_of s to until (Some arming) =
    either s.seat.name (outlasts s to until) (happens (event.Obeyed s.seat.name to until)) (happens (event.Halted s.seat.name to until arming.call arming.byte)) (refl, tt) (refl, tt)

heard_of : (s : Standing) (frame : Frame) (verdict : Heard) → AreOf s.seat.name (heard_by s frame verdict).events
heard_of s frame (heard.Obeyed until) = obeyed_of s (key_id_of frame.from.eid) until s.halt
heard_of s frame heard.Body = (refl, tt)
heard_of s frame heard.Key = (refl, tt)
heard_of s frame heard.Signature = (refl, tt)
heard_of s frame heard.Early = (refl, tt)
heard_of s frame heard.Late = (refl, tt)
heard_of s frame heard.Unlogged = (refl, tt)
heard_of s frame heard.Full = (refl, tt)

kind_of : (s : Standing) (frame : Frame) (kind : Kind) → AreOf s.seat.name (kind_at_host s frame kind).events
kind_of s frame Data = (refl, tt)
kind_of s frame Challenge = challenged_of s frame (asked_in frame.body)
kind_of s frame Response = (refl, tt)
kind_of s frame ShutOff = either s.seat.name s.guarded (heard_by s frame (hearing s frame)) (dropped s.seat.name reason.Unguarded) (heard_of s frame (hearing s frame)) (refl, tt)

taken_of : (s : Standing) (frame : Option Frame) → AreOf s.seat.name (taken_at_host s frame).events
taken_of s None = (refl, tt)
taken_of s (Some frame) =
    either s.seat.name (is_same_address s.seat.address frame.to) (kind_at_host s frame frame.kind) (dropped s.seat.name reason.Stray) (kind_of s frame frame.kind) (refl, tt)

-- what happens where bytes arrive at a host
pub at_host_of : (s : Standing) (bytes : List ℕ) → AreOf s.seat.name (at_host s bytes).events
at_host_of s bytes = either s.seat.name s.down (dropped s.seat.name reason.Down) (taken_at_host s (frame_of bytes)) (refl, tt) (taken_of s (frame_of bytes))

kept_of : (name : List ℕ) (entries : List ShutOffEntry) → AreOf name (kept_events name entries)
kept_of name [] = tt
kept_of name (entry ∷ entries) = (refl, kept_of name entries)

told_if : (name : List ℕ) (test : Bool) (entries : List ShutOffEntry) → AreOf name (cond test (kept_events name entries) [])
told_if name true entries = kept_of name entries
told_if name false entries = tt

-- what a host says once it is up again
pub back_up_of : (s : Standing) → AreOf s.seat.name (back_up s).events
back_up_of s = told_if s.seat.name s.guarded s.shut

-- ---- routers

asked_of : (topo : Topology) (key : RouterKey) (now : ℕ) (at : Arrival) (frame : Frame) (back : Option ℕ) → AreOf at.self.name (asked topo key now at frame back).events
asked_of topo key now at frame None = (refl, tt)
asked_of topo key now at frame (Some back) = (refl, tt)

verdict_of : (topo : Topology) (key : RouterKey) (now : ℕ) (at : Arrival) (frame : Frame) (out : ℕ) (verdict : Verdict) → AreOf at.self.name (by_verdict topo key now at frame out verdict).events
verdict_of topo key now at frame out (Forwards cause) = (refl, tt)
verdict_of topo key now at frame out Foreign = (refl, tt)
verdict_of topo key now at frame out (Asks back) = asked_of topo key now at frame back

checked_of : (topo : Topology) (tr : List Entry) (at : Arrival) (frame : Frame) (out : ℕ) → AreOf at.self.name (checked_frame topo tr at frame out).events
checked_of topo tr at frame out =
    let judged = by_verdict topo (router_key topo tr at.place at.self) (now_of tr) at frame out (verdict_at topo tr at frame.from) in
    either at.self.name (not at.self.checking) (forwarded topo at out cause.Open frame) (cond (is_challenge frame.kind) (forwarded topo at out cause.Exempt frame) judged)
    (refl, tt)
    (either at.self.name (is_challenge frame.kind) (forwarded topo at out cause.Exempt frame) judged (refl, tt)
    (verdict_of topo (router_key topo tr at.place at.self) (now_of tr) at frame out (verdict_at topo tr at frame.from)))

passed_of : (topo : Topology) (tr : List Entry) (at : Arrival) (frame : Frame) (out : Option ℕ) → AreOf at.self.name (passed topo tr at frame out).events
passed_of topo tr at frame None = (refl, tt)
passed_of topo tr at frame (Some out) = checked_of topo tr at frame out

wild_of : (self : Router) (test : Bool) (event : Event) → node_of event ≡ Some self.name → AreOf self.name (cond test (event ∷ []) [])
wild_of self true event is = (is, tt)
wild_of self false event is = tt

responded_of : (topo : Topology) (tr : List Entry) (place : ℕ) (self : Router) (verdict : Checked) → AreOf self.name (responded topo tr place self verdict).events
responded_of topo tr place self (checked.Proved source port) = (refl, wild_of self (makes_wildcard topo tr place self source port) (event.Wild self.name source.ad port) refl)
responded_of topo tr place self checked.Body = (refl, tt)
responded_of topo tr place self checked.Other = (refl, tt)
responded_of topo tr place self checked.Old = (refl, tt)
responded_of topo tr place self checked.Tag = (refl, tt)
responded_of topo tr place self checked.Port = (refl, tt)
responded_of topo tr place self checked.Key = (refl, tt)
responded_of topo tr place self checked.Signature = (refl, tt)

own_of : (topo : Topology) (tr : List Entry) (at : Arrival) (frame : Frame) → AreOf at.self.name (own_frame topo tr at frame).events
own_of topo tr at frame =
    let verdict = response_verdict (router_key topo tr at.place at.self) (now_of tr) frame in
    either at.self.name (at.self.checking && is_response frame.kind) (responded topo tr at.place at.self verdict) (dropped at.self.name reason.Mine)
    (responded_of topo tr at.place at.self verdict) (refl, tt)

frame_of_router : (topo : Topology) (tr : List Entry) (at : Arrival) (frame : Frame) → AreOf at.self.name (frame_at_router topo tr at frame).events
frame_of_router topo tr at frame =
    let on = passed topo tr at frame (port_to topo tr at.place at.self frame.to) in
    either at.self.name (is_same_address at.self.address frame.to) (own_frame topo tr at frame) (cond (nat_le frame.hop 1) (dropped at.self.name reason.Hops) on)
    (own_of topo tr at frame)
    (either at.self.name (nat_le frame.hop 1) (dropped at.self.name reason.Hops) on (refl, tt) (passed_of topo tr at frame (port_to topo tr at.place at.self frame.to)))

taken_of_router : (topo : Topology) (tr : List Entry) (at : Arrival) (frame : Option Frame) → AreOf at.self.name (taken_at_router topo tr at frame).events
taken_of_router topo tr at None = (refl, tt)
taken_of_router topo tr at (Some frame) = frame_of_router topo tr at frame

-- what happens where bytes arrive at a router
pub at_router_of : (topo : Topology) (tr : List Entry) (at : Arrival) (bytes : List ℕ) → AreOf at.self.name (at_router topo tr at bytes).events
at_router_of topo tr at bytes = taken_of_router topo tr at (frame_of bytes)
