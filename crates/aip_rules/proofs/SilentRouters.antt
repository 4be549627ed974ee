-- What a router does, but for the flight that it puts, is plain.
use Rattle.std.proofs.Common.{ℕ, ◌&&◌, Bool, true, false, cond, not, List, Option, Some, None}
use Rattle.std.specs.Prelude.{nat_le}
use Rattle.std.proofs.lemmas.Bool.{cond_both}
use Rattle.aip_addr.specs.declared.ids.Address.{Address}
use Rattle.aip_frame.specs.declared.frame.Frame.{Frame}
use Rattle.aip_frame.specs.Frame.{frame_of}
use Rattle.aip_event.specs.declared.event.Cause.TheVariants as cause
use Rattle.aip_event.specs.declared.event.Reason.{Reason}
use Rattle.aip_event.specs.declared.event.Reason.TheVariants as reason
use Rattle.aip_topo.specs.declared.topology.Router.{Router}
use Rattle.aip_topo.specs.declared.topology.Topology.{Topology}
use Rattle.verify_packet.specs.declared.challenges.RouterKey.{RouterKey}
use Rattle.verify_packet.specs.declared.responses.Checked.{Checked}
use Rattle.verify_packet.specs.declared.responses.Checked.TheVariants as checked
use Rattle.verify_packet.specs.Response.{response_verdict}
use Rattle.aip_rules.specs.declared.Entry.{Entry}
use Rattle.aip_rules.specs.declared.Reaction.{Reaction}
use Rattle.aip_rules.specs.declared.Verdict.{Verdict}
use Rattle.aip_rules.specs.declared.Verdict.TheVariants.{Forwards, Foreign, Asks}
use Rattle.aip_rules.specs.State.{now_of}
use Rattle.aip_addr.specs.Ids.{is_same_address}
use Rattle.aip_rules.specs.Reaction.{dropped}
use Rattle.aip_rules.specs.Routes.{port_to}
use Rattle.aip_rules.specs.Router.{Arrival, router_key, forwarded, asked, verdict_at, by_verdict, is_challenge, checked_frame, passed, makes_wildcard, proved, responded, is_response, own_frame, frame_at_router, taken_at_router, at_router}
use Rattle.aip_rules.proofs.SilentEvents.{ArePlain}

-- the events of a reaction are plain
abbrev pub IsPlainReaction : Reaction → Type 0
IsPlainReaction reaction = ArePlain reaction.events

drops : (name : List ℕ) (why : Reason) → IsPlainReaction (dropped name why)
drops name why = (tt, tt)

asks : (topo : Topology) (key : RouterKey) (now : ℕ) (at : Arrival) (frame : Frame) (back : Option ℕ) → IsPlainReaction (asked topo key now at frame back)
asks topo key now at frame None = (tt, tt)
asks topo key now at frame (Some back) = (tt, tt)

judges : (topo : Topology) (key : RouterKey) (now : ℕ) (at : Arrival) (frame : Frame) (out : ℕ) (verdict : Verdict) → IsPlainReaction (by_verdict topo key now at frame out verdict)
judges topo key now at frame out (Forwards why) = (tt, tt)
judges topo key now at frame out Foreign = (tt, tt)
judges topo key now at frame out (Asks back) = asks topo key now at frame back

proves : (self : Router) (source : Address) (port : ℕ) (wild : Bool) → IsPlainReaction (proved self source port wild)
proves self source port true = (tt, (tt, tt))
proves self source port false = (tt, tt)

responds : (topo : Topology) (tr : List Entry) (place : ℕ) (self : Router) (verdict : Checked) → IsPlainReaction (responded topo tr place self verdict)
responds topo tr place self (checked.Proved source port) = proves self source port (makes_wildcard topo tr place self source port)
responds topo tr place self checked.Body = (tt, tt)
responds topo tr place self checked.Other = (tt, tt)
responds topo tr place self checked.Old = (tt, tt)
responds topo tr place self checked.Tag = (tt, tt)
responds topo tr place self checked.Port = (tt, tt)
responds topo tr place self checked.Key = (tt, tt)
responds topo tr place self checked.Signature = (tt, tt)

module _ (topo : Topology) (tr : List Entry) (at : Arrival) (frame : Frame) where
  checks : (out : ℕ) → IsPlainReaction (checked_frame topo tr at frame out)
  checks out =
      let rest = by_verdict topo (router_key topo tr at.place at.self) (now_of tr) at frame out (verdict_at topo tr at frame.from) in
      let closed = cond (is_challenge frame.kind) (forwarded topo at out cause.Exempt frame) rest in
      cond_both (not at.self.checking) (forwarded topo at out cause.Open frame) closed IsPlainReaction
      (λ e. (tt, tt))
      (λ e. cond_both (is_challenge frame.kind) (forwarded topo at out cause.Exempt frame) rest IsPlainReaction
      (λ e. (tt, tt))
      (λ e. judges topo (router_key topo tr at.place at.self) (now_of tr) at frame out (verdict_at topo tr at frame.from)))

  passes : (out : Option ℕ) → IsPlainReaction (passed topo tr at frame out)
  passes None = (tt, tt)
  passes (Some out) = checks out

  owns : IsPlainReaction (own_frame topo tr at frame)
  owns =
      let verdict = response_verdict (router_key topo tr at.place at.self) (now_of tr) frame in
      cond_both (at.self.checking && is_response frame.kind) (responded topo tr at.place at.self verdict) (dropped at.self.name reason.Mine) IsPlainReaction
      (λ e. responds topo tr at.place at.self verdict) (λ e. drops at.self.name reason.Mine)

  takes : IsPlainReaction (frame_at_router topo tr at frame)
  takes =
      let port = port_to topo tr at.place at.self frame.to in
      let hops = cond (nat_le frame.hop 1) (dropped at.self.name reason.Hops) (passed topo tr at frame port) in
      cond_both (is_same_address at.self.address frame.to) (own_frame topo tr at frame) hops IsPlainReaction
      (λ e. owns)
      (λ e. cond_both (nat_le frame.hop 1) (dropped at.self.name reason.Hops) (passed topo tr at frame port) IsPlainReaction
      (λ e. drops at.self.name reason.Hops) (λ e. passes port))

taken_plain : (topo : Topology) (tr : List Entry) (at : Arrival) (frame : Option Frame) → IsPlainReaction (taken_at_router topo tr at frame)
taken_plain topo tr at None = (tt, tt)
taken_plain topo tr at (Some frame) = takes topo tr at frame

-- where bytes arrive at a router
pub at_router_plain : (topo : Topology) (tr : List Entry) (at : Arrival) (bytes : List ℕ) → IsPlainReaction (at_router topo tr at bytes)
at_router_plain topo tr at bytes = taken_plain topo tr at (frame_of bytes)
