-- What a router does is modest: it puts at most one flight, of at most 9,216 bytes.
use Rattle.std.proofs.Common.{ℕ, ◌≤◌, ◌&&◌, Bool, true, false, cond, not, List, length, Option, Some, None, refl, arith}
use Rattle.std.specs.Prelude.{IfSome, nat_le}
use Rattle.aip_addr.specs.declared.ids.Address.{Address}
use Rattle.aip_frame.specs.declared.frame.Frame.{Frame}
use Rattle.aip_frame.specs.Frame.{frame_of, frame_bytes, Fits, IsFrame}
use Rattle.aip_frame.proofs.Frames.{sound as frame_sound}
use Rattle.aip_event.specs.declared.event.Cause.{Cause}
use Rattle.aip_event.specs.declared.event.Cause.TheVariants as cause
use Rattle.aip_event.specs.declared.event.Reason.TheVariants as reason
use Rattle.aip_topo.specs.declared.topology.Router.{Router}
use Rattle.aip_topo.specs.declared.topology.Topology.{Topology}
use Rattle.verify_packet.specs.declared.challenges.RouterKey.{RouterKey}
use Rattle.verify_packet.specs.declared.responses.Checked.{Checked}
use Rattle.verify_packet.specs.declared.responses.Checked.TheVariants as checked
use Rattle.verify_packet.specs.Response.{response_verdict}
use Rattle.aip_rules.specs.declared.Entry.{Entry}
use Rattle.aip_rules.specs.declared.Verdict.{Verdict}
use Rattle.aip_rules.specs.declared.Verdict.TheVariants.{Forwards, Foreign, Asks}
use Rattle.aip_rules.specs.State.{now_of}
use Rattle.aip_addr.specs.Ids.{is_same_address}
use Rattle.aip_rules.specs.Reaction.{dropped}
use Rattle.aip_rules.specs.Routes.{port_to}
use Rattle.aip_rules.specs.Router.{Arrival, router_key, one_hop_less, forwarded, asked, verdict_at, by_verdict, is_challenge, checked_frame, passed, makes_wildcard, proved, responded, is_response, own_frame, frame_at_router, taken_at_router, at_router}
use Rattle.aip_rules.proofs.Sizes.{HasSized, IsSizedAddress, fitting_short}
use Rattle.aip_rules.proofs.Signed.{challenge_short}
use Rattle.aip_rules.proofs.Modest.{IsModest, dropped_modest, either}

-- the bytes of a frame with a hop less are as short as any frame's
one_less_short : (frame : Frame) → Fits frame → length (frame_bytes (one_hop_less frame)) ≤ 9216
one_less_short frame fits =
    let hop = fits.hop in
    fitting_short (one_hop_less frame) (record {
      hop = omega arith;
      packet = fits.packet;
      to_ad = fits.to_ad;
      to_eid = fits.to_eid;
      from_ad = fits.from_ad;
      from_eid = fits.from_eid;
      body = fits.body;
      challenge = fits.challenge;
    })

pub forwarded_modest : (topo : Topology) (at : Arrival) (out : ℕ) (why : Cause) (frame : Frame) → Fits frame → IsModest (forwarded topo at out why frame)
forwarded_modest topo at out why frame fits = record { calm = (refl, tt); short = one_less_short frame fits }

asked_modest : (topo : Topology) (key : RouterKey) (now : ℕ) (at : Arrival) (frame : Frame) (back : Option ℕ) → IsSizedAddress key.address → Fits frame
    → IsModest (asked topo key now at frame back)
asked_modest topo key now at frame None own fits = dropped_modest at.self.name reason.NoBack
asked_modest topo key now at frame (Some back) own fits = record { calm = (refl, tt); short = challenge_short key now at.port frame own fits }

pub by_verdict_modest : (topo : Topology) (key : RouterKey) (now : ℕ) (at : Arrival) (frame : Frame) (out : ℕ) (verdict : Verdict) → IsSizedAddress key.address → Fits frame
    → IsModest (by_verdict topo key now at frame out verdict)
by_verdict_modest topo key now at frame out (Forwards why) own fits = forwarded_modest topo at out why frame fits
by_verdict_modest topo key now at frame out Foreign own fits = dropped_modest at.self.name reason.Foreign
by_verdict_modest topo key now at frame out (Asks back) own fits = asked_modest topo key now at frame back own fits

pub proved_modest : (self : Router) (source : Address) (port : ℕ) (wild : Bool) → IsModest (proved self source port wild)
proved_modest self source port true = record { calm = (refl, (refl, tt)); short = tt }
proved_modest self source port false = record { calm = (refl, tt); short = tt }

responded_modest : (topo : Topology) (tr : List Entry) (place : ℕ) (self : Router) (verdict : Checked) → IsModest (responded topo tr place self verdict)
responded_modest topo tr place self (checked.Proved source port) = proved_modest self source port (makes_wildcard topo tr place self source port)
responded_modest topo tr place self checked.Body = record { calm = (refl, tt); short = tt }
responded_modest topo tr place self checked.Other = record { calm = (refl, tt); short = tt }
responded_modest topo tr place self checked.Old = record { calm = (refl, tt); short = tt }
responded_modest topo tr place self checked.Tag = record { calm = (refl, tt); short = tt }
responded_modest topo tr place self checked.Port = record { calm = (refl, tt); short = tt }
responded_modest topo tr place self checked.Key = record { calm = (refl, tt); short = tt }
responded_modest topo tr place self checked.Signature = record { calm = (refl, tt); short = tt }

module _ (topo : Topology) (tr : List Entry) (at : Arrival) (own : HasSized at.self) (frame : Frame) (fits : Fits frame) where
  checked_modest : (out : ℕ) → IsModest (checked_frame topo tr at frame out)
  checked_modest out =
      let key = router_key topo tr at.place at.self in
      let verdict = verdict_at topo tr at frame.from in
      let rest = by_verdict topo key (now_of tr) at frame out verdict in
      let closed = cond (is_challenge frame.kind) (forwarded topo at out cause.Exempt frame) rest in
      either (not at.self.checking) (forwarded topo at out cause.Open frame) closed
      (λ e. forwarded_modest topo at out cause.Open frame fits)
      (λ e. either (is_challenge frame.kind) (forwarded topo at out cause.Exempt frame) rest
      (λ e. forwarded_modest topo at out cause.Exempt frame fits)
      (λ e. by_verdict_modest topo key (now_of tr) at frame out verdict own fits))

  -- a frame that passes, towards a port or none
  pub passed_modest : (out : Option ℕ) → IsModest (passed topo tr at frame out)
  passed_modest None = dropped_modest at.self.name reason.NoRoute
  passed_modest (Some out) = checked_modest out

  own_modest : IsModest (own_frame topo tr at frame)
  own_modest =
      let verdict = response_verdict (router_key topo tr at.place at.self) (now_of tr) frame in
      either (at.self.checking && is_response frame.kind) (responded topo tr at.place at.self verdict) (dropped at.self.name reason.Mine)
      (λ e. responded_modest topo tr at.place at.self verdict) (λ e. dropped_modest at.self.name reason.Mine)

  -- a frame at a router
  pub frame_modest : IsModest (frame_at_router topo tr at frame)
  frame_modest =
      let port = port_to topo tr at.place at.self frame.to in
      let hops = cond (nat_le frame.hop 1) (dropped at.self.name reason.Hops) (passed topo tr at frame port) in
      either (is_same_address at.self.address frame.to) (own_frame topo tr at frame) hops
      (λ e. own_modest)
      (λ e. either (nat_le frame.hop 1) (dropped at.self.name reason.Hops) (passed topo tr at frame port)
      (λ e. dropped_modest at.self.name reason.Hops) (λ e. passed_modest port))

taken_modest : (topo : Topology) (tr : List Entry) (at : Arrival) (bytes : List ℕ) (frame : Option Frame) → HasSized at.self → IfSome frame (IsFrame bytes)
    → IsModest (taken_at_router topo tr at frame)
taken_modest topo tr at bytes None own is = dropped_modest at.self.name reason.Bad
taken_modest topo tr at bytes (Some frame) own is = frame_modest topo tr at own frame is.fits

-- what happens where bytes arrive at a router
pub at_router_modest : (topo : Topology) (tr : List Entry) (at : Arrival) (bytes : List ℕ) → HasSized at.self → IsModest (at_router topo tr at bytes)
at_router_modest topo tr at bytes own = taken_modest topo tr at bytes (frame_of bytes) own (frame_sound bytes)
