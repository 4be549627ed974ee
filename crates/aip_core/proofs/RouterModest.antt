-- What a router does by what it keeps is modest: it puts at most one flight, of at most 9,216 bytes.
use Rattle.std.proofs.Common.{◌≡◌, ℕ, ◌&&◌, Bool, true, false, cond, not, List, [], ◌∷◌, Option, Some, None, refl}
use Rattle.std.specs.Prelude.{IfSome, nat_le, slice_get}
use Rattle.aip_frame.specs.declared.frame.Frame.{Frame}
use Rattle.aip_frame.specs.Frame.{Fits, IsFrame, frame_of}
use Rattle.aip_frame.proofs.Frames.{sound as frame_sound}
use Rattle.aip_event.specs.declared.event.Cause.TheVariants as cause
use Rattle.aip_event.specs.declared.event.Reason.TheVariants as reason
use Rattle.aip_topo.specs.declared.topology.Router.{Router}
use Rattle.verify_packet.specs.declared.responses.Checked.{Checked}
use Rattle.verify_packet.specs.declared.responses.Checked.TheVariants as checked
use Rattle.aip_addr.specs.Ids.{is_same_address}
use Rattle.aip_rules.specs.Nodes.{neighbour_at}
use Rattle.aip_rules.specs.Reaction.{dropped}
use Rattle.aip_rules.specs.Router.{Arrival, forwarded, is_challenge, is_response, key_after}
use Rattle.aip_rules.specs.Routes.{port_over}
use Rattle.aip_rules.proofs.Sizes.{HasSized}
use Rattle.aip_rules.proofs.Modest.{IsModest, dropped_modest, either, nothing_modest}
use Rattle.aip_rules.proofs.PutsRouter.{by_verdict_modest, forwarded_modest, proved_modest}
use Rattle.aip_core.specs.RouterMachine.{Basis, kept_verdict, kept_judged, kept_checked, kept_passed, kept_wild, kept_responded, kept_answer, kept_own, kept_frame, kept_taken, kept_at_router, kept_at_place}

module _ (basis : Basis) where
  responded_modest : (place : ℕ) (self : Router) (verdict : Checked) → IsModest (kept_responded basis place self verdict)
  responded_modest place self (checked.Proved source port) = proved_modest self source port (kept_wild basis place source port)
  responded_modest place self checked.Body = record { calm = (refl, tt); short = tt }
  responded_modest place self checked.Other = record { calm = (refl, tt); short = tt }
  responded_modest place self checked.Old = record { calm = (refl, tt); short = tt }
  responded_modest place self checked.Tag = record { calm = (refl, tt); short = tt }
  responded_modest place self checked.Port = record { calm = (refl, tt); short = tt }
  responded_modest place self checked.Key = record { calm = (refl, tt); short = tt }
  responded_modest place self checked.Signature = record { calm = (refl, tt); short = tt }

  module _ (at : Arrival) (own : HasSized at.self) (frame : Frame) (fits : Fits frame) where
    checked_modest : (out : ℕ) → IsModest (kept_checked basis at frame out)
    checked_modest out =
        let neighbour = neighbour_at basis.topo at.place at.port in
        let rest = kept_judged basis at frame out neighbour in
        let closed = cond (is_challenge frame.kind) (forwarded basis.topo at out cause.Exempt frame) rest in
        either (not at.self.checking) (forwarded basis.topo at out cause.Open frame) closed
        (λ e. forwarded_modest basis.topo at out cause.Open frame fits)
        (λ e. either (is_challenge frame.kind) (forwarded basis.topo at out cause.Exempt frame) rest
        (λ e. forwarded_modest basis.topo at out cause.Exempt frame fits)
        (λ e. by_verdict_modest basis.topo (key_after basis.topo basis.state.boot at.place at.self) basis.now at frame out (kept_verdict basis at neighbour frame.from) own fits))

    passed_modest : (out : Option ℕ) → IsModest (kept_passed basis at frame out)
    passed_modest None = dropped_modest at.self.name reason.NoRoute
    passed_modest (Some out) = checked_modest out

    own_modest : IsModest (kept_own basis at frame)
    own_modest =
        let verdict = kept_answer basis at frame in
        either (at.self.checking && is_response frame.kind) (kept_responded basis at.place at.self verdict) (dropped at.self.name reason.Mine)
        (λ e. responded_modest at.place at.self verdict) (λ e. dropped_modest at.self.name reason.Mine)

    frame_modest : IsModest (kept_frame basis at frame)
    frame_modest =
        let port = port_over basis.topo basis.links at.place at.self frame.to in
        let hops = cond (nat_le frame.hop 1) (dropped at.self.name reason.Hops) (kept_passed basis at frame port) in
        either (is_same_address at.self.address frame.to) (kept_own basis at frame) hops
        (λ e. own_modest)
        (λ e. either (nat_le frame.hop 1) (dropped at.self.name reason.Hops) (kept_passed basis at frame port)
        (λ e. dropped_modest at.self.name reason.Hops) (λ e. passed_modest port))

  taken_modest : (at : Arrival) (bytes : List ℕ) (frame : Option Frame) → HasSized at.self → IfSome frame (IsFrame bytes) → IsModest (kept_taken basis at frame)
  taken_modest at bytes None own is = dropped_modest at.self.name reason.Bad
  taken_modest at bytes (Some frame) own is = frame_modest at own frame is.fits

  -- bytes at a port of the router at a place
  pub place_modest : (place : ℕ) (self : Option Router) (port : ℕ) (bytes : List ℕ) → IfSome self HasSized → IsModest (kept_at_place basis place self port bytes)
  place_modest place None port bytes own = nothing_modest
  place_modest place (Some self) port bytes own = taken_modest (record { place = place; self = self; port = port }) bytes (frame_of bytes) own (frame_sound bytes)
