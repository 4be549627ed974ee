-- How what a host does comes about: it hands bytes down, it signs, it is told a shut-off, or it does nothing of these.
use Rattle.std.proofs.Common.{◌≡◌, ℕ, ◌==◌, cond, not, List, [], ◌∷◌, Option, Some, None, refl}
use Rattle.std.proofs.lemmas.Bool.{cond_both}
use Rattle.aip_addr.specs.Ids.{key_id_of, is_same_address}
use Rattle.aip_frame.specs.declared.frame.Frame.{Frame}
use Rattle.aip_frame.specs.declared.frame.Kind.{Kind}
use Rattle.aip_frame.specs.declared.frame.Kind.TheVariants.{Data, Challenge, Response, ShutOff}
use Rattle.aip_frame.specs.Frame.{frame_of, frame_bytes, packet_hash_of}
use Rattle.aip_event.specs.declared.event.Event.{Event}
use Rattle.aip_event.specs.declared.event.Event.TheVariants as event
use Rattle.aip_event.specs.declared.event.Reason.{Reason}
use Rattle.aip_event.specs.declared.event.Reason.TheVariants as reason
use Rattle.lms_core.specs.Parameters.{leaves_of}
use Rattle.lms_core.specs.Tree.{Key, signature_of}
use Rattle.sent_log.specs.Log.{is_logged_at_all}
use Rattle.verify_packet.specs.Challenge.{Asked, asked_in}
use Rattle.verify_packet.specs.Response.{response_text_of}
use Rattle.shutoff_filter.specs.Body.{shutoff_text_of}
use Rattle.shutoff_filter.specs.declared.entries.ShutOffEntry.{ShutOffEntry as ShutOffEntry}
use Rattle.shutoff_filter.specs.declared.judging.Heard.{Heard}
use Rattle.shutoff_filter.specs.declared.judging.Heard.TheVariants as heard
use Rattle.aip_rules.specs.declared.Arming.{Arming}
use Rattle.aip_rules.specs.declared.Reaction.{Reaction}
use Rattle.aip_rules.specs.Reaction.{dropped, happens, behind}
use Rattle.aip_rules.specs.Standing.{Standing}
use Rattle.aip_rules.specs.Host.{handed_down, put_by, Signing, Dry, signing_with, signing, signed, answer_frame, shutoff_frame, shut_by, answered, challenged, hearing, outlasts, obeyed_by, heard_by, kind_at_host, taken_at_host, at_host, kept_events, back_up}
use Rattle.aip_rules.proofs.SilentEvents.{ArePlain}

kept_plain : (name : List ℕ) (entries : List ShutOffEntry) → ArePlain (kept_events name entries)
kept_plain name [] = tt
kept_plain name (entry ∷ entries) = (tt, kept_plain name entries)

-- what a host says once it is up again
pub by_restart : (s : Standing) → ArePlain (back_up s).events
by_restart s = cond_both s.guarded (kept_events s.seat.name s.shut) [] ArePlain (λ e. kept_plain s.seat.name s.shut) (λ e. tt)

module _ (s : Standing) (P : Reaction → Type 0)
    (plain : (events : List Event) → ArePlain events → P (record { events = events; put = None }))
    (hands : (bytes : List ℕ) → P (handed_down s bytes))
    (signs : (key : Key) (bytes : List ℕ) → s.key ≡ Some key → P (behind (event.Signed s.seat.name s.next) (handed_down s bytes))) where
  drops : (why : Reason) → P (dropped s.seat.name why)
  drops why = plain (event.Drop s.seat.name why ∷ []) (tt, tt)

  -- where a host is asked to put bytes
  pub by_put : (bytes : List ℕ) → P (put_by s bytes)
  by_put bytes = cond_both s.down (dropped s.seat.name reason.Down) (handed_down s bytes) P (λ e. drops reason.Down) (λ e. hands bytes)

  by_stop : (key : Key) (text : List ℕ) (frame : List ℕ → Frame) (stop : Option Arming) → s.key ≡ Some key → P (signed s key text frame (signing_with s.next stop))
  by_stop key text frame None own = signs key (frame_bytes (frame (signature_of key s.next text))) own
  by_stop key text frame (Some arming) own = plain (event.Stopped s.seat.name s.next arming.call arming.byte ∷ []) (tt, tt)

  by_signing : (key : Key) (text : List ℕ) (frame : List ℕ → Frame) → s.key ≡ Some key → P (signed s key text frame (signing s key))
  by_signing key text frame own =
      cond_both (s.next == leaves_of key.height) Dry (signing_with s.next s.stop) (λ (ends : Signing). P (signed s key text frame ends))
      (λ e. drops reason.Dry) (λ e. by_stop key text frame s.stop own)

  -- where a host signs a shut-off
  pub by_shut : (key : Key) (named : Frame) (ttl : ℕ) → s.key ≡ Some key → P (shut_by s key named ttl)
  by_shut key named ttl own =
      let text = shutoff_text_of s.seat.address named.from (packet_hash_of named) s.now ttl in
      cond_both s.down (dropped s.seat.name reason.Down) (signed s key text (shutoff_frame s key named ttl) (signing s key)) P
      (λ e. drops reason.Down) (λ e. by_signing key text (shutoff_frame s key named ttl) own)

  by_answer : (frame : Frame) (key : Option Key) → s.key ≡ key → P (answered s frame key)
  by_answer frame None own = drops reason.Mute
  by_answer frame (Some key) own = by_signing key (response_text_of frame.body) (answer_frame s key frame) own

  by_challenge : (frame : Frame) (asked : Asked) → P (challenged s frame asked)
  by_challenge frame asked =
      let unknown = not (is_logged_at_all s.log asked.hash) in
      let then = cond unknown (dropped s.seat.name reason.Unlogged) (answered s frame s.key) in
      cond_both (not (is_same_address asked.source s.seat.address)) (dropped s.seat.name reason.NotMine) then P
      (λ e. drops reason.NotMine)
      (λ e. cond_both unknown (dropped s.seat.name reason.Unlogged) (answered s frame s.key) P (λ e. drops reason.Unlogged) (λ e. by_answer frame s.key refl))

  module _ (bytes : List ℕ)
      (obeys : (frame : Frame) (until : ℕ) → frame_of bytes ≡ Some frame → frame.kind ≡ ShutOff → hearing s frame ≡ heard.Obeyed until
      → P (happens (event.Obeyed s.seat.name (key_id_of frame.from.eid) until)))
      (halts : (frame : Frame) (until call byte : ℕ) → frame_of bytes ≡ Some frame → frame.kind ≡ ShutOff → hearing s frame ≡ heard.Obeyed until
      → P (happens (event.Halted s.seat.name (key_id_of frame.from.eid) until call byte))) where
    by_order : (frame : Frame) (until : ℕ) (halt : Option Arming) → frame_of bytes ≡ Some frame → frame.kind ≡ ShutOff → hearing s frame ≡ heard.Obeyed until
        → P (obeyed_by s (key_id_of frame.from.eid) until halt)
    by_order frame until None spelled is told = obeys frame until spelled is told
    by_order frame until (Some arming) spelled is told =
        let to = key_id_of frame.from.eid in
        cond_both (outlasts s to until) (happens (event.Obeyed s.seat.name to until)) (happens (event.Halted s.seat.name to until arming.call arming.byte)) P
        (λ e. obeys frame until spelled is told) (λ e. halts frame until arming.call arming.byte spelled is told)

    by_hearing : (frame : Frame) (verdict : Heard) → frame_of bytes ≡ Some frame → frame.kind ≡ ShutOff → hearing s frame ≡ verdict → P (heard_by s frame verdict)
    by_hearing frame (heard.Obeyed until) spelled is told = by_order frame until s.halt spelled is told
    by_hearing frame heard.Body spelled is told = plain _ (tt, tt)
    by_hearing frame heard.Key spelled is told = plain _ (tt, tt)
    by_hearing frame heard.Signature spelled is told = plain _ (tt, tt)
    by_hearing frame heard.Early spelled is told = plain _ (tt, tt)
    by_hearing frame heard.Late spelled is told = plain _ (tt, tt)
    by_hearing frame heard.Unlogged spelled is told = plain _ (tt, tt)
    by_hearing frame heard.Full spelled is told = plain _ (tt, tt)

    by_kind : (frame : Frame) (kind : Kind) → frame_of bytes ≡ Some frame → frame.kind ≡ kind → P (kind_at_host s frame kind)
    by_kind frame Data spelled is = plain (event.Got s.seat.name frame.packet ∷ []) (tt, tt)
    by_kind frame Challenge spelled is = by_challenge frame (asked_in frame.body)
    by_kind frame Response spelled is = drops reason.Kind
    by_kind frame ShutOff spelled is =
        cond_both s.guarded (heard_by s frame (hearing s frame)) (dropped s.seat.name reason.Unguarded) P
        (λ e. by_hearing frame (hearing s frame) spelled is refl) (λ e. drops reason.Unguarded)

    by_taking : (frame : Option Frame) → frame_of bytes ≡ frame → P (taken_at_host s frame)
    by_taking None spelled = drops reason.Bad
    by_taking (Some frame) spelled =
        cond_both (is_same_address s.seat.address frame.to) (kind_at_host s frame frame.kind) (dropped s.seat.name reason.Stray) P
        (λ e. by_kind frame frame.kind spelled refl) (λ e. drops reason.Stray)

    -- where bytes arrive at a host
    pub by_arrival : P (at_host s bytes)
    by_arrival = cond_both s.down (dropped s.seat.name reason.Down) (taken_at_host s (frame_of bytes)) P (λ e. drops reason.Down) (λ e. by_taking (frame_of bytes) refl)
