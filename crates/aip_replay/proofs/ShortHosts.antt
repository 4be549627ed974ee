-- What a host does has short words.
use Rattle.std.proofs.Common.{◌≡◌, ℕ, ◌^◌, ◌<◌, ◌≤◌, ◌==◌, ◌&&◌, cond, not, List, [], ◌∷◌, length, Option, Some, None, refl, arith, lit<}
use Rattle.std.specs.Prelude.{IfSome}
use Rattle.std.specs.List.{AllByRecursion}
use Rattle.std.proofs.Math.Nat.{min-le_left}
use Rattle.std.proofs.lemmas.Bool.{cond_both}
use Rattle.std.proofs.lemmas.List.{length-take}
use Rattle.aip_addr.specs.Ids.{key_id_of, is_same_address}
use Rattle.aip_addr.specs.declared.ids.Id.{Id}
use Rattle.aip_addr.specs.declared.ids.KeyId.{KeyId}
use Rattle.aip_frame.specs.declared.frame.Frame.{Frame}
use Rattle.aip_frame.specs.declared.frame.Kind.{Kind}
use Rattle.aip_frame.specs.declared.frame.Kind.TheVariants.{Data, Challenge, Response, ShutOff}
use Rattle.aip_frame.specs.Frame.{Fits, IsFrame, frame_bytes, frame_of, packet_hash_of}
use Rattle.aip_frame.proofs.Frames.{sound as frame_sound}
use Rattle.aip_event.specs.declared.event.Event.{Event}
use Rattle.aip_event.specs.declared.event.Event.TheVariants as event
use Rattle.aip_event.specs.declared.event.Reason.{Reason}
use Rattle.aip_event.specs.declared.event.Reason.TheVariants as reason
use Rattle.aip_event.specs.declared.input.Target.{Target}
use Rattle.lms_core.specs.Parameters.{leaves_of}
use Rattle.lms_core.specs.Tree.{Key, signature_of}
use Rattle.sent_log.specs.Log.{is_logged_at_all}
use Rattle.verify_packet.specs.Challenge.{Asked, asked_in}
use Rattle.verify_packet.specs.Response.{response_text_of}
use Rattle.shutoff_filter.specs.Body.{shutoff_text_of}
use Rattle.shutoff_filter.specs.Entries.{is_withheld}
use Rattle.shutoff_filter.specs.declared.entries.ShutOffEntry.{ShutOffEntry as ShutOffEntry}
use Rattle.shutoff_filter.specs.declared.judging.Heard.{Heard}
use Rattle.shutoff_filter.specs.declared.judging.Heard.TheVariants as heard
use Rattle.aip_rules.specs.declared.Arming.{Arming}
use Rattle.aip_rules.specs.declared.Flight.{Flight}
use Rattle.aip_rules.specs.declared.Reaction.{Reaction}
use Rattle.aip_rules.specs.Reaction.{dropped, happens, nothing, puts}
use Rattle.aip_rules.specs.Standing.{Standing}
use Rattle.aip_rules.specs.Host.{withheld_key, handed_to, handed_down, put_by, Signing, Dry, signing_with, signing, signed, answer_frame, shutoff_frame, shut_by, answered, challenged, hearing, outlasts, obeyed_by, heard_by, kind_at_host, taken_at_host, at_host, kept_events, back_up}
use Rattle.lms_core.specs.Parameters.{most_signature}
use Rattle.aip_rules.proofs.Signed.{signature_short}
use Rattle.aip_rules.proofs.Sizes.{HasSizedAddress}
use Rattle.aip_rules.proofs.SilentOrders.{good_shut_off}
use Rattle.aip_replay.proofs.Brief.{AreBrief, brief_other, brief_shut}
use Rattle.aip_replay.proofs.Short.{IsBrief, IsLow, IsShortEntry, IsShortEvent, IsShortFlight, IsShortName, IsShortTarget}

-- the call and the byte of a stop are low
pub record IsLowArming (arming : Arming) : Type 0 where
  pub call : IsLow arming.call
  pub byte : IsLow arming.byte

-- what stands for a host has short words, and its next leaf is at most this
pub record IsShortStanding (leaves : ℕ) (s : Standing) : Type 0 where
  pub name : IsShortName s.seat.name
  pub sized : HasSizedAddress s.seat
  pub towards : IsShortTarget s.towards
  pub now : s.now < 2 ^ 48
  pub next : s.next ≤ leaves
  pub stop : IfSome s.stop IsLowArming
  pub halt : IfSome s.halt IsLowArming
  pub shut : AllByRecursion IsShortEntry s.shut

-- the words of a flight are short, and a shut-off is brief
abbrev pub IsShortPut : Flight → Type 0
IsShortPut flight = IsShortFlight flight.target flight.bytes

-- the events of a reaction have short words, and so has the flight that it puts
pub record IsShortReaction (leaves : ℕ) (reaction : Reaction) : Type 0 where
  pub events : AllByRecursion (IsShortEvent leaves) reaction.events
  pub put : IfSome reaction.put IsShortPut

pub nothing_short : (leaves : ℕ) → IsShortReaction leaves nothing
nothing_short leaves = record { events = tt; put = tt }

pub happens_short : (leaves : ℕ) (e : Event) → IsShortEvent leaves e → IsShortReaction leaves (happens e)
happens_short leaves e is = record { events = (is, tt); put = tt }

pub puts_short : (leaves : ℕ) (to : Target) (bytes : List ℕ) → IsShortTarget to → AreBrief bytes → IsShortReaction leaves (puts to bytes)
puts_short leaves to bytes is brief = record { events = tt; put = record { target = is; brief = brief } }

-- the key identifier of an id has at most 19 bytes
pub key_id_sized : (id : Id) → length (key_id_of id).bytes ≤ 19
key_id_sized id = omega (arith, length-take 19 id.bytes, min-le_left 19 (length id.bytes))

module _ (leaves : ℕ) (s : Standing) (is : IsShortStanding leaves s) where
  drops : (why : Reason) → IsShortReaction leaves (dropped s.seat.name why)
  drops why = happens_short leaves (event.Drop s.seat.name why) is.name

  withheld_sized : (frame : Option Frame) → IfSome (withheld_key s frame) (λ to. length to.bytes ≤ 19)
  withheld_sized None = tt
  withheld_sized (Some frame) =
      cond_both (s.guarded && is_withheld s.now (key_id_of frame.to.eid) s.shut) (Some (key_id_of frame.to.eid)) None (λ o. IfSome o (λ to. length to.bytes ≤ 19))
      (λ e. key_id_sized frame.to.eid) (λ e. tt)

  to_short : (bytes : List ℕ) (for : Option KeyId) → IfSome for (λ to. length to.bytes ≤ 19) → AreBrief bytes → IsShortReaction leaves (handed_to s bytes for)
  to_short bytes None sized brief = puts_short leaves s.towards bytes is.towards brief
  to_short bytes (Some to) sized brief = happens_short leaves (event.Withheld s.seat.name to) (is.name, sized)

  -- what a host hands down
  pub hand_short : (bytes : List ℕ) → AreBrief bytes → IsShortReaction leaves (handed_down s bytes)
  hand_short bytes brief = to_short bytes (withheld_key s (frame_of bytes)) (withheld_sized (frame_of bytes)) brief

  -- what a host puts where it is asked to
  pub put_short : (bytes : List ℕ) → AreBrief bytes → IsShortReaction leaves (put_by s bytes)
  put_short bytes brief =
      cond_both s.down (dropped s.seat.name reason.Down) (handed_down s bytes) (IsShortReaction leaves) (λ e. drops reason.Down) (λ e. hand_short bytes brief)

  -- the frame that a signature completes is brief
  abbrev pub IsMadeBrief : (List ℕ → Frame) → Type 0
  IsMadeBrief frame = (signature : List ℕ) → length signature ≤ most_signature → AreBrief (frame_bytes (frame signature))

  stop_short : (key : Key) (text : List ℕ) (frame : List ℕ → Frame) (stop : Option Arming) → IfSome stop IsLowArming → IsMadeBrief frame
      → IsShortReaction leaves (signed s key text frame (signing_with s.next stop))
  stop_short key text frame None armed brief =
      let hand = hand_short (frame_bytes (frame (signature_of key s.next text))) (brief (signature_of key s.next text) (signature_short key s.next text)) in
      record { events = ((is.name, is.next), hand.events); put = hand.put }
  stop_short key text frame (Some arming) armed brief =
      happens_short leaves (event.Stopped s.seat.name s.next arming.call arming.byte) (is.name, is.next, armed.call, armed.byte)

  sign_short : (key : Key) (text : List ℕ) (frame : List ℕ → Frame) → IsMadeBrief frame → IsShortReaction leaves (signed s key text frame (signing s key))
  sign_short key text frame brief =
      cond_both (s.next == leaves_of key.height) Dry (signing_with s.next s.stop) (λ (ends : Signing). IsShortReaction leaves (signed s key text frame ends))
      (λ e. drops reason.Dry) (λ e. stop_short key text frame s.stop is.stop brief)

  -- a shut-off that a host signs
  pub shut_short : (key : Key) (named : Frame) (ttl : ℕ) → Fits named → ttl < 2 ^ 32 → IsShortReaction leaves (shut_by s key named ttl)
  shut_short key named ttl fits low =
      let text = shutoff_text_of s.seat.address named.from (packet_hash_of named) s.now ttl in
      cond_both s.down (dropped s.seat.name reason.Down) (signed s key text (shutoff_frame s key named ttl) (signing s key)) (IsShortReaction leaves)
      (λ e. drops reason.Down)
      (λ e. sign_short key text (shutoff_frame s key named ttl) (λ signature short. brief_shut s key named ttl signature is.sized fits low short))

  answer_short : (frame : Frame) (key : Option Key) → IsShortReaction leaves (answered s frame key)
  answer_short frame None = drops reason.Mute
  answer_short frame (Some key) =
      sign_short key (response_text_of frame.body) (answer_frame s key frame) (λ signature short. brief_other (answer_frame s key frame signature) (λ e. cc))

  challenge_short : (frame : Frame) (asked : Asked) → IsShortReaction leaves (challenged s frame asked)
  challenge_short frame asked =
      let unknown = not (is_logged_at_all s.log asked.hash) in
      let then = cond unknown (dropped s.seat.name reason.Unlogged) (answered s frame s.key) in
      cond_both (not (is_same_address asked.source s.seat.address)) (dropped s.seat.name reason.NotMine) then (IsShortReaction leaves)
      (λ e. drops reason.NotMine)
      (λ e. cond_both unknown (dropped s.seat.name reason.Unlogged) (answered s frame s.key) (IsShortReaction leaves) (λ e. drops reason.Unlogged) (λ e. answer_short frame s.key))

  order_short : (to : KeyId) (until : ℕ) (halt : Option Arming) → length to.bytes ≤ 19 → IsLow until → IfSome halt IsLowArming → IsShortReaction leaves (obeyed_by s to until halt)
  order_short to until None sized low armed = happens_short leaves (event.Obeyed s.seat.name to until) (is.name, sized, low)
  order_short to until (Some arming) sized low armed =
      cond_both (outlasts s to until) (happens (event.Obeyed s.seat.name to until)) (happens (event.Halted s.seat.name to until arming.call arming.byte)) (IsShortReaction leaves)
      (λ e. happens_short leaves (event.Obeyed s.seat.name to until) (is.name, sized, low))
      (λ e. happens_short leaves (event.Halted s.seat.name to until arming.call arming.byte) (is.name, sized, low, armed.call, armed.byte))

  -- a shut-off that is to be obeyed lasts until a low number
  until_low : (frame : Frame) (until : ℕ) → IsBrief frame → frame.kind ≡ ShutOff → hearing s frame ≡ heard.Obeyed until → IsLow until
  until_low frame until brief kind told =
      let good = good_shut_off s.now frame _ _ until told in
      let issued = good.issued in
      let lasts = good.lasts in
      let low = brief kind in
      let now = is.now in
      omega arith

  told_short : (frame : Frame) (verdict : Heard) → IsBrief frame → frame.kind ≡ ShutOff → hearing s frame ≡ verdict → IsShortReaction leaves (heard_by s frame verdict)
  told_short frame (heard.Obeyed until) brief kind told =
      order_short (key_id_of frame.from.eid) until s.halt (key_id_sized frame.from.eid) (until_low frame until brief kind told) is.halt
  told_short frame heard.Body brief kind told = record { events = ((is.name, lit< tt), tt); put = tt }
  told_short frame heard.Key brief kind told = record { events = ((is.name, lit< tt), tt); put = tt }
  told_short frame heard.Signature brief kind told = record { events = ((is.name, lit< tt), tt); put = tt }
  told_short frame heard.Early brief kind told = record { events = ((is.name, lit< tt), tt); put = tt }
  told_short frame heard.Late brief kind told = record { events = ((is.name, lit< tt), tt); put = tt }
  told_short frame heard.Unlogged brief kind told = record { events = ((is.name, lit< tt), tt); put = tt }
  told_short frame heard.Full brief kind told = record { events = ((is.name, lit< tt), tt); put = tt }

  kind_short : (frame : Frame) (kind : Kind) → Fits frame → IsBrief frame → frame.kind ≡ kind → IsShortReaction leaves (kind_at_host s frame kind)
  kind_short frame Data fits brief same =
      let low = fits.packet in
      happens_short leaves (event.Got s.seat.name frame.packet) (is.name, omega arith)
  kind_short frame Challenge fits brief same = challenge_short frame (asked_in frame.body)
  kind_short frame Response fits brief same = drops reason.Kind
  kind_short frame ShutOff fits brief same =
      cond_both s.guarded (heard_by s frame (hearing s frame)) (dropped s.seat.name reason.Unguarded) (IsShortReaction leaves)
      (λ e. told_short frame (hearing s frame) brief same refl) (λ e. drops reason.Unguarded)

  taken_short : (bytes : List ℕ) (frame : Option Frame) → IfSome frame (IsFrame bytes) → IfSome frame IsBrief → IsShortReaction leaves (taken_at_host s frame)
  taken_short bytes None spelled brief = drops reason.Bad
  taken_short bytes (Some frame) spelled brief =
      cond_both (is_same_address s.seat.address frame.to) (kind_at_host s frame frame.kind) (dropped s.seat.name reason.Stray) (IsShortReaction leaves)
      (λ e. kind_short frame frame.kind spelled.fits brief refl) (λ e. drops reason.Stray)

  -- what happens where bytes arrive at a host
  pub arrival_short : (bytes : List ℕ) → AreBrief bytes → IsShortReaction leaves (at_host s bytes)
  arrival_short bytes brief =
      cond_both s.down (dropped s.seat.name reason.Down) (taken_at_host s (frame_of bytes)) (IsShortReaction leaves)
      (λ e. drops reason.Down) (λ e. taken_short bytes (frame_of bytes) (frame_sound bytes) brief)

  kept_short : (entries : List ShutOffEntry) → AllByRecursion IsShortEntry entries → AllByRecursion (IsShortEvent leaves) (kept_events s.seat.name entries)
  kept_short [] short = tt
  kept_short (entry ∷ entries) short = ((is.name, short.0.0, short.0.1), kept_short entries short.1)

  -- what a host says once it is up again
  pub restart_short : IsShortReaction leaves (back_up s)
  restart_short = record {
    events = cond_both s.guarded (kept_events s.seat.name s.shut) [] (AllByRecursion (IsShortEvent leaves)) (λ e. kept_short s.shut is.shut) (λ e. tt);
    put = tt;
  }
