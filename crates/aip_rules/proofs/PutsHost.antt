-- What a host does is modest: it puts at most one flight, of at most 9,216 bytes.
use Rattle.std.proofs.Common.{◌≡◌, ℕ, ◌≤◌, true, false, cond, not, List, [], ◌∷◌, length, Option, Some, None, refl}
use Rattle.std.specs.Prelude.{IfSome}
use Rattle.aip_addr.specs.Ids.{key_id_of, is_same_address}
use Rattle.aip_addr.specs.declared.ids.KeyId.{KeyId}
use Rattle.aip_frame.specs.declared.frame.Frame.{Frame}
use Rattle.aip_frame.specs.declared.frame.Kind.{Kind}
use Rattle.aip_frame.specs.declared.frame.Kind.TheVariants.{Data, Challenge, Response, ShutOff}
use Rattle.aip_frame.specs.Frame.{frame_of, frame_bytes, packet_hash_of, Fits, IsFrame}
use Rattle.aip_frame.proofs.Frames.{sound as frame_sound}
use Rattle.aip_event.specs.declared.event.Event.TheVariants as event
use Rattle.aip_event.specs.declared.event.Reason.TheVariants as reason
use Rattle.lms_core.specs.Tree.{Key, signature_of}
use Rattle.sent_log.specs.Log.{is_logged_at_all}
use Rattle.verify_packet.specs.Challenge.{Asked, asked_in}
use Rattle.verify_packet.specs.Response.{response_text_of}
use Rattle.shutoff_filter.specs.Body.{shutoff_text_of}
use Rattle.shutoff_filter.specs.declared.entries.ShutOffEntry.{ShutOffEntry as ShutOffEntry}
use Rattle.shutoff_filter.specs.declared.judging.Heard.{Heard}
use Rattle.shutoff_filter.specs.declared.judging.Heard.TheVariants as heard
use Rattle.aip_rules.specs.declared.Arming.{Arming}
use Rattle.aip_rules.specs.Reaction.{dropped, happens}
use Rattle.aip_rules.specs.Standing.{Standing}
use Rattle.aip_rules.specs.Host.{withheld_key, handed_to, handed_down, put_by, Signing, Dry, Stops, Signs, signing, signed, answer_frame, shutoff_frame, shut_by, answered, challenged, hearing, outlasts, obeyed_by, heard_by, kind_at_host, taken_at_host, at_host, kept_events, back_up}
use Rattle.aip_rules.proofs.Sizes.{HasSizedAddress}
use Rattle.lms_core.specs.Parameters.{most_signature}
use Rattle.aip_rules.proofs.Signed.{signature_short, answer_short, shutoff_short}
use Rattle.aip_rules.proofs.Modest.{AreCalm, IsModest, happens_modest, dropped_modest, puts_modest, behind_modest, either}

handed_to_modest : (s : Standing) (bytes : List ℕ) (for : Option KeyId) → length bytes ≤ 9216 → IsModest (handed_to s bytes for)
handed_to_modest s bytes None short = puts_modest s.towards bytes short
handed_to_modest s bytes (Some to) short = happens_modest (event.Withheld s.seat.name to) refl

-- what a host hands down
pub handed_modest : (s : Standing) (bytes : List ℕ) → length bytes ≤ 9216 → IsModest (handed_down s bytes)
handed_modest s bytes short = handed_to_modest s bytes (withheld_key s (frame_of bytes)) short

-- what a host puts where it is asked to
pub put_by_modest : (s : Standing) (bytes : List ℕ) → length bytes ≤ 9216 → IsModest (put_by s bytes)
put_by_modest s bytes short =
    either s.down (dropped s.seat.name reason.Down) (handed_down s bytes)
    (λ e. dropped_modest s.seat.name reason.Down) (λ e. handed_modest s bytes short)

-- the frame that a signature completes is short
abbrev pub IsShortSigned : (List ℕ → Frame) → Type 0
IsShortSigned frame = (signature : List ℕ) → length signature ≤ most_signature → length (frame_bytes (frame signature)) ≤ 9216

signed_modest : (s : Standing) (key : Key) (text : List ℕ) (frame : List ℕ → Frame) (ends : Signing) → IsShortSigned frame → IsModest (signed s key text frame ends)
signed_modest s key text frame Dry short = dropped_modest s.seat.name reason.Dry
signed_modest s key text frame (Stops leaf arming) short = happens_modest (event.Stopped s.seat.name leaf arming.call arming.byte) refl
signed_modest s key text frame (Signs leaf) short =
    behind_modest (event.Signed s.seat.name leaf) (handed_down s (frame_bytes (frame (signature_of key leaf text)))) refl
    (handed_modest s (frame_bytes (frame (signature_of key leaf text))) (short (signature_of key leaf text) (signature_short key leaf text)))

-- a shut-off that a host signs
pub shut_by_modest : (s : Standing) (key : Key) (named : Frame) (ttl : ℕ) → HasSizedAddress s.seat → Fits named → IsModest (shut_by s key named ttl)
shut_by_modest s key named ttl seat fits =
    let text = shutoff_text_of s.seat.address named.from (packet_hash_of named) s.now ttl in
    either s.down (dropped s.seat.name reason.Down) (signed s key text (shutoff_frame s key named ttl) (signing s key))
    (λ e. dropped_modest s.seat.name reason.Down)
    (λ e. signed_modest s key text (shutoff_frame s key named ttl) (signing s key) (λ signature short. shutoff_short s key named ttl signature seat fits short))

answered_modest : (s : Standing) (frame : Frame) (key : Option Key) → HasSizedAddress s.seat → Fits frame → length frame.body ≡ 154 → IsModest (answered s frame key)
answered_modest s frame None seat fits long = dropped_modest s.seat.name reason.Mute
answered_modest s frame (Some key) seat fits long =
    signed_modest s key (response_text_of frame.body) (answer_frame s key frame) (signing s key)
    (λ signature short. answer_short s key frame signature seat fits long short)

challenged_modest : (s : Standing) (frame : Frame) (asked : Asked) → HasSizedAddress s.seat → Fits frame → length frame.body ≡ 154 → IsModest (challenged s frame asked)
challenged_modest s frame asked seat fits long =
    let mine = not (is_same_address asked.source s.seat.address) in
    let unknown = not (is_logged_at_all s.log asked.hash) in
    let then = cond unknown (dropped s.seat.name reason.Unlogged) (answered s frame s.key) in
    either mine (dropped s.seat.name reason.NotMine) then
    (λ e. dropped_modest s.seat.name reason.NotMine)
    (λ e. either unknown (dropped s.seat.name reason.Unlogged) (answered s frame s.key)
    (λ e. dropped_modest s.seat.name reason.Unlogged) (λ e. answered_modest s frame s.key seat fits long))

obeyed_modest : (s : Standing) (to : KeyId) (until : ℕ) (halt : Option Arming) → IsModest (obeyed_by s to until halt)
obeyed_modest s to until None = happens_modest (event.Obeyed s.seat.name to until) refl
obeyed_modest s to until (Some arming) =
    either (outlasts s to until) (happens (event.Obeyed s.seat.name to until)) (happens (event.Halted s.seat.name to until arming.call arming.byte))
    (λ e. happens_modest (event.Obeyed s.seat.name to until) refl)
    (λ e. happens_modest (event.Halted s.seat.name to until arming.call arming.byte) refl)

heard_modest : (s : Standing) (frame : Frame) (verdict : Heard) → IsModest (heard_by s frame verdict)
heard_modest s frame (heard.Obeyed until) = obeyed_modest s (key_id_of frame.from.eid) until s.halt
heard_modest s frame heard.Body = record { calm = (refl, tt); short = tt }
heard_modest s frame heard.Key = record { calm = (refl, tt); short = tt }
heard_modest s frame heard.Signature = record { calm = (refl, tt); short = tt }
heard_modest s frame heard.Early = record { calm = (refl, tt); short = tt }
heard_modest s frame heard.Late = record { calm = (refl, tt); short = tt }
heard_modest s frame heard.Unlogged = record { calm = (refl, tt); short = tt }
heard_modest s frame heard.Full = record { calm = (refl, tt); short = tt }

kind_modest : (s : Standing) (frame : Frame) (kind : Kind) → frame.kind ≡ kind → HasSizedAddress s.seat → Fits frame → IsModest (kind_at_host s frame kind)
kind_modest s frame Data is seat fits = happens_modest (event.Got s.seat.name frame.packet) refl
kind_modest s frame Challenge is seat fits = challenged_modest s frame (asked_in frame.body) seat fits (fits.challenge is)
kind_modest s frame Response is seat fits = dropped_modest s.seat.name reason.Kind
kind_modest s frame ShutOff is seat fits =
    either s.guarded (heard_by s frame (hearing s frame)) (dropped s.seat.name reason.Unguarded)
    (λ e. heard_modest s frame (hearing s frame)) (λ e. dropped_modest s.seat.name reason.Unguarded)

-- what is taken at a host
pub host_modest : (s : Standing) (bytes : List ℕ) (frame : Option Frame) → HasSizedAddress s.seat → IfSome frame (IsFrame bytes) → IsModest (taken_at_host s frame)
host_modest s bytes None seat is = dropped_modest s.seat.name reason.Bad
host_modest s bytes (Some frame) seat is =
    either (is_same_address s.seat.address frame.to) (kind_at_host s frame frame.kind) (dropped s.seat.name reason.Stray)
    (λ e. kind_modest s frame frame.kind refl seat is.fits) (λ e. dropped_modest s.seat.name reason.Stray)

-- what happens where bytes arrive at a host
pub at_host_modest : (s : Standing) (bytes : List ℕ) → HasSizedAddress s.seat → IsModest (at_host s bytes)
at_host_modest s bytes seat =
    either s.down (dropped s.seat.name reason.Down) (taken_at_host s (frame_of bytes))
    (λ e. dropped_modest s.seat.name reason.Down) (λ e. host_modest s bytes (frame_of bytes) seat (frame_sound bytes))

kept_calm : (name : List ℕ) (entries : List ShutOffEntry) → AreCalm (kept_events name entries)
kept_calm name [] = tt
kept_calm name (entry ∷ entries) = (refl, kept_calm name entries)

-- what a host says once it is up again
pub back_up_modest : (s : Standing) → IsModest (back_up s)
back_up_modest s = record {
  calm = elim s.guarded as (λ b. AreCalm (cond b (kept_events s.seat.name s.shut) [])) [ true ↦ kept_calm s.seat.name s.shut | false ↦ tt ];
  short = tt;
}
