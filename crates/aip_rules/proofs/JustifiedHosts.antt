-- What a host does is none of the events that want backing.
use Rattle.std.proofs.Common.{ℕ, Bool, true, false, cond, not, List, [], ◌∷◌, Option, Some, None}
use Rattle.aip_addr.specs.Ids.{key_id_of, is_same_address}
use Rattle.aip_addr.specs.declared.ids.KeyId.{KeyId}
use Rattle.aip_frame.specs.declared.frame.Frame.{Frame}
use Rattle.aip_frame.specs.declared.frame.Kind.{Kind}
use Rattle.aip_frame.specs.declared.frame.Kind.TheVariants.{Data, Challenge, Response, ShutOff}
use Rattle.aip_frame.specs.Frame.{frame_of, packet_hash_of}
use Rattle.aip_event.specs.declared.event.Event.TheVariants as event
use Rattle.aip_event.specs.declared.event.Reason.TheVariants as reason
use Rattle.lms_core.specs.Tree.{Key}
use Rattle.sent_log.specs.Log.{is_logged_at_all}
use Rattle.verify_packet.specs.Challenge.{Asked, asked_in}
use Rattle.verify_packet.specs.Response.{response_text_of}
use Rattle.shutoff_filter.specs.declared.entries.ShutOffEntry.{ShutOffEntry as ShutOffEntry}
use Rattle.shutoff_filter.specs.declared.judging.Heard.{Heard}
use Rattle.shutoff_filter.specs.declared.judging.Heard.TheVariants as heard
use Rattle.shutoff_filter.specs.Body.{shutoff_text_of}
use Rattle.aip_rules.specs.declared.Arming.{Arming}
use Rattle.aip_rules.specs.declared.Reaction.{Reaction}
use Rattle.aip_rules.specs.Standing.{Standing}
use Rattle.aip_rules.specs.Reaction.{dropped, happens}
use Rattle.aip_rules.specs.Host.{withheld_key, handed_to, handed_down, put_by, Signing, Dry, Stops, Signs, signing, signed, answer_frame, shutoff_frame, shut_by, answered, challenged, hearing, outlasts, obeyed_by, heard_by, kind_at_host, taken_at_host, at_host, kept_events, back_up}
use Rattle.aip_rules.proofs.JustifiedBacked.{AreQuiet}

-- no event of the reaction wants backing
abbrev pub IsQuietReaction : Reaction → Type 0
IsQuietReaction reaction = AreQuiet reaction.events

-- one of two such reactions
pub either_quiet : (test : Bool) (a b : Reaction) → IsQuietReaction a → IsQuietReaction b → IsQuietReaction (cond test a b)
either_quiet true a b p q = p
either_quiet false a b p q = q

handed_quiet : (s : Standing) (bytes : List ℕ) (to : Option KeyId) → IsQuietReaction (handed_to s bytes to)
handed_quiet s bytes None = tt
handed_quiet s bytes (Some to) = (tt, tt)

-- bytes that a host is asked to put
pub put_quiet : (s : Standing) (bytes : List ℕ) → IsQuietReaction (put_by s bytes)
put_quiet s bytes =
    either_quiet s.down (dropped s.seat.name reason.Down) (handed_down s bytes) (tt, tt) (handed_quiet s bytes (withheld_key s (frame_of bytes)))

signed_quiet : (s : Standing) (key : Key) (text : List ℕ) (frame : List ℕ → Frame) (how : Signing) → IsQuietReaction (signed s key text frame how)
signed_quiet s key text frame Dry = (tt, tt)
signed_quiet s key text frame (Stops leaf arming) = (tt, tt)
signed_quiet s key text frame (Signs leaf) = (tt, handed_quiet s _ _)

-- a shut-off that a host is asked to sign
pub shut_quiet : (s : Standing) (key : Key) (named : Frame) (ttl : ℕ) → IsQuietReaction (shut_by s key named ttl)
shut_quiet s key named ttl =
    let text = shutoff_text_of s.seat.address named.from (packet_hash_of named) s.now ttl in
    either_quiet s.down (dropped s.seat.name reason.Down) (signed s key text (shutoff_frame s key named ttl) (signing s key)) (tt, tt)
    (signed_quiet s key text (shutoff_frame s key named ttl) (signing s key))

answered_quiet : (s : Standing) (frame : Frame) (key : Option Key) → IsQuietReaction (answered s frame key)
answered_quiet s frame None = (tt, tt)
answered_quiet s frame (Some key) = signed_quiet s key (response_text_of frame.body) (answer_frame s key frame) (signing s key)

challenged_quiet : (s : Standing) (frame : Frame) (asked : Asked) → IsQuietReaction (challenged s frame asked)
challenged_quiet s frame asked =
    let logged = cond (not (is_logged_at_all s.log asked.hash)) (dropped s.seat.name reason.Unlogged) (answered s frame s.key) in
    either_quiet (not (is_same_address asked.source s.seat.address)) (dropped s.seat.name reason.NotMine) logged (tt, tt)
    (either_quiet (not (is_logged_at_all s.log asked.hash)) (dropped s.seat.name reason.Unlogged) (answered s frame s.key) (tt, tt) (answered_quiet s frame s.key))

obeyed_quiet : (s : Standing) (to : KeyId) (until : ℕ) (halt : Option Arming) → IsQuietReaction (obeyed_by s to until halt)
obeyed_quiet s to until None = (tt, tt)
obeyed_quiet s to until (Some arming) =
    either_quiet (outlasts s to until) (happens (event.Obeyed s.seat.name to until)) (happens (event.Halted s.seat.name to until arming.call arming.byte)) (tt, tt) (tt, tt)

heard_quiet : (s : Standing) (frame : Frame) (verdict : Heard) → IsQuietReaction (heard_by s frame verdict)
heard_quiet s frame (heard.Obeyed until) = obeyed_quiet s (key_id_of frame.from.eid) until s.halt
heard_quiet s frame heard.Body = (tt, tt)
heard_quiet s frame heard.Key = (tt, tt)
heard_quiet s frame heard.Signature = (tt, tt)
heard_quiet s frame heard.Early = (tt, tt)
heard_quiet s frame heard.Late = (tt, tt)
heard_quiet s frame heard.Unlogged = (tt, tt)
heard_quiet s frame heard.Full = (tt, tt)

kind_quiet : (s : Standing) (frame : Frame) (kind : Kind) → IsQuietReaction (kind_at_host s frame kind)
kind_quiet s frame Data = (tt, tt)
kind_quiet s frame Challenge = challenged_quiet s frame (asked_in frame.body)
kind_quiet s frame Response = (tt, tt)
kind_quiet s frame ShutOff =
    either_quiet s.guarded (heard_by s frame (hearing s frame)) (dropped s.seat.name reason.Unguarded) (heard_quiet s frame (hearing s frame)) (tt, tt)

taken_quiet : (s : Standing) (frame : Option Frame) → IsQuietReaction (taken_at_host s frame)
taken_quiet s None = (tt, tt)
taken_quiet s (Some frame) =
    either_quiet (is_same_address s.seat.address frame.to) (kind_at_host s frame frame.kind) (dropped s.seat.name reason.Stray) (kind_quiet s frame frame.kind) (tt, tt)

-- bytes that arrive at a host
pub host_quiet : (s : Standing) (bytes : List ℕ) → IsQuietReaction (at_host s bytes)
host_quiet s bytes =
    either_quiet s.down (dropped s.seat.name reason.Down) (taken_at_host s (frame_of bytes)) (tt, tt) (taken_quiet s (frame_of bytes))

kept_quiet : (name : List ℕ) (entries : List ShutOffEntry) → AreQuiet (kept_events name entries)
kept_quiet name [] = tt
kept_quiet name (entry ∷ entries) = (tt, kept_quiet name entries)

-- a host that starts anew
pub back_quiet : (s : Standing) → IsQuietReaction (back_up s)
back_quiet s = by s.guarded
  where
    by : (guarded : Bool) → AreQuiet (cond guarded (kept_events s.seat.name s.shut) [])
    by true = kept_quiet s.seat.name s.shut
    by false = tt
