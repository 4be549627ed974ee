-- What happens at a host: what it hands down, what it signs, and where a flight arrives at it.
use Rattle.std.specs.Prelude.{ℕ, ◌-◌, ◌==◌, ◌&&◌, Bool, not, if◌then◌else◌, nat_le, List, [], length, map, filter, Option, Some, None}
use Rattle.aip_addr.specs.Ids.{key_id_of, is_same_address}
use Rattle.aip_addr.specs.declared.ids.Address.{Address}
use Rattle.aip_addr.specs.declared.ids.KeyId.{KeyId}
use Rattle.aip_frame.specs.declared.frame.Kind.{Kind}
use Rattle.aip_frame.specs.declared.frame.Kind.TheVariants.{Data, Challenge, Response, ShutOff}
use Rattle.aip_frame.specs.declared.frame.Frame.{Frame}
use Rattle.aip_frame.specs.Frame.{frame_bytes, frame_of, packet_hash_of}
use Rattle.aip_event.specs.declared.event.Event.{Event}
use Rattle.aip_event.specs.declared.event.Event.TheVariants as event
use Rattle.aip_event.specs.declared.event.Reason.TheVariants as reason
use Rattle.lms_core.specs.Parameters.{leaves_of}
use Rattle.lms_core.specs.Tree.{Key, public_key_of, signature_of}
use Rattle.sent_log.specs.Log.{is_logged, is_logged_at_all}
use Rattle.verify_packet.specs.Challenge.{Asked, asked_in}
use Rattle.verify_packet.specs.Response.{response_of, response_text_of}
use Rattle.shutoff_filter.specs.Body.{order_in, shutoff_of, shutoff_text_of}
use Rattle.shutoff_filter.specs.Entries.{is_key, is_withheld}
use Rattle.shutoff_filter.specs.Judged.{shutoff_verdict, refusal_number}
use Rattle.shutoff_filter.specs.declared.entries.ShutOffEntry.{ShutOffEntry}
use Rattle.shutoff_filter.specs.declared.judging.Heard.{Heard}
use Rattle.shutoff_filter.specs.declared.judging.Heard.TheVariants as heard
use Rattle.aip_rules.specs.declared.Arming.{Arming}
use Rattle.aip_rules.specs.declared.Reaction.{Reaction}
use Rattle.aip_rules.specs.Standing.{Standing}
use Rattle.aip_rules.specs.Reaction.{behind, dropped, happens, puts}

-- ---- handing down

-- the data frame that a host sends: hop limit 64, its own address as source
abbrev pub sent_frame : Address → Address → ℕ → List ℕ → Frame
sent_frame to from packet body =
    record { kind = Data; hop = 64; packet = packet; to = to; from = from; body = body }

-- the key identifier for which a guard withholds a frame: that of its destination, while a shut-off for it is in force
abbrev pub withheld_key : Standing → Option Frame → Option KeyId
withheld_key s None = None
withheld_key s (Some frame) =
    if s.guarded && is_withheld s.now (key_id_of frame.to.eid) s.shut then Some (key_id_of frame.to.eid) else None

-- bytes are withheld for a key identifier, or go towards the host's port of its router
abbrev pub handed_to : Standing → List ℕ → Option KeyId → Reaction
handed_to s bytes None = puts s.towards bytes
handed_to s bytes (Some to) = happens (event.Withheld s.seat.name to)

-- what a host hands down: a guard withholds exactly the frames under a shut-off in force
abbrev pub handed_down : Standing → List ℕ → Reaction
handed_down s bytes = handed_to s bytes (withheld_key s (frame_of bytes))

-- a host that is asked to put bytes hands them down, and drops them while it is down
abbrev pub put_by : Standing → List ℕ → Reaction
put_by s bytes = if s.down then dropped s.seat.name reason.Down else handed_down s bytes

-- ---- signing

-- how a signing ends
pub data Signing : Type 0 where
  Dry : Signing
  Stops : (leaf : ℕ) → Arming → Signing
  Signs : (leaf : ℕ) → Signing

-- where a leaf is left, a stop that is armed stops the signing
abbrev pub signing_with : ℕ → Option Arming → Signing
signing_with leaf None = Signs leaf
signing_with leaf (Some arming) = Stops leaf arming

-- how a signing with a key ends, by the first that applies: no leaf is left, a stop is armed, or the next leaf signs
abbrev pub signing : Standing → Key → Signing
signing s key = if s.next == leaves_of key.height then Dry else signing_with s.next s.stop

-- what comes of a signing of a text, where the signature completes a frame: the frame is handed down. Nothing that a guard
-- goes by is changed by the signing.
abbrev pub signed : Standing → Key → List ℕ → (List ℕ → Frame) → Signing → Reaction
signed s key text frame Dry = dropped s.seat.name reason.Dry
signed s key text frame (Stops leaf arming) = happens (event.Stopped s.seat.name leaf arming.call arming.byte)
signed s key text frame (Signs leaf) =
    behind (event.Signed s.seat.name leaf) (handed_down s (frame_bytes (frame (signature_of key leaf text))))

-- the response to a challenge: to the router that it names, with hop limit 64 and the challenge's packet id
abbrev pub answer_frame : Standing → Key → Frame → List ℕ → Frame
answer_frame s key challenge signature = record {
  kind = Response;
  hop = 64;
  packet = challenge.packet;
  to = (asked_in challenge.body).router;
  from = s.seat.address;
  body = response_of challenge.body (public_key_of key) signature;
}

-- the shut-off that names a frame: to the frame's source, issued now, with hop limit 64 and packet id 0
abbrev pub shutoff_frame : Standing → Key → Frame → ℕ → List ℕ → Frame
shutoff_frame s key named ttl signature = record {
  kind = ShutOff;
  hop = 64;
  packet = 0;
  to = named.from;
  from = s.seat.address;
  body = shutoff_of (packet_hash_of named) s.now ttl (public_key_of key) signature;
}

-- a host signs a shut-off that names a frame, and drops it while it is down
abbrev pub shut_by : Standing → Key → Frame → ℕ → Reaction
shut_by s key named ttl =
    if s.down then dropped s.seat.name reason.Down else
    signed s key (shutoff_text_of s.seat.address named.from (packet_hash_of named) s.now ttl) (shutoff_frame s key named ttl) (signing s key)

-- ---- what arrives

-- a host answers a challenge with its key, if it has one
abbrev pub answered : Standing → Frame → Option Key → Reaction
answered s frame None = dropped s.seat.name reason.Mute
answered s frame (Some key) = signed s key (response_text_of frame.body) (answer_frame s key frame) (signing s key)

-- what a host does with a challenge, by the first that applies: it asks another source, it asks of a packet that isn't in
-- the log, or it is answered
abbrev pub challenged : Standing → Frame → Asked → Reaction
challenged s frame asked =
    if not (is_same_address asked.source s.seat.address) then dropped s.seat.name reason.NotMine else
    if not (is_logged_at_all s.log asked.hash) then dropped s.seat.name reason.Unlogged else
    answered s frame s.key

-- how many key identifiers other than this one are under a shut-off in force
abbrev pub others_shut : KeyId → List ShutOffEntry → ℕ
others_shut to entries = length (filter (λ entry. not (is_key entry.to to)) entries)

-- how a guarded host judges a shut-off
abbrev pub hearing : Standing → Frame → Heard
hearing s frame =
    shutoff_verdict s.now frame (is_logged s.log (order_in frame.body).hash (key_id_of frame.from.eid).bytes)
    (nat_le s.room (others_shut (key_id_of frame.from.eid) s.shut))

-- the shut-offs in force outlast a time for a key identifier: it is withheld at the last tick before
abbrev pub outlasts : Standing → KeyId → ℕ → Bool
outlasts s to until = is_withheld (until - 1) to s.shut

-- a shut-off is obeyed; but where it is to be written and a halt is armed, the write is halted
abbrev pub obeyed_by : Standing → KeyId → ℕ → Option Arming → Reaction
obeyed_by s to until None = happens (event.Obeyed s.seat.name to until)
obeyed_by s to until (Some arming) =
    if outlasts s to until
    then happens (event.Obeyed s.seat.name to until)
    else happens (event.Halted s.seat.name to until arming.call arming.byte)

-- a shut-off is refused, with the number of the reason
abbrev pub unheard : Standing → Heard → Reaction
unheard s verdict = happens (event.Heard s.seat.name (refusal_number verdict))

-- what a guarded host does with a shut-off that it has judged
abbrev pub heard_by : Standing → Frame → Heard → Reaction
heard_by s frame (heard.Obeyed until) = obeyed_by s (key_id_of frame.from.eid) until s.halt
heard_by s frame heard.Body = unheard s heard.Body
heard_by s frame heard.Key = unheard s heard.Key
heard_by s frame heard.Signature = unheard s heard.Signature
heard_by s frame heard.Early = unheard s heard.Early
heard_by s frame heard.Late = unheard s heard.Late
heard_by s frame heard.Unlogged = unheard s heard.Unlogged
heard_by s frame heard.Full = unheard s heard.Full

-- a frame of this kind, to the host
abbrev pub kind_at_host : Standing → Frame → Kind → Reaction
kind_at_host s frame Data = happens (event.Got s.seat.name frame.packet)
kind_at_host s frame Challenge = challenged s frame (asked_in frame.body)
kind_at_host s frame Response = dropped s.seat.name reason.Kind
kind_at_host s frame ShutOff = if s.guarded then heard_by s frame (hearing s frame) else dropped s.seat.name reason.Unguarded

-- a frame, or bytes that are none, at a host that is up
abbrev pub taken_at_host : Standing → Option Frame → Reaction
taken_at_host s None = dropped s.seat.name reason.Bad
taken_at_host s (Some frame) =
    if is_same_address s.seat.address frame.to then kind_at_host s frame frame.kind else dropped s.seat.name reason.Stray

-- what happens where these bytes arrive at a host, by the first line that applies
abbrev pub at_host : Standing → List ℕ → Reaction
at_host s bytes = if s.down then dropped s.seat.name reason.Down else taken_at_host s (frame_of bytes)

-- ---- a restart

-- the events by which a guarded host tells what is in force once it is up again
abbrev pub kept_events : List ℕ → List ShutOffEntry → List Event
kept_events name entries = map (λ entry. event.Kept name entry.to entry.until) entries

-- what a host says once it is up again
abbrev pub back_up : Standing → Reaction
back_up s = record { events = (if s.guarded then kept_events s.seat.name s.shut else []); put = None }
