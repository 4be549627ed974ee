-- Events and inputs whose words are short, and so their lines.
use Rattle.std.proofs.Common.{◌≡◌, ℕ, ◌^◌, ◌<◌, ◌≤◌, List, [], ◌∷◌, length, refl, arith, lit≤}
use Rattle.std.specs.Prelude.{codes, decimal, IfSome}
use Rattle.aip_frame.specs.declared.frame.Frame.{Frame}
use Rattle.aip_frame.specs.declared.frame.Kind.TheVariants.{ShutOff}
use Rattle.aip_frame.specs.Frame.{frame_of}
use Rattle.aip_text.specs.Words.{IsNumber}
use Rattle.aip_event.specs.Lines.{IsInput, IsTarget, event_line, input_line, target_word}
use Rattle.aip_event.specs.declared.input.Target.{Target}
use Rattle.aip_event.specs.declared.input.Target.TheVariants as target
use Rattle.aip_event.specs.declared.input.Input.{Input}
use Rattle.aip_event.specs.declared.input.Input.TheVariants as input
use Rattle.aip_event.specs.declared.event.Event.{Event}
use Rattle.aip_event.specs.declared.event.Event.TheVariants as event
use Rattle.shutoff_filter.specs.Body.{order_in}
use Rattle.shutoff_filter.specs.declared.entries.ShutOffEntry.{ShutOffEntry as ShutOffEntry}
use Rattle.aip_rules.specs.declared.Entry.TheVariants.{Taken}
use Rattle.aip_rules.proofs.Sizes.{IsSizedAddress, IsSizedId}
use Rattle.aip_replay.specs.Marks.{entry_mark, event_mark}
use Rattle.aip_replay.specs.Texts.{IsTraceLine}
use Rattle.aip_replay.proofs.Words.{IsWord, address_short, behind, bytes_short, cause_short, id_short, key_id_short, name_word, number_word, reason_short, spaced, within, word}

-- a number below 2^64
abbrev pub IsLow : ℕ → Type 0
IsLow n = n < 2 ^ 64

-- a name of at most 16 bytes, or none
abbrev pub IsShortName : List ℕ → Type 0
IsShortName name = IsWord 16 name

-- a target with a short name and a low number
abbrev pub IsShortTarget : Target → Type 0
IsShortTarget (target.Port router port) = IsShortName router × IsLow port
IsShortTarget (target.Host name) = IsShortName name

-- a frame lasts no longer than a number of 32 bits says, if it is a shut-off
abbrev pub IsBrief : Frame → Type 0
IsBrief frame = frame.kind ≡ ShutOff → (order_in frame.body).ttl < 2 ^ 32

-- bytes towards a target whose words are short: a shut-off among them is brief
pub record IsShortFlight (to : Target) (bytes : List ℕ) : Type 0 where
  pub target : IsShortTarget to
  pub brief : IfSome (frame_of bytes) IsBrief

-- the entry of a filter has a short key identifier and a low until
abbrev pub IsShortEntry : ShutOffEntry → Type 0
IsShortEntry entry = (length entry.to.bytes ≤ 19) × IsLow entry.until

-- the words of an event are short, and a leaf that it names is at most this
abbrev pub IsShortEvent : ℕ → Event → Type 0
IsShortEvent leaves (event.Put flight to bytes) = IsLow flight × IsShortFlight to bytes × (length bytes ≤ 9216)
IsShortEvent leaves (event.Forward router in_port out_port cause) = IsShortName router × IsLow in_port × IsLow out_port
IsShortEvent leaves (event.Ask router in_port out_port) = IsShortName router × IsLow in_port × IsLow out_port
IsShortEvent leaves (event.Proved router source port) = IsShortName router × IsSizedAddress source × IsLow port
IsShortEvent leaves (event.Wild router ad port) = IsShortName router × IsSizedId ad × IsLow port
IsShortEvent leaves (event.Refuse router number) = IsShortName router × IsLow number
IsShortEvent leaves (event.Drop node reason) = IsShortName node
IsShortEvent leaves (event.Got host packet) = IsShortName host × IsLow packet
IsShortEvent leaves (event.Signed host leaf) = IsShortName host × (leaf ≤ leaves)
IsShortEvent leaves (event.Stopped host leaf call byte) = IsShortName host × (leaf ≤ leaves) × IsLow call × IsLow byte
IsShortEvent leaves (event.Withheld host to) = IsShortName host × (length to.bytes ≤ 19)
IsShortEvent leaves (event.Obeyed host sender until) = IsShortName host × (length sender.bytes ≤ 19) × IsLow until
IsShortEvent leaves (event.Heard host number) = IsShortName host × IsLow number
IsShortEvent leaves (event.Halted host sender until call byte) = IsShortName host × (length sender.bytes ≤ 19) × IsLow until × IsLow call × IsLow byte
IsShortEvent leaves (event.Kept host sender until) = IsShortName host × (length sender.bytes ≤ 19) × IsLow until
IsShortEvent leaves (event.PublishedPeer ad other number until) = IsSizedId ad × IsSizedId other × IsLow number × IsLow until
IsShortEvent leaves (event.PublishedBind ad other number until) = IsSizedId ad × IsSizedId other × IsLow number × IsLow until
IsShortEvent leaves (event.Unpublished number) = IsLow number

-- ## Lines

target_short : (to : Target) → IsShortTarget to → IsWord 37 (target_word to)
target_short (target.Port router port) is = behind 47 refl is.0 (number_word port is.1)
target_short (target.Host name) is = within is (lit≤ tt)

-- a line behind its mark has at most 20,000 bytes
abbrev pub IsShortLine : List ℕ → Type 0
IsShortLine line = IsWord 19998 line

-- a leaf is a low number
leaf_low : (leaf leaves : ℕ) → leaves ≤ 65536 → leaf ≤ leaves → IsLow leaf
leaf_low leaf leaves few le = omega arith

-- the line of an event whose words are short
pub event_short : (leaves : ℕ) (e : Event) → leaves ≤ 65536 → IsShortEvent leaves e → IsShortLine (event_line e)
event_short leaves (event.Put flight to bytes) few is =
    within (spaced (spaced (spaced (word 20 (codes "put") refl (lit≤ tt)) (number_word flight is.0)) (target_short to is.1.target)) (bytes_short bytes is.2)) (lit≤ tt)
event_short leaves (event.Forward router in_port out_port cause) few is =
    within (spaced (spaced (spaced (spaced (word 20 (codes "forward") refl (lit≤ tt)) is.0) (number_word in_port is.1)) (number_word out_port is.2)) (cause_short cause)) (lit≤ tt)
event_short leaves (event.Ask router in_port out_port) few is =
    within (spaced (spaced (spaced (word 20 (codes "ask") refl (lit≤ tt)) is.0) (number_word in_port is.1)) (number_word out_port is.2)) (lit≤ tt)
event_short leaves (event.Proved router source port) few is =
    within (spaced (spaced (spaced (word 20 (codes "proved") refl (lit≤ tt)) is.0) (address_short source is.1)) (number_word port is.2)) (lit≤ tt)
event_short leaves (event.Wild router ad port) few is =
    within (spaced (spaced (spaced (word 20 (codes "wild") refl (lit≤ tt)) is.0) (id_short ad is.1)) (number_word port is.2)) (lit≤ tt)
event_short leaves (event.Refuse router number) few is =
    within (spaced (spaced (word 20 (codes "refuse") refl (lit≤ tt)) is.0) (number_word number is.1)) (lit≤ tt)
event_short leaves (event.Drop node reason) few is =
    within (spaced (spaced (word 20 (codes "drop") refl (lit≤ tt)) is) (reason_short reason)) (lit≤ tt)
event_short leaves (event.Got host packet) few is =
    within (spaced (spaced (word 20 (codes "got") refl (lit≤ tt)) is.0) (number_word packet is.1)) (lit≤ tt)
event_short leaves (event.Signed host leaf) few is =
    within (spaced (spaced (word 20 (codes "signed") refl (lit≤ tt)) is.0) (number_word leaf (leaf_low leaf leaves few is.1))) (lit≤ tt)
event_short leaves (event.Stopped host leaf call byte) few is =
    within (spaced (spaced (spaced (spaced (word 20 (codes "stopped") refl (lit≤ tt)) is.0) (number_word leaf (leaf_low leaf leaves few is.1))) (number_word call is.2)) (number_word byte is.3)) (lit≤ tt)
event_short leaves (event.Withheld host to) few is =
    within (spaced (spaced (word 20 (codes "withheld") refl (lit≤ tt)) is.0) (key_id_short to is.1)) (lit≤ tt)
event_short leaves (event.Obeyed host sender until) few is =
    within (spaced (spaced (spaced (word 20 (codes "obeyed") refl (lit≤ tt)) is.0) (key_id_short sender is.1)) (number_word until is.2)) (lit≤ tt)
event_short leaves (event.Heard host number) few is =
    within (spaced (spaced (word 20 (codes "heard") refl (lit≤ tt)) is.0) (number_word number is.1)) (lit≤ tt)
event_short leaves (event.Halted host sender until call byte) few is =
    within (spaced (spaced (spaced (spaced (spaced (word 20 (codes "halted") refl (lit≤ tt)) is.0) (key_id_short sender is.1)) (number_word until is.2)) (number_word call is.3)) (number_word byte is.4)) (lit≤ tt)
event_short leaves (event.Kept host sender until) few is =
    within (spaced (spaced (spaced (word 20 (codes "kept") refl (lit≤ tt)) is.0) (key_id_short sender is.1)) (number_word until is.2)) (lit≤ tt)
event_short leaves (event.PublishedPeer ad other number until) few is =
    within (spaced (spaced (spaced (spaced (word 20 (codes "published peer") refl (lit≤ tt)) (id_short ad is.0)) (id_short other is.1)) (number_word number is.2)) (number_word until is.3)) (lit≤ tt)
event_short leaves (event.PublishedBind ad other number until) few is =
    within (spaced (spaced (spaced (spaced (word 20 (codes "published bind") refl (lit≤ tt)) (id_short ad is.0)) (id_short other is.1)) (number_word number is.2)) (number_word until is.3)) (lit≤ tt)
event_short leaves (event.Unpublished number) few is =
    within (spaced (word 20 (codes "unpublished") refl (lit≤ tt)) (number_word number is)) (lit≤ tt)

-- ## Inputs

-- the bytes that an input brings are at most 9,216
abbrev pub IsShortInput : Input → Type 0
IsShortInput (input.Send host node packet body) = length body ≤ 9216
IsShortInput (input.Raw host bytes) = length bytes ≤ 9216
IsShortInput (input.Inject to bytes) = length bytes ≤ 9216
IsShortInput (input.Publish bytes) = length bytes ≤ 9216
IsShortInput _ = Unit {0}

number_short : (n : ℕ) → IsNumber n → IsWord 20 (decimal n)
number_short n small = number_word n (omega arith)

named_target : (to : Target) → IsTarget to → IsWord 37 (target_word to)
named_target (target.Port router port) is = behind 47 refl (name_word router is.0) (number_short port is.1)
named_target (target.Host name) is = within (name_word name is) (lit≤ tt)

-- the line of an input of the grammar that brings no more bytes
pub input_short : (i : Input) → IsInput i → IsShortInput i → IsShortLine (input_line i)
input_short (input.Tick ticks) is short = within (spaced (word 20 (codes "tick") refl (lit≤ tt)) (number_short ticks is)) (lit≤ tt)
input_short (input.Send host node packet body) is short =
    within (spaced (spaced (spaced (spaced (word 20 (codes "send") refl (lit≤ tt)) (name_word host is.0)) (name_word node is.1)) (number_short packet is.2)) (bytes_short body short)) (lit≤ tt)
input_short (input.Raw host bytes) is short =
    within (spaced (spaced (word 20 (codes "raw") refl (lit≤ tt)) (name_word host is.0)) (bytes_short bytes short)) (lit≤ tt)
input_short (input.Deliver flight) is short = within (spaced (word 20 (codes "deliver") refl (lit≤ tt)) (number_short flight is)) (lit≤ tt)
input_short (input.Inject to bytes) is short =
    within (spaced (spaced (word 20 (codes "inject") refl (lit≤ tt)) (named_target to is.0)) (bytes_short bytes short)) (lit≤ tt)
input_short (input.Cut link) is short = within (spaced (word 20 (codes "cut") refl (lit≤ tt)) (number_short link is)) (lit≤ tt)
input_short (input.Mend link) is short = within (spaced (word 20 (codes "mend") refl (lit≤ tt)) (number_short link is)) (lit≤ tt)
input_short (input.Shutoff host flight ttl) is short =
    within (spaced (spaced (spaced (word 20 (codes "shutoff") refl (lit≤ tt)) (name_word host is.0)) (number_short flight is.1)) (number_short ttl is.2)) (lit≤ tt)
input_short (input.Restart node) is short = within (spaced (word 20 (codes "restart") refl (lit≤ tt)) (name_word node is)) (lit≤ tt)
input_short (input.Stop host call byte) is short =
    within (spaced (spaced (spaced (word 20 (codes "stop") refl (lit≤ tt)) (name_word host is.0)) (number_short call is.1)) (number_short byte is.2)) (lit≤ tt)
input_short (input.Halt host call byte) is short =
    within (spaced (spaced (spaced (word 20 (codes "halt") refl (lit≤ tt)) (name_word host is.0)) (number_short call is.1)) (number_short byte is.2)) (lit≤ tt)
input_short (input.Publish bytes) is short = within (spaced (word 20 (codes "publish") refl (lit≤ tt)) (bytes_short bytes short)) (lit≤ tt)

-- ## Marks

-- a short line behind its mark is a line of a trace text
marked : (c : ℕ) (line : List ℕ) → IsWord 1 (c ∷ []) → IsShortLine line → IsTraceLine (c ∷ 32 ∷ line)
marked c line mark is = let all = spaced mark is in record { one = all.one; short = all.short }

pub event_plain : (leaves : ℕ) (e : Event) → leaves ≤ 65536 → IsShortEvent leaves e → IsTraceLine (event_mark e)
event_plain leaves e few is = marked 60 (event_line e) (word 1 (60 ∷ []) refl (lit≤ tt)) (event_short leaves e few is)

pub input_plain : (i : Input) → IsInput i → IsShortInput i → IsTraceLine (entry_mark (Taken i))
input_plain i is short = marked 62 (input_line i) (word 1 (62 ∷ []) refl (lit≤ tt)) (input_short i is short)
