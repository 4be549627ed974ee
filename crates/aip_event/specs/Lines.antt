-- The line of an input and of an event: words with one space between them.
use Rattle.std.specs.Prelude.{ℕ, ◌<◌, ◌^◌, List, [], ◌∷◌, ◌++◌, flat_map, codes, decimal, ⊤}
use Rattle.hex.specs.Hex.{IsBytes, encode_lower}
use Rattle.aip_addr.specs.Naming.{IsName}
use Rattle.aip_addr.specs.declared.ids.KeyId.{KeyId}
use Rattle.aip_addr.specs.declared.ids.Address.{Address}
use Rattle.aip_text.specs.Fields.{IsId, IsSized, id_word}
use Rattle.aip_text.specs.Words.{bytes_word, IsNumber}
use Rattle.aip_event.specs.declared.input.Target.{Target}
use Rattle.aip_event.specs.declared.input.Target.TheVariants as target
use Rattle.aip_event.specs.declared.input.Input.{Input}
use Rattle.aip_event.specs.declared.input.Input.TheVariants as input
use Rattle.aip_event.specs.declared.event.Cause.{Cause}
use Rattle.aip_event.specs.declared.event.Cause.TheVariants as cause
use Rattle.aip_event.specs.declared.event.Reason.{Reason}
use Rattle.aip_event.specs.declared.event.Reason.TheVariants as reason
use Rattle.aip_event.specs.declared.event.Event.{Event}
use Rattle.aip_event.specs.declared.event.Event.TheVariants as event

-- a port is written as its router's name, a slash and its number; a host by its name
abbrev pub target_word : Target → List ℕ
target_word (target.Port router port) = router ++ 47 ∷ decimal port
target_word (target.Host name) = name

-- the word of a cause
abbrev pub cause_word : Cause → List ℕ
cause_word cause.Open = codes "open"
cause_word cause.Exempt = codes "exempt"
cause_word cause.Trusted = codes "trusted"
cause_word cause.Reverse = codes "reverse"
cause_word cause.Proved = codes "proved"
cause_word cause.Wild = codes "wild"

-- the word of a reason
abbrev pub reason_word : Reason → List ℕ
reason_word reason.Bad = codes "bad"
reason_word reason.Mine = codes "mine"
reason_word reason.Hops = codes "hops"
reason_word reason.NoRoute = codes "noroute"
reason_word reason.Foreign = codes "foreign"
reason_word reason.NoBack = codes "noback"
reason_word reason.Down = codes "down"
reason_word reason.Stray = codes "stray"
reason_word reason.NotMine = codes "notmine"
reason_word reason.Unlogged = codes "unlogged"
reason_word reason.Mute = codes "mute"
reason_word reason.Dry = codes "dry"
reason_word reason.Kind = codes "kind"
reason_word reason.Unguarded = codes "unguarded"

-- a key identifier in hex, of 38 digits
abbrev pub key_id_word : KeyId → List ℕ
key_id_word id = encode_lower id.bytes

-- an address: its domain's id, a colon, and the id of the host or the router
abbrev pub address_word : Address → List ℕ
address_word address = id_word address.ad ++ 58 ∷ id_word address.eid

-- the line of an input
abbrev pub input_line : Input → List ℕ
input_line (input.Tick ticks) = codes "tick" ++ 32 ∷ decimal ticks
input_line (input.Send host node packet body) = codes "send" ++ 32 ∷ host ++ 32 ∷ node ++ 32 ∷ decimal packet ++ 32 ∷ bytes_word body
input_line (input.Raw host bytes) = codes "raw" ++ 32 ∷ host ++ 32 ∷ bytes_word bytes
input_line (input.Deliver flight) = codes "deliver" ++ 32 ∷ decimal flight
input_line (input.Inject target bytes) = codes "inject" ++ 32 ∷ target_word target ++ 32 ∷ bytes_word bytes
input_line (input.Cut link) = codes "cut" ++ 32 ∷ decimal link
input_line (input.Mend link) = codes "mend" ++ 32 ∷ decimal link
input_line (input.Shutoff host flight ttl) = codes "shutoff" ++ 32 ∷ host ++ 32 ∷ decimal flight ++ 32 ∷ decimal ttl
input_line (input.Restart node) = codes "restart" ++ 32 ∷ node
input_line (input.Stop host call byte) = codes "stop" ++ 32 ∷ host ++ 32 ∷ decimal call ++ 32 ∷ decimal byte
input_line (input.Halt host call byte) = codes "halt" ++ 32 ∷ host ++ 32 ∷ decimal call ++ 32 ∷ decimal byte
input_line (input.Publish bytes) = codes "publish" ++ 32 ∷ bytes_word bytes

-- the line of an event
abbrev pub event_line : Event → List ℕ
event_line (event.Put flight target bytes) = codes "put" ++ 32 ∷ decimal flight ++ 32 ∷ target_word target ++ 32 ∷ bytes_word bytes
event_line (event.Forward router in_port out_port cause) = codes "forward" ++ 32 ∷ router ++ 32 ∷ decimal in_port ++ 32 ∷ decimal out_port ++ 32 ∷ cause_word cause
event_line (event.Ask router in_port out_port) = codes "ask" ++ 32 ∷ router ++ 32 ∷ decimal in_port ++ 32 ∷ decimal out_port
event_line (event.Proved router source port) = codes "proved" ++ 32 ∷ router ++ 32 ∷ address_word source ++ 32 ∷ decimal port
event_line (event.Wild router ad port) = codes "wild" ++ 32 ∷ router ++ 32 ∷ id_word ad ++ 32 ∷ decimal port
event_line (event.Refuse router number) = codes "refuse" ++ 32 ∷ router ++ 32 ∷ decimal number
event_line (event.Drop node reason) = codes "drop" ++ 32 ∷ node ++ 32 ∷ reason_word reason
event_line (event.Got host packet) = codes "got" ++ 32 ∷ host ++ 32 ∷ decimal packet
event_line (event.Signed host leaf) = codes "signed" ++ 32 ∷ host ++ 32 ∷ decimal leaf
event_line (event.Stopped host leaf call byte) = codes "stopped" ++ 32 ∷ host ++ 32 ∷ decimal leaf ++ 32 ∷ decimal call ++ 32 ∷ decimal byte
event_line (event.Withheld host to) = codes "withheld" ++ 32 ∷ host ++ 32 ∷ key_id_word to
event_line (event.Obeyed host sender until) = codes "obeyed" ++ 32 ∷ host ++ 32 ∷ key_id_word sender ++ 32 ∷ decimal until
event_line (event.Heard host number) = codes "heard" ++ 32 ∷ host ++ 32 ∷ decimal number
event_line (event.Halted host sender until call byte) = codes "halted" ++ 32 ∷ host ++ 32 ∷ key_id_word sender ++ 32 ∷ decimal until ++ 32 ∷ decimal call ++ 32 ∷ decimal byte
event_line (event.Kept host sender until) = codes "kept" ++ 32 ∷ host ++ 32 ∷ key_id_word sender ++ 32 ∷ decimal until
event_line (event.PublishedPeer ad other number until) = codes "published peer" ++ 32 ∷ id_word ad ++ 32 ∷ id_word other ++ 32 ∷ decimal number ++ 32 ∷ decimal until
event_line (event.PublishedBind ad other number until) = codes "published bind" ++ 32 ∷ id_word ad ++ 32 ∷ id_word other ++ 32 ∷ decimal number ++ 32 ∷ decimal until
event_line (event.Unpublished number) = codes "unpublished" ++ 32 ∷ decimal number

-- what is written for an input that is taken: its line behind "> "
abbrev pub input_text : Input → List ℕ
input_text input = codes "> " ++ (input_line input ++ 10 ∷ [])

-- what is written for an event: its line behind "< "
abbrev pub event_text : Event → List ℕ
event_text event = codes "< " ++ (event_line event ++ 10 ∷ [])

-- what is written for events, the first first
abbrev pub events_text : List Event → List ℕ
events_text events = flat_map event_text events

-- a number that fits in 64 bits
abbrev pub IsLongNumber : ℕ → Type 0
IsLongNumber n = n < 2 ^ 64

-- a key identifier of 19 bytes
abbrev pub IsKeyId : KeyId → Type 0
IsKeyId id = IsSized 19 id.bytes

-- a target with a name and a number of the grammar
abbrev pub IsTarget : Target → Type 0
IsTarget (target.Port router port) = IsName router × IsNumber port
IsTarget (target.Host name) = IsName name

-- an input whose words are of the grammar
abbrev pub IsInput : Input → Type 0
IsInput (input.Tick ticks) = IsNumber ticks
IsInput (input.Send host node packet body) = IsName host × IsName node × IsNumber packet × IsBytes body
IsInput (input.Raw host bytes) = IsName host × IsBytes bytes
IsInput (input.Deliver flight) = IsNumber flight
IsInput (input.Inject target bytes) = IsTarget target × IsBytes bytes
IsInput (input.Cut link) = IsNumber link
IsInput (input.Mend link) = IsNumber link
IsInput (input.Shutoff host flight ttl) = IsName host × IsNumber flight × IsNumber ttl
IsInput (input.Restart node) = IsName node
IsInput (input.Stop host call byte) = IsName host × IsNumber call × IsNumber byte
IsInput (input.Halt host call byte) = IsName host × IsNumber call × IsNumber byte
IsInput (input.Publish bytes) = IsBytes bytes

-- an event whose words are of the grammar
abbrev pub IsEvent : Event → Type 0
IsEvent (event.Put flight target bytes) = IsNumber flight × IsTarget target × IsBytes bytes
IsEvent (event.Forward router in_port out_port cause) = IsName router × IsNumber in_port × IsNumber out_port × ⊤
IsEvent (event.Ask router in_port out_port) = IsName router × IsNumber in_port × IsNumber out_port
IsEvent (event.Proved router source port) = IsName router × (IsId source.ad × IsId source.eid) × IsNumber port
IsEvent (event.Wild router ad port) = IsName router × IsId ad × IsNumber port
IsEvent (event.Refuse router number) = IsName router × IsNumber number
IsEvent (event.Drop node reason) = IsName node × ⊤
IsEvent (event.Got host packet) = IsName host × IsNumber packet
IsEvent (event.Signed host leaf) = IsName host × IsNumber leaf
IsEvent (event.Stopped host leaf call byte) = IsName host × IsNumber leaf × IsNumber call × IsNumber byte
IsEvent (event.Withheld host to) = IsName host × IsKeyId to
IsEvent (event.Obeyed host sender until) = IsName host × IsKeyId sender × IsNumber until
IsEvent (event.Heard host number) = IsName host × IsNumber number
IsEvent (event.Halted host sender until call byte) = IsName host × IsKeyId sender × IsNumber until × IsNumber call × IsNumber byte
IsEvent (event.Kept host sender until) = IsName host × IsKeyId sender × IsNumber until
IsEvent (event.PublishedPeer ad other number until) = IsId ad × IsId other × IsLongNumber number × IsLongNumber until
IsEvent (event.PublishedBind ad other number until) = IsId ad × IsId other × IsLongNumber number × IsLongNumber until
IsEvent (event.Unpublished number) = IsNumber number
