-- The input and the event that a line spells.
use Rattle.std.specs.Prelude.{ℕ, List, [], ◌∷◌, codes, Option, Some, None, if◌then◌else◌}
use Rattle.std.specs.Str.{bytes_eq}
use Rattle.aip_addr.specs.declared.ids.KeyId.{KeyId}
use Rattle.aip_addr.specs.declared.ids.Address.{Address}
use Rattle.aip_text.specs.Fields.{five_fields, four_fields, id_of, name_of, named, one_field, three_fields, two_fields, ◌>>=◌}
use Rattle.aip_text.specs.Words.{bytes_of, cut, cut_at, hex_sized, number_of, u64_of}
use Rattle.aip_event.specs.Lines.{cause_word, reason_word}
use Rattle.aip_event.specs.declared.input.Target.{Target}
use Rattle.aip_event.specs.declared.input.Target.TheVariants as target
use Rattle.aip_event.specs.declared.input.Input.{Input}
use Rattle.aip_event.specs.declared.input.Input.TheVariants as input
use Rattle.aip_event.specs.declared.event.Cause.{Cause}
use Rattle.aip_event.specs.declared.event.Cause.TheVariants as cause
use Rattle.aip_event.specs.declared.event.Reason.{Reason}
use Rattle.aip_event.specs.declared.event.Reason.TheVariants as reason
use Rattle.aip_event.specs.declared.event.Event.{Event}
use Rattle.aip_event.specs.declared.event.Event.TheVariants as event

-- ## Fields

-- a target, of the parts of its word at the first slash
abbrev pub target_from : List ℕ → Option (List ℕ × List ℕ) → Option Target
target_from word None = do
  name ← name_of word
  Some (target.Host name)
target_from word (Some parts) = do
  router ← name_of parts.0
  port ← number_of parts.1
  Some (target.Port router port)

-- the target that a word spells
abbrev pub target_of : List ℕ → Option Target
target_of word = target_from word (cut_at 47 word)

-- the key identifier that 38 digits of hex spell
abbrev pub key_id_of : List ℕ → Option KeyId
key_id_of word = do
  bytes ← hex_sized 19 word
  Some (record { bytes = bytes })

-- the address that two ids with a colon between them spell
abbrev pub address_of : List ℕ → Option Address
address_of word = do
  parts ← cut_at 58 word
  ad ← id_of parts.0
  eid ← id_of parts.1
  Some (record { ad = ad; eid = eid })

-- all causes
abbrev pub causes : List Cause
causes = cause.Open ∷ cause.Exempt ∷ cause.Trusted ∷ cause.Reverse ∷ cause.Proved ∷ cause.Wild ∷ []

-- the cause that a word names
abbrev pub cause_of : List ℕ → Option Cause
cause_of word = named cause_word causes word

-- all reasons
abbrev pub reasons : List Reason
reasons =
    reason.Bad ∷ reason.Mine ∷ reason.Hops ∷ reason.NoRoute ∷ reason.Foreign ∷ reason.NoBack ∷ reason.Down ∷ reason.Stray ∷ reason.NotMine
    ∷ reason.Unlogged ∷ reason.Mute ∷ reason.Dry ∷ reason.Kind ∷ reason.Unguarded ∷ []

-- the reason that a word names
abbrev pub reason_of : List ℕ → Option Reason
reason_of word = named reason_word reasons word

-- ## Inputs

-- the input of each kind that the words after the first spell
unfoldable pub tick_of : List ℕ → Option Input
tick_of rest = one_field number_of (λ ticks. input.Tick ticks) rest

-- the input whose words behind `send` these are
unfoldable pub send_of : List ℕ → Option Input
send_of rest = four_fields name_of name_of number_of bytes_of (λ host node packet body. input.Send host node packet body) rest

-- the input whose words behind `raw` these are
unfoldable pub raw_of : List ℕ → Option Input
raw_of rest = two_fields name_of bytes_of (λ host bytes. input.Raw host bytes) rest

-- the input whose words behind `deliver` these are
unfoldable pub deliver_of : List ℕ → Option Input
deliver_of rest = one_field number_of (λ flight. input.Deliver flight) rest

-- the input whose words behind `inject` these are
unfoldable pub inject_of : List ℕ → Option Input
inject_of rest = two_fields target_of bytes_of (λ target bytes. input.Inject target bytes) rest

-- the input whose words behind `cut` these are
unfoldable pub cut_of : List ℕ → Option Input
cut_of rest = one_field number_of (λ link. input.Cut link) rest

-- the input whose words behind `mend` these are
unfoldable pub mend_of : List ℕ → Option Input
mend_of rest = one_field number_of (λ link. input.Mend link) rest

-- the input whose words behind `shutoff` these are
unfoldable pub shutoff_of : List ℕ → Option Input
shutoff_of rest = three_fields name_of number_of number_of (λ host flight ttl. input.Shutoff host flight ttl) rest

-- the input whose words behind `restart` these are
unfoldable pub restart_of : List ℕ → Option Input
restart_of rest = one_field name_of (λ node. input.Restart node) rest

-- the input whose words behind `stop` these are
unfoldable pub stop_of : List ℕ → Option Input
stop_of rest = three_fields name_of number_of number_of (λ host call byte. input.Stop host call byte) rest

-- the input whose words behind `halt` these are
unfoldable pub halt_of : List ℕ → Option Input
halt_of rest = three_fields name_of number_of number_of (λ host call byte. input.Halt host call byte) rest

-- the input whose words behind `publish` these are
unfoldable pub publish_of : List ℕ → Option Input
publish_of rest = one_field bytes_of (λ bytes. input.Publish bytes) rest

-- the input that the first word and the others spell
unfoldable pub input_from : List ℕ → List ℕ → Option Input
input_from key rest =
    if bytes_eq key (codes "tick") then tick_of rest
    else if bytes_eq key (codes "send") then send_of rest
    else if bytes_eq key (codes "raw") then raw_of rest
    else if bytes_eq key (codes "deliver") then deliver_of rest
    else if bytes_eq key (codes "inject") then inject_of rest
    else if bytes_eq key (codes "cut") then cut_of rest
    else if bytes_eq key (codes "mend") then mend_of rest
    else if bytes_eq key (codes "shutoff") then shutoff_of rest
    else if bytes_eq key (codes "restart") then restart_of rest
    else if bytes_eq key (codes "stop") then stop_of rest
    else if bytes_eq key (codes "halt") then halt_of rest
    else if bytes_eq key (codes "publish") then publish_of rest
    else None

-- the input that a line spells
unfoldable pub input_of : List ℕ → Option Input
input_of line = do
  parts ← cut line
  input_from parts.0 parts.1

-- ## Events

-- the event of each kind that the words after the first spell
unfoldable pub put_of : List ℕ → Option Event
put_of rest = three_fields number_of target_of bytes_of (λ flight target bytes. event.Put flight target bytes) rest

-- the event whose words behind `forward` these are
unfoldable pub forward_of : List ℕ → Option Event
forward_of rest = four_fields name_of number_of number_of cause_of (λ router in_port out_port cause. event.Forward router in_port out_port cause) rest

-- the event whose words behind `ask` these are
unfoldable pub ask_of : List ℕ → Option Event
ask_of rest = three_fields name_of number_of number_of (λ router in_port out_port. event.Ask router in_port out_port) rest

-- the event whose words behind `proved` these are
unfoldable pub proved_of : List ℕ → Option Event
proved_of rest = three_fields name_of address_of number_of (λ router source port. event.Proved router source port) rest

-- the event whose words behind `wild` these are
unfoldable pub wild_of : List ℕ → Option Event
wild_of rest = three_fields name_of id_of number_of (λ router ad port. event.Wild router ad port) rest

-- the event whose words behind `refuse` these are
unfoldable pub refuse_of : List ℕ → Option Event
refuse_of rest = two_fields name_of number_of (λ router number. event.Refuse router number) rest

-- the event whose words behind `drop` these are
unfoldable pub drop_of : List ℕ → Option Event
drop_of rest = two_fields name_of reason_of (λ node reason. event.Drop node reason) rest

-- the event whose words behind `got` these are
unfoldable pub got_of : List ℕ → Option Event
got_of rest = two_fields name_of number_of (λ host packet. event.Got host packet) rest

-- the event whose words behind `signed` these are
unfoldable pub signed_of : List ℕ → Option Event
signed_of rest = two_fields name_of number_of (λ host leaf. event.Signed host leaf) rest

-- the event whose words behind `stopped` these are
unfoldable pub stopped_of : List ℕ → Option Event
stopped_of rest = four_fields name_of number_of number_of number_of (λ host leaf call byte. event.Stopped host leaf call byte) rest

-- the event whose words behind `withheld` these are
unfoldable pub withheld_of : List ℕ → Option Event
withheld_of rest = two_fields name_of key_id_of (λ host to. event.Withheld host to) rest

-- the event whose words behind `obeyed` these are
unfoldable pub obeyed_of : List ℕ → Option Event
obeyed_of rest = three_fields name_of key_id_of number_of (λ host sender until. event.Obeyed host sender until) rest

-- the event whose words behind `heard` these are
unfoldable pub heard_of : List ℕ → Option Event
heard_of rest = two_fields name_of number_of (λ host number. event.Heard host number) rest

-- the event whose words behind `halted` these are
unfoldable pub halted_of : List ℕ → Option Event
halted_of rest = five_fields name_of key_id_of number_of number_of number_of (λ host sender until call byte. event.Halted host sender until call byte) rest

-- the event whose words behind `kept` these are
unfoldable pub kept_of : List ℕ → Option Event
kept_of rest = three_fields name_of key_id_of number_of (λ host sender until. event.Kept host sender until) rest

-- the event whose words behind `published peer` these are
unfoldable pub peer_of : List ℕ → Option Event
peer_of rest = four_fields id_of id_of u64_of u64_of (λ ad other number until. event.PublishedPeer ad other number until) rest

-- the event whose words behind `published bind` these are
unfoldable pub bind_of : List ℕ → Option Event
bind_of rest = four_fields id_of id_of u64_of u64_of (λ ad other number until. event.PublishedBind ad other number until) rest

-- the event that a record's kind and the words behind it spell
unfoldable pub published_from : List ℕ → List ℕ → Option Event
published_from kind rest =
    if bytes_eq kind (codes "peer") then peer_of rest
    else if bytes_eq kind (codes "bind") then bind_of rest
    else None

-- the event whose words behind `published` these are
unfoldable pub published_of : List ℕ → Option Event
published_of rest = do
  parts ← cut rest
  published_from parts.0 parts.1

-- the event whose words behind `unpublished` these are
unfoldable pub unpublished_of : List ℕ → Option Event
unpublished_of rest = one_field number_of (λ number. event.Unpublished number) rest

-- the event of the records that the first word and the others spell
unfoldable pub record_event_from : List ℕ → List ℕ → Option Event
record_event_from key rest =
    if bytes_eq key (codes "published") then published_of rest
    else if bytes_eq key (codes "unpublished") then unpublished_of rest
    else None

-- the event of a host that the first word and the others spell
unfoldable pub host_event_from : List ℕ → List ℕ → Option Event
host_event_from key rest =
    if bytes_eq key (codes "got") then got_of rest
    else if bytes_eq key (codes "signed") then signed_of rest
    else if bytes_eq key (codes "stopped") then stopped_of rest
    else if bytes_eq key (codes "withheld") then withheld_of rest
    else if bytes_eq key (codes "obeyed") then obeyed_of rest
    else if bytes_eq key (codes "heard") then heard_of rest
    else if bytes_eq key (codes "halted") then halted_of rest
    else if bytes_eq key (codes "kept") then kept_of rest
    else record_event_from key rest

-- the event that the first word and the others spell
unfoldable pub event_from : List ℕ → List ℕ → Option Event
event_from key rest =
    if bytes_eq key (codes "put") then put_of rest
    else if bytes_eq key (codes "forward") then forward_of rest
    else if bytes_eq key (codes "ask") then ask_of rest
    else if bytes_eq key (codes "proved") then proved_of rest
    else if bytes_eq key (codes "wild") then wild_of rest
    else if bytes_eq key (codes "refuse") then refuse_of rest
    else if bytes_eq key (codes "drop") then drop_of rest
    else host_event_from key rest

-- the event that a line spells
unfoldable pub event_of : List ℕ → Option Event
event_of line = do
  parts ← cut line
  event_from parts.0 parts.1
