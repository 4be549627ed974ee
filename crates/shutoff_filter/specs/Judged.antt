-- When a shut-off is obeyed.
use Rattle.std.specs.Prelude.{ℕ, ◌+◌, Bool, not, if◌then◌else◌, nat_lt, nat_le, List, length}
use Rattle.aip_addr.specs.Ids.{is_owner, key_id_of}
use Rattle.aip_addr.specs.declared.ids.Address.{Address}
use Rattle.aip_frame.specs.declared.frame.Frame.{Frame}
use Rattle.lms_core.specs.Verify.{is_valid_signature}
use Rattle.sent_log.specs.Log.{is_logged}
use Rattle.sent_log.specs.declared.log.Noted.{Noted}
use Rattle.shutoff_filter.specs.Body.{order_in, shutoff_text_of, signature_in}
use Rattle.shutoff_filter.specs.Entries.{others_in_force}
use Rattle.shutoff_filter.specs.declared.bodies.Order.{Order}
use Rattle.shutoff_filter.specs.declared.entries.ShutOffEntry.{ShutOffEntry}
use Rattle.shutoff_filter.specs.declared.judging.Heard.{Heard}
use Rattle.shutoff_filter.specs.declared.judging.Heard.TheVariants as heard

-- How an order from a source to a host is judged by the first line that applies, where it is told whether the log holds
-- the packet for the source's key, and whether as many other keys are in force as there is room for.
abbrev pub order_verdict : ℕ → Address → Address → Order → List ℕ → Bool → Bool → Heard
order_verdict now from to order signature logged full =
    let until = order.issue + order.ttl in
    if not (is_owner order.key from.eid) then heard.Key else
    if not (is_valid_signature order.key (shutoff_text_of from to order.hash order.issue order.ttl) signature) then heard.Signature else
    if nat_lt now order.issue then heard.Early else
    if nat_le until now then heard.Late else
    if not logged then heard.Unlogged else
    if full then heard.Full else
    heard.Obeyed until

-- how a body that is long enough is judged: the order in it
abbrev pub body_verdict : ℕ → Address → Address → List ℕ → Bool → Bool → Heard
body_verdict now from to body logged full = order_verdict now from to (order_in body) (signature_in body) logged full

-- how a shut-off is judged: its body is too short, or by what it says
abbrev pub shutoff_verdict : ℕ → Frame → Bool → Bool → Heard
shutoff_verdict now frame logged full =
    if nat_lt (length frame.body) 100 then heard.Body else
    body_verdict now frame.from frame.to frame.body logged full

-- whether as many keys other than the source's are in force as there is room for
abbrev pub is_full : ℕ → ℕ → Address → List ShutOffEntry → Bool
is_full room now from entries = nat_le room (others_in_force now (key_id_of from.eid) entries)

-- whether the log holds the packet that the order complains of, for the source's key
abbrev pub is_in_log : List Noted → Address → Order → Bool
is_in_log log from order = is_logged log order.hash (key_id_of from.eid).bytes

-- the number of a refusal, 1 to 7 in the order of the lines; 0 for a shut-off that is obeyed
abbrev pub refusal_number : Heard → ℕ
refusal_number (heard.Obeyed until) = 0
refusal_number heard.Body = 1
refusal_number heard.Key = 2
refusal_number heard.Signature = 3
refusal_number heard.Early = 4
refusal_number heard.Late = 5
refusal_number heard.Unlogged = 6
refusal_number heard.Full = 7
