-- What is known of a shut-off that is to be obeyed.
use Rattle.std.proofs.Common.{◌≡◌, ℕ, ◌+◌, ◌==◌, ◌<◌, ◌≤◌, Bool, true, false, cond, not, List, length, take, drop, refl, arith}
use Rattle.std.specs.Prelude.{nat_lt, nat_le, slice_index}
use Rattle.std.specs.Str.{bytes_eq}
use Rattle.std.specs.Cmp.Lexicographic.{bytes_decides}
use Rattle.std.proofs.lemmas.Bool.{and_parts, eqb-true, ltb-false, leb-false}
use Rattle.sha2.specs.Sha256.{sha256}
use Rattle.aip_addr.specs.Ids.{is_owner, Owns}
use Rattle.aip_addr.specs.declared.ids.Address.{Address}
use Rattle.aip_addr.specs.declared.ids.Id.{Id}
use Rattle.aip_frame.specs.declared.frame.Frame.{Frame}
use Rattle.lms_core.specs.Verify.{is_valid_signature, IsValidSignature}
use Rattle.shutoff_filter.specs.Body.{order_in, signature_in, shutoff_text_of}
use Rattle.shutoff_filter.specs.Judged.{order_verdict, shutoff_verdict}
use Rattle.shutoff_filter.specs.declared.bodies.Order.{Order}
use Rattle.shutoff_filter.specs.declared.judging.Heard.TheVariants as heard

-- the tests of an order that is obeyed
record PassesTests (owner signed early late logged : Bool) (told until : ℕ) : Type 0 where
  owner_is : owner ≡ true
  signed_is : signed ≡ true
  early_is : early ≡ false
  late_is : late ≡ false
  logged_is : logged ≡ true
  until_is : told ≡ until

passes : (owner signed early late logged full : Bool) (told until : ℕ)
    → cond (not owner) heard.Key (cond (not signed) heard.Signature (cond early heard.Early (cond late heard.Late (cond (not logged) heard.Unlogged (cond full heard.Full (heard.Obeyed told)))))) ≡ heard.Obeyed until
    → PassesTests owner signed early late logged told until
passes false signed early late logged full told until e = cc
passes true false early late logged full told until e = cc
passes true true true late logged full told until e = cc
passes true true false true logged full told until e = cc
passes true true false false false full told until e = cc
passes true true false false true true told until e = cc
passes true true false false true false told until e = record { owner_is = refl; signed_is = refl; early_is = refl; late_is = refl; logged_is = refl; until_is = cc }

-- a key that passes the test of an owner owns the id
pub owns : (key : List ℕ) (id : Id) → is_owner key id ≡ true → Owns key id
owns key id e =
    let parts = and_parts (slice_index id.bytes 0 == 1) (bytes_eq (take 18 (drop 1 id.bytes)) (take 18 (sha256 key))) e in
    (eqb-true (slice_index id.bytes 0) 1 parts.0, (bytes_decides (take 18 (drop 1 id.bytes)) (take 18 (sha256 key))).0 parts.1)

-- an order to be obeyed: its key owns the sender's id and signed it, it was issued by now, lasts until then, which is
-- still to come, and the packet that it names is in the log
pub record IsGood (now : ℕ) (from to : Address) (order : Order) (signature : List ℕ) (logged : Bool) (until : ℕ) : Type 0 where
  pub owner : Owns order.key from.eid
  pub signed : IsValidSignature order.key (shutoff_text_of from to order.hash order.issue order.ttl) signature
  pub issued : order.issue ≤ now
  pub lasts : until ≡ order.issue + order.ttl
  pub ahead : now < until
  pub known : logged ≡ true

good_order : (now : ℕ) (from to : Address) (order : Order) (signature : List ℕ) (logged full : Bool) (until : ℕ)
    → order_verdict now from to order signature logged full ≡ heard.Obeyed until → IsGood now from to order signature logged until
good_order now from to order signature logged full until e =
    let tests = passes (is_owner order.key from.eid) (is_valid_signature order.key (shutoff_text_of from to order.hash order.issue order.ttl) signature)
    (nat_lt now order.issue) (nat_le (order.issue + order.ttl) now) logged full (order.issue + order.ttl) until e in
    let lasts = tests.until_is in
    let issued = ltb-false now order.issue tests.early_is in
    let ahead = leb-false (order.issue + order.ttl) now tests.late_is in
    record {
      owner = owns order.key from.eid tests.owner_is;
      signed = tests.signed_is;
      issued = issued;
      lasts = omega arith;
      ahead = omega arith;
      known = tests.logged_is;
    }

-- so is that of each shut-off to be obeyed
pub good_shut_off : (now : ℕ) (frame : Frame) (logged full : Bool) (until : ℕ) → shutoff_verdict now frame logged full ≡ heard.Obeyed until
    → IsGood now frame.from frame.to (order_in frame.body) (signature_in frame.body) logged until
good_shut_off now frame logged full until e =
    by (nat_lt (length frame.body) 100) e
  where
    by : (short : Bool) → cond short heard.Body (order_verdict now frame.from frame.to (order_in frame.body) (signature_in frame.body) logged full) ≡ heard.Obeyed until
        → IsGood now frame.from frame.to (order_in frame.body) (signature_in frame.body) logged until
    by true e = absurd cc
    by false e = good_order now frame.from frame.to (order_in frame.body) (signature_in frame.body) logged full until e
