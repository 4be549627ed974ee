-- What is known of a response by which a source is proved.
use Rattle.std.proofs.Common.{◌≡◌, ℕ, ◌+◌, ◌==◌, ◌||◌, Bool, true, false, cond, not, List, length, take, drop, refl, subst, ◌∙◌, inl, inr, arith}
use Rattle.std.proofs.lemmas.Bool.{and_parts, eqb-true, ltb-false, leb-false}
use Rattle.std.specs.Cmp.Lexicographic.{bytes_decides}
use Rattle.std.specs.Prelude.{nat_lt, nat_le}
use Rattle.aip_addr.specs.Ids.{is_owner, Owns, is_same_address}
use Rattle.aip_addr.specs.declared.ids.Address.{Address}
use Rattle.aip_frame.specs.declared.frame.Frame.{Frame}
use Rattle.aip_mac.specs.Hmac.{hmac_of, secret_of}
use Rattle.aip_topo.specs.declared.topology.Router.{Router}
use Rattle.aip_topo.specs.declared.topology.Topology.{Topology}
use Rattle.lms_core.specs.Verify.{is_valid_signature}
use Rattle.verify_packet.specs.declared.challenges.RouterKey.{RouterKey}
use Rattle.verify_packet.specs.declared.responses.Checked.TheVariants as checked
use Rattle.verify_packet.specs.Challenge.{Asked, asked_in, epoch_at, tag_of}
use Rattle.verify_packet.specs.Response.{challenge_in, has_tag, is_asked, is_current, key_in, response_text_of, response_verdict, signature_in}
use Rattle.aip_rules.specs.declared.Entry.{Entry}
use Rattle.aip_rules.specs.Nodes.{neighbours_of}
use Rattle.aip_rules.specs.Router.{router_key}
use Rattle.aip_rules.specs.State.{now_of}
use Rattle.aip_rules.specs.Promises.{IsTimely, IsValidResponse}
use Rattle.aip_rules.proofs.JustifiedReasons.{same_addresses}
use Rattle.aip_rules.proofs.SilentOrders.{owns}

-- the tests of a response that proves a source at a port
record PassesTests (short asked current tagged missing owner signed : Bool) (from source : Address) (at port : ℕ) : Type 0 where
  short_is : short ≡ false
  asked_is : asked ≡ true
  current_is : current ≡ true
  tagged_is : tagged ≡ true
  missing_is : missing ≡ false
  owner_is : owner ≡ true
  signed_is : signed ≡ true
  source_is : from ≡ source
  port_is : at ≡ port

passes : (short asked current tagged missing owner signed : Bool) (from source : Address) (at port : ℕ)
    → cond short checked.Body (cond (not asked) checked.Other (cond (not current) checked.Old (cond (not tagged) checked.Tag
    (cond missing checked.Port (cond (not owner) checked.Key (cond (not signed) checked.Signature (checked.Proved from at))))))) ≡ checked.Proved source port
    → PassesTests short asked current tagged missing owner signed from source at port
passes true asked current tagged missing owner signed from source at port e = cc
passes false false current tagged missing owner signed from source at port e = cc
passes false true false tagged missing owner signed from source at port e = cc
passes false true true false missing owner signed from source at port e = cc
passes false true true true true owner signed from source at port e = cc
passes false true true true false false signed from source at port e = cc
passes false true true true false true false from source at port e = cc
passes false true true true false true true from source at port e = record {
  short_is = refl;
  asked_is = refl;
  current_is = refl;
  tagged_is = refl;
  missing_is = refl;
  owner_is = refl;
  signed_is = refl;
  source_is = cc;
  port_is = cc;
}

-- a challenge that was this router's and asked this source
asked_so : (router : RouterKey) (source : Address) (asked : Asked) → is_asked router source asked ≡ true → (asked.router ≡ router.address) × (asked.source ≡ source)
unfolding is_asked
asked_so router source asked e =
    let parts = and_parts (is_same_address asked.router router.address) (is_same_address asked.source source) e in
    (same_addresses asked.router router.address parts.0, same_addresses asked.source source parts.1)

-- an epoch that is the current one, or the one before
timely_so : (current epoch : ℕ) → is_current current epoch ≡ true → IsTimely current epoch
unfolding is_current
timely_so current epoch e = by (current == epoch) refl e
  where
    by : (same : Bool) → (current == epoch) ≡ same → same || (current == epoch + 1) ≡ true → IsTimely current epoch
    by true same t = inl (eqb-true current epoch same)
    by false same t = inr (eqb-true current (epoch + 1) t)

-- a tag that is the router's
tagged_so : (router : RouterKey) (challenge : List ℕ) (epoch : ℕ) → has_tag router challenge epoch ≡ true
    → take 32 (drop 122 challenge) ≡ hmac_of (secret_of router.master router.boot epoch) (take 122 challenge)
unfolding has_tag tag_of
tagged_so router challenge epoch e = (bytes_decides (take 32 (drop 122 challenge)) (tag_of router epoch (take 122 challenge))).0 e

-- a response that proves a source at a port is a valid one of it
pub valid_response : (topo : Topology) (tr : List Entry) (place : ℕ) (self : Router) (frame : Frame) (source : Address) (port : ℕ)
    → response_verdict (router_key topo tr place self) (now_of tr) frame ≡ checked.Proved source port → IsValidResponse topo tr place self frame source port
valid_response topo tr place self frame source port e =
    let key = router_key topo tr place self in
    let challenge = challenge_in frame.body in
    let asked = asked_in challenge in
    let tests = passes (nat_lt (length frame.body) 210) (is_asked key frame.from asked) (is_current (epoch_at key (now_of tr)) asked.epoch)
    (has_tag key challenge asked.epoch) (nat_le (length (neighbours_of topo place)) asked.port) (is_owner (key_in frame.body) frame.from.eid)
    (is_valid_signature (key_in frame.body) (response_text_of challenge) (signature_in frame.body)) frame.from source asked.port port e in
    let of_challenge = asked_so key frame.from asked tests.asked_is in
    let whole = ltb-false (length frame.body) 210 tests.short_is in
    let below = leb-false (length (neighbours_of topo place)) asked.port tests.missing_is in
    let at = tests.port_is in
    record {
      whole = whole;
      of_source = tests.source_is;
      asked_by = of_challenge.0;
      asked_of = of_challenge.1 ∙ tests.source_is;
      asked_at = at;
      has_port = omega arith;
      timely = timely_so (epoch_at key (now_of tr)) asked.epoch tests.current_is;
      tagged = tagged_so key challenge asked.epoch tests.tagged_is;
      owner = subst (λ (a : Address). Owns (key_in frame.body) a.eid) tests.source_is (owns (key_in frame.body) frame.from.eid tests.owner_is);
      signed = tests.signed_is;
    }
