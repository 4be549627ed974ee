-- The sizes of a frame's fields, and the form of bytes, as facts and as tests.
use Rattle.std.proofs.Common.{◌≡◌, ℕ, ◌-◌, ◌^◌, ◌<◌, ◌≤◌, Bool, true, ◌&&◌, eqb, ltb, leb, List, length, get_or, drop, refl, arith}
use Rattle.std.proofs.lemmas.Bool.{and_parts, and_from, ltb-true, leb-true, eqb-true, lt-ltb, le-leb, eq-eqb}
use Rattle.byteorder.specs.Endian.{big_number}
use Rattle.aip_addr.specs.declared.ids.Address.{Address}
use Rattle.aip_frame.specs.declared.frame.Frame.{Frame}
use Rattle.aip_frame.specs.declared.frame.Kind.{Kind}
use Rattle.aip_frame.specs.declared.frame.Kind.TheVariants.{Data, Challenge, Response, ShutOff}
use Rattle.aip_frame.specs.Frame.{most_body, challenge_body, Fits, body_fits, address_fits, fits, kind_at}
use Rattle.aip_frame.specs.Form.{has_form}

pub body_fits_parts : (k : Kind) (n : ℕ) → body_fits k n ≡ true → (n ≤ most_body) × (k ≡ Challenge → n ≡ challenge_body)
body_fits_parts Data n e = (leb-true n most_body e, λ d. absurd cc)
body_fits_parts Challenge n e = let exact : n ≡ 154 = eqb-true n challenge_body e in (omega arith, λ d. exact)
body_fits_parts Response n e = (leb-true n most_body e, λ d. absurd cc)
body_fits_parts ShutOff n e = (leb-true n most_body e, λ d. absurd cc)

pub body_fits_from : (k : Kind) (n : ℕ) → n ≤ most_body → (k ≡ Challenge → n ≡ challenge_body) → body_fits k n ≡ true
body_fits_from Data n most exact = le-leb n most_body most
body_fits_from Challenge n most exact = eq-eqb n challenge_body (exact refl)
body_fits_from Response n most exact = le-leb n most_body most
body_fits_from ShutOff n most exact = le-leb n most_body most

pub fits_parts : (f : Frame) → fits f ≡ true → Fits f
fits_parts f e =
    let a = and_parts (ltb f.hop 256) (ltb f.packet (2 ^ 32) && (address_fits f.to && (address_fits f.from && body_fits f.kind (length f.body)))) e in
    let b = and_parts (ltb f.packet (2 ^ 32)) (address_fits f.to && (address_fits f.from && body_fits f.kind (length f.body))) a.1 in
    let c = and_parts (address_fits f.to) (address_fits f.from && body_fits f.kind (length f.body)) b.1 in
    let d = and_parts (address_fits f.from) (body_fits f.kind (length f.body)) c.1 in
    let to = and_parts (eqb (length f.to.ad.bytes) 20) (eqb (length f.to.eid.bytes) 20) c.0 in
    let from = and_parts (eqb (length f.from.ad.bytes) 20) (eqb (length f.from.eid.bytes) 20) d.0 in
    let body = body_fits_parts f.kind (length f.body) d.1 in
    record {
      hop = ltb-true f.hop 256 a.0;
      packet = ltb-true f.packet (2 ^ 32) b.0;
      to_ad = eqb-true (length f.to.ad.bytes) 20 to.0;
      to_eid = eqb-true (length f.to.eid.bytes) 20 to.1;
      from_ad = eqb-true (length f.from.ad.bytes) 20 from.0;
      from_eid = eqb-true (length f.from.eid.bytes) 20 from.1;
      body = body.0;
      challenge = body.1;
    }

pub address_fits_from : (a : Address) → length a.ad.bytes ≡ 20 → length a.eid.bytes ≡ 20 → address_fits a ≡ true
address_fits_from a ad eid =
    and_from (eqb (length a.ad.bytes) 20) (eqb (length a.eid.bytes) 20) (eq-eqb (length a.ad.bytes) 20 ad) (eq-eqb (length a.eid.bytes) 20 eid)

-- the tests of the fields, one by one
pub fits_from_tests : (f : Frame) → f.hop < 256 → f.packet < 2 ^ 32 → address_fits f.to ≡ true → address_fits f.from ≡ true
    → body_fits f.kind (length f.body) ≡ true → fits f ≡ true
fits_from_tests f hop packet to from body =
    and_from _ _ (lt-ltb f.hop 256 hop) (and_from _ _ (lt-ltb f.packet (2 ^ 32) packet) (and_from _ _ to (and_from _ _ from body)))

pub fits_from : (f : Frame) → Fits f → fits f ≡ true
fits_from f h =
    fits_from_tests f h.hop h.packet (address_fits_from f.to h.to_ad h.to_eid) (address_fits_from f.from h.from_ad h.from_eid) (body_fits_from f.kind (length f.body) h.body h.challenge)

-- what the test of the form says
pub record Form (bytes : List ℕ) : Type 0 where
  pub long : 90 ≤ length bytes
  pub version : get_or bytes 0 0 ≡ 1
  pub kind : get_or bytes 1 0 ≤ 3
  pub fixed : get_or bytes 3 0 ≡ 0
  pub size : big_number 2 (drop 88 bytes) ≡ length bytes - 90
  pub body : body_fits (kind_at (get_or bytes 1 0)) (length bytes - 90) ≡ true

pub form_parts : (bytes : List ℕ) → has_form bytes ≡ true → Form bytes
form_parts bytes e =
    let rest5 : Bool = body_fits (kind_at (get_or bytes 1 0)) (length bytes - 90) in
    let rest4 : Bool = eqb (big_number 2 (drop 88 bytes)) (length bytes - 90) && rest5 in
    let rest3 : Bool = eqb (get_or bytes 3 0) 0 && rest4 in
    let rest2 : Bool = leb (get_or bytes 1 0) 3 && rest3 in
    let rest1 : Bool = eqb (get_or bytes 0 0) 1 && rest2 in
    let a = and_parts (leb 90 (length bytes)) rest1 e in
    let b = and_parts (eqb (get_or bytes 0 0) 1) rest2 a.1 in
    let c = and_parts (leb (get_or bytes 1 0) 3) rest3 b.1 in
    let d = and_parts (eqb (get_or bytes 3 0) 0) rest4 c.1 in
    let f = and_parts (eqb (big_number 2 (drop 88 bytes)) (length bytes - 90)) rest5 d.1 in
    record {
      long = leb-true 90 (length bytes) a.0;
      version = eqb-true (get_or bytes 0 0) 1 b.0;
      kind = leb-true (get_or bytes 1 0) 3 c.0;
      fixed = eqb-true (get_or bytes 3 0) 0 d.0;
      size = eqb-true (big_number 2 (drop 88 bytes)) (length bytes - 90) f.0;
      body = f.1;
    }

pub form_from : (bytes : List ℕ) → Form bytes → has_form bytes ≡ true
form_from bytes h =
    and_from _ _ (le-leb 90 (length bytes) h.long) (and_from _ _ (eq-eqb (get_or bytes 0 0) 1 h.version) (and_from _ _ (le-leb (get_or bytes 1 0) 3 h.kind) (and_from _ _ (eq-eqb (get_or bytes 3 0) 0 h.fixed) (and_from _ _ (eq-eqb (big_number 2 (drop 88 bytes)) (length bytes - 90) h.size) h.body))))
