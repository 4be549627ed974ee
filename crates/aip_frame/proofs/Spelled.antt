-- The fields of a spelling are the frame, and bytes of the form are the spelling of their fields.
use Rattle.std.proofs.Common.{◌≡◌, ℕ, zero, suc, ◌+◌, ◌-◌, ◌≤◌, true, List, ◌∷◌, ◌++◌, length, get_or, take, drop, refl, sym, ap, ◌∙◌, arith}
use Rattle.std.proofs.lemmas.List.{take-append-drop, take_at, drop_at, length-take, length-drop, length-append}
use Rattle.byteorder.specs.Endian.{big_bytes, big_number}
use Rattle.byteorder.specs.Numbers.{big_number-reads_back, big_from-lt}
use Rattle.aip_addr.specs.declared.ids.Address.{Address}
use Rattle.aip_addr.specs.Ids.{address_bytes, address_of}
use Rattle.aip_frame.specs.declared.frame.Frame.{Frame}
use Rattle.aip_frame.specs.declared.frame.Kind.{Kind}
use Rattle.aip_frame.specs.declared.frame.Kind.TheVariants.{Data, Challenge, Response, ShutOff}
use Rattle.aip_frame.specs.Frame.{kind_code, kind_at, frame_bytes, fields_at, Fits, address_fits, fits}
use Rattle.aip_frame.proofs.Bytes.{IsBytes, IsBytes-drop, big_again_2, big_again_4, four_first, seam, drop_past}
use Rattle.aip_frame.proofs.Fitting.{body_fits_from, address_fits_from, fits_from_tests, Form}

kind_at-code : (k : Kind) → kind_at (kind_code k) ≡ k
kind_at-code Data = refl
kind_at-code Challenge = refl
kind_at-code Response = refl
kind_at-code ShutOff = refl

kind_code-at : (n : ℕ) → n ≤ 3 → kind_code (kind_at n) ≡ n
kind_code-at zero h = refl
kind_code-at (suc zero) h = refl
kind_code-at (suc (suc zero)) h = refl
kind_code-at (suc (suc (suc n))) h = omega arith

kind_code-le : (k : Kind) → kind_code k ≤ 3
kind_code-le Data = omega arith
kind_code-le Challenge = omega arith
kind_code-le Response = omega arith
kind_code-le ShutOff = omega arith

length-address_bytes : (a : Address) → length a.ad.bytes ≡ 20 → length a.eid.bytes ≡ 20 → length (address_bytes a) ≡ 40
length-address_bytes a ad eid = omega (arith, length-append a.ad.bytes a.eid.bytes)

address_back : (a : Address) → length a.ad.bytes ≡ 20 → address_of (address_bytes a) ≡ a
address_back a ad = rw (take_at a.ad.bytes a.eid.bytes 20 ad, drop_at a.ad.bytes a.eid.bytes 20 ad) refl

-- the address that the first 40 bytes spell
address_first : (a : Address) (rest : List ℕ) → length a.ad.bytes ≡ 20 → length a.eid.bytes ≡ 20 → address_of (take 40 (address_bytes a ++ rest)) ≡ a
address_first a rest ad eid =
    ap address_of (take_at (address_bytes a) rest 40 (length-address_bytes a ad eid)) ∙ address_back a ad

-- what follows the 8 first bytes of a frame, and the two addresses
after_addresses : (m : ℕ) (f : Frame) (rest : List ℕ) → Fits f → drop (40 + (40 + m)) (address_bytes f.to ++ (address_bytes f.from ++ rest)) ≡ drop m rest
after_addresses m f rest h =
    drop_past 40 (40 + m) (address_bytes f.to) (address_bytes f.from ++ rest) (length-address_bytes f.to h.to_ad h.to_eid)
    ∙ drop_past 40 m (address_bytes f.from) rest (length-address_bytes f.from h.from_ad h.from_eid)

-- the fields of a spelling are the frame
pub fields_back : (f : Frame) → Fits f → fields_at (frame_bytes f) ≡ f
unfolding frame_bytes fields_at
fields_back f h =
    let body : List ℕ = big_bytes 2 (length f.body) ++ f.body in
    let packet : big_number 4 (big_bytes 4 f.packet ++ (address_bytes f.to ++ (address_bytes f.from ++ body))) ≡ f.packet =
    big_number-reads_back 4 f.packet (address_bytes f.to ++ (address_bytes f.from ++ body)) h.packet in
    let to : address_of (take 40 (address_bytes f.to ++ (address_bytes f.from ++ body))) ≡ f.to =
    address_first f.to (address_bytes f.from ++ body) h.to_ad h.to_eid in
    let from : address_of (take 40 (drop 40 (address_bytes f.to ++ (address_bytes f.from ++ body)))) ≡ f.from =
    ap (λ (t : List ℕ). address_of (take 40 t)) (drop_at (address_bytes f.to) (address_bytes f.from ++ body) 40 (length-address_bytes f.to h.to_ad h.to_eid))
    ∙ address_first f.from body h.from_ad h.from_eid in
    let content : drop 82 (address_bytes f.to ++ (address_bytes f.from ++ body)) ≡ f.body = after_addresses 2 f body h in
    same (kind_at-code f.kind) packet to from content
  where
    same : {k : Kind} {p : ℕ} {t s : Address} {b : List ℕ} → k ≡ f.kind → p ≡ f.packet → t ≡ f.to → s ≡ f.from → b ≡ f.body
        → record { kind = k; hop = f.hop; packet = p; to = t; from = s; body = b } ≡ f
    same k p t s b i = record { kind = k i; hop = f.hop; packet = p i; to = t i; from = s i; body = b i }

-- bytes of the form are the spelling of their fields
pub spelled_again : (bytes : List ℕ) → IsBytes bytes → Form bytes → bytes ≡ frame_bytes (fields_at bytes)
unfolding frame_bytes fields_at
spelled_again bytes small form =
    let from_ : List ℕ = take 40 (drop 48 bytes) in
    let to_ : List ℕ = take 40 (drop 8 bytes) in
    let len : length (drop 90 bytes) ≡ big_number 2 (drop 88 bytes) = length-drop 90 bytes ∙ sym form.size in
    let size : big_bytes 2 (length (drop 90 bytes)) ≡ take 2 (drop 88 bytes) =
    ap (λ (n : ℕ). big_bytes 2 n) len ∙ big_again_2 (drop 88 bytes) (IsBytes-drop 88 bytes small) (omega (arith, length-drop 88 bytes, form.long)) in
    let packet : big_bytes 4 (big_number 4 (drop 4 bytes)) ≡ take 4 (drop 4 bytes) =
    big_again_4 (drop 4 bytes) (IsBytes-drop 4 bytes small) (omega (arith, length-drop 4 bytes, form.long)) in
    let body : big_bytes 2 (length (drop 90 bytes)) ++ drop 90 bytes ≡ drop 88 bytes =
    ap (λ (t : List ℕ). t ++ drop 90 bytes) size ∙ seam 88 2 bytes in
    let from : address_bytes (address_of from_) ++ drop 88 bytes ≡ drop 48 bytes =
    ap (λ (t : List ℕ). t ++ drop 88 bytes) (take-append-drop 20 from_) ∙ seam 48 40 bytes in
    let to : address_bytes (address_of to_) ++ drop 48 bytes ≡ drop 8 bytes =
    ap (λ (t : List ℕ). t ++ drop 48 bytes) (take-append-drop 20 to_) ∙ seam 8 40 bytes in
    let number : big_bytes 4 (big_number 4 (drop 4 bytes)) ++ drop 8 bytes ≡ drop 4 bytes =
    ap (λ (t : List ℕ). t ++ drop 8 bytes) packet ∙ seam 4 4 bytes in
    let rest : big_bytes 4 (big_number 4 (drop 4 bytes)) ++ (address_bytes (address_of to_) ++ (address_bytes (address_of from_) ++ (big_bytes 2 (length (drop 90 bytes)) ++ drop 90 bytes))) ≡ drop 4 bytes =
    ap (λ (t : List ℕ). big_bytes 4 (big_number 4 (drop 4 bytes)) ++ t) (ap (λ (t : List ℕ). address_bytes (address_of to_) ++ t) (ap (λ (t : List ℕ). address_bytes (address_of from_) ++ t) body ∙ from) ∙ to) ∙ number in
    four_first bytes (omega (arith, form.long))
    ∙ header form.version (sym (kind_code-at (get_or bytes 1 0) form.kind)) form.fixed (sym rest)
  where
    header : {v w k l h z y : ℕ} {r s : List ℕ} → v ≡ w → k ≡ l → z ≡ y → r ≡ s → (v ∷ k ∷ h ∷ z ∷ r) ≡ (w ∷ l ∷ h ∷ y ∷ s)
    header {h = h} v k z r i = v i ∷ k i ∷ h ∷ z i ∷ r i

address_sized : (xs : List ℕ) → length xs ≡ 40 → address_fits (address_of xs) ≡ true
address_sized xs e = address_fits_from (address_of xs) (omega (arith, length-take 20 xs)) (omega (arith, length-drop 20 xs))

length-part : (n m : ℕ) (xs : List ℕ) → n + m ≤ length xs → length (take m (drop n xs)) ≡ m
length-part n m xs h = omega (arith, length-take m (drop n xs), length-drop n xs)

-- the fields of bytes of the form have their sizes
pub fits_again : (bytes : List ℕ) → IsBytes bytes → Form bytes → fits (fields_at bytes) ≡ true
unfolding fields_at
fits_again bytes small form =
    let long = form.long in
    fits_from_tests (fields_at bytes) (small 2) (big_from-lt 0 4 (drop 4 bytes) (IsBytes-drop 4 bytes small))
    (address_sized (take 40 (drop 8 bytes)) (length-part 8 40 bytes (omega arith)))
    (address_sized (take 40 (drop 48 bytes)) (length-part 48 40 bytes (omega arith)))
    (rw (length-drop 90 bytes) form.body)

-- a spelling has the form
pub form_again : (f : Frame) → Fits f → Form (frame_bytes f)
unfolding frame_bytes
form_again f h =
    let body : List ℕ = big_bytes 2 (length f.body) ++ f.body in
    let all : length (frame_bytes f) ≡ 90 + length f.body =
    omega (arith, length-append (address_bytes f.to) (address_bytes f.from ++ body), length-append (address_bytes f.from) body, length-address_bytes f.to h.to_ad h.to_eid, length-address_bytes f.from h.from_ad h.from_eid) in
    let most = h.body in
    let content : length (frame_bytes f) - 90 ≡ length f.body = omega arith in
    let size : big_number 2 (drop 80 (address_bytes f.to ++ (address_bytes f.from ++ body))) ≡ length f.body =
    ap (λ (t : List ℕ). big_number 2 t) (after_addresses 0 f body h) ∙ big_number-reads_back 2 (length f.body) f.body (omega arith) in
    record {
      long = omega arith;
      version = refl;
      kind = kind_code-le f.kind;
      fixed = refl;
      size = size ∙ sym content;
      body = rw (content, kind_at-code f.kind) (body_fits_from f.kind (length f.body) h.body h.challenge);
    }
