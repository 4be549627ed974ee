-- The spelling of a record is read as what it was made of, and bytes that are a record are the spelling of what is read.
use Rattle.std.proofs.Common.{◌≡◌, ℕ, zero, suc, ◌+◌, ◌^◌, ◌<◌, ◌≤◌, ◌&&◌, Bool, true, false, List, [], ◌∷◌, ◌++◌, length, get_or, take, drop, append_assoc, refl, sym, ap, ◌∙◌, arith, leb, inl, inr}
use Rattle.std.proofs.lemmas.Bool.{cases_lt}
use Rattle.std.proofs.lemmas.Bool.Decides.{nat_tests}
use Rattle.std.proofs.lemmas.List.{take-append-drop, drop-drop, take_at, drop_at, length-take, length-drop, length-append, get_or-drop, get_or-take, get_or_past}
use Rattle.std.proofs.lemmas.Nat.{be_bytes_8}
use Rattle.byteorder.specs.Endian.{big_bytes, big_number}
use Rattle.byteorder.specs.Numbers.{big_number-reads_back, big_from-lt, big_from-take, length-bytes_high_first}
use Rattle.aip_registry.specs.declared.records.RecordKind.{RecordKind}
use Rattle.aip_registry.specs.declared.records.RecordKind.TheVariants.{Peer, Bind}
use Rattle.aip_registry.specs.declared.records.Record.{Record}
use Rattle.aip_registry.specs.Record.{kind_byte, kind_at, fields_bytes, is_record, fields_in, key_in, signature_in, RecordFits, IsRecord, ReadsBack}

-- each number is one that a byte holds
abbrev pub IsBytes : List ℕ → Type 0
IsBytes bytes = (i : ℕ) → get_or bytes i 0 < 256

IsBytes-drop : (n : ℕ) (bytes : List ℕ) → IsBytes bytes → IsBytes (drop n bytes)
IsBytes-drop n bytes h i = rw get_or-drop (h (n + i))

IsBytes-take : (n : ℕ) (bytes : List ℕ) → IsBytes bytes → IsBytes (take n bytes)
IsBytes-take n bytes h i =
    elim (cases_lt i n) [
      | inl lt ↦ rw (get_or-take n bytes i 0 lt) (h i)
      | inr le ↦ rw (get_or_past (take n bytes) i 0 (omega (arith, length-take n bytes))) (omega arith)
    ]

kind_at-byte : (k : RecordKind) → kind_at (kind_byte k) ≡ k
kind_at-byte Peer = refl
kind_at-byte Bind = refl

kind_byte-at : (n : ℕ) → n ≤ 1 → kind_byte (kind_at n) ≡ n
kind_byte-at zero h = refl
kind_byte-at (suc n) h = omega arith

kind_byte-le : (k : RecordKind) → leb (kind_byte k) 1 ≡ true
kind_byte-le Peer = refl
kind_byte-le Bind = refl

-- ---- from a spelling

-- what follows a front, and some more
drop_past : (n m : ℕ) (xs ys : List ℕ) → length xs ≡ n → drop (n + m) (xs ++ ys) ≡ drop m ys
drop_past n m xs ys e = sym (drop-drop m n (xs ++ ys)) ∙ ap (λ (t : List ℕ). drop m t) (drop_at xs ys n e)

-- the number that eight bytes of it spell
number_back : (n : ℕ) (rest : List ℕ) → n < 2 ^ 64 → big_number 8 (take 8 (big_bytes 8 n ++ rest)) ≡ n
number_back n rest h = big_from-take 0 8 8 (big_bytes 8 n ++ rest) (omega arith) ∙ big_number-reads_back 8 n rest h

-- what a record says behind its first two bytes, and what follows
abbrev behind : Record → List ℕ → List ℕ
behind r rest = r.ad.bytes ++ (r.other.bytes ++ (big_bytes 8 r.number ++ (big_bytes 8 r.until ++ rest)))

regrouped : (a b c d e : List ℕ) → ((a ++ b) ++ (c ++ d)) ++ e ≡ a ++ (b ++ (c ++ (d ++ e)))
regrouped a b c d e = simp append_assoc

-- the parts of what stands behind the first two bytes
module _ (r : Record) (rest : List ℕ) (h : RecordFits r) where
  ad_first : take 20 (behind r rest) ≡ r.ad.bytes
  ad_first = take_at r.ad.bytes (r.other.bytes ++ (big_bytes 8 r.number ++ (big_bytes 8 r.until ++ rest))) 20 h.ad

  past_ad : (m : ℕ) → drop (20 + m) (behind r rest) ≡ drop m (r.other.bytes ++ (big_bytes 8 r.number ++ (big_bytes 8 r.until ++ rest)))
  past_ad m = drop_past 20 m r.ad.bytes (r.other.bytes ++ (big_bytes 8 r.number ++ (big_bytes 8 r.until ++ rest))) h.ad

  other_next : take 20 (drop 20 (behind r rest)) ≡ r.other.bytes
  other_next =
      ap (λ (t : List ℕ). take 20 t) (past_ad 0)
      ∙ take_at r.other.bytes (big_bytes 8 r.number ++ (big_bytes 8 r.until ++ rest)) 20 h.other

  past_other : (m : ℕ) → drop (20 + (20 + m)) (behind r rest) ≡ drop m (big_bytes 8 r.number ++ (big_bytes 8 r.until ++ rest))
  past_other m = past_ad (20 + m) ∙ drop_past 20 m r.other.bytes (big_bytes 8 r.number ++ (big_bytes 8 r.until ++ rest)) h.other

  past_number : (m : ℕ) → drop (20 + (20 + (8 + m))) (behind r rest) ≡ drop m (big_bytes 8 r.until ++ rest)
  past_number m =
      past_other (8 + m)
      ∙ drop_past 8 m (big_bytes 8 r.number) (big_bytes 8 r.until ++ rest) (length-bytes_high_first 8 r.number)

  past_until : (m : ℕ) → drop (20 + (20 + (8 + (8 + m)))) (behind r rest) ≡ drop m rest
  past_until m =
      past_number (8 + m)
      ∙ drop_past 8 m (big_bytes 8 r.until) rest (length-bytes_high_first 8 r.until)

  number_next : big_number 8 (take 8 (drop 40 (behind r rest))) ≡ r.number
  number_next =
      ap (λ (t : List ℕ). big_number 8 (take 8 t)) (past_other 0)
      ∙ number_back r.number (big_bytes 8 r.until ++ rest) h.number

  until_next : big_number 8 (take 8 (drop 48 (behind r rest))) ≡ r.until
  until_next = ap (λ (t : List ℕ). big_number 8 (take 8 t)) (past_number 0) ∙ number_back r.until rest h.until

  -- there are 56 bytes and the rest
  behind_length : length (behind r rest) ≡ 56 + length rest
  behind_length =
      omega (arith, h.ad, h.other, length-bytes_high_first 8 r.number, length-bytes_high_first 8 r.until, length-append r.ad.bytes (r.other.bytes ++ (big_bytes 8 r.number ++ (big_bytes 8 r.until ++ rest))), length-append r.other.bytes (big_bytes 8 r.number ++ (big_bytes 8 r.until ++ rest)), length-append (big_bytes 8 r.number) (big_bytes 8 r.until ++ rest), length-append (big_bytes 8 r.until) rest)

-- a record's bytes with what stands behind their first two put together anew
spelled_behind : (r : Record) (rest : List ℕ) → fields_bytes r ++ rest ≡ 1 ∷ kind_byte r.kind ∷ behind r rest
unfolding fields_bytes
spelled_behind r rest =
    ap (λ (t : List ℕ). 1 ∷ kind_byte r.kind ∷ t) (regrouped r.ad.bytes r.other.bytes (big_bytes 8 r.number) (big_bytes 8 r.until) rest)

-- what is read of these bytes
fields_back : (r : Record) (rest : List ℕ) → RecordFits r → fields_in (1 ∷ kind_byte r.kind ∷ behind r rest) ≡ r
unfolding fields_in
fields_back r rest h =
    same (kind_at-byte r.kind) (ad_first r rest h) (other_next r rest h) (number_next r rest h) (until_next r rest h)
  where
    same : {k : RecordKind} {a o : List ℕ} {n u : ℕ} → k ≡ r.kind → a ≡ r.ad.bytes → o ≡ r.other.bytes → n ≡ r.number → u ≡ r.until
        → record { kind = k; ad = record { bytes = a }; other = record { bytes = o }; number = n; until = u } ≡ r
    same k a o n u i = record { kind = k i; ad = record { bytes = a i }; other = record { bytes = o i }; number = n i; until = u i }

three_true : {a b c : Bool} → a ≡ true → b ≡ true → c ≡ true → (a && (b && c)) ≡ true
three_true a b c = rw (a, b, c) refl

-- a spelling is read as what it was made of
pub reads_back : (bytes : List ℕ) (r : Record) (key signature : List ℕ) → IsRecord bytes r key signature → ReadsBack bytes r key signature
reads_back bytes r key signature h =
    let rest = key ++ signature in
    let fits = h.fits in
    let e : bytes ≡ 1 ∷ kind_byte r.kind ∷ behind r rest = h.spelled ∙ spelled_behind r rest in
    let long : 114 ≤ length (1 ∷ kind_byte r.kind ∷ behind r rest) =
    omega (arith, behind_length r rest fits, length-append key signature, h.whole_key) in
    record {
      whole = ap is_record e ∙ three_true (grind (arith, nat_tests)) refl (kind_byte-le r.kind);
      fields = ap fields_in e ∙ fields_back r rest fits;
      its_key = ap key_in e ∙ (ap (λ (t : List ℕ). take 56 t) (past_until r rest fits 0) ∙ take_at key signature 56 h.whole_key);
      its_signature = ap signature_in e ∙ (past_until r rest fits 56 ∙ drop_at key signature 56 h.whole_key);
    }

-- ---- from bytes

-- eight bytes are the spelling of the number in them
big_again_8 : (xs : List ℕ) → IsBytes xs → length xs ≡ 8 → big_bytes 8 (big_number 8 xs) ≡ xs
big_again_8 [] fits long = absurd (omega arith)
big_again_8 (a ∷ []) fits long = absurd (omega arith)
big_again_8 (a ∷ b ∷ []) fits long = absurd (omega arith)
big_again_8 (a ∷ b ∷ c ∷ []) fits long = absurd (omega arith)
big_again_8 (a ∷ b ∷ c ∷ d ∷ []) fits long = absurd (omega arith)
big_again_8 (a ∷ b ∷ c ∷ d ∷ e ∷ []) fits long = absurd (omega arith)
big_again_8 (a ∷ b ∷ c ∷ d ∷ e ∷ f ∷ []) fits long = absurd (omega arith)
big_again_8 (a ∷ b ∷ c ∷ d ∷ e ∷ f ∷ g ∷ []) fits long = absurd (omega arith)
big_again_8 (a ∷ b ∷ c ∷ d ∷ e ∷ f ∷ g ∷ h ∷ []) fits long =
    be_bytes_8 (a ∷ b ∷ c ∷ d ∷ e ∷ f ∷ g ∷ h ∷ []) (big_number 8 (a ∷ b ∷ c ∷ d ∷ e ∷ f ∷ g ∷ h ∷ [])) refl fits (omega arith)
big_again_8 (a ∷ b ∷ c ∷ d ∷ e ∷ f ∷ g ∷ h ∷ i ∷ xs) fits long = absurd (omega arith)

-- a part and what follows it
seam : (n m : ℕ) (xs : List ℕ) → take m (drop n xs) ++ drop (n + m) xs ≡ drop n xs
seam n m xs = ap (λ (t : List ℕ). take m (drop n xs) ++ t) (sym (drop-drop m n xs)) ∙ take-append-drop m (drop n xs)

part_length : (n m : ℕ) (xs : List ℕ) → n + m ≤ length xs → length (take m (drop n xs)) ≡ m
part_length n m xs h = omega (arith, length-take m (drop n xs), length-drop n xs)

-- the number at a place, spelled again
number_again : (n : ℕ) (bytes : List ℕ) → IsBytes bytes → n + 8 ≤ length bytes
    → big_bytes 8 (big_number 8 (take 8 (drop n bytes))) ++ drop (n + 8) bytes ≡ drop n bytes
number_again n bytes small long =
    ap (λ (t : List ℕ). t ++ drop (n + 8) bytes) (big_again_8 (take 8 (drop n bytes)) (IsBytes-take 8 (drop n bytes) (IsBytes-drop n bytes small)) (part_length n 8 bytes long))
    ∙ seam n 8 bytes

two_first : (xs : List ℕ) → 2 ≤ length xs → xs ≡ get_or xs 0 0 ∷ get_or xs 1 0 ∷ drop 2 xs
two_first [] long = absurd (omega arith)
two_first (a ∷ []) long = absurd (omega arith)
two_first (a ∷ b ∷ xs) long = refl

-- what a test of the form finds
record Form (bytes : List ℕ) : Type 0 where
  long : 114 ≤ length bytes
  version : get_or bytes 0 0 ≡ 1
  kind : get_or bytes 1 0 ≤ 1

form : (bytes : List ℕ) → is_record bytes ≡ true → Form bytes
form bytes h = record { long = grind (arith, nat_tests); version = grind (arith, nat_tests); kind = grind (arith, nat_tests) }

-- what stands behind the first two bytes, from what is read
behind_again : (bytes : List ℕ) → IsBytes bytes → 114 ≤ length bytes → behind (fields_in bytes) (drop 58 bytes) ≡ drop 2 bytes
unfolding fields_in
behind_again bytes small long =
    ap (λ (t : List ℕ). take 20 (drop 2 bytes) ++ t)
    (ap (λ (t : List ℕ). take 20 (drop 22 bytes) ++ t)
    (ap (λ (t : List ℕ). big_bytes 8 (big_number 8 (take 8 (drop 42 bytes))) ++ t) (number_again 50 bytes small (omega arith))
    ∙ number_again 42 bytes small (omega arith))
    ∙ seam 22 20 bytes)
    ∙ seam 2 20 bytes

fields_fit : (bytes : List ℕ) → IsBytes bytes → 114 ≤ length bytes → RecordFits (fields_in bytes)
unfolding fields_in
fields_fit bytes small long = record {
  ad = part_length 2 20 bytes (omega arith);
  other = part_length 22 20 bytes (omega arith);
  number = big_from-lt 0 8 (take 8 (drop 42 bytes)) (IsBytes-take 8 (drop 42 bytes) (IsBytes-drop 42 bytes small));
  until = big_from-lt 0 8 (take 8 (drop 50 bytes)) (IsBytes-take 8 (drop 50 bytes) (IsBytes-drop 50 bytes small));
}

kind_in : (bytes : List ℕ) → (fields_in bytes).kind ≡ kind_at (get_or bytes 1 0)
unfolding fields_in
kind_in bytes = refl

-- bytes that are a record are the spelling of what is read
pub spelled_again : (bytes : List ℕ) → IsBytes bytes → is_record bytes ≡ true → IsRecord bytes (fields_in bytes) (key_in bytes) (signature_in bytes)
spelled_again bytes small h =
    let f = form bytes h in
    record {
      spelled = two_first bytes (omega (arith, f.long))
          ∙ (header f.version (sym (ap kind_byte (kind_in bytes) ∙ kind_byte-at (get_or bytes 1 0) f.kind))
          (sym (behind_again bytes small f.long))
          ∙ (sym (spelled_behind (fields_in bytes) (drop 58 bytes))
          ∙ ap (λ (t : List ℕ). fields_bytes (fields_in bytes) ++ t) (sym (seam 58 56 bytes))));
      fits = fields_fit bytes small f.long;
      whole_key = part_length 58 56 bytes (omega (arith, f.long));
    }
  where
    header : {v w k l : ℕ} {r s : List ℕ} → v ≡ w → k ≡ l → r ≡ s → (v ∷ k ∷ r) ≡ (w ∷ l ∷ s)
    header v k r i = v i ∷ k i ∷ r i

-- bytes that are no record are no spelling
pub no_spelling : (bytes : List ℕ) → is_record bytes ≡ false → (r : Record) (key signature : List ℕ) → IsRecord bytes r key signature → ⊥
no_spelling bytes h r key signature spelled = let back = (reads_back bytes r key signature spelled).whole in cc

-- bytes that are made of a record, a key and a signature are read as these
pub made_back : (bytes said key signature : List ℕ) (r : Record) → bytes ≡ said ++ (key ++ signature) → said ≡ fields_bytes r → RecordFits r → length key ≡ 56
    → ReadsBack bytes r key signature
made_back bytes said key signature r e is fits whole =
    reads_back bytes r key signature (record { spelled = e ∙ ap (λ (t : List ℕ). t ++ (key ++ signature)) is; fits = fits; whole_key = whole })
