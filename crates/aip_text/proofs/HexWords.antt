-- Bytes and their spelling in hex.
use Rattle.std.proofs.Common.{◌≡◌, ◌≢◌, ℕ, zero, suc, ◌+◌, ◌*◌, ◌/◌, ◌%◌, ◌<◌, ◌==◌, Bool, true, false, cond, ◌&&◌, nat_lt, if◌then◌else◌, List, [], ◌∷◌, length, Option, Some, None, Result, Ok, Err, inl, inr, slice_index, refl, sym, ap, ◌∙◌, arith}
use Rattle.std.specs.Prelude.{IfOk, IfSome, codes}
use Rattle.std.specs.List.{list_all}
use Rattle.std.specs.Result.{result_ok, result_unwrap_or}
use Rattle.std.specs.Str.{bytes_eq}
use Rattle.std.proofs.lemmas.Bool.{and_parts, cases_lt, eqb-true, leb-true, le-leb}
use Rattle.std.proofs.lemmas.Option.{same_Some}
use Rattle.std.proofs.lemmas.Slice.Eq.{bytes_eq-Decides}
use Rattle.hex.specs.Hex.{IsBytes, decode_of, decode_pairs, decode_sized, digit_or_error, encode_lower, encode_with, hex_digit_value, lower_digits, pair_value, value_at, ◌>>=◌}
use Rattle.hex.specs.declared.error.FromHexError.{FromHexError}
use Rattle.hex.proofs.HexLemmas.{decode_of-encode_lower, decode_of-even, decode_of-ok, decode_sized-encode_lower, decode_sized-ok, decode_sized-twice, length-encode_with}
use Rattle.aip_text.specs.Words.{bytes_of, bytes_word, hex_of, hex_sized, is_lower_digit}

-- ## One digit

-- the digit for a value below 16
abbrev glyph : ℕ → ℕ
glyph d = if nat_lt d 10 then 48 + d else 87 + d

-- the table has it, for each value below n
abbrev table_upto : ℕ → Bool
table_upto zero = true
table_upto (suc n) = (slice_index lower_digits n == glyph n) && table_upto n

table_at : (n k : ℕ) → table_upto n ≡ true → k < n → slice_index lower_digits k ≡ glyph k
table_at zero k h lt = absurd (omega arith)
table_at (suc n) k h lt =
    let parts = and_parts (slice_index lower_digits n == glyph n) (table_upto n) h in
    elim (cases_lt k n) [
      | inl below ↦ table_at n k parts.1 below
      | inr top ↦
          let e : k ≡ n = omega arith in
          rw e (eqb-true (slice_index lower_digits n) (glyph n) parts.0)
    ]

table : (d : ℕ) → d < 16 → slice_index lower_digits d ≡ glyph d
table d lt = table_at 16 d refl lt

-- the digits of the table are in lower case
glyph_is_lower : (d : ℕ) → d < 16 → is_lower_digit (glyph d) ≡ true
glyph_is_lower d lt = grind arith

-- a digit in lower case is the one for its value
glyph_back : (c v : ℕ) → is_lower_digit c ≡ true → hex_digit_value c ≡ Some v → (v < 16) × (glyph v ≡ c)
glyph_back c v low read = (grind arith, grind arith)

-- ## Pairs

-- what an `Ok` after two steps shows
bind_ok : {A B : Type 0} (r : Result A FromHexError) (f : A → Result B FromHexError) (y : B)
    → (r >>= f) ≡ Ok y → (x : A) × (r ≡ Ok x) × (f x ≡ Ok y)
bind_ok (Ok x) f y h = (x, refl, h)
bind_ok (Err e) f y h = cc h

-- the value of a digit that was read
digit_read : (c i : ℕ) (o : Option ℕ) (v : ℕ) → digit_or_error c i o ≡ Ok v → o ≡ Some v
digit_read c i (Some w) v h = ap Some (ap (λ (r : Result ℕ FromHexError). result_unwrap_or r 0) h)
digit_read c i None v h = cc h

-- a digit that was read is the one for its value
digit_back : (c i v : ℕ) → is_lower_digit c ≡ true → value_at c i ≡ Ok v → (v < 16) × (slice_index lower_digits v ≡ c)
digit_back c i v low read =
    let back = glyph_back c v low (digit_read c i (hex_digit_value c) v read) in
    (back.0, table v back.0 ∙ back.1)

-- pairs of digits in lower case are the hex of what they decode to
pub encode-decode_pairs : (i : ℕ) (s bytes : List ℕ) → list_all is_lower_digit s ≡ true → decode_pairs i s ≡ Ok bytes → s ≡ encode_lower bytes
unfolding decode_pairs encode_with
encode-decode_pairs i [] bytes low h =
    let e : [] ≡ bytes = ap (λ (r : Result (List ℕ) FromHexError). result_unwrap_or r []) h in
    rw (← e) refl
encode-decode_pairs i (a ∷ []) bytes low h = cc h
encode-decode_pairs i (a ∷ b ∷ rest) bytes low h =
    let l0 = and_parts (is_lower_digit a) (list_all is_lower_digit (b ∷ rest)) low in
    let l1 = and_parts (is_lower_digit b) (list_all is_lower_digit rest) l0.1 in
    let p0 = bind_ok (pair_value a b i) _ bytes h in
    let p1 = bind_ok (value_at a i) _ p0.0 p0.1 in
    let p2 = bind_ok (value_at b (i + 1)) _ p0.0 p1.2 in
    let p3 = bind_ok (decode_pairs (i + 2) rest) _ bytes p0.2 in
    let byte : p1.0 * 16 + p2.0 ≡ p0.0 = ap (λ (r : Result ℕ FromHexError). result_unwrap_or r 0) p2.2 in
    let e : p0.0 ∷ p3.0 ≡ bytes = ap (λ (r : Result (List ℕ) FromHexError). result_unwrap_or r []) p3.2 in
    let high = digit_back a i p1.0 l0.0 p1.1 in
    let less = digit_back b (i + 1) p2.0 l1.0 p2.1 in
    let first : p0.0 / 16 ≡ p1.0 = omega (arith, byte, less.0) in
    let second : p0.0 % 16 ≡ p2.0 = omega (arith, byte, less.0) in
    let more = encode-decode_pairs (i + 2) rest p3.0 l1.1 p3.1 in
    rw (← e, first, second, high.1, less.1) (ap (λ (xs : List ℕ). a ∷ b ∷ xs) more)

-- hex has digits in lower case alone
pub list_all-encode_lower : (bytes : List ℕ) → IsBytes bytes → list_all is_lower_digit (encode_lower bytes) ≡ true
unfolding encode_with
list_all-encode_lower [] h = refl
list_all-encode_lower (b ∷ bs) h =
    let fits : b < 256 = h 0 in
    let high : b / 16 < 16 = omega arith in
    let less : b % 16 < 16 = omega arith in
    let more = list_all-encode_lower bs (λ k. h (suc k)) in
    rw (table (b / 16) high, table (b % 16) less, glyph_is_lower (b / 16) high, glyph_is_lower (b % 16) less) more

-- ## Words

-- a choice that gave a value
pub chosen : {A : Type 0} (b : Bool) (o : Option A) (x : A) → cond b o None ≡ Some x → (b ≡ true) × (o ≡ Some x)
chosen true o x h = (refl, h)
chosen false o x h = cc h

-- a result that gave a value
given : (r : Result (List ℕ) FromHexError) (bytes : List ℕ) → result_ok r ≡ Some bytes → r ≡ Ok bytes
given (Ok xs) bytes h = ap Ok (same_Some xs bytes h)
given (Err e) bytes h = cc h

no_bytes : IsBytes []
no_bytes k = omega arith

-- what decodes is spelled so
decoded : (word bytes : List ℕ) → list_all is_lower_digit word ≡ true → decode_of word ≡ Ok bytes → IsBytes bytes × (length word ≡ 2 * length bytes) × (word ≡ encode_lower bytes)
decoded word bytes low h =
    let ok = decode_of-ok word bytes h in
    (ok.3, ok.2, encode-decode_pairs 0 word bytes low (sym (decode_of-even word ok.0) ∙ h))

-- what is read is spelled so
pub hex_found : (word bytes : List ℕ) → hex_of word ≡ Some bytes → IsBytes bytes × (bytes ≢ []) × (word ≡ encode_lower bytes)
hex_found word bytes h =
    let read = chosen (nat_lt 0 (length word) && list_all is_lower_digit word) (result_ok (decode_of word)) bytes h in
    let tests = and_parts (nat_lt 0 (length word)) (list_all is_lower_digit word) read.0 in
    let spelled = decoded word bytes tests.1 (given (decode_of word) bytes read.1) in
    let some : 0 < length word = leb-true 1 (length word) tests.0 in
    (spelled.0, λ none. let e : length bytes ≡ 0 = ap length none in omega (arith, e, some, spelled.1), spelled.2)

-- what is spelled so is read
pub hex_again : (bytes : List ℕ) → IsBytes bytes → bytes ≢ [] → hex_of (encode_lower bytes) ≡ Some bytes
hex_again [] h some = absurd (some refl)
hex_again (b ∷ bs) h some =
    let long = le-leb 1 (length (encode_lower (b ∷ bs))) (omega (arith, length-encode_with lower_digits (b ∷ bs))) in
    rw (long, list_all-encode_lower (b ∷ bs) h, decode_of-encode_lower (b ∷ bs) h) refl

pub hex_sized_found : (n : ℕ) (word bytes : List ℕ) → hex_sized n word ≡ Some bytes → IsBytes bytes × (length bytes ≡ n) × (word ≡ encode_lower bytes)
hex_sized_found n word bytes h =
    let read = chosen (list_all is_lower_digit word) (result_ok (decode_sized word n)) bytes h in
    let ok = given (decode_sized word n) bytes read.1 in
    let twice = decode_sized-ok word n bytes ok in
    let spelled = decoded word bytes read.0 (sym (decode_sized-twice word n twice) ∙ ok) in
    (spelled.0, omega (arith, twice, spelled.1), spelled.2)

pub hex_sized_again : (n : ℕ) (bytes : List ℕ) → IsBytes bytes → length bytes ≡ n → hex_sized n (encode_lower bytes) ≡ Some bytes
hex_sized_again n bytes h same = rw (list_all-encode_lower bytes h, decode_sized-encode_lower bytes n same h) refl

-- a word of bytes that aren't none is their hex
bytes_word_some : (bytes : List ℕ) → bytes ≢ [] → bytes_word bytes ≡ encode_lower bytes
bytes_word_some [] some = absurd (some refl)
bytes_word_some (b ∷ bs) some = refl

and_no : (b : Bool) → (b && false) ≡ false
and_no true = refl
and_no false = refl

-- hex is no dash
no_dash : (b : ℕ) (bs : List ℕ) → bytes_eq (encode_lower (b ∷ bs)) (codes "-") ≡ false
unfolding encode_with
no_dash b bs = and_no (slice_index lower_digits (b / 16) == 45)

pub bytes_found : (word bytes : List ℕ) → bytes_of word ≡ Some bytes → IsBytes bytes × (word ≡ bytes_word bytes)
bytes_found word bytes h = dashed (bytes_eq word (codes "-")) (bytes_eq-Decides word (codes "-")).0 h
  where
    dashed : (b : Bool) → (b ≡ true → word ≡ codes "-") → cond b (Some []) (hex_of word) ≡ Some bytes → IsBytes bytes × (word ≡ bytes_word bytes)
    dashed true dash e = let none : [] ≡ bytes = same_Some [] bytes e in rw (← none) (no_bytes, dash refl)
    dashed false dash e = let found = hex_found word bytes e in (found.0, found.2 ∙ sym (bytes_word_some bytes found.1))

pub bytes_again : (bytes : List ℕ) → IsBytes bytes → bytes_of (bytes_word bytes) ≡ Some bytes
bytes_again [] h = refl
bytes_again (b ∷ bs) h = rw (no_dash b bs) (hex_again (b ∷ bs) h (λ none. no_cons b bs none))
  where
    no_cons : (b : ℕ) (bs : List ℕ) → (b ∷ bs) ≡ [] → ⊥
    no_cons b bs e = cc e

-- ## As the readers' clauses say it

pub hex_found_in : (word : List ℕ) (r : Option (List ℕ)) → r ≡ hex_of word → IfSome r (λ bytes. IsBytes bytes × (bytes ≢ []) × (word ≡ encode_lower bytes))
hex_found_in word (Some bytes) e = hex_found word bytes (sym e)
hex_found_in word None e = tt

pub hex_again_in : (word : List ℕ) (r : Option (List ℕ)) → r ≡ hex_of word → (bytes : List ℕ) → IsBytes bytes → bytes ≢ [] → word ≡ encode_lower bytes → r ≡ Some bytes
hex_again_in word r e bytes h some spelled = e ∙ ap hex_of spelled ∙ hex_again bytes h some

pub bytes_found_in : (word : List ℕ) (r : Option (List ℕ)) → r ≡ bytes_of word → IfSome r (λ bytes. IsBytes bytes × (word ≡ bytes_word bytes))
bytes_found_in word (Some bytes) e = bytes_found word bytes (sym e)
bytes_found_in word None e = tt

pub bytes_again_in : (word : List ℕ) (r : Option (List ℕ)) → r ≡ bytes_of word → (bytes : List ℕ) → IsBytes bytes → word ≡ bytes_word bytes → r ≡ Some bytes
bytes_again_in word r e bytes h spelled = e ∙ ap bytes_of spelled ∙ bytes_again bytes h

pub sized_found_in : (n : ℕ) (word : List ℕ) (r : Option (List ℕ)) → r ≡ hex_sized n word → IfSome r (λ bytes. IsBytes bytes × (word ≡ encode_lower bytes))
sized_found_in n word (Some bytes) e = let found = hex_sized_found n word bytes (sym e) in (found.0, found.2)
sized_found_in n word None e = tt

pub sized_again_in : (n : ℕ) (word : List ℕ) (r : Option (List ℕ)) → r ≡ hex_sized n word → (bytes : List ℕ) → IsBytes bytes → length bytes ≡ n → word ≡ encode_lower bytes → r ≡ Some bytes
sized_again_in n word r e bytes h sized spelled = e ∙ ap (hex_sized n) spelled ∙ hex_sized_again n bytes h sized

pub ok_then : {X E : Type 0} (r : Result X E) {P Q : X → Type 0} → IfOk r P → ((x : X) → P x → Q x) → IfOk r Q
ok_then (Ok x) h f = f x h
ok_then (Err e) h f = tt
