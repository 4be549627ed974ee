-- Which bytes the words lack.
use Rattle.std.proofs.Common.{◌≡◌, ℕ, ◌<◌, ◌^◌, ◌==◌, Bool, true, false, not, ◌&&◌, nat_le, List, [], ◌∷◌, ◌++◌, length, None, refl, sym, ap, ◌∙◌, arith}
use Rattle.std.specs.Prelude.{decimal}
use Rattle.std.specs.List.{list_all, prefix_len}
use Rattle.std.proofs.lemmas.Bool.{and_parts, eqb-true, le-ltb}
use Rattle.hex.specs.Hex.{IsBytes, encode_lower}
use Rattle.aip_addr.specs.Naming.{IsName, begins_with_letter, is_digit, is_name_byte}
use Rattle.aip_text.specs.Words.{bytes_word, cut_at, is_lower_digit, lacks}
use Rattle.aip_text.proofs.Numbers.{list_all-decimal, list_all-u64}
use Rattle.aip_text.proofs.HexWords.{list_all-encode_lower}

-- a byte that passes a test isn't one that fails it
other_byte : (p : ℕ → Bool) (byte b : ℕ) → p byte ≡ false → p b ≡ true → not (b == byte) ≡ true
other_byte p byte b fails passes = tell (b == byte) (λ same. let e : b ≡ byte = eqb-true b byte same in different (sym passes ∙ ap p e ∙ fails))
  where
    different : true ≡ false → ⊥
    different h = cc h

    tell : (t : Bool) → (t ≡ true → ⊥) → not t ≡ true
    tell true h = absurd (h refl)
    tell false h = refl

-- bytes that pass a test lack one that fails it
pub lacks_by : (p : ℕ → Bool) (byte : ℕ) (text : List ℕ) → p byte ≡ false → list_all p text ≡ true → lacks byte text ≡ true
lacks_by p byte [] fails all = refl
lacks_by p byte (b ∷ bs) fails all =
    let parts = and_parts (p b) (list_all p bs) all in
    rw (other_byte p byte b fails parts.0) (lacks_by p byte bs fails parts.1)

pub lacks-append : (byte : ℕ) (xs ys : List ℕ) → lacks byte xs ≡ true → lacks byte ys ≡ true → lacks byte (xs ++ ys) ≡ true
lacks-append byte [] ys hx hy = hy
lacks-append byte (x ∷ xs) ys hx hy =
    let parts = and_parts (not (x == byte)) (lacks byte xs) hx in
    rw parts.0 (lacks-append byte xs ys parts.1 hy)

pub lacks-decimal : (byte n : ℕ) → is_digit byte ≡ false → n < 10 ^ 15 → lacks byte (decimal n) ≡ true
lacks-decimal byte n fails small = lacks_by is_digit byte (decimal n) fails (list_all-decimal n small)

pub lacks-u64 : (byte n : ℕ) → is_digit byte ≡ false → n < 2 ^ 64 → lacks byte (decimal n) ≡ true
lacks-u64 byte n fails small = lacks_by is_digit byte (decimal n) fails (list_all-u64 n small)

pub lacks-encode_lower : (byte : ℕ) (bytes : List ℕ) → is_lower_digit byte ≡ false → IsBytes bytes → lacks byte (encode_lower bytes) ≡ true
lacks-encode_lower byte bytes fails h = lacks_by is_lower_digit byte (encode_lower bytes) fails (list_all-encode_lower bytes h)

pub lacks-bytes_word : (bytes : List ℕ) → IsBytes bytes → lacks 32 (bytes_word bytes) ≡ true
lacks-bytes_word [] h = refl
lacks-bytes_word (b ∷ bs) h = lacks-encode_lower 32 (b ∷ bs) refl h

pub lacks-name : (byte : ℕ) (name : List ℕ) → is_name_byte byte ≡ false → IsName name → lacks byte name ≡ true
lacks-name byte name fails h =
    let short = and_parts (nat_le (length name) 16) (begins_with_letter name && list_all is_name_byte name) h in
    let rest = and_parts (begins_with_letter name) (list_all is_name_byte name) short.1 in
    lacks_by is_name_byte byte name fails rest.1

-- elements that all pass are passed to the end
passed : (q : ℕ → Bool) (xs : List ℕ) → list_all q xs ≡ true → prefix_len q xs ≡ length xs
passed q [] all = refl
passed q (x ∷ xs) all =
    let parts = and_parts (q x) (list_all q xs) all in
    rw (parts.0, passed q xs parts.1) (omega arith)

-- a text that lacks a byte isn't cut there
pub cut_at_none : (byte : ℕ) (text : List ℕ) → lacks byte text ≡ true → cut_at byte text ≡ None
cut_at_none byte text all =
    let whole = passed (λ b. not (b == byte)) text all in
    rw (whole, le-ltb (length text) (length text) (omega arith)) refl
