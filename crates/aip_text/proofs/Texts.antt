-- Where a text is cut, and its lines.
use Rattle.std.proofs.Common.{◌≡◌, ℕ, zero, suc, ◌+◌, ◌-◌, ◌<◌, ◌==◌, Bool, true, false, not, cond, ◌&&◌, nat_lt, List, [], ◌∷◌, ◌++◌, length, take, drop, get_or, Option, Some, None, refl, sym, ap, ◌∙◌, arith, add-one, eq-eqb}
use Rattle.std.specs.Prelude.{position}
use Rattle.std.specs.Option.{option_map}
use Rattle.std.proofs.Math.Seq.{take-append_seam}
use Rattle.std.specs.List.{list_all, onto_first, position_or_len, prefix_len}
use Rattle.std.proofs.lemmas.Bool.{and_parts, eqb-true, le-ltb, lt-ltb, ltb-false}
use Rattle.std.proofs.lemmas.List.{length-append, length-drop, take_all}
use Rattle.std.proofs.lemmas.List.Quantifiers.{position-Some}
use Rattle.std.proofs.lemmas.Option.{none-some, same_Some}
use Rattle.aip_text.specs.Lines.{has_no_line_feed, is_line_feed, lines_of}
use Rattle.aip_text.specs.Words.{cut_at, lacks}

-- a test that failed
no_yes : (b : Bool) → not b ≡ true → b ≡ false
no_yes true h = cc h
no_yes false h = refl

-- what follows a byte after a word
drop_after : (word : List ℕ) (byte : ℕ) (rest : List ℕ) → drop (length word + 1) (word ++ byte ∷ rest) ≡ rest
drop_after [] byte rest = refl
drop_after (b ∷ bs) byte rest = let e : length (b ∷ bs) + 1 ≡ suc (length bs + 1) = omega arith in rw e (drop_after bs byte rest)

-- ## The first line

-- the text up to its first line feed is its first line
pub first_line : (text : List ℕ) (at : ℕ) → at < length text → is_line_feed (get_or text at 0) ≡ true
    → ((k : ℕ) → k < at → is_line_feed (get_or text k 0) ≡ false)
    → (lines_of text ≡ take at text ∷ lines_of (drop (suc at) text)) × (has_no_line_feed (take at text) ≡ true)
    × (text ≡ take at text ++ 10 ∷ drop (suc at) text)
first_line [] at inside ends before = absurd (omega arith)
first_line (b ∷ bs) zero inside ends before =
    let e : b ≡ 10 = eqb-true b 10 ends in
    (rw ends refl, refl, rw e refl)
first_line (b ∷ bs) (suc at) inside ends before =
    let isnt = before 0 (omega arith) in
    let more = first_line bs at (omega arith) ends (λ k lt. before (suc k) (omega arith)) in
    (rw (isnt, more.0) refl, rw isnt more.1, ap (λ (xs : List ℕ). b ∷ xs) more.2)

-- bytes without a line feed are one line
pub one_line : (b : ℕ) (bs : List ℕ) → has_no_line_feed (b ∷ bs) ≡ true → lines_of (b ∷ bs) ≡ (b ∷ bs) ∷ []
one_line b [] h =
    let parts = and_parts (not (is_line_feed b)) true h in
    rw (no_yes (is_line_feed b) parts.0) refl
one_line b (d ∷ ds) h =
    let parts = and_parts (not (is_line_feed b)) (has_no_line_feed (d ∷ ds)) h in
    rw (no_yes (is_line_feed b) parts.0) (ap (onto_first b) (one_line d ds parts.1))

-- what follows a place, as a slice of the code has it
pub after_place : (text : List ℕ) (at : ℕ) → take (length text - (at + 1)) (drop (at + 1) text) ≡ drop (suc at) text
after_place text at =
    let len = length-drop (at + 1) text in
    take_all (length text - (at + 1)) (drop (at + 1) text) (omega (arith, len)) ∙ ap (λ n. drop n text) (add-one at)

-- the first line, where the first line feed has this place
pub first_line_in : (text : List ℕ) (at : ℕ) → Some at ≡ position (λ b. b == 10) text
    → (lines_of text ≡ take at text ∷ lines_of (take (length text - (at + 1)) (drop (at + 1) text))) × (has_no_line_feed (take at text) ≡ true)
    × (text ≡ take at text ++ 10 ∷ take (length text - (at + 1)) (drop (at + 1) text))
first_line_in text at e =
    let found = position-Some (λ b. b == 10) text at 0 (sym e) in
    rw after_place (first_line text at found.0 found.1 found.2)

-- ## Cutting

-- where no first place is found, each element passes
step : (b l : Bool) (n m : ℕ) → (nat_lt n m ≡ false → l ≡ true) → nat_lt (cond b (1 + n) 0) (suc m) ≡ false → (b && l) ≡ true
step true l n m more h = let past = ltb-false (1 + n) (suc m) h in more (le-ltb n m (omega (arith, past)))
step false l n m more h = let past = ltb-false 0 (suc m) h in absurd (omega (arith, past))

all_pass : (q : ℕ → Bool) (xs : List ℕ) → nat_lt (prefix_len q xs) (length xs) ≡ false → list_all q xs ≡ true
all_pass q [] h = refl
all_pass q (x ∷ xs) h = step (q x) (list_all q xs) (prefix_len q xs) (length xs) (all_pass q xs) h

absent : (b : Bool) (n : ℕ) → None ≡ cond b (Some n) None → b ≡ false
absent true n h = absurd (none-some n h)
absent false n h = refl

-- where a byte has no place, the text lacks it
pub lacks_in : (byte : ℕ) (text : List ℕ) → None ≡ position (λ b. b == byte) text → lacks byte text ≡ true
lacks_in byte text e = all_pass (λ b. not (b == byte)) text (absent (nat_lt (position_or_len (λ b. b == byte) text) (length text)) (position_or_len (λ b. b == byte) text) e)

-- a text, parted at a byte
pub parted : (byte : ℕ) (text : List ℕ) (at : ℕ) → at < length text → (get_or text at 0 == byte) ≡ true → text ≡ take at text ++ byte ∷ drop (suc at) text
parted byte [] at inside here = absurd (omega arith)
parted byte (b ∷ bs) zero inside here = let e : b ≡ byte = eqb-true b byte here in rw e refl
parted byte (b ∷ bs) (suc at) inside here = ap (λ (xs : List ℕ). b ∷ xs) (parted byte bs at (omega arith) here)

mapped : (byte : ℕ) (text : List ℕ) (o : Option ℕ) (parts : List ℕ × List ℕ) → option_map (λ at. (take at text, drop (at + 1) text)) o ≡ Some parts
    → (at : ℕ) × (o ≡ Some at) × (take at text ≡ parts.0) × (drop (at + 1) text ≡ parts.1)
mapped byte text (Some at) parts h =
    let same = same_Some (take at text, drop (at + 1) text) parts h in
    (at, refl, ap (λ p. p.0) same, ap (λ p. p.1) same)
mapped byte text None parts h = absurd (none-some parts h)

-- the parts of what was cut make up the text
pub cut_at_found : (byte : ℕ) (text : List ℕ) (parts : List ℕ × List ℕ) → cut_at byte text ≡ Some parts → text ≡ parts.0 ++ byte ∷ parts.1
cut_at_found byte text parts h =
    let cut = mapped byte text (position (λ b. b == byte) text) parts h in
    let found = position-Some (λ b. b == byte) text cut.0 0 cut.1 in
    let whole = parted byte text cut.0 found.0 found.1 in
    let rest : drop (suc cut.0) text ≡ parts.1 = ap (λ n. drop n text) (sym (add-one cut.0)) ∙ cut.3 in
    whole ∙ ap (λ (xs : List ℕ). xs ++ byte ∷ drop (suc cut.0) text) cut.2 ∙ ap (λ (ys : List ℕ). parts.0 ++ byte ∷ ys) rest

-- the place of a byte after a word that lacks it
place_after : (byte : ℕ) (word rest : List ℕ) → lacks byte word ≡ true → position_or_len (λ b. b == byte) (word ++ byte ∷ rest) ≡ length word
place_after byte [] rest h = rw (eq-eqb byte byte refl) refl
place_after byte (b ∷ bs) rest h =
    let parts = and_parts (not (b == byte)) (lacks byte bs) h in
    rw (no_yes (b == byte) parts.0, place_after byte bs rest parts.1) (omega arith)

-- what is put together at a byte is cut there
pub cut_at_again : (byte : ℕ) (word rest : List ℕ) → lacks byte word ≡ true → cut_at byte (word ++ byte ∷ rest) ≡ Some (word, rest)
cut_at_again byte word rest h =
    let place = place_after byte word rest h in
    let inside = lt-ltb (length word) (length (word ++ byte ∷ rest)) (omega (arith, length-append word (byte ∷ rest))) in
    let after = drop_after word byte rest in
    rw (place, inside, take-append_seam, after) refl

-- a text that has some byte and no line feed is one line
pub one_line_in : (text : List ℕ) → (length text == 0) ≡ false → None ≡ position (λ b. b == 10) text → lines_of text ≡ text ∷ []
one_line_in [] some e = cc some
one_line_in (b ∷ bs) some e = one_line b bs (lacks_in 10 (b ∷ bs) e)
