-- The words of a padded block of 55 bytes.
use Rattle.std.proofs.Common.{◌≡◌, ℕ, zero, suc, ◌+◌, ◌*◌, ◌/◌, ◌%◌, ◌^◌, ◌<◌, List, [], ◌∷◌, ◌++◌, length, take, slice_index, get_or, refl, sym, ap, ◌∙◌, subst, append_assoc, arith, length-append, lit<}
use Rattle.std.specs.Int.{w16, to_be_bytes}
use Rattle.std.proofs.lemmas.List.{get_or_append_left, get_or-append_right, get_or-take}
use Rattle.sha2.specs.Sha256.{digest_bytes, padded_message, padding, word_at}
use Rattle.lmots_core.specs.Lanes.{IsHead, across, block_words, place_word}

-- what holds of each of five words
pub each_five : (P : ℕ → Type 0) → P 0 → P 1 → P 2 → P 3 → P 4 → (k : ℕ) → k < 5 → P k
each_five P a b c d e zero h = a
each_five P a b c d e (suc zero) h = b
each_five P a b c d e (suc (suc zero)) h = c
each_five P a b c d e (suc (suc (suc zero))) h = d
each_five P a b c d e (suc (suc (suc (suc zero)))) h = e
each_five P a b c d e (suc (suc (suc (suc (suc n))))) h = absurd (omega arith)

-- what holds of each of four words
pub each_four : (P : ℕ → Type 0) → P 0 → P 1 → P 2 → P 3 → (k : ℕ) → k < 4 → P k
each_four P a b c d zero h = a
each_four P a b c d (suc zero) h = b
each_four P a b c d (suc (suc zero)) h = c
each_four P a b c d (suc (suc (suc zero))) h = d
each_four P a b c d (suc (suc (suc (suc n)))) h = absurd (omega arith)

-- what holds of each of sixteen words
pub each_word : (P : ℕ → Type 0) → P 0 → P 1 → P 2 → P 3 → P 4 → P 5 → P 6 → P 7 → P 8 → P 9 → P 10 → P 11 → P 12 → P 13 → P 14 → P 15 → (k : ℕ) → k < 16 → P k
each_word P a0 a1 a2 a3 a4 a5 a6 a7 a8 a9 a10 a11 a12 a13 a14 a15 k h =
    let place : 4 * (k / 4) + k % 4 ≡ k = omega arith in
    subst P place (each_four (λ row. (col : ℕ) → col < 4 → P (4 * row + col))
    (each_four _ a0 a1 a2 a3) (each_four _ a4 a5 a6 a7) (each_four _ a8 a9 a10 a11) (each_four _ a12 a13 a14 a15)
    (k / 4) (omega arith) (k % 4) (omega arith))

-- the bytes of a step's padded block behind the first 20
abbrev tail : ℕ → ℕ → List ℕ → List ℕ
tail i n t = to_be_bytes w16 i ++ ((n ∷ digest_bytes t 8) ++ padding 55)

length-message : (p t : List ℕ) (i n : ℕ) → length p ≡ 20 → length (p ++ to_be_bytes w16 i ++ n ∷ digest_bytes t 8) ≡ 55
unfolding digest_bytes
length-message p t i n h = omega (arith, length-append (p ++ to_be_bytes w16 i) (n ∷ digest_bytes t 8), length-append p (to_be_bytes w16 i))

padded_is : (p t : List ℕ) (i n : ℕ) → length p ≡ 20 → padded_message (p ++ to_be_bytes w16 i ++ n ∷ digest_bytes t 8) ≡ p ++ tail i n t
padded_is p t i n h =
    ap (λ k. (p ++ to_be_bytes w16 i ++ n ∷ digest_bytes t 8) ++ padding k) (length-message p t i n h)
    ∙ append_assoc (p ++ to_be_bytes w16 i) (n ∷ digest_bytes t 8) (padding 55)
    ∙ append_assoc p (to_be_bytes w16 i) ((n ∷ digest_bytes t 8) ++ padding 55)

-- a word of the first 20 bytes
word_before : (p xs : List ℕ) (k : ℕ) → length p ≡ 20 → k < 5 → word_at (p ++ xs) (4 * k) ≡ word_at p (4 * k)
word_before p xs k h b =
    let e0 = get_or_append_left p xs 0 (4 * k) (omega arith) in
    let e1 = get_or_append_left p xs 0 (4 * k + 1) (omega arith) in
    let e2 = get_or_append_left p xs 0 (4 * k + 2) (omega arith) in
    let e3 = get_or_append_left p xs 0 (4 * k + 3) (omega arith) in
    rw (e0, e1, e2, e3) refl

-- a word behind them
word_behind : (p xs : List ℕ) (k : ℕ) → length p ≡ 20 → word_at (p ++ xs) (20 + k) ≡ word_at xs k
word_behind p xs k h =
    let e0 : get_or (p ++ xs) (20 + k) 0 ≡ get_or xs k 0 = get_or-append_right p xs 20 (20 + k) 0 h (omega arith) ∙ ap (λ i. get_or xs i 0) (omega arith) in
    let e1 : get_or (p ++ xs) (20 + k + 1) 0 ≡ get_or xs (k + 1) 0 = get_or-append_right p xs 20 (20 + k + 1) 0 h (omega arith) ∙ ap (λ i. get_or xs i 0) (omega arith) in
    let e2 : get_or (p ++ xs) (20 + k + 2) 0 ≡ get_or xs (k + 2) 0 = get_or-append_right p xs 20 (20 + k + 2) 0 h (omega arith) ∙ ap (λ i. get_or xs i 0) (omega arith) in
    let e3 : get_or (p ++ xs) (20 + k + 3) 0 ≡ get_or xs (k + 3) 0 = get_or-append_right p xs 20 (20 + k + 3) 0 h (omega arith) ∙ ap (λ i. get_or xs i 0) (omega arith) in
    rw (e0, e1, e2, e3) refl

across_bytes : (x y : ℕ) → word_at (x / 2 ^ 16 % 256 ∷ x / 2 ^ 8 % 256 ∷ x % 256 ∷ y / 2 ^ 24 % 256 ∷ []) 0 ≡ across x y
across_bytes x y = omega arith

place_bytes : (i n x : ℕ) → i < 2 ^ 16 → word_at (i / 256 % 256 ∷ i % 256 ∷ n ∷ x / 2 ^ 24 % 256 ∷ []) 0 ≡ place_word i n x
place_bytes i n x h = omega arith

-- the words of a step's padded block
pub padded_words : (head p : List ℕ) (i n t0 t1 t2 t3 t4 t5 t6 t7 : ℕ) → IsHead head p → i < 2 ^ 16 → (k : ℕ) → k < 16 → slice_index (block_words head i n (t0 ∷ t1 ∷ t2 ∷ t3 ∷ t4 ∷ t5 ∷ t6 ∷ t7 ∷ [])) k ≡ word_at (padded_message (p ++ to_be_bytes w16 i ++ n ∷ digest_bytes (t0 ∷ t1 ∷ t2 ∷ t3 ∷ t4 ∷ t5 ∷ t6 ∷ t7 ∷ []) 8)) (4 * k)
unfolding digest_bytes
padded_words head p i n t0 t1 t2 t3 t4 t5 t6 t7 ish fits k b =
    let t = t0 ∷ t1 ∷ t2 ∷ t3 ∷ t4 ∷ t5 ∷ t6 ∷ t7 ∷ [] in
    let xs = tail i n t in
    rw (padded_is p t i n ish.0) (each_word (λ k. slice_index (block_words head i n t) k ≡ word_at (p ++ xs) (4 * k))
    (ish.1 0 (lit< tt) ∙ sym (word_before p xs 0 ish.0 (lit< tt)))
    (ish.1 1 (lit< tt) ∙ sym (word_before p xs 1 ish.0 (lit< tt)))
    (ish.1 2 (lit< tt) ∙ sym (word_before p xs 2 ish.0 (lit< tt)))
    (ish.1 3 (lit< tt) ∙ sym (word_before p xs 3 ish.0 (lit< tt)))
    (ish.1 4 (lit< tt) ∙ sym (word_before p xs 4 ish.0 (lit< tt)))
    (sym (word_behind p xs 0 ish.0 ∙ place_bytes i n t0 fits))
    (sym (word_behind p xs 4 ish.0 ∙ across_bytes t0 t1))
    (sym (word_behind p xs 8 ish.0 ∙ across_bytes t1 t2))
    (sym (word_behind p xs 12 ish.0 ∙ across_bytes t2 t3))
    (sym (word_behind p xs 16 ish.0 ∙ across_bytes t3 t4))
    (sym (word_behind p xs 20 ish.0 ∙ across_bytes t4 t5))
    (sym (word_behind p xs 24 ish.0 ∙ across_bytes t5 t6))
    (sym (word_behind p xs 28 ish.0 ∙ across_bytes t6 t7))
    (sym (word_behind p xs 32 ish.0 ∙ across_bytes t7 0x80000000))
    (sym (word_behind p xs 36 ish.0))
    (sym (word_behind p xs 40 ish.0))
    k b)

pub length-step_message : (p t : List ℕ) (i n : ℕ) → length p ≡ 20 → length (p ++ to_be_bytes w16 i ++ n ∷ digest_bytes t 8) ≡ 55
length-step_message = length-message

-- a word of the first 20 bytes of a longer string
pub word_front : (b : List ℕ) (k : ℕ) → k < 5 → word_at b (4 * k) ≡ word_at (take 20 b) (4 * k)
word_front b k h =
    let e0 = get_or-take 20 b (4 * k) 0 (omega arith) in
    let e1 = get_or-take 20 b (4 * k + 1) 0 (omega arith) in
    let e2 = get_or-take 20 b (4 * k + 2) 0 (omega arith) in
    let e3 = get_or-take 20 b (4 * k + 3) 0 (omega arith) in
    rw (e0, e1, e2, e3) refl
