-- Strings of 32 bytes, one after another.
use Rattle.std.proofs.Common.{◌≡◌, ℕ, zero, suc, ◌+◌, ◌*◌, ◌<◌, inl, inr, List, ◌++◌, length, take, drop, refl, sym, ap, ◌∙◌, append_assoc, add-one, arith, length-append, length-drop}
use Rattle.std.proofs.lemmas.List.{append-nil, drop_at, drop-append-le, drop-drop, take_all, take-append-le}
use Rattle.std.proofs.lemmas.Bool.{cases_lt}
use Rattle.lmots_core.specs.Chains.{joined, part_in}

-- none yet
pub joined_none : (p : List ℕ) (f : ℕ → List ℕ) → p ++ joined f 0 ≡ p
unfolding joined
joined_none p f = append-nil p

-- one string more
pub joined_more : (p : List ℕ) (f : ℕ → List ℕ) (i : ℕ) (y : List ℕ) → y ≡ f i → (p ++ joined f i) ++ y ≡ p ++ joined f (i + 1)
unfolding joined
joined_more p f i y e = rw (e, add-one) (append_assoc p (joined f i) (f i))

pub joined-same : (f g : ℕ → List ℕ) (n : ℕ) → ((i : ℕ) → i < n → f i ≡ g i) → joined f n ≡ joined g n
unfolding joined
joined-same f g zero h = refl
joined-same f g (suc n) h =
    let front : joined f n ≡ joined g n = joined-same f g n (λ i b. h i (omega arith)) in
    let last : f n ≡ g n = h n (omega arith) in
    cc

pub length-joined : (f : ℕ → List ℕ) (n : ℕ) → ((i : ℕ) → length (f i) ≡ 32) → length (joined f n) ≡ 32 * n
unfolding joined
length-joined f zero h = refl
length-joined f (suc n) h =
    let front : length (joined f n) ≡ 32 * n = length-joined f n h in
    let last : length (f n) ≡ 32 = h n in
    omega (arith, length-append (joined f n) (f n))

-- string i of n
pub joined_at : (f : ℕ → List ℕ) (n i : ℕ) → ((k : ℕ) → length (f k) ≡ 32) → i < n → take 32 (drop (32 * i) (joined f n)) ≡ f i
unfolding joined
joined_at f zero i h b = absurd (omega arith)
joined_at f (suc n) i h b =
    let len : length (joined f n) ≡ 32 * n = length-joined f n h in
    let last : length (f n) ≡ 32 = h n in
    elim (cases_lt i n) [
      | inl lt ↦
          ap (take 32) (drop-append-le (32 * i) (joined f n) (f n) (omega arith))
          ∙ take-append-le 32 (drop (32 * i) (joined f n)) (f n) (omega (arith, length-drop (32 * i) (joined f n)))
          ∙ joined_at f n i h lt
      | inr ge ↦
          let same : i ≡ n = omega arith in
          rw same (ap (take 32) (drop_at (joined f n) (f n) (32 * n) len) ∙ take_all 32 (f n) (omega arith))
    ]

-- the part of a signature that holds string i
pub part_at : (head : List ℕ) (f : ℕ → List ℕ) (n i : ℕ) → length head ≡ 36 → ((k : ℕ) → length (f k) ≡ 32) → i < n → part_in (head ++ joined f n) i ≡ f i
part_at head f n i len h b =
    ap (take 32) (sym (drop-drop (32 * i) 36 (head ++ joined f n)))
    ∙ ap (λ xs. take 32 (drop (32 * i) xs)) (drop_at head (joined f n) 36 len)
    ∙ joined_at f n i h b
