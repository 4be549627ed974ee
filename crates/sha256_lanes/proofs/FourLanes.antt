-- Four lanes side by side.
use Rattle.std.proofs.Common.{◌≡◌, ℕ, zero, suc, ◌-◌, ◌*◌, ◌/◌, ◌%◌, ◌^◌, ◌<◌, List, [], ◌∷◌, length, slice_index, slice_set, bit_or, arith, refl}
use Rattle.std.specs.Simd.Lanes.{zip2}
use Rattle.std.specs.Int.{w32, rotate_right}
use Rattle.std.proofs.lemmas.List.{get_or-map, length-map, map-set}
use Rattle.sha256_lanes.specs.Lanes.{lane, value_in, word_of}

-- what holds of each of the four lanes
pub each_lane : (P : ℕ → Type 0) → P 0 → P 1 → P 2 → P 3 → (j : ℕ) → j < 4 → P j
each_lane P a b c d zero h = a
each_lane P a b c d (suc zero) h = b
each_lane P a b c d (suc (suc zero)) h = c
each_lane P a b c d (suc (suc (suc zero))) h = d
each_lane P a b c d (suc (suc (suc (suc n)))) h = absurd (omega arith)

-- what holds of each vector of four lanes
pub each_vector : (P : List ℕ → Type 0) → ((a b c d : ℕ) → P (a ∷ b ∷ c ∷ d ∷ [])) → (xs : List ℕ) → length xs ≡ 4 → P xs
each_vector P p (a ∷ b ∷ c ∷ d ∷ []) h = p a b c d
each_vector P p [] h = absurd (omega arith)
each_vector P p (a ∷ []) h = absurd (omega arith)
each_vector P p (a ∷ b ∷ []) h = absurd (omega arith)
each_vector P p (a ∷ b ∷ c ∷ []) h = absurd (omega arith)
each_vector P p (a ∷ b ∷ c ∷ d ∷ e ∷ xs) h = absurd (omega arith)

-- two shifts and an or are a rotation
abbrev Rotated : ℕ → List ℕ → Type 0
Rotated k x = (j : ℕ) → j < 4
    → slice_index (zip2 bit_or
    (zip2 (λ y n. y / 2 ^ n) x (k ∷ k ∷ k ∷ k ∷ []))
    (zip2 (λ y n. y * 2 ^ n % 2 ^ 32) x ((32 - k) ∷ (32 - k) ∷ (32 - k) ∷ (32 - k) ∷ []))) j
    ≡ rotate_right w32 (slice_index x j) k

pub shifts_rotate : (k : ℕ) → 0 < k → k < 32 → (x : List ℕ) → length x ≡ 4 → Rotated k x
shifts_rotate k low high =
    let by : k % 32 ≡ k = omega arith in
    let rest : (32 - k) % 32 ≡ 32 - k = omega arith in
    each_vector (Rotated k) (λ a b c d. each_lane _ (rw (by, rest) refl) (rw (by, rest) refl) (rw (by, rest) refl) (rw (by, rest) refl))

-- word k of a lane
pub lane_word : (words : List (List ℕ)) (j k : ℕ) → k < length words → slice_index (lane j words) k ≡ word_of j words k
lane_word words j k h = get_or-map (λ word. slice_index word j) words k [] 0 h

-- a word written
pub lane-set : (words : List (List ℕ)) (j k : ℕ) (x : List ℕ) → lane j (slice_set words k x) ≡ slice_set (lane j words) k (slice_index x j)
lane-set words j k x = map-set (λ word. slice_index word j) words k x

-- a shift to the right is a division
abbrev Divided : ℕ → List ℕ → Type 0
Divided k x = (j : ℕ) → j < 4 → slice_index (zip2 (λ y n. y / 2 ^ n) x (k ∷ k ∷ k ∷ k ∷ [])) j ≡ slice_index x j / 2 ^ k

pub shifts_divide : (k : ℕ) (x : List ℕ) → length x ≡ 4 → Divided k x
shifts_divide k = each_vector (Divided k) (λ a b c d. each_lane _ refl refl refl refl)

pub length-lane : (words : List (List ℕ)) (j : ℕ) → length (lane j words) ≡ length words
length-lane words j = length-map words (λ word. slice_index word j)

-- a shift to the left is a product, in a word
abbrev Shifted : ℕ → List ℕ → Type 0
Shifted k x = (j : ℕ) → j < 4 → slice_index (zip2 (λ y n. y * 2 ^ n % 2 ^ 32) x (k ∷ k ∷ k ∷ k ∷ [])) j ≡ slice_index x j * 2 ^ k % 2 ^ 32

pub shifts_multiply : (k : ℕ) (x : List ℕ) → length x ≡ 4 → Shifted k x
shifts_multiply k = each_vector (Shifted k) (λ a b c d. each_lane _ refl refl refl refl)

-- what holds of each of eight words
pub each_of_eight : (P : ℕ → Type 0) → P 0 → P 1 → P 2 → P 3 → P 4 → P 5 → P 6 → P 7 → (k : ℕ) → k < 8 → P k
each_of_eight P a b c d e f g i zero h = a
each_of_eight P a b c d e f g i (suc zero) h = b
each_of_eight P a b c d e f g i (suc (suc zero)) h = c
each_of_eight P a b c d e f g i (suc (suc (suc zero))) h = d
each_of_eight P a b c d e f g i (suc (suc (suc (suc zero)))) h = e
each_of_eight P a b c d e f g i (suc (suc (suc (suc (suc zero))))) h = f
each_of_eight P a b c d e f g i (suc (suc (suc (suc (suc (suc zero)))))) h = g
each_of_eight P a b c d e f g i (suc (suc (suc (suc (suc (suc (suc zero))))))) h = i
each_of_eight P a b c d e f g i (suc (suc (suc (suc (suc (suc (suc (suc n)))))))) h = absurd (omega arith)

pub value_word : (words : List (List ℕ)) (j k : ℕ) → k < 8 → slice_index (value_in j words) k ≡ word_of j words k
value_word words j = each_of_eight _ refl refl refl refl refl refl refl refl
