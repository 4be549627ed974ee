-- The words of a chain's steps.
use Rattle.std.specs.Prelude.{◌≡◌, ℕ, ◌+◌, ◌*◌, ◌/◌, ◌%◌, ◌^◌, ◌<◌, List, [], ◌∷◌, length, slice_index}
use Rattle.sha2.specs.Sha256.{word_at}

-- the word of the last three bytes of word x and the first byte of word y
abbrev pub across : ℕ → ℕ → ℕ
across x y = x % 2 ^ 24 * 2 ^ 8 + y / 2 ^ 24 % 2 ^ 8

-- the word of a chain's number i, of the number n of a step, and of the first byte of word x
abbrev pub place_word : ℕ → ℕ → ℕ → ℕ
place_word i n x = i * 2 ^ 16 + n * 2 ^ 8 + x / 2 ^ 24 % 2 ^ 8

-- the 16 words of the padded block of one step: the leaf's five, the place, the value t that is taken on, whose bytes
-- lie across the words, the bit 1 behind it, and the length of 440 bits (FIPS 180-4, section 5.1.1)
abbrev pub block_words : List ℕ → ℕ → ℕ → List ℕ → List ℕ
block_words head i n t =
    slice_index head 0 ∷ slice_index head 1 ∷ slice_index head 2 ∷ slice_index head 3 ∷ slice_index head 4
    ∷ place_word i n (slice_index t 0)
    ∷ across (slice_index t 0) (slice_index t 1) ∷ across (slice_index t 1) (slice_index t 2)
    ∷ across (slice_index t 2) (slice_index t 3) ∷ across (slice_index t 3) (slice_index t 4)
    ∷ across (slice_index t 4) (slice_index t 5) ∷ across (slice_index t 5) (slice_index t 6)
    ∷ across (slice_index t 6) (slice_index t 7) ∷ across (slice_index t 7) 0x80000000 ∷ 0 ∷ 440 ∷ []

-- the words of the first 20 bytes p of a leaf's blocks, I || u32str(q)
abbrev pub IsHead : List ℕ → List ℕ → Type 0
IsHead words p = (length p ≡ 20) × ((k : ℕ) → k < 5 → slice_index words k ≡ word_at p (4 * k))
