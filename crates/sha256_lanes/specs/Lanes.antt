-- Four hashes side by side: each word is a vector, with one lane for each hash.
use Rattle.std.specs.Prelude.{◌≡◌, ℕ, ◌*◌, ◌<◌, List, [], ◌∷◌, map, slice_index, slice_index_or}
use Rattle.sha2.specs.Sha256.{word_at}

-- the words of lane j
abbrev pub lane : ℕ → List (List ℕ) → List ℕ
lane j words = map (λ word. slice_index word j) words

-- word k of lane j
abbrev pub word_of : ℕ → List (List ℕ) → ℕ → ℕ
word_of j words k = slice_index (slice_index_or words k []) j

-- the eight words of a hash value in lane j
abbrev pub value_in : ℕ → List (List ℕ) → List ℕ
value_in j words =
    word_of j words 0 ∷ word_of j words 1 ∷ word_of j words 2 ∷ word_of j words 3
    ∷ word_of j words 4 ∷ word_of j words 5 ∷ word_of j words 6 ∷ word_of j words 7 ∷ []

-- these are the 16 words of block b, high byte first (FIPS 180-4, section 5.2.1)
abbrev pub AreWordsOf : List ℕ → List ℕ → Type 0
AreWordsOf words b = (k : ℕ) → k < 16 → slice_index words k ≡ word_at b (4 * k)
