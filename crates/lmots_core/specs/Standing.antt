-- Where the chains of a leaf stand that go on side by side. Chain k has come to number from[k] and goes up to number to[k],
-- and `goal k` is what it ends with.
use Rattle.std.specs.Prelude.{◌≡◌, ℕ, ◌+◌, ◌-◌, ◌<◌, List, [], ◌∷◌, ◌++◌, length, slice_index, slice_index_or}
use Rattle.std.specs.Int.{w16, to_be_bytes}
use Rattle.sha2.specs.Sha256.{digest_bytes}
use Rattle.lmots_core.specs.Chains.{steps}

-- there is a chain k, and it isn't at its end
abbrev pub IsOpen : List ℕ → List ℕ → ℕ → Type 0
IsOpen from to k = (k < length from) × (slice_index from k < slice_index to k)

-- the steps that chain k has left lead from its value to its goal
abbrev pub StandsAt : List ℕ → List ℕ → List ℕ → (ℕ → List ℕ) → List (List ℕ) → ℕ → Type 0
StandsAt p from to goal values k =
    steps (p ++ to_be_bytes w16 k) (slice_index from k) (slice_index to k - slice_index from k)
    (digest_bytes (slice_index_or values k []) 8) ≡ goal k

-- so do those of each chain
abbrev pub Stand : List ℕ → List ℕ → List ℕ → (ℕ → List ℕ) → List (List ℕ) → Type 0
Stand p from to goal values = (k : ℕ) → k < length values → StandsAt p from to goal values k

-- the number of steps that all chains have left
unfoldable pub left : List ℕ → List ℕ → ℕ
left [] to = 0
left (a ∷ from) [] = 0
left (a ∷ from) (b ∷ to) = b - a + left from to
