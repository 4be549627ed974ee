-- What stays in each image over a call, where images are those at its start, and later ones those of each moment of it.
use Rattle.std.specs.Prelude.{ℕ, List}
use Rattle.leaf_lease.specs.LeaseFile.{IsGone}

-- a leaf that is gone in every image stays gone in every later one
abbrev pub KeepsGone : (List ℕ → Type 0) → (List ℕ → Type 0) → Type 0
KeepsGone images later = (leaf : ℕ) → ((image : List ℕ) → images image → IsGone leaf image) → (image : List ℕ) → later image → IsGone leaf image
