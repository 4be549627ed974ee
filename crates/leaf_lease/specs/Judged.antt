-- What the front of a file says of it.
use Rattle.std.specs.Prelude.{◌≡◌, ◌⊎◌, ℕ, ◌^◌, ◌<◌, ◌≤◌, List, length, slice_index}
use Rattle.leaf_lease.specs.declared.judging.Judgement.{Judgement}
use Rattle.leaf_lease.specs.declared.judging.Judgement.TheVariants as judged
use Rattle.leaf_lease.specs.declared.judging.Front.{Front}
use Rattle.leaf_lease.specs.declared.judging.Front.TheVariants as front
use Rattle.leaf_lease.specs.LeaseFile.{IsOpen, HasKey, IsLeaseFile, kept_id, kept_height, file_size, needs_shut}

-- the first of these that applies: a closed gate or a short head, another key, a byte that lacks for some leaf
abbrev pub JudgeSays : List ℕ → ℕ → List ℕ → Judgement → Type 0
JudgeSays id height file (judged.Free next) = IsLeaseFile id height next file
JudgeSays id height file (judged.Unformatted gate) = (gate ≡ slice_index file 0) × ((¬ IsOpen file) ⊎ (HasKey id height file × (length file < file_size height)))
JudgeSays id height file (judged.OtherKey id' height') = IsOpen file × (id' ≡ kept_id file) × (height' ≡ kept_height file) × (¬ HasKey id height file)

-- a leaf that is free is one of the key's, or one past its last
abbrev pub IsWithin : ℕ → Judgement → Type 0
IsWithin height (judged.Free next) = next ≤ 2 ^ height
IsWithin height (judged.Unformatted gate) = Unit {0}
IsWithin height (judged.OtherKey id' height') = Unit {0}

-- what the head of a file says to one who would format it
abbrev pub FrontSays : List ℕ → Front → Type 0
FrontSays file (front.Formatted id height) = IsOpen file × (id ≡ kept_id file) × (height ≡ kept_height file)
FrontSays file (front.Unformatted shut) = (¬ IsOpen file) × (shut ≡ needs_shut file)
