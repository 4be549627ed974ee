-- What the counts of the faults of a shelf say of an answer, whatever else is told.
use Rattle.std.specs.Prelude.{◌≡◌, ℕ, ◌≤◌, List, Option, IsSome}
use Rattle.fault_counts.specs.Causes.{Rose}

-- The counts of a shelf over a call that reads named files. At a fault of reading the count of one of them rose, and at
-- every other answer all counts stay. That of any other file stays too, where its text is told.
pub record ReadsOnly (named : List ℕ → Type 0) (fault : Type 0) (text : List ℕ → Option (List ℕ)) (before now : List ℕ → ℕ) : Type 0 where
  pub never_fall : (name : List ℕ) → before name ≤ now name
  pub rose : fault → (name : List ℕ) × (named name × Rose (before name) (now name))
  pub stay : (fault → ⊥) → (name : List ℕ) → now name ≡ before name
  pub others : (name : List ℕ) → (named name → ⊥) → IsSome (text name) → now name ≡ before name
