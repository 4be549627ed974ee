-- What a count of faults says of an answer, whatever else is told.
use Rattle.std.specs.Prelude.{◌≡◌, ℕ, ◌+◌, ◌-◌, ◌^◌, ◌≤◌, nat_lt, if◌then◌else◌}

-- a count after one more: it stays at the greatest number of 64 bits once it is there
abbrev pub counted : ℕ → ℕ
counted count = if nat_lt count (2 ^ 64 - 1) then count + 1 else count

-- a count of faults rose, or stands at the greatest value that it can have
abbrev pub Rose : ℕ → ℕ → Type 0
Rose before now = counted before ≤ now

-- A count of faults never falls. It rose where the answer is its fault, and stays at every other answer.
pub record HasCause (fault : Type 0) (before now : ℕ) : Type 0 where
  pub never_falls : before ≤ now
  pub rose : fault → Rose before now
  pub stays : (fault → ⊥) → now ≡ before
