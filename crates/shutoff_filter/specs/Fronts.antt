-- What the front of a filter file says of it.
use Rattle.std.specs.Prelude.{◌≡◌, ◌⊎◌, ℕ, ◌<◌, List, length, slice_index}
use Rattle.shutoff_filter.specs.FilterFile.{IsFilter, IsOpen, file_size, kept_room}
use Rattle.shutoff_filter.specs.declared.judgement.Judgement.{Judgement}
use Rattle.shutoff_filter.specs.declared.judgement.Judgement.TheVariants as judged

-- the first of these that applies: a closed gate or a short head, another room, a slot that lacks
abbrev pub JudgeSays : ℕ → List ℕ → Judgement → Type 0
JudgeSays room file judged.Whole = IsFilter room file
JudgeSays room file (judged.Unformatted gate) = (gate ≡ slice_index file 0) × ((¬ IsOpen file) ⊎ ((kept_room file ≡ room) × (length file < file_size room)))
JudgeSays room file (judged.OtherRoom other) = IsOpen file × (other ≡ kept_room file) × (¬ (kept_room file ≡ room))
