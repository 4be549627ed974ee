-- How formatting ends, and the calls that it makes.
use Rattle.std.specs.Prelude.{◌≡◌, ◌≢◌, ◌⊎◌, ℕ, ◌+◌, ◌<◌, Bool, true, false, if◌then◌else◌, List, [], ◌∷◌, ◌++◌, length, drop, take, slice_index, Option, Some, Result, Ok, Err}
use Rattle.lease_disk.specs.Call.{Call, Len, Read}
use Rattle.lease_disk.specs.Calls.{firm_calls, gated_calls}
use Rattle.lease_disk.specs.Kept.{AfterWrite}
use Rattle.leaf_lease.specs.declared.formatting.FormatEnd.{FormatEnd}
use Rattle.leaf_lease.specs.declared.formatting.FormatEnd.TheVariants.{Already, Failed}
use Rattle.leaf_lease.specs.LeaseFile.{IsOpen, kept_id, kept_height, file_size, head_size, open_gate, is_open, needs_shut, fresh_rest, fresh_file}

-- the disk, which every answer gives back
abbrev pub formatted_disk : {D : Type 0} → Result D (FormatEnd D) → D
formatted_disk (Ok disk) = disk
formatted_disk (Err (Already disk id height)) = disk
formatted_disk (Err (Failed disk)) = disk

-- whether the disk failed
abbrev pub format_failed : {D : Type 0} → Result D (FormatEnd D) → Bool
format_failed (Ok disk) = false
format_failed (Err (Already disk id height)) = false
format_failed (Err (Failed disk)) = true

-- What formatting says of the file, where the disk did not fail: it was formatted already exactly where it had a head
-- and its gate was open, and then for this key.
abbrev pub FormatSays : {D : Type 0} → List ℕ → Result D (FormatEnd D) → Type 0
FormatSays file (Ok disk) = ¬ IsOpen file
FormatSays file (Err (Already disk id height)) = IsOpen file × (id ≡ kept_id file) × (height ≡ kept_height file)
FormatSays file (Err (Failed disk)) = Unit {0}

-- a freshly formatted file, where bytes past the last leaf stay
abbrev pub formatted : List ℕ → ℕ → List ℕ → List ℕ
formatted id height file = fresh_file id height ++ drop (file_size height) file

-- the calls that close the gate
abbrev pub shut_calls : Bool → List Call
shut_calls shut = if shut then firm_calls 0 (0 ∷ []) else []

-- the calls that write what stands past the gate, and then open it
abbrev pub fill_calls : List ℕ → List Call
fill_calls rest = gated_calls 0 open_gate rest

-- the calls of a whole format
abbrev pub format_calls : List ℕ → ℕ → List ℕ → List Call
format_calls id height file = Len ∷ Read 0 head_size ∷ (if is_open file then [] else shut_calls (needs_shut file) ++ fill_calls (fresh_rest id height))

-- an image while the file is filled: the gate is not yet written, or all past it is firm
abbrev pub WhileFilled : (List ℕ → Type 0) → Option (List ℕ) → List ℕ → List ℕ → Type 0
WhileFilled images content rest image =
    AfterWrite images 1 (length rest) image ⊎ ((file : List ℕ) × (content ≡ Some file) × (0 < length image) × (drop 1 image ≡ rest ++ drop (1 + length rest) file))

-- the gate of the file is closed, once it is closed where that is to be done
pub record IsClosedBy (shut : Bool) (file : List ℕ) : Type 0 where
  pub short : shut ≡ true → length file < head_size
  pub closed : shut ≡ false → (0 < length file) × (slice_index file 0 ≢ open_gate)

-- where its gate is open, the image begins with a freshly formatted file
abbrev pub IsFresh : List ℕ → ℕ → List ℕ → Type 0
IsFresh id height image = IsOpen image → take (file_size height) image ≡ fresh_file id height

-- whether it was formatted already
abbrev pub is_already : {D : Type 0} → Result D (FormatEnd D) → Bool
is_already (Ok disk) = false
is_already (Err (Already disk id height)) = true
is_already (Err (Failed disk)) = false
