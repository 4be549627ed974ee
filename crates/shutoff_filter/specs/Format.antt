-- How formatting a filter file ends, and the calls that it makes.
use Rattle.std.specs.Prelude.{◌≡◌, ℕ, ◌+◌, ◌*◌, Bool, true, false, if◌then◌else◌, List, [], ◌∷◌, ◌++◌, drop, replicate, Result, Ok, Err}
use Rattle.byteorder.specs.Endian.{big_bytes}
use Rattle.lease_disk.specs.Call.{Call, Len, Read}
use Rattle.lease_disk.specs.Calls.{firm_calls, gated_calls}
use Rattle.shutoff_filter.specs.FilterFile.{IsOpen, file_size, is_open, kept_room, open_gate}
use Rattle.shutoff_filter.specs.declared.formatting.Front.{Front}
use Rattle.shutoff_filter.specs.declared.formatting.Front.TheVariants as front
use Rattle.shutoff_filter.specs.declared.formatting.StoreFormatEnd.{StoreFormatEnd}
use Rattle.shutoff_filter.specs.declared.formatting.StoreFormatEnd.TheVariants.{Already, Failed}

-- the disk, which every answer gives back
abbrev pub formatted_disk : {D : Type 0} → Result D (StoreFormatEnd D) → D
formatted_disk (Ok disk) = disk
formatted_disk (Err (Already disk room)) = disk
formatted_disk (Err (Failed disk)) = disk

-- whether the disk failed
abbrev pub format_failed : {D : Type 0} → Result D (StoreFormatEnd D) → Bool
format_failed (Ok disk) = false
format_failed (Err (Already disk room)) = false
format_failed (Err (Failed disk)) = true

-- whether it was formatted already
abbrev pub is_already : {D : Type 0} → Result D (StoreFormatEnd D) → Bool
is_already (Ok disk) = false
is_already (Err (Already disk room)) = true
is_already (Err (Failed disk)) = false

-- What formatting says of the file, where the disk did not fail: it was formatted already exactly where it had a head
-- and its gate was open, and then for this room.
abbrev pub FormatSays : {D : Type 0} → List ℕ → Result D (StoreFormatEnd D) → Type 0
FormatSays file (Ok disk) = ¬ IsOpen file
FormatSays file (Err (Already disk room)) = IsOpen file × (room ≡ kept_room file)
FormatSays file (Err (Failed disk)) = Unit {0}

-- what the head of a file says to one who would format it
abbrev pub FrontSays : List ℕ → Front → Type 0
FrontSays file (front.Formatted room) = IsOpen file × (room ≡ kept_room file)
FrontSays file front.Unformatted = ¬ IsOpen file

-- what is written past the gate of an empty filter: its room, and slots of zeros
abbrev pub fresh_rest : ℕ → List ℕ
fresh_rest room = big_bytes 2 room ++ replicate (28 * (room + 1)) 0

-- the file of an empty filter
abbrev pub fresh_file : ℕ → List ℕ
fresh_file room = open_gate ∷ fresh_rest room

-- a freshly formatted file, where bytes past the last slot stay
abbrev pub formatted : ℕ → List ℕ → List ℕ
formatted room file = fresh_file room ++ drop (file_size room) file

-- the calls that close the gate, write what stands past it, and then open it
abbrev pub fresh_calls : ℕ → List Call
fresh_calls room = firm_calls 0 (0 ∷ []) ++ gated_calls 0 open_gate (fresh_rest room)

-- the calls of a whole format
abbrev pub format_calls : ℕ → List ℕ → List Call
format_calls room file = Len ∷ Read 0 3 ∷ (if is_open file then [] else fresh_calls room)
