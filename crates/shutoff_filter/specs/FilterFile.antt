-- A filter file: a gate, the room, and slots of 28 bytes, one more than the room. A slot is a gate, a key identifier and
-- the first tick at which it isn't withheld any more.
use Rattle.std.specs.Prelude.{◌≡◌, ℕ, ◌+◌, ◌*◌, ◌≤◌, ◌==◌, ◌&&◌, nat_le, Bool, List, take, drop, length, slice_index, slice_index_or}
use Rattle.byteorder.specs.Endian.{big_number}
use Rattle.shutoff_filter.specs.Slots.{closed_slot}
use Rattle.shutoff_filter.specs.declared.slots.Slot.{Slot}

-- the gate of a file or a slot that is open
abbrev pub open_gate : ℕ
open_gate = 0xa5

-- where a slot begins
abbrev pub slot_start : ℕ → ℕ
slot_start i = 3 + 28 * i

-- how many bytes a filter with room for so many keys takes
abbrev pub file_size : ℕ → ℕ
file_size room = slot_start (room + 1)

-- the room that the file keeps, in its bytes 1 and 2
abbrev pub kept_room : List ℕ → ℕ
kept_room file = big_number 2 (drop 1 file)

-- the file has a head, and its gate is open
pub record IsOpen (file : List ℕ) : Type 0 where
  pub there : 3 ≤ length file
  pub gate : slice_index file 0 ≡ open_gate

-- whether the file has a head and its gate is open
abbrev pub is_open : List ℕ → Bool
is_open file = nat_le 3 (length file) && (slice_index file 0 == open_gate)

-- the file is open, has this room, and has all of its slots
pub record IsFilter (room : ℕ) (file : List ℕ) : Type 0 where
  pub gate : slice_index file 0 ≡ open_gate
  pub same_room : kept_room file ≡ room
  pub whole : file_size room ≤ length file

-- the 27 bytes of a slot past its gate
abbrev pub body_at : List ℕ → ℕ → List ℕ
body_at file i = take 27 (drop (slot_start i + 1) file)

-- the slot of a gate and the 27 bytes past it
abbrev pub slot_of : ℕ → List ℕ → Slot
slot_of gate body = record {
  is_open = gate == open_gate;
  to = record { bytes = take 19 body };
  until = big_number 8 (drop 19 body);
}

-- a slot of a file
unfoldable pub slot_at : List ℕ → ℕ → Slot
slot_at file i = slot_of (slice_index file (slot_start i)) (body_at file i)

-- a slot in memory
abbrev pub slot_in : List Slot → ℕ → Slot
slot_in slots i = slice_index_or slots i closed_slot

-- the file is a filter of this room, and its slots are these
pub record IsFilterOf (room : ℕ) (slots : List Slot) (file : List ℕ) : Type 0 where
  pub filter : IsFilter room file
  pub same : (i : ℕ) → i ≤ room → slot_at file i ≡ slot_in slots i
