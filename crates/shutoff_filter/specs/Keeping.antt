-- How a filter is written: what each image has of it, and how its calls end.
use Rattle.std.specs.Prelude.{◌≡◌, ◌⊎◌, ℕ, ◌+◌, Bool, true, false, List, ◌++◌, ◌∷◌, length, map, Result, Ok, Err}
use Rattle.std.specs.List.{range_with_len}
use Rattle.byteorder.specs.Endian.{big_bytes}
use Rattle.aip_addr.specs.declared.ids.KeyId.{KeyId}
use Rattle.lease_disk.specs.Call.{Call}
use Rattle.lease_disk.specs.Calls.{gated_calls}
use Rattle.lease_disk.specs.declared.disk.Disk.{Ghosts}
use Rattle.shutoff_filter.specs.Entries.{SameInForce, entries_of}
use Rattle.shutoff_filter.specs.FilterFile.{IsFilter, open_gate, slot_at, slot_start}
use Rattle.shutoff_filter.specs.declared.entries.ShutOffEntry.{ShutOffEntry}
use Rattle.shutoff_filter.specs.declared.keeping.KeepEnd.{KeepEnd}
use Rattle.shutoff_filter.specs.declared.slots.Slot.{Slot}
use Rattle.shutoff_filter.specs.declared.slots.Slots.{Slots}
use Rattle.shutoff_filter.specs.declared.store.FilterStore.{FilterStore}

-- the slots of a file of this room
abbrev pub slots_at : ℕ → List ℕ → List Slot
slots_at room file = map (slot_at file) (range_with_len 0 (room + 1))

-- the entries of a file of this room
abbrev pub entries_in : ℕ → List ℕ → List ShutOffEntry
entries_in room file = entries_of (slots_at room file)

-- An image of a filter that is written comes from one at the start: it has an open gate, its room and all its slots, it is
-- as long as it was, and its entries are such.
pub record IsImageOf (room : ℕ) (images : List ℕ → Type 0) (Such : List ShutOffEntry → Type 0) (image : List ℕ) : Type 0 where
  pub before : List ℕ
  pub was : images before
  pub filter : IsFilter room image
  pub size : length image ≡ length before
  pub such : Such (entries_in room image)

-- the same keys are withheld at now and at each later time, but perhaps with one entry more
abbrev pub SameOrAdded : ℕ → ShutOffEntry → List ShutOffEntry → List ShutOffEntry → Type 0
SameOrAdded now entry old new = SameInForce now old new ⊎ SameInForce now (entry ∷ old) new

-- the 27 bytes of an entry past its slot's gate
abbrev pub entry_bytes : KeyId → ℕ → List ℕ
entry_bytes to until = to.bytes ++ big_bytes 8 until

-- the slot of an entry
abbrev pub open_slot : KeyId → ℕ → Slot
open_slot to until = record { is_open = true; to = to; until = until }

-- the slot once it is closed
abbrev pub shut_slot : Slot → Slot
shut_slot slot = record slot { is_open = false }

-- the calls that write an entry to a slot: what stands past its gate, a sync, the gate, a sync
abbrev pub keep_calls : ℕ → KeyId → ℕ → List Call
keep_calls number to until = gated_calls (slot_start number) open_gate (entry_bytes to until)

module _ {D : Type 0} {G : Ghosts D} where
  -- the disk, which every answer gives back
  abbrev pub kept_disk : Result (FilterStore D G) (KeepEnd D) → D
  kept_disk (Ok store) = store.disk
  kept_disk (Err end) = end.disk

  -- the slots, which every answer gives back
  abbrev pub kept_slots : Result (FilterStore D G) (KeepEnd D) → Slots
  kept_slots (Ok store) = store.slots
  kept_slots (Err end) = end.slots

  -- whether the disk failed
  abbrev pub keep_failed : Result (FilterStore D G) (KeepEnd D) → Bool
  keep_failed (Ok store) = false
  keep_failed (Err end) = true
