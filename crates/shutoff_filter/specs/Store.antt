-- What callers see of a filter on a disk, and how its calls end.
use Rattle.std.specs.Prelude.{◌≡◌, ◌⊎◌, ℕ, ◌<◌, Bool, true, false, List, length, slice_index, Option, None, Result, Ok, Err}
use Rattle.lease_disk.specs.declared.disk.Disk.{Ghosts}
use Rattle.shutoff_filter.specs.FilterFile.{IsFilterOf, IsOpen, file_size, kept_room}
use Rattle.shutoff_filter.specs.declared.slots.Slot.{Slot}
use Rattle.shutoff_filter.specs.declared.slots.Slots.{Slots}
use Rattle.shutoff_filter.specs.declared.store.FilterStore.{FilterStore}
use Rattle.shutoff_filter.specs.declared.opening.StoreEnd.{StoreEnd}
use Rattle.shutoff_filter.specs.declared.opening.StoreEnd.TheVariants as opening

module _ {D : Type 0} {G : Ghosts D} where
  -- the disk that the filter is kept on
  abbrev pub disk_of : FilterStore D G → D
  disk_of store = store.disk

  -- for how many keys it has room
  abbrev pub room_of : FilterStore D G → ℕ
  room_of store = store.slots.room

  -- its slots
  abbrev pub slots_of : FilterStore D G → List Slot
  slots_of store = store.slots.slots.items

  -- the slot for the next entry
  abbrev pub spare_of : FilterStore D G → Option ℕ
  spare_of store = store.spare

  -- the disk, which every answer of an opening gives back
  abbrev pub opened_disk : Result (FilterStore D G) (StoreEnd D) → D
  opened_disk (Ok store) = store.disk
  opened_disk (Err (opening.Failed disk slots)) = disk
  opened_disk (Err (opening.Unformatted disk slots size gate)) = disk
  opened_disk (Err (opening.OtherRoom disk slots room)) = disk

  -- whether the disk failed
  abbrev pub open_failed : Result (FilterStore D G) (StoreEnd D) → Bool
  open_failed (Ok store) = false
  open_failed (Err (opening.Failed disk slots)) = true
  open_failed (Err (opening.Unformatted disk slots size gate)) = false
  open_failed (Err (opening.OtherRoom disk slots room)) = false

  -- What opening a file with slots says of it, where the disk did not fail, by the first that applies: a closed gate or a
  -- short head, then another room, then a slot that lacks, and else the slots of the file.
  abbrev pub OpenSays : Slots → List ℕ → Result (FilterStore D G) (StoreEnd D) → Type 0
  OpenSays slots file (Ok store) = (store.spare ≡ None) × (store.slots.room ≡ slots.room) × IsFilterOf slots.room store.slots.slots.items file
  OpenSays slots file (Err (opening.Failed disk given)) = Unit {0}
  OpenSays slots file (Err (opening.Unformatted disk given size gate)) = (size ≡ length file) × (gate ≡ slice_index file 0) × ((¬ IsOpen file) ⊎ ((kept_room file ≡ slots.room) × (length file < file_size slots.room)))
  OpenSays slots file (Err (opening.OtherRoom disk given room)) = IsOpen file × (room ≡ kept_room file) × (¬ (kept_room file ≡ slots.room))

  -- the slots, which an end gives back
  abbrev pub GivesSlots : Slots → Result (FilterStore D G) (StoreEnd D) → Type 0
  GivesSlots slots (Ok store) = Unit {0}
  GivesSlots slots (Err (opening.Failed disk given)) = given ≡ slots
  GivesSlots slots (Err (opening.Unformatted disk given size gate)) = given ≡ slots
  GivesSlots slots (Err (opening.OtherRoom disk given room)) = given ≡ slots
