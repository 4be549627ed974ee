-- The slots of a filter.
use Rattle.std.specs.Prelude.{ℕ, ◌+◌, Bool, false, not, ◌&&◌, nat_le, List, replicate}
use Rattle.aip_addr.specs.declared.ids.KeyId.{KeyId}
use Rattle.shutoff_filter.specs.Entries.{entries_of, entry_of, is_key, is_withheld, withholds}
use Rattle.shutoff_filter.specs.declared.slots.Slot.{Slot}

-- a slot that holds nothing
abbrev pub closed_slot : Slot
closed_slot = record { is_open = false; to = record { bytes = replicate 19 0 }; until = 0 }

-- the slots of an empty filter, one more than it has room for
abbrev pub fresh_slots : ℕ → List Slot
fresh_slots room = replicate (room + 1) closed_slot

-- whether the slot withholds this key at a time: it is open, and its entry does
abbrev pub holds : ℕ → KeyId → Slot → Bool
holds now to slot = slot.is_open && withholds now to (entry_of slot)

-- whether the slot withholds another key than this, which no later slot withholds
abbrev pub counts : ℕ → KeyId → Slot → List Slot → Bool
counts now to slot later = holds now slot.to slot && (not (is_key slot.to to) && not (is_withheld now slot.to (entries_of later)))

-- whether the slot has an entry of this key that lasts at least until then
abbrev pub covers : ℕ → KeyId → Slot → Bool
covers until to slot = slot.is_open && (is_key slot.to to && nat_le until slot.until)
