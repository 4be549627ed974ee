-- Which slot may take the next entry: the lowest that holds none of a key in force.
use Rattle.std.specs.Prelude.{ℕ, Bool, not, ◌&&◌, nat_lt, nat_le, if◌then◌else◌, List, [], ◌∷◌, ◌++◌, length, Option, Some, None}
use Rattle.std.specs.List.{list_any}
use Rattle.lease_disk.specs.Call.{Call}
use Rattle.lease_disk.specs.Calls.{firm_calls}
use Rattle.shutoff_filter.specs.Entries.{entry_of, is_key, lasts}
use Rattle.shutoff_filter.specs.FilterFile.{slot_in, slot_start}
use Rattle.shutoff_filter.specs.declared.slots.Slot.{Slot}

-- whether the other slot is open, of the same key, and lasts as long
abbrev pub is_matched_by : Slot → Slot → Bool
is_matched_by slot other = other.is_open && (is_key other.to slot.to && nat_le slot.until other.until)

-- whether the other slot is open, of the same key, and lasts longer
abbrev pub is_outlasted_by : Slot → Slot → Bool
is_outlasted_by slot other = other.is_open && (is_key other.to slot.to && nat_lt slot.until other.until)

-- whether a slot between lower and higher ones holds the entry of a key in force: it is open and in force, no lower slot
-- of its key lasts as long, and no higher one longer
abbrev pub holds_entry : ℕ → List Slot → Slot → List Slot → Bool
holds_entry now lower slot higher =
    (slot.is_open && lasts now (entry_of slot)) && (not (list_any (is_matched_by slot) lower) && not (list_any (is_outlasted_by slot) higher))

-- the number of the first slot past the lower ones that holds no entry of a key in force
abbrev pub spare_past : ℕ → List Slot → List Slot → Option ℕ
spare_past now lower [] = None
spare_past now lower (slot ∷ higher) = if holds_entry now lower slot higher then spare_past now (lower ++ slot ∷ []) higher else Some (length lower)

-- the number of the lowest slot that holds no entry of a key in force
abbrev pub spare_in : ℕ → List Slot → Option ℕ
spare_in now slots = spare_past now [] slots

-- the calls that close a slot for the next entry, where it is open: a write and a sync
abbrev pub closing_calls : List Slot → Option ℕ → List Call
closing_calls slots None = []
closing_calls slots (Some number) = if (slot_in slots number).is_open then firm_calls (slot_start number) (0 ∷ []) else []
