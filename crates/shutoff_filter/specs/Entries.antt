-- The entries of a filter, and the keys that are in force by them.
use Rattle.std.specs.Prelude.{◌≡◌, ℕ, ◌≤◌, Bool, not, ◌&&◌, nat_lt, nat_le, max, if◌then◌else◌, List, [], ◌∷◌, length}
use Rattle.std.specs.Cmp.Lexicographic.{slice_cmp}
use Rattle.std.specs.List.{filter, list_any}
use Rattle.std.specs.Ordering.{is_lt, nat_cmp}
use Rattle.std.specs.declared.cmp.Ordering.{Ordering}
use Rattle.std.specs.Str.{bytes_eq}
use Rattle.aip_addr.specs.declared.ids.KeyId.{KeyId}
use Rattle.shutoff_filter.specs.declared.entries.ShutOffEntry.{ShutOffEntry}
use Rattle.shutoff_filter.specs.declared.slots.Slot.{Slot}

-- whether two keys are one
abbrev pub is_key : KeyId → KeyId → Bool
is_key a b = bytes_eq a.bytes b.bytes

-- the order of keys, by their bytes
abbrev pub key_cmp : KeyId → KeyId → Ordering
key_cmp a b = slice_cmp nat_cmp a.bytes b.bytes

-- whether the one key comes before the other
abbrev pub is_before : KeyId → KeyId → Bool
is_before a b = is_lt (key_cmp a b)

-- whether the entry is in force
abbrev pub lasts : ℕ → ShutOffEntry → Bool
lasts now entry = nat_lt now entry.until

-- whether the entry withholds this key at a time
abbrev pub withholds : ℕ → KeyId → ShutOffEntry → Bool
withholds now to entry = is_key entry.to to && lasts now entry

-- whether the key is in force: some entry of it has an until above now
abbrev pub is_withheld : ℕ → KeyId → List ShutOffEntry → Bool
is_withheld now to entries = list_any (withholds now to) entries

-- whether some entry of the key lasts at least until then
abbrev pub is_covered : ℕ → KeyId → List ShutOffEntry → Bool
is_covered until to entries = list_any (λ e. is_key e.to to && nat_le until e.until) entries

-- the second of two entries of one key, with the greater until of both
abbrev pub greatest : ShutOffEntry → ShutOffEntry → ShutOffEntry
greatest one other = record { to = other.to; until = max one.until other.until }

-- One entry more in a list that ascends by key and has each key once: it stands before the first greater key, and where
-- its key is there the greater until stays.
abbrev pub with_greatest : ShutOffEntry → List ShutOffEntry → List ShutOffEntry
with_greatest entry [] = entry ∷ []
with_greatest entry (e ∷ es) = if is_before entry.to e.to then entry ∷ (e ∷ es) else (if is_key entry.to e.to then greatest entry e ∷ es else e ∷ with_greatest entry es)

-- the keys in force in ascending order of their bytes, each with its greatest until
abbrev pub in_force : ℕ → List ShutOffEntry → List ShutOffEntry
in_force now [] = []
in_force now (e ∷ es) = if lasts now e then with_greatest e (in_force now es) else in_force now es

-- how many other keys than this are in force
abbrev pub others_in_force : ℕ → KeyId → List ShutOffEntry → ℕ
others_in_force now to entries = length (filter (λ e. not (is_key e.to to)) (in_force now entries))

-- the same keys are withheld at now and at each later time
abbrev pub SameInForce : ℕ → List ShutOffEntry → List ShutOffEntry → Type 0
SameInForce now old new = (to : KeyId) (time : ℕ) → now ≤ time → is_withheld time to old ≡ is_withheld time to new

-- the entry of a slot that is open
abbrev pub entry_of : Slot → ShutOffEntry
entry_of slot = record { to = slot.to; until = slot.until }

-- the entries of the slots that are open, in their order
abbrev pub entries_of : List Slot → List ShutOffEntry
entries_of [] = []
entries_of (slot ∷ slots) = if slot.is_open then entry_of slot ∷ entries_of slots else entries_of slots
