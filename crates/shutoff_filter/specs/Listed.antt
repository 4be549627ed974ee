-- What a list of the keys in force is, without a word of how it is made.
use Rattle.std.specs.Prelude.{◌≡◌, ℕ, true, List, [], ◌∷◌}
use Rattle.aip_addr.specs.declared.ids.KeyId.{KeyId}
use Rattle.shutoff_filter.specs.declared.entries.ShutOffEntry.{ShutOffEntry}
use Rattle.shutoff_filter.specs.Entries.{SameInForce, in_force, is_before, lasts}

-- every key of the list comes after this one
abbrev pub AllAfter : KeyId → List ShutOffEntry → Type 0
AllAfter key [] = Unit {0}
AllAfter key (e ∷ es) = (is_before key e.to ≡ true) × AllAfter key es

-- all entries are in force, and ascend by key: so each key stands there once
abbrev pub IsInOrder : ℕ → List ShutOffEntry → Type 0
IsInOrder now [] = Unit {0}
IsInOrder now (e ∷ es) = (lasts now e ≡ true) × AllAfter e.to es × IsInOrder now es

-- The list has the keys that are in force now by the entries, in ascending order and each once; and it withholds each key
-- now and at every later time exactly where they do, so the until of a key is the greatest that it has in an entry.
pub record IsListOf (now : ℕ) (entries listed : List ShutOffEntry) : Type 0 where
  pub order : IsInOrder now listed
  pub same : SameInForce now entries listed

-- at each time, and for all entries, this is how the keys in force are listed
abbrev pub InForceIsListed : Type 0
InForceIsListed = (now : ℕ) (entries : List ShutOffEntry) → IsListOf now entries (in_force now entries)
