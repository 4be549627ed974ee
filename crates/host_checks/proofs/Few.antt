-- The keys in force at a guard are no fewer than those of them that are another.
use Rattle.std.proofs.Common.{◌≡◌, ℕ, suc, ◌≤◌, not, Bool, true, false, if◌then◌else◌, List, [], ◌∷◌, length, arith}
use Rattle.std.specs.List.{filter}
use Rattle.aip_addr.specs.declared.ids.KeyId.{KeyId}
use Rattle.shutoff_filter.specs.declared.entries.ShutOffEntry.{ShutOffEntry}
use Rattle.shutoff_filter.specs.Entries.{in_force, is_key, others_in_force}

-- the other keys in force are among those in force
pub others_few : (now : ℕ) (to : KeyId) (entries : List ShutOffEntry) → others_in_force now to entries ≤ length (in_force now entries)
others_few now to entries = among (in_force now entries)
  where
    among : (es : List ShutOffEntry) → length (filter (λ e. not (is_key e.to to)) es) ≤ length es
    among [] = omega arith
    among (e ∷ es) = by_case (not (is_key e.to to)) (among es)
      where
        by_case : (b : Bool) → length (filter (λ e. not (is_key e.to to)) es) ≤ length es
            → length (if b then e ∷ filter (λ e. not (is_key e.to to)) es else filter (λ e. not (is_key e.to to)) es) ≤ suc (length es)
        by_case true few = omega (arith, few)
        by_case false few = omega (arith, few)
