-- Slots against their entries: which keys are withheld, and how many.
use Rattle.std.proofs.Common.{◌≡◌, ℕ, suc, ◌+◌, ◌-◌, ◌≤◌, Bool, true, false, not, ◌&&◌, ◌||◌, nat_le, if◌then◌else◌, List, [], ◌∷◌, length, get_or, take, drop, refl, sym, ap, ◌∙◌, arith}
use Rattle.std.proofs.lemmas.List.{take_all}
use Rattle.std.specs.List.{list_any}
use Rattle.aip_addr.specs.declared.ids.KeyId.{KeyId}
use Rattle.shutoff_filter.specs.Entries.{entries_of, entry_of, is_covered, is_key, is_withheld, lasts, others_in_force}
use Rattle.shutoff_filter.specs.InForce.{key_laws, others-cons}
use Rattle.shutoff_filter.specs.Slots.{counts, covers}
use Rattle.shutoff_filter.specs.declared.slots.Slot.{Slot}

-- a slot counts where it is in force, of another key, which no later slot withholds
pub others_slots : (now : ℕ) (to : KeyId) (slot : Slot) (slots : List Slot)
    → others_in_force now to (entries_of (slot ∷ slots)) ≡ (if counts now to slot slots then others_in_force now to (entries_of slots) + 1 else others_in_force now to (entries_of slots))
others_slots now to slot slots = by slot.is_open
  where
    by : (b : Bool) → others_in_force now to (if b then entry_of slot ∷ entries_of slots else entries_of slots)
        ≡ (if (b && (is_key slot.to slot.to && lasts now (entry_of slot))) && (not (is_key slot.to to) && not (is_withheld now slot.to (entries_of slots))) then others_in_force now to (entries_of slots) + 1 else others_in_force now to (entries_of slots))
    by false = refl
    by true =
        others-cons now to (entry_of slot) (entries_of slots)
        ∙ sym (ap (λ b. if (b && lasts now (entry_of slot)) && (not (is_key slot.to to) && not (is_withheld now slot.to (entries_of slots))) then others_in_force now to (entries_of slots) + 1 else others_in_force now to (entries_of slots)) (key_laws.refl slot.to))

-- the count of slots, by its first and the rest of them
pub counted : (now : ℕ) (to : KeyId) (slots : List Slot) (other : Slot) (first : Bool) (others : ℕ) → 1 ≤ length slots
    → first ≡ counts now to (get_or slots 0 other) (take (length slots - 1) (drop 1 slots))
    → others ≡ others_in_force now to (entries_of (take (length slots - 1) (drop 1 slots)))
    → (if first then others + 1 else others) ≡ others_in_force now to (entries_of slots)
counted now to [] other first others some is rest = absurd (omega arith)
counted now to (slot ∷ slots) other first others some is rest =
    let less : suc (length slots) - 1 ≡ length slots = omega arith in
    let tail : take (suc (length slots) - 1) slots ≡ slots = ap (λ n. take n slots) less ∙ take_all (length slots) slots (omega arith) in
    ap (λ b. if b then others + 1 else others) (is ∙ ap (counts now to slot) tail)
    ∙ ap (λ n. if counts now to slot slots then n + 1 else n) (rest ∙ ap (λ (l : List Slot). others_in_force now to (entries_of l)) tail)
    ∙ sym (others_slots now to slot slots)

-- some slot covers the key where some entry does
pub any_covers : (until : ℕ) (to : KeyId) (slots : List Slot) → list_any (covers until to) slots ≡ is_covered until to (entries_of slots)
any_covers until to [] = refl
any_covers until to (slot ∷ slots) = by slot.is_open (any_covers until to slots)
  where
    by : (b : Bool) → list_any (covers until to) slots ≡ is_covered until to (entries_of slots)
        → ((b && (is_key slot.to to && nat_le until slot.until)) || list_any (covers until to) slots) ≡ is_covered until to (if b then entry_of slot ∷ entries_of slots else entries_of slots)
    by true h = ap (λ b. (is_key slot.to to && nat_le until slot.until) || b) h
    by false h = h
