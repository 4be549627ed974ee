-- A search for the spare slot.
use Rattle.std.proofs.Common.{◌≡◌, ℕ, ◌+◌, ◌<◌, ◌≤◌, true, false, if◌then◌else◌, List, [], ◌∷◌, ◌++◌, length, take, drop, sym, ◌∙◌, ap, arith}
use Rattle.std.specs.Prelude.{Option, Some, None}
use Rattle.std.proofs.lemmas.List.{drop_all, drop_more, drop-drop, length-take, take_more}
use Rattle.shutoff_filter.specs.FilterFile.{slot_in}
use Rattle.shutoff_filter.specs.Slots.{closed_slot}
use Rattle.shutoff_filter.specs.Spare.{holds_entry, spare_in, spare_past}
use Rattle.shutoff_filter.specs.declared.slots.Slot.{Slot}

-- the higher slots, from the rest past the lower ones
pub parted : (slots : List Slot) (number : ℕ) → drop 1 (drop number slots) ≡ drop (number + 1) slots
parted slots number = drop-drop 1 number slots

module _ (now : ℕ) (slots : List Slot) where
  -- one step: the first slot past the lower ones
  stepped : (number : ℕ) → number < length slots → spare_past now (take number slots) (drop number slots)
      ≡ (if holds_entry now (take number slots) (slot_in slots number) (drop (number + 1) slots) then spare_past now (take (number + 1) slots) (drop (number + 1) slots) else Some number)
  stepped number there =
      let size = length-take number slots in
      let all : length (take number slots) ≡ number = omega arith in
      ap (spare_past now (take number slots)) (drop_more slots number closed_slot there)
      ∙ ap (λ n. if holds_entry now (take number slots) (slot_in slots number) (drop (number + 1) slots) then spare_past now (take number slots ++ slot_in slots number ∷ []) (drop (number + 1) slots) else Some n) all
      ∙ ap (λ (l : List Slot). if holds_entry now (take number slots) (slot_in slots number) (drop (number + 1) slots) then spare_past now l (drop (number + 1) slots) else Some number) (sym (take_more slots number closed_slot there))

  -- a slot that holds an entry is passed
  pub passed : (number : ℕ) → number < length slots → holds_entry now (take number slots) (slot_in slots number) (drop (number + 1) slots) ≡ true
      → spare_in now slots ≡ spare_past now (take number slots) (drop number slots) → spare_in now slots ≡ spare_past now (take (number + 1) slots) (drop (number + 1) slots)
  passed number there held so_far = so_far ∙ stepped number there ∙ ap (λ b. if b then spare_past now (take (number + 1) slots) (drop (number + 1) slots) else Some number) held

  -- one that does not is found
  pub found : (number : ℕ) → number < length slots → holds_entry now (take number slots) (slot_in slots number) (drop (number + 1) slots) ≡ false
      → spare_in now slots ≡ spare_past now (take number slots) (drop number slots) → Some number ≡ spare_in now slots
  found number there free so_far = sym (so_far ∙ stepped number there ∙ ap (λ b. if b then spare_past now (take (number + 1) slots) (drop (number + 1) slots) else Some number) free)

  -- at the end there is none
  pub ended : (number : ℕ) → length slots ≤ number → spare_in now slots ≡ spare_past now (take number slots) (drop number slots) → ◌≡◌ {A = Option ℕ} None (spare_in now slots)
  ended number past so_far = sym (so_far ∙ ap (spare_past now (take number slots)) (drop_all number slots past))
