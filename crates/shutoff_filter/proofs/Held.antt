-- What the writes of a filter do at each moment, over every disk.
use Rattle.std.proofs.Common.{◌≡◌, inl, inr, ℕ, ◌+◌, ◌^◌, ◌<◌, ◌≤◌, true, false, List, length, set, take, drop, refl, sym, ◌∙◌, ap, subst}
use Rattle.std.specs.Prelude.{Option, Some, None, option_map, IfSome, Result, Ok, Err, IfOk, OnOk}
use Rattle.std.specs.Option.{ForSome}
use Rattle.std.proofs.lemmas.List.{get_or-set_same}
use Rattle.aip_addr.specs.declared.ids.KeyId.{KeyId}
use Rattle.lease_disk.specs.Images.{AtEachMoment}
use Rattle.lease_disk.specs.declared.disk.Disk.{Ghosts}
use Rattle.lease_disk.specs.Kept.{AfterWrite, WhileGated}
use Rattle.lease_disk.specs.Moments.{at_start, weakened}
use Rattle.shutoff_filter.specs.Entries.{SameInForce, entries_of, is_withheld}
use Rattle.shutoff_filter.specs.FilterFile.{IsFilterOf, slot_in, slot_start}
use Rattle.shutoff_filter.specs.ImageLaws.{body_kept, closing_torn, entries_same, gate_kept}
use Rattle.shutoff_filter.specs.Keeping.{IsImageOf, SameOrAdded, entries_in, entry_bytes, kept_disk, kept_slots}
use Rattle.shutoff_filter.specs.Slots.{closed_slot}
use Rattle.shutoff_filter.specs.Spare.{holds_entry}
use Rattle.shutoff_filter.specs.declared.entries.ShutOffEntry.{ShutOffEntry}
use Rattle.shutoff_filter.specs.Store.{slots_of}
use Rattle.shutoff_filter.specs.declared.keeping.KeepEnd.{KeepEnd}
use Rattle.shutoff_filter.specs.declared.slots.Slot.{Slot}
use Rattle.shutoff_filter.specs.declared.store.FilterStore.{FilterStore}
use Rattle.shutoff_filter.proofs.Fresh.{some_same, none_some}

-- what holds of the number that is told holds of the option
pub if_some : (o : Option ℕ) (number : ℕ) (P : ℕ → Type 0) → o ≡ Some number → P number → IfSome o P
if_some o number P is holds = subst (λ (x : Option ℕ). IfSome x P) (sym is) holds

pub of_some : (o : Option ℕ) (number : ℕ) (P : ℕ → Type 0) → o ≡ Some number → IfSome o P → P number
of_some o number P is holds = let told : IfSome (Some number) P = subst (λ (x : Option ℕ). IfSome x P) is holds in told

-- what is told after a write
pub told_after : (old new : Option (List ℕ)) (change : List ℕ → List ℕ) (P Q : List ℕ → Type 0) → new ≡ option_map change old → ForSome old P → ((file : List ℕ) → P file → Q (change file)) → ForSome new Q
told_after None new change P Q is holds follows = λ file told. absurd (none_some (sym is ∙ told))
told_after (Some before) new change P Q is holds follows = λ file told. subst Q (some_same (change before) file (sym is ∙ told)) (follows before (holds before refl))

-- a slot that was closed is closed
pub shut_there : (slots : List Slot) (number : ℕ) (slot : Slot) → number < length slots → slot.is_open ≡ false → (slot_in (set slots number slot) number).is_open ≡ false
shut_there slots number slot there shut = ap (λ (s : Slot). s.is_open) (get_or-set_same slots number slot closed_slot there) ∙ shut

module _ {D : Type 0} (content : D → Option (List ℕ)) (may_leave : D → List ℕ → Type 0) (clock : D → ℕ) (during : D → ℕ → List ℕ → Type 0)
    (only_now : (disk : D) (image : List ℕ) → during disk (clock disk) image → may_leave disk image)
    (content_is_image : (disk : D) (image : List ℕ) → content disk ≡ Some image → may_leave disk image)
    (room now : ℕ) (slots : List Slot) (old : D) (whole : length slots ≡ room + 1)
    (firm : (image : List ℕ) → may_leave old image → content old ≡ Some image) (same : ForSome (content old) (IsFilterOf room slots)) where
  -- each image is that of the slots
  abbrev its : (image : List ℕ) → may_leave old image → IsFilterOf room slots image
  its image left = same image (firm image left)

  -- before a write
  pub still_moments : AtEachMoment clock during old old (IsImageOf room (may_leave old) (SameInForce now (entries_of slots)))
  still_moments = at_start may_leave clock during old (IsImageOf room (may_leave old) (SameInForce now (entries_of slots))) (only_now old) (λ image left. record {
    before = image;
    was = left;
    filter = (its image left).filter;
    size = refl;
    such = subst (SameInForce now (entries_of slots)) (sym (entries_same room slots image whole (its image left))) (λ to time later. refl);
  })

  -- while a slot is closed
  pub shut_moments : (new : D) (number : ℕ) → number ≤ room → (slot_in slots number).is_open ≡ true → holds_entry now (take number slots) (slot_in slots number) (drop (number + 1) slots) ≡ false
      → AtEachMoment clock during old new (AfterWrite (may_leave old) (slot_start number) 1) → AtEachMoment clock during old new (IsImageOf room (may_leave old) (SameInForce now (entries_of slots)))
  shut_moments new number within opened free moments =
      weakened may_leave clock during old new (AfterWrite (may_leave old) (slot_start number) 1) (IsImageOf room (may_leave old) (SameInForce now (entries_of slots))) moments (λ image after.
      let is = closing_torn room now number slots after.0 image whole within (its after.0 after.1) opened free after.2 in
      record { before = after.0; was = after.1; filter = is.0; size = is.1; such = is.2 })

  -- while an entry is written
  module _ (number : ℕ) (to : KeyId) (until : ℕ) (within : number ≤ room) (nineteen : length to.bytes ≡ 19) (fits : until < 2 ^ 64) (shut : (slot_in slots number).is_open ≡ false) where
    abbrev entry : ShutOffEntry
    entry = record { to = to; until = until }

    pub keep_moments : (new : D) (body : List ℕ) → body ≡ entry_bytes to until → AtEachMoment clock during old new (WhileGated (may_leave old) (content old) (slot_start number) body)
        → AtEachMoment clock during old new (IsImageOf room (may_leave old) (SameOrAdded now entry (entries_of slots)))
    keep_moments new body written moments =
        weakened may_leave clock during old new (WhileGated (may_leave old) (content old) (slot_start number) (entry_bytes to until)) (IsImageOf room (may_leave old) (SameOrAdded now entry (entries_of slots)))
        (subst (λ (l : List ℕ). AtEachMoment clock during old new (WhileGated (may_leave old) (content old) (slot_start number) l)) written moments) (λ image while. elim while [
          | inl after ↦
              let is = body_kept room now number to until slots after.0 whole within nineteen fits (its after.0 after.1) shut image after.2 in
              record { before = after.0; was = after.1; filter = is.0; size = is.1; such = inl is.2 }
          | inr whole_body ↦
              let left = content_is_image old whole_body.0 whole_body.1 in
              let is = gate_kept room now number to until slots whole_body.0 whole within nineteen fits (its whole_body.0 left) shut image whole_body.2 in
              record { before = whole_body.0; was = left; filter = is.0; size = is.1; such = is.2 }
        ])

module _ {D : Type 0} {G : Ghosts D} where
  -- what a store has in memory stands in each image that a crash may leave
  pub kept_images : (result : Result (FilterStore D G) (KeepEnd D)) (room now : ℕ) (entries : List ShutOffEntry)
      → IfOk result (λ store. SameInForce now entries (entries_of (slots_of store))) → (kept_slots result).room ≡ room
      → OnOk result ((image : List ℕ) → G.may_leave (kept_disk result) image → SameInForce now entries (entries_in room image))
  kept_images (Ok store) room now entries same is = λ image left.
      let file : IsFilterOf store.slots.room store.slots.slots.items image = store.same image (store.firm image left) in
      let here : entries_in store.slots.room image ≡ entries_of store.slots.slots.items = entries_same store.slots.room store.slots.slots.items image store.slots.whole file in
      λ to time later. same to time later ∙ ap (is_withheld time to) (sym here) ∙ ap (λ room. is_withheld time to (entries_in room image)) is
  kept_images (Err end) room now entries same is = same
