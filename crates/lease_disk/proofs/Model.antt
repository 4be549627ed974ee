-- What each call of a disk in memory does to its images and to its faults.
use Rattle.std.proofs.Common.{◌≡◌, ◌⊎◌, inl, inr, ℕ, ◌+◌, ◌-◌, ◌^◌, ◌≤◌, Bool, true, false, not, ◌&&◌, List, ◌∷◌, length, if◌then◌else◌, is_ok, is_err, Result, Ok, Err, OnOk, Some, refl, sym, ◌∙◌, ap, subst, arith}
use Rattle.std.specs.Prelude.{IsErr}
use Rattle.std.proofs.lemmas.Bool.Decides.{nat_tests}
use Rattle.lease_disk.specs.declared.disk.Failed.{Failed}
use Rattle.lease_disk.specs.Call.{Call, Len, Write, Sync}
use Rattle.fault_counts.specs.Causes.{HasCause, counted}
use Rattle.lease_disk.specs.Images.{overwritten, Torn, ComesFrom}
use Rattle.lease_disk.specs.PastLaws.{length-overwritten, overwritten_before, overwritten_after}
use Rattle.lease_disk.specs.Past.{Act, Wrote, Synced, content_of, is_pending, IsImage}
use Rattle.lease_disk.specs.MemDisk.{DiskState, refuses_changes, is_entered, fails, past_after, Leads, told_of, MayLeave}
use Rattle.lease_disk.specs.PastLaws.{still_content}
use Rattle.lease_disk.proofs.Changes.{torn_images, synced_from}

rises_from : (n : ℕ) → n ≤ counted n
rises_from n = grind (arith, nat_tests)

served_fails : (failing : Bool) → true ≡ not failing → failing ≡ false
served_fails true is = is
served_fails false is = refl

refused_fails : (failing : Bool) → false ≡ not failing → failing ≡ true
refused_fails true is = refl
refused_fails false is = is

-- a call fails only where it counts a fault
pub cause_of : {T : Type 0} (old new : DiskState) (call : Call) (result : Result T Failed) → Leads old call (is_ok result) new → HasCause (IsErr result) old.faults new.faults
cause_of old new call (Ok value) leads =
    let served = served_fails (fails old call) leads.answer in
    let same : new.faults ≡ old.faults = ap (λ (d : DiskState). d.faults) leads.disk ∙ ap (λ b. if b then counted old.faults else old.faults) served in
    record { never_falls = omega (arith, same); rose = λ err. absurd (cc err); stays = λ none. same }
cause_of old new call (Err error) leads =
    let refused = refused_fails (fails old call) leads.answer in
    let rose : new.faults ≡ counted old.faults = ap (λ (d : DiskState). d.faults) leads.disk ∙ ap (λ b. if b then counted old.faults else old.faults) refused in
    record {
      never_falls = omega (arith, rose, rises_from old.faults);
      rose = λ err. omega (arith, rose);
      stays = λ none. absurd (none refl);
    }

-- a write makes its entry or none
write_past : (old : DiskState) (at : ℕ) (bytes : List ℕ) → (past_after old (Write at bytes) ≡ old.past) ⊎ (past_after old (Write at bytes) ≡ Wrote at bytes (not (refuses_changes old)) ∷ old.past)
write_past old at bytes = elim (is_entered old at bytes) as (λ b. ((if b then Wrote at bytes (not (refuses_changes old)) ∷ old.past else old.past) ≡ old.past) ⊎ ((if b then Wrote at bytes (not (refuses_changes old)) ∷ old.past else old.past) ≡ Wrote at bytes (not (refuses_changes old)) ∷ old.past)) [
  | true ↦ inr refl
  | false ↦ inl refl
]

-- an image of the new disk, by the old base
at_old : (old new : DiskState) (past : List Act) → new.base ≡ old.base → new.past ≡ past → (image : List ℕ) → MayLeave new image → IsImage old.base past image
at_old old new past base is image left = subst (λ b. IsImage b past image) base (subst (λ p. IsImage new.base p image) is left)

-- what a crash leaves after a write
pub write_crash : (old new : DiskState) (at : ℕ) (bytes : List ℕ) (served : Bool) → Leads old (Write at bytes) served new → ComesFrom (Torn at (length bytes)) (MayLeave old) (MayLeave new)
write_crash old new at bytes served leads =
    let is : new.past ≡ past_after old (Write at bytes) = ap (λ (d : DiskState). d.past) leads.disk in
    let same_base : new.base ≡ old.base = ap (λ (d : DiskState). d.base) leads.disk in
    elim (write_past old at bytes) [
      | inl same ↦ λ image left. (image, at_old old new old.past same_base (is ∙ same) image left, record { no_shorter = omega arith; no_longer = omega arith; outside = λ k there out. refl })
      | inr entered ↦ λ image left. torn_images old.base old.past at bytes (not (refuses_changes old)) image (at_old old new (Wrote at bytes (not (refuses_changes old)) ∷ old.past) same_base (is ∙ entered) image left)
    ]

-- what a sync of the record gives
module _ (old new : DiskState) (served : Bool) (leads : Leads old Sync served new) where
  past_is : new.past ≡ past_after old Sync
  past_is = ap (λ (d : DiskState). d.past) leads.disk

  base_is : new.base ≡ old.base
  base_is = ap (λ (d : DiskState). d.base) leads.disk

  sync_past : (new.past ≡ old.past) ⊎ (new.past ≡ Synced ∷ old.past)
  sync_past = elim (is_pending old.past && not (fails old Sync)) as (λ b. (new.past ≡ (if b then Synced ∷ old.past else old.past)) → (new.past ≡ old.past) ⊎ (new.past ≡ Synced ∷ old.past)) [
    | true ↦ λ is. inr is
    | false ↦ λ is. inl is
  ] past_is

  -- a sync adds no image
  pub sync_crash : (image : List ℕ) → MayLeave new image → MayLeave old image
  sync_crash image left = elim sync_past [
    | inl same ↦ at_old old new old.past base_is same image left
    | inr synced ↦ synced_from old.base old.past image (at_old old new (Synced ∷ old.past) base_is synced image left)
  ]

  -- once it was served, a crash leaves what is read
  firm_past : served ≡ true → (is_pending old.past ≡ false) ⊎ (new.past ≡ Synced ∷ old.past)
  firm_past ok =
      let works : not (fails old Sync) ≡ true = sym leads.answer ∙ ok in
      elim (is_pending old.past) as (λ b. (new.past ≡ (if b && not (fails old Sync) then Synced ∷ old.past else old.past)) → (b ≡ false) ⊎ (new.past ≡ Synced ∷ old.past)) [
        | true ↦ λ is. inr (is ∙ ap (λ b. if b then Synced ∷ old.past else old.past) works)
        | false ↦ λ is. inl refl
      ] past_is

  content_is : content_of new.base new.past ≡ content_of old.base old.past
  content_is = ap (λ b. content_of b new.past) base_is ∙ elim sync_past [ inl same ↦ ap (content_of old.base) same | inr synced ↦ ap (content_of old.base) synced ]

  pub sync_firm : served ≡ true → (image : List ℕ) → MayLeave new image → told_of new ≡ Some image
  sync_firm ok image left = elim (firm_past ok) [
    | inl none ↦ ap (λ (l : List ℕ). Some l) (content_is ∙ still_content old.base old.past none image (sync_crash image left))
    | inr synced ↦ ap (λ (l : List ℕ). Some l) (content_is ∙ still_content old.base (Synced ∷ old.past) refl image (at_old old new (Synced ∷ old.past) base_is synced image left))
  ]

  pub sync_content : told_of new ≡ told_of old
  sync_content = ap (λ (l : List ℕ). Some l) content_is

  -- a sync that failed made nothing firm
  pub sync_failed : served ≡ false → new.past ≡ old.past
  sync_failed err =
      let fails_not : not (fails old Sync) ≡ false = sym leads.answer ∙ err in
      past_is ∙ ap (λ b. if b then Synced ∷ old.past else old.past) (and_false (is_pending old.past) (not (fails old Sync)) fails_not)
    where
      and_false : (a b : Bool) → b ≡ false → a && b ≡ false
      and_false true b is = is
      and_false false b is = refl

-- a call that could not look failed
pub looked : {T : Type 0} (old new : DiskState) (result : Result (Unit {0}) Failed) (error : Failed) (answer : Result T Failed) → Leads old Len (is_ok result) new → result ≡ Err error → is_err answer ≡ true → HasCause (IsErr answer) old.faults new.faults
looked old new result error answer leads was is =
    let refused : is_ok result ≡ is_ok answer = ap is_ok was ∙ sym (not_ok answer is) in
    cause_of old new Len answer (record { answer = sym refused ∙ leads.answer; disk = leads.disk })
  where
    not_ok : {T : Type 0} (answer : Result T Failed) → is_err answer ≡ true → is_ok answer ≡ false
    not_ok (Ok value) is = absurd (cc)
    not_ok (Err error) is = refl

-- what holds where a call was served
pub on_ok : {T : Type 0} (result : Result T Failed) (P : Type 0) → (is_ok result ≡ true → P) → OnOk result P
on_ok (Ok value) P holds = holds refl
on_ok (Err error) P holds = tt

same_torn : (at count : ℕ) (bytes : List ℕ) → Torn at count bytes bytes
same_torn at count bytes = record { no_shorter = omega arith; no_longer = omega arith; outside = λ k there out. refl }

over_torn : (done : Bool) (old : List ℕ) (at : ℕ) (bytes : List ℕ) → Torn at (length bytes) old (if done then overwritten old at bytes else old)
over_torn true old at bytes =
    let size = length-overwritten old at bytes in
    record {
      no_shorter = omega arith;
      no_longer = omega arith;
      outside = λ k there out. elim out [
        | inl before ↦ overwritten_before old at bytes k there before
        | inr after ↦ overwritten_after old at bytes k there after
      ];
    }
over_torn false old at bytes = same_torn at (length bytes) old

-- what a write leaves to be read
pub write_torn : (old new : DiskState) (at : ℕ) (bytes : List ℕ) (served : Bool) → Leads old (Write at bytes) served new → Torn at (length bytes) (content_of old.base old.past) (content_of new.base new.past)
write_torn old new at bytes served leads =
    let is : new.past ≡ past_after old (Write at bytes) = ap (λ (d : DiskState). d.past) leads.disk in
    let same_base : new.base ≡ old.base = ap (λ (d : DiskState). d.base) leads.disk in
    let content = content_of old.base old.past in
    subst (λ b. Torn at (length bytes) content (content_of b new.past)) (sym same_base) (elim (write_past old at bytes) [
      | inl same ↦ subst (λ p. Torn at (length bytes) content (content_of old.base p)) (sym (is ∙ same)) (same_torn at (length bytes) content)
      | inr entered ↦ subst (λ p. Torn at (length bytes) content (content_of old.base p)) (sym (is ∙ entered)) (over_torn (not (refuses_changes old)) content at bytes)
    ])
