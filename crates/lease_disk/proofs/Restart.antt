-- What a restart of a disk in memory leaves.
use Rattle.std.proofs.Common.{◌≡◌, ℕ, ◌<◌, Bool, true, false, List, [], length, get_or, if◌then◌else◌, refl, sym, ◌∙◌, ap, subst, arith}
use Rattle.std.specs.Prelude.{Some}
use Rattle.lease_disk.specs.declared.stop.Stop.{Stop}
use Rattle.lease_disk.specs.declared.stop.Stop.TheVariants.{Unarmed, Armed, Met}
use Rattle.lease_disk.specs.Stop.{is_met}
use Rattle.lease_disk.specs.Past.{Act, content_of, IsPending, filled}
use Rattle.lease_disk.specs.PastLaws.{still_content, length-filled, filled_pending, filled_other}
use Rattle.lease_disk.specs.MemDisk.{DiskState, MayLeave, told_of, left_by, restarted}

-- the bytes that a restart leaves, by each case of the stop
pub left_cases : (stop : Stop) (base : List ℕ) (past : List Act) (left : List ℕ)
    → ((fill : ℕ) → stop ≡ Met fill → left ≡ filled base past fill) → (is_met stop ≡ false → left ≡ content_of base past) → left ≡ left_by stop base past
left_cases Unarmed base past left met unmet = unmet refl
left_cases (Armed call fill) base past left met unmet = unmet refl
left_cases (Met fill) base past left met unmet = met fill refl

left_length : (stop : Stop) (base : List ℕ) (past : List Act) → length (left_by stop base past) ≡ length (content_of base past)
left_length Unarmed base past = refl
left_length (Armed call fill) base past = refl
left_length (Met fill) base past = length-filled base past fill

left_other : (stop : Stop) (base : List ℕ) (past : List Act) (k : ℕ) → k < length (content_of base past) → ¬ IsPending base past k → get_or (left_by stop base past) k 0 ≡ get_or (content_of base past) k 0
left_other Unarmed base past k there firm = refl
left_other (Armed call fill) base past k there firm = refl
left_other (Met fill) base past k there firm = filled_other base past fill k there firm

left_unmet : (stop : Stop) (base : List ℕ) (past : List Act) → is_met stop ≡ false → left_by stop base past ≡ content_of base past
left_unmet Unarmed base past unmet = refl
left_unmet (Armed call fill) base past unmet = refl
left_unmet (Met fill) base past unmet = absurd (cc)

module _ (old new : DiskState) (is : new ≡ restarted old) where
  content_is : content_of new.base new.past ≡ left_by old.stop old.base old.past
  content_is = ap (λ (d : DiskState). content_of d.base d.past) is

  pub restart_firm : (image : List ℕ) → MayLeave new image → told_of new ≡ Some image
  restart_firm image left =
      let here = subst (λ (d : DiskState). MayLeave d image) is left in
      ap (λ (l : List ℕ). Some l) (content_is ∙ still_content (left_by old.stop old.base old.past) [] refl image here)

  pub restart_met : (fill : ℕ) → old.stop ≡ Met fill → (k : ℕ) → k < length (content_of old.base old.past) → IsPending old.base old.past k → get_or (content_of new.base new.past) k 0 ≡ fill
  restart_met fill met k there pending =
      ap (λ (l : List ℕ). get_or l k 0) (content_is ∙ ap (λ stop. left_by stop old.base old.past) met) ∙ filled_pending old.base old.past fill k there pending

  pub restart_other : (k : ℕ) → k < length (content_of old.base old.past) → ¬ IsPending old.base old.past k → get_or (content_of new.base new.past) k 0 ≡ get_or (content_of old.base old.past) k 0
  restart_other k there firm = ap (λ (l : List ℕ). get_or l k 0) content_is ∙ left_other old.stop old.base old.past k there firm

  pub restart_length : length (content_of new.base new.past) ≡ length (content_of old.base old.past)
  restart_length = ap length content_is ∙ left_length old.stop old.base old.past

  pub restart_unmet : is_met old.stop ≡ false → told_of new ≡ told_of old
  restart_unmet unmet = ap (λ (l : List ℕ). Some l) (content_is ∙ left_unmet old.stop old.base old.past unmet)
