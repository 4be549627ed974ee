-- What a write and a sync do to the images of a record.
use Rattle.std.proofs.Common.{◌≡◌, ◌⊎◌, inl, inr, ℕ, ◌+◌, ◌<◌, ◌≤◌, min, Bool, true, false, ◌&&◌, ◌||◌, nat_lt, nat_le, if◌then◌else◌, List, [], ◌∷◌, length, map, get_or, refl, sym, ◌∙◌, ap, subst, arith}
use Rattle.std.specs.List.{range_with_len}
use Rattle.std.proofs.lemmas.Bool.Decides.{nat_tests}
use Rattle.std.proofs.lemmas.List.FromFn.{length-map-range_with_len, get_or-map-range_with_len}
use Rattle.lease_disk.specs.Images.{Torn, ComesFrom}
use Rattle.lease_disk.specs.Past.{Act, Wrote, Synced, content_of, synced_of, reach_of, is_written_at, IsPending, IsImage}
use Rattle.lease_disk.specs.PastLaws.{synced_shorter, content_reached, content_is_image, still_content}

-- a write that was cut short is all that an image differs by from an earlier one
module _ (base : List ℕ) (past : List Act) (at : ℕ) (bytes : List ℕ) (done : Bool) where
  -- whether the byte lies in the range
  abbrev inside : ℕ → Bool
  inside k = nat_le at k && nat_lt k (at + length bytes)

  -- the byte that was there before the write
  abbrev before_of : List ℕ → ℕ → ℕ
  before_of image k = if inside k then get_or (synced_of base past) k 0 else get_or image k 0

  same_outside : (image : List ℕ) (k : ℕ) → inside k ≡ false → before_of image k ≡ get_or image k 0
  same_outside image k out = ap (λ b. if b then get_or (synced_of base past) k 0 else get_or image k 0) out

  is_outside : (k : ℕ) → (k < at) ⊎ (at + length bytes ≤ k) → inside k ≡ false
  is_outside k (inl front) = grind (arith, nat_tests)
  is_outside k (inr after) = grind (arith, nat_tests)

  firm_before : (image : List ℕ) → IsImage base (Wrote at bytes done ∷ past) image → (k : ℕ) → k < length image → ¬ IsPending base past k → before_of image k ≡ get_or (synced_of base past) k 0
  firm_before image is k there firm = elim (inside k) as (λ b. (inside k ≡ b) → (if b then get_or (synced_of base past) k 0 else get_or image k 0) ≡ get_or (synced_of base past) k 0) [
    | true ↦ λ inside. refl
    | false ↦ λ out. is.firm k there (λ pending. firm (old_pending k out pending))
  ] refl
    where
      old_pending : (k : ℕ) → inside k ≡ false → IsPending base (Wrote at bytes done ∷ past) k → IsPending base past k
      old_pending k out pending = sym (ap (λ b. (b || is_written_at past k) || nat_le (length (synced_of base past)) k) out) ∙ pending

  pub torn_images : ComesFrom (Torn at (length bytes)) (IsImage base past) (IsImage base (Wrote at bytes done ∷ past))
  torn_images image is =
      let size = min (length image) (reach_of base past) in
      let long = length-map-range_with_len (before_of image) 0 size in
      let reached = content_reached base past in
      let shorter = synced_shorter base past in (
        map (before_of image) (range_with_len 0 size),
        record {
          no_shorter = omega (arith, is.no_shorter);
          no_longer = omega arith;
          firm = λ k there firm. get_or-map-range_with_len (before_of image) 0 size k k 0 (omega arith) (omega arith) ∙ firm_before image is k (omega arith) firm;
        },
        record {
          no_shorter = omega arith;
          no_longer = omega (arith, is.no_longer);
          outside = λ k there out. sym (get_or-map-range_with_len (before_of image) 0 size k k 0 (omega arith) (omega arith) ∙ same_outside image k (is_outside k out));
        },
      )

-- a sync adds no image
pub synced_from : (base : List ℕ) (past : List Act) (image : List ℕ) → IsImage base (Synced ∷ past) image → IsImage base past image
synced_from base past image is = subst (IsImage base past) (still_content base (Synced ∷ past) refl image is) (content_is_image base past)
