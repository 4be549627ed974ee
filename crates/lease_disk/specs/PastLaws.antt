-- What holds of every record of writes.
use Rattle.std.proofs.Common.{◌≡◌, ◌⊎◌, inl, inr, ℕ, ◌+◌, ◌-◌, ◌<◌, ◌≤◌, min, max, Bool, true, false, ◌&&◌, ◌||◌, nat_lt, nat_le, if◌then◌else◌, List, [], ◌∷◌, ◌++◌, length, get_or, take, drop, replicate, refl, sym, ◌∙◌, ap, subst, arith, length-append}
use Rattle.std.specs.Prelude.{Option, Some, None, unwrap_or}
use Rattle.std.proofs.lemmas.Bool.{cases_lt}
use Rattle.std.proofs.lemmas.Bool.Decides.{nat_tests}
use Rattle.std.proofs.lemmas.List.{length-take, length-drop, length-replicate, get_or-append_right, get_or_append_left, get_or-drop, get_or-take, ext_get_or, get_or-replicate, nil_from_length}
use Rattle.std.proofs.lemmas.List.FromFn.{length-map-range_with_len, get_or-map-range_with_len}
use Rattle.lease_disk.specs.Images.{overwritten}
use Rattle.lease_disk.specs.Past.{Act, Wrote, Synced, content_of, synced_of, reach_of, is_written_at, is_pending_at, IsPending, IsImage, WasImage, is_pending, filled}

-- since the newest entry there is what a crash may leave now
pub only_image : (base : List ℕ) (past : List Act) (image : List ℕ) → WasImage base (length past) past image → IsImage base past image
only_image base [] image left = left
only_image base (entry ∷ past) image (inl here) = here
only_image base (entry ∷ past) image (inr earlier) = absurd (omega (arith, earlier.0))

-- this moment is one of those since an earlier one
pub now_counts : (base : List ℕ) (past : List Act) (since : ℕ) (image : List ℕ) → IsImage base past image → WasImage base since past image
now_counts base [] since image here = here
now_counts base (entry ∷ past) since image here = inl here

pub length-overwritten : (old : List ℕ) (at : ℕ) (bytes : List ℕ) → length (overwritten old at bytes) ≡ max (length old) (at + length bytes)
length-overwritten old at bytes =
    omega (
      arith,
      length-take at old,
      length-replicate {A = ℕ} (at - length old) 0,
      length-drop (at + length bytes) old,
      length-append (take at old) (replicate (at - length old) 0 ++ (bytes ++ drop (at + length bytes) old)),
      length-append (replicate (at - length old) 0) (bytes ++ drop (at + length bytes) old),
      length-append bytes (drop (at + length bytes) old),
    )

-- a byte before the range stays
pub overwritten_before : (old : List ℕ) (at : ℕ) (bytes : List ℕ) (k : ℕ) → k < length old → k < at → get_or (overwritten old at bytes) k 0 ≡ get_or old k 0
overwritten_before old at bytes k there before =
    let short : k < length (take at old) = omega (arith, length-take at old) in
    get_or_append_left (take at old) _ 0 k short ∙ get_or-take at old k 0 before

-- a byte past the range stays
pub overwritten_after : (old : List ℕ) (at : ℕ) (bytes : List ℕ) (k : ℕ) → k < length old → at + length bytes ≤ k → get_or (overwritten old at bytes) k 0 ≡ get_or old k 0
overwritten_after old at bytes k there past =
    let front = length-take at old in
    let gap = length-replicate {A = ℕ} (at - length old) 0 in
    get_or-append_right (take at old) _ at k 0 (omega arith) (omega arith)
    ∙ get_or-append_right (replicate (at - length old) 0) _ 0 (k - at) 0 (omega arith) (omega arith)
    ∙ get_or-append_right bytes _ (length bytes) (k - at - 0) 0 refl (omega arith)
    ∙ get_or-drop (at + length bytes) old (k - at - 0 - length bytes) 0
    ∙ ap (λ i. get_or old i 0) (omega arith)

-- the range has the bytes that were written
pub overwritten_inside : (old : List ℕ) (at : ℕ) (bytes : List ℕ) (k : ℕ) → k < length bytes → get_or (overwritten old at bytes) (at + k) 0 ≡ get_or bytes k 0
overwritten_inside old at bytes k inside =
    let front = length-take at old in
    let gap = length-replicate {A = ℕ} (at - length old) 0 in
    let first : ℕ = length (take at old) in
    get_or-append_right (take at old) _ (length (take at old)) (at + k) 0 refl (omega arith)
    ∙ get_or-append_right (replicate (at - length old) 0) _ (at - length old) (at + k - length (take at old)) 0 gap (omega arith)
    ∙ get_or_append_left bytes _ 0 (at + k - length (take at old) - (at - length old)) (omega arith)
    ∙ ap (λ i. get_or bytes i 0) (omega arith)

-- what was synced is no longer than what is read
pub synced_shorter : (base : List ℕ) (past : List Act) → length (synced_of base past) ≤ length (content_of base past)
synced_shorter base [] = omega arith
synced_shorter base (Wrote at bytes true ∷ past) = omega (arith, synced_shorter base past, length-overwritten (content_of base past) at bytes)
synced_shorter base (Wrote at bytes false ∷ past) = synced_shorter base past
synced_shorter base (Synced ∷ past) = omega arith

-- what is read is no longer than what was reached
pub content_reached : (base : List ℕ) (past : List Act) → length (content_of base past) ≤ reach_of base past
content_reached base [] = omega arith
content_reached base (Wrote at bytes true ∷ past) = omega (arith, content_reached base past, length-overwritten (content_of base past) at bytes)
content_reached base (Wrote at bytes false ∷ past) = omega (arith, content_reached base past)
content_reached base (Synced ∷ past) = omega arith

-- a byte that is not pending after a write lies outside its range, and was not pending before
pub not_written : (base : List ℕ) (past : List Act) (at : ℕ) (bytes : List ℕ) (done : Bool) (k : ℕ) → ¬ IsPending base (Wrote at bytes done ∷ past) k
    → ((k < at) ⊎ (at + length bytes ≤ k)) × (k < length (synced_of base past)) × ¬ IsPending base past k
not_written base past at bytes done k firm = (
  elim (cases_lt k at) [
    | inl before ↦ inl before
    | inr from ↦ elim (cases_lt k (at + length bytes)) [ inl inside ↦ absurd (firm (grind (arith, nat_tests))) | inr after ↦ inr after ]
  ],
  elim (cases_lt k (length (synced_of base past))) [ inl below ↦ below | inr past_it ↦ absurd (firm (grind (arith, nat_tests))) ],
  λ pending. firm (grind (arith, nat_tests)),
)

-- bytes that no write covers read as they were synced
pub firm_content : (base : List ℕ) (past : List Act) (k : ℕ) → k < length (content_of base past) → ¬ IsPending base past k → get_or (content_of base past) k 0 ≡ get_or (synced_of base past) k 0
firm_content base [] k there firm = refl
firm_content base (Wrote at bytes true ∷ past) k there firm =
    let out = not_written base past at bytes true k firm in
    let short = synced_shorter base past in
    elim out.0 [
      | inl before ↦ overwritten_before (content_of base past) at bytes k (omega arith) before ∙ firm_content base past k (omega arith) out.2
      | inr after ↦ overwritten_after (content_of base past) at bytes k (omega arith) after ∙ firm_content base past k (omega arith) out.2
    ]
firm_content base (Wrote at bytes false ∷ past) k there firm = firm_content base past k there (not_written base past at bytes false k firm).2
firm_content base (Synced ∷ past) k there firm = refl

-- what is read is one of the images
pub content_is_image : (base : List ℕ) (past : List Act) → IsImage base past (content_of base past)
content_is_image base past = record { no_shorter = synced_shorter base past; no_longer = content_reached base past; firm = firm_content base past }

pub content_now : (base : List ℕ) (past : List Act) (image : List ℕ) → ◌≡◌ {A = Option (List ℕ)} (Some (content_of base past)) (Some image) → IsImage base past image
content_now base past image told = subst (IsImage base past) (some_inj told) (content_is_image base past)
  where
    some_inj : {a b : List ℕ} → ◌≡◌ {A = Option (List ℕ)} (Some a) (Some b) → a ≡ b
    some_inj {a} told = ap (λ o. unwrap_or o a) told

-- a disk that tells nothing tells no content
pub none_told : {image : List ℕ} → ◌≡◌ {A = Option (List ℕ)} None (Some image) → ⊥
none_told told = cc

-- what is as long as the bytes, and the same at each of them, is these bytes
still_only : (bytes image : List ℕ) → length bytes ≤ length image → length image ≤ length bytes → ((k : ℕ) → k < length image → ¬ (nat_le (length bytes) k ≡ true) → get_or image k 0 ≡ get_or bytes k 0) → bytes ≡ image
still_only bytes image no_shorter no_longer same =
    ext_get_or 0 bytes image (omega arith) (λ k there. sym (same k (omega arith) (λ test.
    let past : length bytes ≤ k = grind (arith, nat_tests) in omega arith)))

-- where no write is pending a crash leaves what is read
pub still_content : (base : List ℕ) (past : List Act) → is_pending past ≡ false → (image : List ℕ) → IsImage base past image → content_of base past ≡ image
still_content base [] none image is = still_only base image is.no_shorter is.no_longer is.firm
still_content base (Wrote at bytes done ∷ past) none image is = absurd (cc)
still_content base (Synced ∷ past) none image is = still_only (content_of base past) image is.no_shorter is.no_longer is.firm

-- and then what is read is what was synced
pub still_synced : (base : List ℕ) (past : List Act) → is_pending past ≡ false → synced_of base past ≡ content_of base past
still_synced base [] none = refl
still_synced base (Wrote at bytes done ∷ past) none = absurd (cc)
still_synced base (Synced ∷ past) none = refl

-- and no byte was written since
still_unwritten : (past : List Act) → is_pending past ≡ false → (k : ℕ) → is_written_at past k ≡ false
still_unwritten [] none k = refl
still_unwritten (Wrote at bytes done ∷ past) none k = absurd (cc)
still_unwritten (Synced ∷ past) none k = refl

-- after a stop and a restart the length is that of what was read
pub length-filled : (base : List ℕ) (past : List Act) (fill : ℕ) → length (filled base past fill) ≡ length (content_of base past)
length-filled base past fill = length-map-range_with_len (λ k. if is_pending_at base past k then fill else get_or (content_of base past) k 0) 0 (length (content_of base past))

pub filled_at : (base : List ℕ) (past : List Act) (fill k : ℕ) → k < length (content_of base past) → get_or (filled base past fill) k 0 ≡ (if is_pending_at base past k then fill else get_or (content_of base past) k 0)
filled_at base past fill k there = get_or-map-range_with_len (λ k. if is_pending_at base past k then fill else get_or (content_of base past) k 0) 0 (length (content_of base past)) k k 0 there (omega arith)

-- each byte that waited for a sync is the byte of the stop
pub filled_pending : (base : List ℕ) (past : List Act) (fill k : ℕ) → k < length (content_of base past) → IsPending base past k → get_or (filled base past fill) k 0 ≡ fill
filled_pending base past fill k there pending = filled_at base past fill k there ∙ ap (λ b. if b then fill else get_or (content_of base past) k 0) pending

-- and each other byte stays
pub filled_other : (base : List ℕ) (past : List Act) (fill k : ℕ) → k < length (content_of base past) → ¬ IsPending base past k → get_or (filled base past fill) k 0 ≡ get_or (content_of base past) k 0
filled_other base past fill k there firm = filled_at base past fill k there ∙ ap (λ b. if b then fill else get_or (content_of base past) k 0) (not_true (is_pending_at base past k) firm)
  where
    not_true : (b : Bool) → ¬ (b ≡ true) → b ≡ false
    not_true true never = absurd (never refl)
    not_true false never = refl

-- where one write alone was pending, it is the bytes before that write with the byte of the stop over its range
module _ (base : List ℕ) (past : List Act) (at : ℕ) (bytes : List ℕ) (done : Bool) (fill : ℕ) (none : is_pending past ≡ false) (fits : at + length bytes ≤ length (content_of base past)) where
  over_length : length (content_of base (Wrote at bytes done ∷ past)) ≡ length (content_of base past)
  over_length = elim done as (λ d. length (if d then overwritten (content_of base past) at bytes else content_of base past) ≡ length (content_of base past)) [
    | true ↦ omega (arith, length-overwritten (content_of base past) at bytes)
    | false ↦ refl
  ]

  over_other : (k : ℕ) → k < length (content_of base past) → (k < at) ⊎ (at + length bytes ≤ k) → get_or (content_of base (Wrote at bytes done ∷ past)) k 0 ≡ get_or (content_of base past) k 0
  over_other k there out = elim done as (λ d. get_or (if d then overwritten (content_of base past) at bytes else content_of base past) k 0 ≡ get_or (content_of base past) k 0) [
    | true ↦ elim out [
      | inl before ↦ overwritten_before (content_of base past) at bytes k there before
      | inr after ↦ overwritten_after (content_of base past) at bytes k there after
    ]
    | false ↦ refl
  ]

  outside : (k : ℕ) → k < length (content_of base past) → (k < at) ⊎ (at + length bytes ≤ k) → ¬ IsPending base (Wrote at bytes done ∷ past) k
  outside k there out pending =
      let unwritten = still_unwritten past none k in
      let synced = ap length (still_synced base past none) in
      elim out [ inl before ↦ absurd (grind (arith, nat_tests)) | inr after ↦ absurd (grind (arith, nat_tests)) ]

  pub filled_last : filled base (Wrote at bytes done ∷ past) fill ≡ overwritten (content_of base past) at (replicate (length bytes) fill)
  filled_last =
      let content = content_of base past in
      let size = length-replicate {A = ℕ} (length bytes) fill in
      let long = length-overwritten content at (replicate (length bytes) fill) in
      let same = length-filled base (Wrote at bytes done ∷ past) fill ∙ over_length in
      ext_get_or 0 _ _ (omega arith) (λ k below.
      let there : k < length content = omega arith in
      elim (cases_lt k at) [
        | inl before ↦
            filled_other base (Wrote at bytes done ∷ past) fill k (omega (arith, over_length)) (outside k there (inl before))
            ∙ over_other k there (inl before)
            ∙ sym (overwritten_before content at (replicate (length bytes) fill) k there before)
        | inr from ↦ elim (cases_lt k (at + length bytes)) [
          | inl inside ↦
              let place : at + (k - at) ≡ k = omega arith in
              filled_pending base (Wrote at bytes done ∷ past) fill k (omega (arith, over_length)) (grind (arith, nat_tests))
              ∙ sym (get_or-replicate (length bytes) (k - at) fill 0 (omega arith))
              ∙ sym (overwritten_inside content at (replicate (length bytes) fill) (k - at) (omega arith))
              ∙ ap (λ n. get_or (overwritten content at (replicate (length bytes) fill)) n 0) place
          | inr after ↦
              filled_other base (Wrote at bytes done ∷ past) fill k (omega (arith, over_length)) (outside k there (inr after))
              ∙ over_other k there (inr after)
              ∙ sym (overwritten_after content at (replicate (length bytes) fill) k there (omega arith))
        ]
      ])
