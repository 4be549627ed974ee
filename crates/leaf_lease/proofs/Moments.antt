-- What a format does at each moment, over every disk.
use Rattle.std.proofs.Common.{◌≡◌, ◌≢◌, ◌⊎◌, inl, inr, ℕ, suc, ◌+◌, ◌<◌, ◌≤◌, max, Bool, true, false, List, [], ◌∷◌, ◌++◌, length, take, drop, replicate, get_or, refl, sym, ◌∙◌, ap, subst, arith}
use Rattle.std.specs.Prelude.{Option, Some, None, option_map, unwrap_or, IsSome, if◌then◌else◌, Result, Ok, Err, OnOk}
use Rattle.std.proofs.lemmas.Bool.{cases_lt}
use Rattle.std.proofs.lemmas.Bool.Decides.{nat_tests}
use Rattle.std.proofs.lemmas.List.{take-replicate, take_at}
use Rattle.lease_disk.specs.Images.{overwritten, AtEachMoment}
use Rattle.lease_disk.specs.Kept.{AfterWrite}
use Rattle.lease_disk.specs.Moments.{at_start, joined, weakened}
use Rattle.leaf_lease.specs.LeaseFile.{IsOpen, file_size, open_gate, fresh_rest, fresh_file, is_open, needs_shut}
use Rattle.leaf_lease.specs.Format.{formatted, WhileFilled, IsClosedBy, IsFresh}
use Rattle.leaf_lease.proofs.Fresh.{first-overwritten, drop-first, filled_length, short_shut, closed_stays, fresh_open}

-- what follows on Ok
pub on_ok_then : {T E : Type 0} (result : Result T E) (P Q : Type 0) → OnOk result P → (P → Q) → OnOk result Q
on_ok_then (Ok value) P Q holds follows = follows holds
on_ok_then (Err error) P Q holds follows = holds

-- a disk that tells its content tells some bytes
pub told_bytes : (content : Option (List ℕ)) → IsSome content → (file : List ℕ) × (content ≡ Some file)
told_bytes (Some file) told = (file, refl)
told_bytes None told = absurd (false_true told)
  where
    false_true : false ≡ true → ⊥
    false_true e = cc

pub some_same : (a b : List ℕ) → ◌≡◌ {A = Option (List ℕ)} (Some a) (Some b) → a ≡ b
some_same a b is = ap (λ o. unwrap_or o a) is

bool_cases : (b : Bool) → (b ≡ true) ⊎ (b ≡ false)
bool_cases true = inl refl
bool_cases false = inr refl

pub open_is : (file : List ℕ) → IsOpen file → is_open file ≡ true
open_is file opened =
    let there = opened.there in
    let gate = opened.gate in
    grind (arith, nat_tests)

pub closed_is : (file : List ℕ) → ¬ IsOpen file → is_open file ≡ false
closed_is file closed = elim (bool_cases (is_open file)) [
  | inl opened ↦ absurd (closed (record { there = grind (arith, nat_tests); gate = grind (arith, nat_tests) }))
  | inr is ↦ is
]

pub closed_by : (file : List ℕ) (shut : Bool) → ¬ IsOpen file → shut ≡ needs_shut file → IsClosedBy shut file
closed_by file shut closed is = record {
  short = λ yes. elim (cases_lt (length file) 18) [
    | inl short ↦ short
    | inr long ↦
        let needs : needs_shut file ≡ true = sym is ∙ yes in
        let gate : get_or file 0 0 ≡ 165 = grind (arith, nat_tests) in
        absurd (closed (record { there = long; gate = gate }))
  ];
  closed = λ no.
      let needs : needs_shut file ≡ false = sym is ∙ no in
      (grind (arith, nat_tests), grind (arith, nat_tests));
}

-- what is told after a whole format
pub fresh_told : (old mid new : Option (List ℕ)) (shut : Bool) (id : List ℕ) (height : ℕ) (rest : List ℕ) → rest ≡ fresh_rest id height → 1 + length rest ≡ file_size height
    → mid ≡ (if shut then option_map (λ file. overwritten file 0 (0 ∷ [])) old else old)
    → new ≡ option_map (λ file. open_gate ∷ (rest ++ drop (1 + length rest) file)) mid
    → new ≡ option_map (formatted id height) old
fresh_told None mid new true id height rest is size first second = second ∙ ap (option_map (λ file. open_gate ∷ (rest ++ drop (1 + length rest) file))) first
fresh_told None mid new false id height rest is size first second = second ∙ ap (option_map (λ file. open_gate ∷ (rest ++ drop (1 + length rest) file))) first
fresh_told (Some file) mid new true id height rest is size first second =
    second
    ∙ ap (option_map (λ file. open_gate ∷ (rest ++ drop (1 + length rest) file))) first
    ∙ ap (λ (l : List ℕ). Some (open_gate ∷ (rest ++ l))) (drop-first file 0 (length rest))
    ∙ ap (λ n. Some (open_gate ∷ (rest ++ drop n file))) size
    ∙ ap (λ (l : List ℕ). Some (open_gate ∷ (l ++ drop (file_size height) file))) is
fresh_told (Some file) mid new false id height rest is size first second =
    second
    ∙ ap (option_map (λ file. open_gate ∷ (rest ++ drop (1 + length rest) file))) first
    ∙ ap (λ n. Some (open_gate ∷ (rest ++ drop n file))) size
    ∙ ap (λ (l : List ℕ). Some (open_gate ∷ (l ++ drop (file_size height) file))) is

module _ {D : Type 0} (now : D → Option (List ℕ)) (may_leave : D → List ℕ → Type 0) (clock : D → ℕ) (during : D → ℕ → List ℕ → Type 0)
    (counts_now : (disk : D) (t : ℕ) (image : List ℕ) → t ≤ clock disk → may_leave disk image → during disk t image)
    (only_now : (disk : D) (image : List ℕ) → during disk (clock disk) image → may_leave disk image)
    (content_is_image : (disk : D) (image : List ℕ) → now disk ≡ Some image → may_leave disk image) where
  -- an image of the disk is one of the moments that led to it
  now_is : (old mid : D) (property : List ℕ → Type 0) → AtEachMoment clock during old mid property → (image : List ℕ) → may_leave mid image → property image
  now_is old mid property moments image left = moments.each image (counts_now mid (clock old) image moments.later left)

  -- each image comes from one at the start
  pub fill_from : (old mid new : D) (rest : List ℕ) → AtEachMoment clock during old mid (AfterWrite (may_leave old) 0 1) → AtEachMoment clock during mid new (WhileFilled (may_leave mid) (now mid) rest) → AtEachMoment clock during old new (λ image. (before : List ℕ) × may_leave old before)
  fill_from old mid new rest first second =
      let came : (image : List ℕ) → may_leave mid image → (before : List ℕ) × may_leave old before = λ image left. let after = now_is old mid (AfterWrite (may_leave old) 0 1) first image left in (after.0, after.1) in
      joined may_leave clock during old mid new (λ image. (before : List ℕ) × may_leave old before)
      (weakened may_leave clock during old mid (AfterWrite (may_leave old) 0 1) (λ image. (before : List ℕ) × may_leave old before) first (λ image after. (after.0, after.1)))
      (weakened may_leave clock during mid new (WhileFilled (may_leave mid) (now mid) rest) (λ image. (before : List ℕ) × may_leave old before) second (λ image filled. elim filled [
        | inl after ↦ came after.0 after.1
        | inr whole ↦ came whole.0 (content_is_image mid whole.0 whole.1)
      ]))

  -- the lengths at each moment
  pub fill_lengths : (old mid new : D) (rest : List ℕ) (longest size : ℕ) → 1 + length rest ≡ size → ((image : List ℕ) → may_leave old image → length image ≤ longest) → AtEachMoment clock during old mid (AfterWrite (may_leave old) 0 1) → AtEachMoment clock during mid new (WhileFilled (may_leave mid) (now mid) rest) → AtEachMoment clock during old new (λ image. length image ≤ max longest size)
  fill_lengths old mid new rest longest size is all first second =
      let short : (image : List ℕ) → AfterWrite (may_leave old) 0 1 image → length image ≤ max longest size = λ image after. omega (arith, after.2.no_longer, all after.0 after.1) in
      joined may_leave clock during old mid new (λ image. length image ≤ max longest size)
      (weakened may_leave clock during old mid (AfterWrite (may_leave old) 0 1) (λ image. length image ≤ max longest size) first short)
      (weakened may_leave clock during mid new (WhileFilled (may_leave mid) (now mid) rest) (λ image. length image ≤ max longest size) second (λ image filled.
      omega (arith, filled_length (may_leave mid) (now mid) rest (max longest size) (λ image left. short image (now_is old mid (AfterWrite (may_leave old) 0 1) first image left)) (content_is_image mid) image filled)))

  -- once the gate is closed
  closed_mid : (old mid : D) (shut : Bool) (file : List ℕ) → now old ≡ Some file → ((image : List ℕ) → may_leave old image → now old ≡ Some image) → IsClosedBy shut file
      → now mid ≡ (if shut then option_map (λ file. overwritten file 0 (0 ∷ [])) (now old) else now old)
      → (shut ≡ true → (image : List ℕ) → may_leave mid image → now mid ≡ Some image) → (shut ≡ false → mid ≡ old)
      → (closed : List ℕ) × ((image : List ℕ) → may_leave mid image → closed ≡ image) × (0 < length closed) × (get_or closed 0 0 ≢ open_gate)
  closed_mid old mid true file told firm by content firm_mid same =
      let is : now mid ≡ Some (0 ∷ drop 1 file) = content ∙ ap (option_map (λ file. overwritten file 0 (0 ∷ []))) told ∙ ap (λ (l : List ℕ). Some l) (first-overwritten file 0) in (
        0 ∷ drop 1 file,
        λ image left. some_same (0 ∷ drop 1 file) image (sym is ∙ firm_mid refl image left),
        omega arith,
        λ gate. zero_gate gate,
      )
    where
      zero_gate : ◌≡◌ {A = ℕ} 0 165 → ⊥
      zero_gate e = omega arith
  closed_mid old mid false file told firm by content firm_mid same =
      let closed = by.closed refl in (
        file,
        λ image left. some_same file image (sym told ∙ firm image (subst (λ d. may_leave d image) (same refl) left)),
        closed.0,
        closed.1,
      )

  -- while the gate is closed
  shut_moments : (old mid : D) (shut : Bool) (file : List ℕ) (id : List ℕ) (height : ℕ) → now old ≡ Some file → ((image : List ℕ) → may_leave old image → now old ≡ Some image) → IsClosedBy shut file
      → AtEachMoment clock during old mid (AfterWrite (may_leave old) 0 1) → (shut ≡ false → mid ≡ old) → AtEachMoment clock during old mid (IsFresh id height)
  shut_moments old mid true file id height told firm by moments same =
      weakened may_leave clock during old mid (AfterWrite (may_leave old) 0 1) (IsFresh id height) moments (λ image after opened.
      absurd (short_shut after.0 image (subst (λ (l : List ℕ). length l < 18) (some_same file after.0 (sym told ∙ firm after.0 after.1)) (by.short refl)) after.2 opened))
  shut_moments old mid false file id height told firm by moments same =
      subst (λ d. AtEachMoment clock during old d (IsFresh id height)) (sym (same refl)) (at_start may_leave clock during old (IsFresh id height) (only_now old) (λ image left opened.
      absurd ((by.closed refl).1 (ap (λ (l : List ℕ). get_or l 0 0) (some_same file image (sym told ∙ firm image left)) ∙ opened.gate))))

  -- each image whose gate is open is fresh
  pub fill_fresh : (old mid new : D) (shut : Bool) (file : List ℕ) (id : List ℕ) (height : ℕ) (rest : List ℕ) → rest ≡ fresh_rest id height → 1 + length rest ≡ file_size height
      → now old ≡ Some file → ((image : List ℕ) → may_leave old image → now old ≡ Some image) → IsClosedBy shut file
      → now mid ≡ (if shut then option_map (λ file. overwritten file 0 (0 ∷ [])) (now old) else now old)
      → (shut ≡ true → (image : List ℕ) → may_leave mid image → now mid ≡ Some image) → (shut ≡ false → mid ≡ old)
      → AtEachMoment clock during old mid (AfterWrite (may_leave old) 0 1) → AtEachMoment clock during mid new (WhileFilled (may_leave mid) (now mid) rest)
      → AtEachMoment clock during old new (IsFresh id height)
  fill_fresh old mid new shut file id height rest is size told firm by content firm_mid same first second =
      let closed = closed_mid old mid shut file told firm by content firm_mid same in
      joined may_leave clock during old mid new (IsFresh id height)
      (shut_moments old mid shut file id height told firm by first same)
      (weakened may_leave clock during mid new (WhileFilled (may_leave mid) (now mid) rest) (IsFresh id height) second (λ image filled opened. elim filled [
        | inl after ↦
            let before = closed.1 after.0 after.1 in
            absurd (closed_stays after.0 image (length rest) (subst (λ (l : List ℕ). 0 < length l) before closed.2) (λ gate. closed.3 (ap (λ (l : List ℕ). get_or l 0 0) before ∙ gate)) after.2 opened)
        | inr whole ↦
            ap (λ n. take n image) (sym size)
            ∙ fresh_open image rest (drop (1 + length rest) whole.0) whole.2 whole.3 opened
            ∙ ap (λ (l : List ℕ). open_gate ∷ l) is
      ]))

  -- and where no write of the gate was served, none was opened
  pub fill_refused : (old mid : D) (shut : Bool) (file : List ℕ) (id : List ℕ) (height : ℕ) → now old ≡ Some file → ((image : List ℕ) → may_leave old image → now old ≡ Some image) → IsClosedBy shut file
      → AtEachMoment clock during old mid (AfterWrite (may_leave old) 0 1) → (shut ≡ false → mid ≡ old) → AtEachMoment clock during old mid (IsFresh id height)
  fill_refused = shut_moments

-- a file that was formatted begins with a fresh one
pub formatted_front : (content new : Option (List ℕ)) (id : List ℕ) (height : ℕ) (image : List ℕ) → 1 + length (fresh_rest id height) ≡ file_size height → new ≡ option_map (formatted id height) content → new ≡ Some image → take (file_size height) image ≡ fresh_file id height
formatted_front None new id height image size is told = absurd (none_some (sym is ∙ told))
  where
    none_some : {file : List ℕ} → ◌≡◌ {A = Option (List ℕ)} None (Some file) → ⊥
    none_some e = cc
formatted_front (Some file) new id height image size is told =
    let same = some_same (formatted id height file) image (sym is ∙ told) in
    let long : suc (length (fresh_rest id height)) ≡ file_size height = omega (arith, size) in
    ap (take (file_size height)) (sym same) ∙ take_at (fresh_file id height) (drop (file_size height) file) (file_size height) long
