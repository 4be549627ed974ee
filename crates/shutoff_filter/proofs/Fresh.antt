-- What the writes of a format do to a file.
use Rattle.std.proofs.Common.{◌≡◌, ◌⊎◌, inl, inr, ℕ, Bool, true, false, suc, ◌+◌, ◌-◌, ◌*◌, ◌≤◌, max, List, [], ◌∷◌, ◌++◌, length, take, drop, replicate, refl, sym, ◌∙◌, ap, arith}
use Rattle.std.specs.Prelude.{Option, Some, None, option_map, unwrap_or, Result, Ok, Err, OnOk}
use Rattle.std.proofs.lemmas.List.{drop-drop, length-replicate, take_at}
use Rattle.std.proofs.lemmas.Bool.Decides.{nat_tests}
use Rattle.lease_disk.specs.Images.{overwritten, AtEachMoment}
use Rattle.lease_disk.specs.Kept.{AfterWrite, WhileGated, gated}
use Rattle.lease_disk.specs.Moments.{joined, weakened}
use Rattle.lease_disk.specs.PastLaws.{length-overwritten}
use Rattle.shutoff_filter.specs.FilterFile.{IsOpen, file_size, is_open, open_gate}
use Rattle.shutoff_filter.specs.Format.{formatted, fresh_file, fresh_rest}

pub some_same : (a b : List ℕ) → ◌≡◌ {A = Option (List ℕ)} (Some a) (Some b) → a ≡ b
some_same a b is = ap (λ o. unwrap_or o a) is

pub none_some : {file : List ℕ} → ◌≡◌ {A = Option (List ℕ)} None (Some file) → ⊥
none_some e = cc

-- what follows on Ok
pub on_ok_then : {T E : Type 0} (result : Result T E) (P Q : Type 0) → OnOk result P → (P → Q) → OnOk result Q
on_ok_then (Ok value) P Q holds follows = follows holds
on_ok_then (Err error) P Q holds follows = holds

bool_cases : (b : Bool) → (b ≡ true) ⊎ (b ≡ false)
bool_cases true = inl refl
bool_cases false = inr refl

-- the test of an open gate
pub open_is : (file : List ℕ) → IsOpen file → is_open file ≡ true
open_is file opened =
    let there = opened.there in
    let gate = opened.gate in
    grind (arith, nat_tests)

pub closed_is : (file : List ℕ) → ¬ IsOpen file → is_open file ≡ false
closed_is file closed = elim (bool_cases (is_open file)) [
  | inl opened ↦ absurd (closed (record { there = grind (arith, nat_tests); gate = grind (arith, nat_tests) }))
  | inr is ↦ is
]

-- how much stands past the gate
pub length-fresh_rest : (room : ℕ) → 1 + length (fresh_rest room) ≡ file_size room
length-fresh_rest room =
    let zeros = length-replicate {A = ℕ} (28 * (room + 1)) 0 in
    omega arith

-- a write of the first byte
first-overwritten : (file : List ℕ) (byte : ℕ) → overwritten file 0 (byte ∷ []) ≡ byte ∷ drop 1 file
first-overwritten file byte =
    let none : 0 - length file ≡ 0 = omega arith in
    ap (λ n. replicate n 0 ++ (byte ∷ drop 1 file)) none

-- a write past the first byte
rest-overwritten : (file rest : List ℕ) → drop 1 (overwritten file 1 rest) ≡ rest ++ drop (1 + length rest) file
rest-overwritten [] rest = refl
rest-overwritten (byte ∷ file) rest =
    let none : 1 - suc (length file) ≡ 0 = omega arith in
    ap (λ n. replicate n 0 ++ (rest ++ drop (1 + length rest) (byte ∷ file))) none

-- what stands past a first byte that was written stays
drop-first : (file : List ℕ) (byte n : ℕ) → drop (1 + n) (overwritten file 0 (byte ∷ [])) ≡ drop (1 + n) file
drop-first file byte n =
    let one : 1 + n ≡ suc n = omega arith in
    ap (λ k. drop k (overwritten file 0 (byte ∷ []))) one
    ∙ ap (drop (suc n)) (first-overwritten file byte)
    ∙ drop-drop n 1 file

-- the file after a whole format
whole : (file : List ℕ) (room : ℕ) → gated 0 open_gate (fresh_rest room) (overwritten file 0 (0 ∷ [])) ≡ formatted room file
whole file room =
    let mid = overwritten file 0 (0 ∷ []) in
    let rest = fresh_rest room in
    first-overwritten (overwritten mid 1 rest) open_gate
    ∙ ap (λ (l : List ℕ). open_gate ∷ l) (rest-overwritten mid rest)
    ∙ ap (λ (l : List ℕ). open_gate ∷ (rest ++ l)) (drop-first file 0 (length rest))
    ∙ ap (λ n. open_gate ∷ (rest ++ drop n file)) (length-fresh_rest room)

-- what is told after a whole format
pub fresh_told : (old mid new : Option (List ℕ)) (room : ℕ) (rest : List ℕ) → rest ≡ fresh_rest room → mid ≡ option_map (λ file. overwritten file 0 (0 ∷ [])) old → new ≡ option_map (gated 0 open_gate rest) mid → new ≡ option_map (formatted room) old
fresh_told None mid new room rest is first second = second ∙ ap (option_map (gated 0 open_gate rest)) first
fresh_told (Some file) mid new room rest is first second =
    second
    ∙ ap (option_map (gated 0 open_gate rest)) first
    ∙ ap (λ (l : List ℕ). Some (gated 0 open_gate l (overwritten file 0 (0 ∷ [])))) is
    ∙ ap (λ (l : List ℕ). Some l) (whole file room)

-- a file that was formatted begins with an empty filter
pub formatted_front : (old new : Option (List ℕ)) (room : ℕ) (image : List ℕ) → new ≡ option_map (formatted room) old → new ≡ Some image → take (file_size room) image ≡ fresh_file room
formatted_front None new room image is told = absurd (none_some (sym is ∙ told))
formatted_front (Some file) new room image is told =
    let size = length-fresh_rest room in
    let long : suc (length (fresh_rest room)) ≡ file_size room = omega (arith, size) in
    ap (take (file_size room)) (sym (some_same (formatted room file) image (sym is ∙ told))) ∙ take_at (fresh_file room) (drop (file_size room) file) (file_size room) long

module _ {D : Type 0} (now : D → Option (List ℕ)) (may_leave : D → List ℕ → Type 0) (clock : D → ℕ) (during : D → ℕ → List ℕ → Type 0)
    (counts_now : (disk : D) (t : ℕ) (image : List ℕ) → t ≤ clock disk → may_leave disk image → during disk t image)
    (content_is_image : (disk : D) (image : List ℕ) → now disk ≡ Some image → may_leave disk image) where
  -- the lengths once the gate is closed
  pub shut_lengths : (old mid : D) (longest size : ℕ) → 1 ≤ size → ((image : List ℕ) → may_leave old image → length image ≤ longest)
      → AtEachMoment clock during old mid (AfterWrite (may_leave old) 0 1) → AtEachMoment clock during old mid (λ image. length image ≤ max longest size)
  shut_lengths old mid longest size some all first =
      weakened may_leave clock during old mid (AfterWrite (may_leave old) 0 1) (λ image. length image ≤ max longest size) first (λ image after. omega (arith, after.2.no_longer, all after.0 after.1))

  -- and while the rest is written
  pub fresh_lengths : (old mid new : D) (rest : List ℕ) (longest size : ℕ) → 1 + length rest ≡ size → ((image : List ℕ) → may_leave old image → length image ≤ longest)
      → AtEachMoment clock during old mid (AfterWrite (may_leave old) 0 1) → AtEachMoment clock during mid new (WhileGated (may_leave mid) (now mid) 0 rest)
      → AtEachMoment clock during old new (λ image. length image ≤ max longest size)
  fresh_lengths old mid new rest longest size is all first second =
      let short = shut_lengths old mid longest size (omega (arith, is)) all first in
      let left : (image : List ℕ) → may_leave mid image → length image ≤ max longest size = λ image may. short.each image (counts_now mid (clock old) image first.later may) in
      joined may_leave clock during old mid new (λ image. length image ≤ max longest size) short
      (weakened may_leave clock during mid new (WhileGated (may_leave mid) (now mid) 0 rest) (λ image. length image ≤ max longest size) second (λ image while. elim while [
        | inl after ↦ omega (arith, is, after.2.no_longer, left after.0 after.1)
        | inr written ↦ omega (arith, is, written.2.no_longer, length-overwritten written.0 1 rest, left written.0 (content_is_image mid written.0 written.1))
      ]))
