-- What the writes of a format do to a file.
use Rattle.std.proofs.Common.{◌≡◌, ◌≢◌, inl, inr, ℕ, suc, ◌+◌, ◌-◌, ◌<◌, ◌≤◌, max, List, [], ◌∷◌, ◌++◌, length, take, drop, replicate, get_or, refl, sym, ◌∙◌, ap, arith, length-append}
use Rattle.std.specs.Prelude.{Option, Some, None, option_map, unwrap_or}
use Rattle.std.proofs.lemmas.List.{ext_get_or, length-drop, get_or-drop, drop-drop, take_at}
use Rattle.lease_disk.specs.Images.{overwritten, Torn}
use Rattle.lease_disk.specs.Kept.{gated, WhileGated}
use Rattle.lease_disk.specs.PastLaws.{length-overwritten}
use Rattle.leaf_lease.specs.LeaseFile.{IsOpen, open_gate}
use Rattle.leaf_lease.specs.Format.{WhileFilled}

-- a write of the first byte
pub first-overwritten : (file : List ℕ) (byte : ℕ) → overwritten file 0 (byte ∷ []) ≡ byte ∷ drop 1 file
first-overwritten file byte =
    let none : 0 - length file ≡ 0 = omega arith in
    ap (λ n. replicate n 0 ++ (byte ∷ drop 1 file)) none

-- a write past the first byte
pub rest-overwritten : (file rest : List ℕ) → drop 1 (overwritten file 1 rest) ≡ rest ++ drop (1 + length rest) file
rest-overwritten [] rest = refl
rest-overwritten (byte ∷ file) rest =
    let none : 1 - suc (length file) ≡ 0 = omega arith in
    ap (λ n. replicate n 0 ++ (rest ++ drop (1 + length rest) (byte ∷ file))) none

-- both, one after the other
pub fresh-overwritten : (file rest : List ℕ) (gate : ℕ) → overwritten (overwritten file 1 rest) 0 (gate ∷ []) ≡ gate ∷ (rest ++ drop (1 + length rest) file)
fresh-overwritten file rest gate = first-overwritten (overwritten file 1 rest) gate ∙ ap (λ (l : List ℕ). gate ∷ l) (rest-overwritten file rest)

-- what stands past a first byte that was written stays
pub drop-first : (file : List ℕ) (byte n : ℕ) → drop (1 + n) (overwritten file 0 (byte ∷ [])) ≡ drop (1 + n) file
drop-first file byte n =
    let one : 1 + n ≡ suc n = omega arith in
    ap (λ k. drop k (overwritten file 0 (byte ∷ []))) one
    ∙ ap (drop (suc n)) (first-overwritten file byte)
    ∙ drop-drop n 1 file

-- the same of what a disk tells
pub fill_told : (old new : Option (List ℕ)) (rest : List ℕ) (gate : ℕ) → new ≡ option_map (gated 0 gate rest) old → new ≡ option_map (λ file. gate ∷ (rest ++ drop (1 + length rest) file)) old
fill_told None new rest gate is = is
fill_told (Some file) new rest gate is = is ∙ ap (λ (l : List ℕ). Some l) (fresh-overwritten file rest gate)

-- a torn write of the first byte changes no other
torn_rest : (before image : List ℕ) → Torn 0 1 before image → 0 < length before → drop 1 image ≡ drop 1 before
torn_rest before image torn some =
    let size = length-drop 1 image in
    let size' = length-drop 1 before in
    ext_get_or 0 (drop 1 image) (drop 1 before) (omega (arith, torn.no_shorter, torn.no_longer)) (λ k there.
    get_or-drop 1 image k 0
    ∙ torn.outside (1 + k) (omega (arith, torn.no_shorter, torn.no_longer)) (inr (omega arith))
    ∙ sym (get_or-drop 1 before k 0))

-- an image of a gated write at the first byte is one while the file is filled
pub filled_of : (images : List ℕ → Type 0) (content : Option (List ℕ)) (rest image : List ℕ) → WhileGated images content 0 rest image → WhileFilled images content rest image
filled_of images content rest image (inl after) = inl after
filled_of images content rest image (inr whole) =
    let size = length-overwritten whole.0 1 rest in
    inr (whole.0, whole.1, omega (arith, whole.2.no_shorter), torn_rest (overwritten whole.0 1 rest) image whole.2 (omega arith) ∙ rest-overwritten whole.0 rest)

-- a file whose rest is fresh, and whose gate is open, is fresh
pub fresh_open : (image rest tail : List ℕ) → 0 < length image → drop 1 image ≡ rest ++ tail → IsOpen image → take (1 + length rest) image ≡ open_gate ∷ rest
fresh_open [] rest tail some is opened = absurd (omega arith)
fresh_open (gate ∷ image) rest tail some is opened =
    let one : 1 + length rest ≡ suc (length rest) = omega arith in
    ap (λ k. take k (gate ∷ image)) one
    ∙ ap (λ (l : List ℕ). gate ∷ l) (ap (take (length rest)) is ∙ take_at rest tail (length rest) refl)
    ∙ ap (λ g. g ∷ rest) opened.gate

-- a torn write of the first byte of a short file opens nothing
pub short_shut : (file image : List ℕ) → length file < 18 → Torn 0 1 file image → ¬ IsOpen image
short_shut file image short torn opened = omega (arith, torn.no_longer, opened.there)

-- a write past a closed gate opens nothing
pub closed_stays : (file image : List ℕ) (count : ℕ) → 0 < length file → get_or file 0 0 ≢ open_gate → Torn 1 count file image → ¬ IsOpen image
closed_stays file image count some closed torn opened = closed (sym (torn.outside 0 some (inl (omega arith))) ∙ opened.gate)

-- the lengths of a file that is filled
pub filled_length : (images : List ℕ → Type 0) (content : Option (List ℕ)) (rest : List ℕ) (longest : ℕ) → ((image : List ℕ) → images image → length image ≤ longest) → ((file : List ℕ) → content ≡ Some file → images file) → (image : List ℕ) → WhileFilled images content rest image → length image ≤ max longest (1 + length rest)
filled_length images content rest longest all told image (inl after) = omega (arith, after.2.no_longer, all after.0 after.1)
filled_length images content rest longest all told image (inr filled) =
    omega (
      arith,
      length-drop 1 image,
      ap length filled.3,
      length-append rest (drop (1 + length rest) filled.0),
      length-drop (1 + length rest) filled.0,
      all filled.0 (told filled.0 filled.1),
    )
