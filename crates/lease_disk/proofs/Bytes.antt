-- Writes over a list of bytes.
use Rattle.std.proofs.Common.{◌≡◌, inl, inr, ℕ, zero, suc, Bool, true, false, if◌then◌else◌, ◌+◌, ◌-◌, ◌≤◌, List, [], ◌∷◌, ◌++◌, length, take, drop, replicate, sym, ◌∙◌, ap, arith, append_assoc, length-append}
use Rattle.std.proofs.lemmas.List.{take-replicate, length-replicate, append-nil, drop-append-le, drop_all}
use Rattle.std.proofs.lemmas.Bool.{cases_lt}
use Rattle.lease_disk.specs.Images.{overwritten}
use Rattle.lease_disk.specs.PastLaws.{length-overwritten}

-- the front of a list that is filled up
take_padded : (at : ℕ) (old : List ℕ) (more : ℕ) → at ≤ length old + more → take at (old ++ replicate more 0) ≡ take at old ++ replicate (at - length old) 0
take_padded zero old more fits = let none : 0 ≡ 0 - length old = omega arith in ap (λ n. replicate n 0) none
take_padded (suc at) [] more fits =
    let all : suc at ≡ suc at - 0 = omega arith in
    take-replicate (suc at) more 0 (omega arith) ∙ ap (λ n. replicate n 0) all
take_padded (suc at) (byte ∷ old) more fits =
    let same : at - length old ≡ suc at - suc (length old) = omega arith in
    ap (λ (l : List ℕ). byte ∷ l) (take_padded at old more (omega arith) ∙ ap (λ n. take at old ++ replicate n 0) same)

-- what is past the end of a list that is filled up to it
drop_padded : (end : ℕ) (old : List ℕ) → drop end (old ++ replicate (end - length old) 0) ≡ drop end old
drop_padded end old = elim (cases_lt end (length old)) [
  | inl inside ↦
      let none : end - length old ≡ 0 = omega arith in
      drop-append-le end old (replicate (end - length old) 0) (omega arith) ∙ ap (λ n. drop end old ++ replicate n 0) none ∙ append-nil (drop end old)
  | inr past ↦ drop_all end (old ++ replicate (end - length old) 0) (omega (arith, length-append old (replicate (end - length old) 0), length-replicate {A = ℕ} (end - length old) 0)) ∙ sym (drop_all end old past)
]

-- to fill up and then write over is to write past the end
pub padded-overwritten : (old : List ℕ) (at : ℕ) (bytes : List ℕ) (padded : List ℕ) → padded ≡ old ++ replicate (at + length bytes - length old) 0 → take at padded ++ (bytes ++ drop (at + length bytes) padded) ≡ overwritten old at bytes
padded-overwritten old at bytes padded is =
    let front : take at padded ≡ take at old ++ replicate (at - length old) 0 = ap (take at) is ∙ take_padded at old (at + length bytes - length old) (omega arith) in
    let back : drop (at + length bytes) padded ≡ drop (at + length bytes) old = ap (drop (at + length bytes)) is ∙ drop_padded (at + length bytes) old in
    ap (λ (l : List ℕ). l ++ (bytes ++ drop (at + length bytes) padded)) front
    ∙ ap (λ (l : List ℕ). (take at old ++ replicate (at - length old) 0) ++ (bytes ++ l)) back
    ∙ append_assoc (take at old) (replicate (at - length old) 0) (bytes ++ drop (at + length bytes) old)

-- a write within the room keeps within it
pub over_within : (done : Bool) (old : List ℕ) (at : ℕ) (bytes new : List ℕ) (room : ℕ) → new ≡ (if done then overwritten old at bytes else old) → length old ≤ room → at + length bytes ≤ room → length new ≤ room
over_within true old at bytes new room is short fits = omega (arith, ap length is, length-overwritten old at bytes)
over_within false old at bytes new room is short fits = omega (arith, ap length is)
