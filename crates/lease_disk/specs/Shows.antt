-- What a buffer shows of a file.
use Rattle.std.proofs.Common.{◌≡◌, inl, inr, ℕ, ◌+◌, ◌-◌, ◌<◌, ◌≤◌, min, List, ◌++◌, length, take, drop, replicate, get_or, ◌∙◌, ap, arith, length-append}
use Rattle.std.specs.Prelude.{slice_index}
use Rattle.std.proofs.lemmas.Bool.{cases_lt}
use Rattle.std.proofs.lemmas.List.{length-take, length-drop, length-replicate, get_or-take, get_or-drop, get_or_append_left, get_or-append_right, get_or-replicate, get_or_past, take-replicate}

-- so many bytes of the file were read into a buffer of zeros, up to the end of either
pub record Shows (file bytes : List ℕ) (count : ℕ) : Type 0 where
  pub read : count ≡ min (length bytes) (length file)
  pub same : (k : ℕ) → k < count → slice_index bytes k ≡ slice_index file k
  pub rest : (k : ℕ) → count ≤ k → slice_index bytes k ≡ 0

-- the front of a buffer of zeros
pub zeros_of : (whole : ℕ) (old : List ℕ) (n size : ℕ) → old ≡ take n (replicate {A = ℕ} whole 0) → n ≡ size → size ≤ whole → old ≡ replicate size 0
zeros_of whole old n size is same fits = is ∙ take-replicate n whole 0 (omega arith) ∙ ap (λ k. replicate k 0) same

-- what was read into the front of a buffer of zeros
pub shows_of : (whole : ℕ) (file old new : List ℕ) (count size : ℕ) → old ≡ take size (replicate {A = ℕ} whole 0) → count ≡ min (length old) (length file) → new ≡ take count file ++ drop count old → Shows file new count
shows_of whole file old new count size zeros read is =
    let front = length-take count file in
    let rest = length-drop count old in
    let all = ap length is ∙ length-append (take count file) (drop count old) in
    record {
      read = omega (arith, all);
      same = λ k below. ap (λ (l : List ℕ). get_or l k 0) is ∙ get_or_append_left (take count file) (drop count old) 0 k (omega arith) ∙ get_or-take count file k 0 below;
      rest = λ k from. ap (λ (l : List ℕ). get_or l k 0) is ∙ get_or-append_right (take count file) (drop count old) count k 0 (omega arith) from ∙ get_or-drop count old (k - count) 0 ∙ ap (λ (l : List ℕ). get_or l (count + (k - count)) 0) zeros ∙ zero_at size (count + (k - count));
    }
  where
    zero_at : (size k : ℕ) → get_or (take size (replicate {A = ℕ} whole 0)) k 0 ≡ 0
    zero_at size k = elim (cases_lt k (length (take size (replicate {A = ℕ} whole 0)))) [
      | inl below ↦
          let cut = length-take size (replicate {A = ℕ} whole 0) in
          let long = length-replicate {A = ℕ} whole 0 in
          get_or-take size (replicate whole 0) k 0 (omega arith) ∙ get_or-replicate whole k 0 0 (omega arith)
      | inr past ↦ get_or_past (take size (replicate whole 0)) k 0 past
    ]
