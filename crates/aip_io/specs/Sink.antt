-- What a sink has taken, where that is told.
use Rattle.std.specs.Prelude.{◌≡◌, ℕ, List, [], ◌++◌, Option, Some, None, refl}
use Rattle.std.proofs.Common.{ap, sym, ◌∙◌, append_assoc}
use Rattle.std.proofs.lemmas.List.{append-nil}

-- what is told after more bytes were taken: nothing is told still where nothing was
abbrev pub and_then : Option (List ℕ) → List ℕ → Option (List ℕ)
and_then None bytes = None
and_then (Some taken) bytes = Some (taken ++ bytes)

-- some first part of the bytes was taken, and nothing else
pub record TookPart (before now : Option (List ℕ)) (bytes : List ℕ) : Type 0 where
  pub part : List ℕ
  pub rest : List ℕ
  pub whole : part ++ rest ≡ bytes
  pub took : now ≡ and_then before part

-- to take two pieces is to take both at once
pub and_then-and_then : (taken : Option (List ℕ)) (first second : List ℕ) → and_then (and_then taken first) second ≡ and_then taken (first ++ second)
and_then-and_then None first second = refl
and_then-and_then (Some taken) first second = ap Some (append_assoc taken first second)

-- after some bytes, a first part of the next is a first part of both
pub TookPart-after : (before mid now : Option (List ℕ)) (first second : List ℕ) → mid ≡ and_then before first → TookPart mid now second → TookPart before now (first ++ second)
TookPart-after before mid now first second took part = record {
  part = first ++ part.part;
  rest = part.rest;
  whole = append_assoc first part.part part.rest ∙ ap (λ bytes. first ++ bytes) part.whole;
  took = part.took ∙ ap (λ taken. and_then taken part.part) took ∙ and_then-and_then before first part.part;
}

-- a first part of some bytes is one of longer ones too
pub TookPart-longer : (before now : Option (List ℕ)) (bytes more : List ℕ) → TookPart before now bytes → TookPart before now (bytes ++ more)
TookPart-longer before now bytes more part = record {
  part = part.part;
  rest = part.rest ++ more;
  whole = sym (append_assoc part.part part.rest more) ∙ ap (λ all. all ++ more) part.whole;
  took = part.took;
}
