-- Texts that are put or read in pieces.
use Rattle.std.proofs.Common.{◌≡◌, ℕ, ◌+◌, ◌-◌, ◌≤◌, List, ◌++◌, length, take, drop, Option, ap, sym, ◌∙◌, arith}
use Rattle.std.proofs.lemmas.Grind.{common_steps}
use Rattle.std.proofs.Math.Seq.{take-add}
use Rattle.std.proofs.lemmas.List.{take-append-drop, length-take}
use Rattle.aip_io.specs.Shelf.{IsRead}
use Rattle.aip_io.specs.Sink.{and_then, and_then-and_then, TookPart}

-- a piece more was taken
pub took_more : (before mid now : Option (List ℕ)) (at n : ℕ) (bytes : List ℕ) → mid ≡ and_then before (take at bytes) → now ≡ and_then mid (take n (drop at bytes)) → now ≡ and_then before (take (at + n) bytes)
took_more before mid now at n bytes so_far more =
    more ∙ ap (λ o. and_then o (take n (drop at bytes))) so_far ∙ and_then-and_then before (take at bytes) (take n (drop at bytes)) ∙ ap (and_then before) (sym (take-add at n bytes))

-- what was taken before a failure is a first part
pub took_part : (before mid now : Option (List ℕ)) (at : ℕ) (bytes : List ℕ) → mid ≡ and_then before (take at bytes) → now ≡ mid → TookPart before now bytes
took_part before mid now at bytes so_far nothing =
    record { part = take at bytes; rest = drop at bytes; whole = take-append-drop at bytes; took = nothing ∙ so_far }

-- the bytes that a read gave go on with the text
pub read_more : (told piece old new : List ℕ) (len at came count : ℕ) → IsRead told at came piece → at ≡ len → came ≤ length piece → old ≡ take len told → new ≡ old ++ take came piece → count ≡ len + length (take came piece) → new ≡ take count told
read_more told piece old new len at came count read at_end within so_far more counted =
    let there : take came piece ≡ take came (drop len told) = read.bytes ∙ ap (λ n. take came (drop n told)) at_end in
    let count_is : count ≡ len + came = omega (arith, length-take came piece) in
    more ∙ ap (λ p. old ++ p) there ∙ ap (λ o. o ++ take came (drop len told)) so_far ∙ sym (take-add len came told) ∙ ap (λ n. take n told) (sym count_is)

-- a slice from an offset on
pub rest_of : (at : ℕ) (bytes : List ℕ) → take (length bytes - at) (drop at bytes) ≡ drop at bytes
rest_of at bytes = grind (arith, common_steps)
