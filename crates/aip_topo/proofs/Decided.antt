-- A text is decided by its first 1,048,577 bytes: the line that the last of them is of, or ends, is refused.
use Rattle.std.proofs.Common.{◌≡◌, ℕ, suc, ◌+◌, ◌<◌, ◌≤◌, ◌==◌, ◌&&◌, ◌||◌, Bool, true, false, not, min, nat_lt, List, [], ◌∷◌, ◌++◌, length, take, drop, Result, Ok, Err, refl, sym, ap, subst, ◌∙◌, arith, lit≤, length-append, append_assoc}
use Rattle.std.specs.List.{onto_first}
use Rattle.std.proofs.lemmas.Bool.{and_parts, cond-false, cond-true, eqb-true, lt-ltb, ltb-false, ltb-true, not-true}
use Rattle.std.proofs.lemmas.List.{length-take-le, take-append-drop, take_all}
use Rattle.aip_text.specs.Lines.{lines_of}
use Rattle.aip_text.specs.Words.{lacks}
use Rattle.aip_text.proofs.Lacking.{lacks-append}
use Rattle.aip_topo.specs.Reading.{RefusedLine, empty_draft, finished, is_long, refused, then_with, topology_of, with_lines, with_text}
use Rattle.aip_topo.specs.declared.faults.TopoFault.TheVariants as fault
use Rattle.aip_topo.specs.declared.steps.Draft.{Draft}
use Rattle.aip_topo.specs.declared.topology.Topology.{Topology}
use Rattle.aip_topo.proofs.Running.{lines_again}

-- lines of which the first has at least so many bytes
record FirstLong (n : ℕ) (lines : List (List ℕ)) : Type 0 where
  line : List ℕ
  others : List (List ℕ)
  same : lines ≡ line ∷ others
  long : n ≤ length line

begun : (b : ℕ) (lines : List (List ℕ)) → FirstLong 1 (onto_first b lines)
begun b [] = record { line = b ∷ []; others = []; same = refl; long = lit≤ tt }
begun b (l ∷ ls) = record { line = b ∷ l; others = ls; same = refl; long = omega arith }

longer : (b n : ℕ) (lines : List (List ℕ)) → FirstLong n lines → FirstLong (suc n) (onto_first b lines)
longer b n lines k = record { line = b ∷ k.line; others = k.others; same = ap (onto_first b) k.same; long = omega (arith, k.long) }

-- bytes without a line feed are of one line
first_long : (w rest : List ℕ) → lacks 10 w ≡ true → 0 < length w → FirstLong (length w) (lines_of (w ++ rest))
first_long [] rest h some = absurd (omega (arith, some))
first_long (b ∷ []) rest h some =
    let parts = and_parts (not (b == 10)) true h in
    let step : lines_of (b ∷ rest) ≡ onto_first b (lines_of rest) = cond-false (b == 10) _ _ (not-true (b == 10) parts.0) in
    subst (FirstLong 1) (sym step) (begun b (lines_of rest))
first_long (b ∷ (c ∷ cs)) rest h some =
    let parts = and_parts (not (b == 10)) (lacks 10 (c ∷ cs)) h in
    let step : lines_of (b ∷ ((c ∷ cs) ++ rest)) ≡ onto_first b (lines_of ((c ∷ cs) ++ rest)) = cond-false (b == 10) _ _ (not-true (b == 10) parts.0) in
    let more = first_long (c ∷ cs) rest parts.1 (omega arith) in
    subst (FirstLong (length (b ∷ (c ∷ cs)))) (sym step) (longer b (length (c ∷ cs)) (lines_of ((c ∷ cs) ++ rest)) more)

or_last : (a b : Bool) → b ≡ true → (a || b) ≡ true
or_last true b h = refl
or_last false b h = h

-- a line that ends too far is refused
too_far : (total number start : ℕ) (draft : Draft) (line : List ℕ) (others : List (List ℕ)) → 1048576 < min (start + length line + 1) total
    → with_lines total number start draft (line ∷ others) ≡ refused number fault.Long
too_far total number start draft line others far =
    let ending = min (start + length line + 1) total in
    let long = or_last (nat_lt 20000 (length line)) (nat_lt 1048576 ending) (lt-ltb 1048576 ending far) in
    ap (λ r. then_with r (λ next. with_lines total (number + 1) (start + length line + 1) next others)) (cond-true (is_long ending line) _ _ long)

-- the same lines of bytes that lack a line feed, when they end too far
stopped : (total number start : ℕ) (draft : Draft) (w rest : List ℕ) → lacks 10 w ≡ true → 0 < length w → start + length w ≡ 1048577 → 1048577 ≤ total
    → with_lines total number start draft (lines_of (w ++ rest)) ≡ refused number fault.Long
stopped total number start draft w rest h some far enough =
    let k = first_long w rest h some in
    ap (with_lines total number start draft) k.same ∙ too_far total number start draft k.line k.others (omega (arith, k.long, far, enough))

then_same : (r : Result Draft RefusedLine) (f g : Draft → Result Draft RefusedLine) → ((next : Draft) → f next ≡ g next) → then_with r f ≡ then_with r g
then_same (Ok draft) f g each = each draft
then_same (Err e) f g each = refl

-- what follows the first 1,048,577 bytes changes nothing
abbrev Decides : ℕ → List ℕ → Type 0
Decides total q =
    (number start : ℕ) (draft : Draft) (w rest : List ℕ) → lacks 10 w ≡ true → 0 < length w + length q → start + length w + length q ≡ 1048577
    → with_lines total number start draft (lines_of (w ++ (q ++ rest))) ≡ with_lines 1048577 number start draft (lines_of (w ++ q))

-- a line that ends among them is the same
line_decides : (total : ℕ) (bs : List ℕ) → 1048577 ≤ total → Decides total bs → (number start : ℕ) (draft : Draft) (w rest : List ℕ) → lacks 10 w ≡ true
    → start + length w + suc (length bs) ≡ 1048577
    → with_lines total number start draft (lines_of (w ++ 10 ∷ (bs ++ rest))) ≡ with_lines 1048577 number start draft (lines_of (w ++ 10 ∷ bs))
line_decides total [] enough more number start draft w rest h size =
    ap (with_lines total number start draft) (lines_again w rest h) ∙ too_far total number start draft w (lines_of rest) (omega (arith, size, enough))
    ∙ sym (ap (with_lines 1048577 number start draft) (lines_again w [] h) ∙ too_far 1048577 number start draft w [] (omega (arith, size)))
line_decides total (b ∷ bs) enough more number start draft w rest h size =
    let ends : min (start + length w + 1) total ≡ min (start + length w + 1) 1048577 = omega (arith, size, enough) in
    let on : ℕ → List ℕ → Draft → Result Draft RefusedLine = λ t q next. with_lines t (number + 1) (start + length w + 1) next (lines_of q) in
    let sized : start + length w + 1 + 0 + suc (length bs) ≡ 1048577 = omega (arith, size) in
    ap (with_lines total number start draft) (lines_again w ((b ∷ bs) ++ rest) h)
    ∙ ap (λ ending. then_with (with_text number ending draft w) (on total ((b ∷ bs) ++ rest))) ends
    ∙ then_same (with_text number (min (start + length w + 1) 1048577) draft w) (on total ((b ∷ bs) ++ rest)) (on 1048577 (b ∷ bs)) (λ next. more (number + 1) (start + length w + 1) next [] rest refl (omega arith) sized)
    ∙ sym (ap (with_lines 1048577 number start draft) (lines_again w (b ∷ bs) h))

-- one more byte among them, a line feed or not
byte_decides : (total b : ℕ) (bs : List ℕ) → 1048577 ≤ total → Decides total bs → (t : Bool) → (b == 10) ≡ t → Decides total (b ∷ bs)
byte_decides total b bs enough more true e number start draft w rest h some size =
    let same : List ℕ → List ℕ → Type 0 = λ long short. with_lines total number start draft (lines_of long) ≡ with_lines 1048577 number start draft (lines_of short) in
    let feed = line_decides total bs enough more number start draft w rest h size in
    subst (λ x. same (w ++ x ∷ (bs ++ rest)) (w ++ x ∷ bs)) (sym (eqb-true b 10 e)) feed
byte_decides total b bs enough more false e number start draft w rest h some size =
    let same : List ℕ → List ℕ → Type 0 = λ long short. with_lines total number start draft (lines_of long) ≡ with_lines 1048577 number start draft (lines_of short) in
    let longer_size = length-append w (b ∷ []) in
    let plain = lacks-append 10 w (b ∷ []) h (ap (λ t. not t && true) e) in
    let on = more number start draft (w ++ b ∷ []) rest plain (omega (arith, longer_size)) (omega (arith, longer_size, size)) in
    subst (λ x. same (w ++ b ∷ (bs ++ rest)) x) (append_assoc w (b ∷ []) bs)
    (subst (λ x. same x ((w ++ b ∷ []) ++ bs)) (append_assoc w (b ∷ []) (bs ++ rest)) on)

decides : (total : ℕ) → 1048577 ≤ total → (q : List ℕ) → Decides total q
decides total enough [] number start draft w rest h some size =
    stopped total number start draft w rest h (omega (arith, some)) (omega (arith, size)) enough
    ∙ sym (stopped 1048577 number start draft w [] h (omega (arith, some)) (omega (arith, size)) (lit≤ tt))
decides total enough (b ∷ bs) number start draft w rest h some size = byte_decides total b bs enough (decides total enough bs) (b == 10) refl number start draft w rest h some size

-- a text with more bytes gives what its first bytes give
longer_decided : (whole : List ℕ) → 1048577 ≤ length whole → topology_of whole ≡ topology_of (take 1048577 whole)
longer_decided whole enough =
    let text = take 1048577 whole in
    let size : length text ≡ 1048577 = length-take-le 1048577 whole enough in
    let read : ℕ → List ℕ → Result Topology RefusedLine = λ total t. finished (with_lines total 1 0 empty_draft (lines_of t)) in
    ap (read (length whole)) (sym (take-append-drop 1048577 whole)) ∙ ap finished (decides (length whole) enough text 1 0 empty_draft [] (drop 1048577 whole) refl (omega (arith, size)) (omega (arith, size)))
    ∙ ap (λ n. read n text) (sym size)

-- a text that has the first 1,048,577 bytes of another, or all where it has fewer, gives what the other gives
pub decided : (text whole : List ℕ) → text ≡ take 1048577 whole → topology_of whole ≡ topology_of text
decided text whole h = by (nat_lt (length whole) 1048577) refl
  where
    by : (t : Bool) → nat_lt (length whole) 1048577 ≡ t → topology_of whole ≡ topology_of text
    by true e =
        let below = ltb-true (length whole) 1048577 e in
        ap topology_of (sym (h ∙ take_all 1048577 whole (omega (arith, below))))
    by false e = longer_decided whole (ltb-false (length whole) 1048577 e) ∙ ap topology_of (sym h)
