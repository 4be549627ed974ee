-- Lines that are taken, one after another.
use Rattle.std.proofs.Common.{◌≡◌, ℕ, ◌+◌, ◌*◌, ◌≤◌, ◌==◌, true, false, not, min, nat_lt, List, [], ◌∷◌, ◌++◌, length, Result, Ok, refl, sym, ap, subst, ◌∙◌, arith, lit≤, length-append, append_assoc}
use Rattle.std.specs.List.{list_all, onto_first}
use Rattle.std.proofs.lemmas.Bool.{and_parts, cond-false, le-ltb, not-true, or_from}
use Rattle.aip_text.specs.Lines.{lines_of, is_skipped, has_carriage_return}
use Rattle.aip_text.specs.Words.{lacks}
use Rattle.aip_text.proofs.Lacking.{lacks_by}
use Rattle.aip_topo.specs.Canonical.{lines_text}
use Rattle.aip_topo.specs.Lines.{IsLine, line_text}
use Rattle.aip_topo.specs.Reading.{RefusedLine, at_line, is_long, then_with, with_lines, with_read, with_text}
use Rattle.aip_topo.specs.Steps.{draft_with, addition_of}
use Rattle.aip_topo.specs.declared.lines.Line.{Line}
use Rattle.aip_topo.specs.declared.steps.Draft.{Draft}
use Rattle.aip_topo.specs.declared.additions.Addition.{Addition}
use Rattle.aip_topo.proofs.Accepted.{IsAccepted, accepted_gives}
use Rattle.aip_topo.proofs.LineLaws.{line_again}
use Rattle.aip_topo.proofs.Shown.{is_printed, line_seen, line_shown}

-- the line is well formed, no fault applies to it, and it adds this
pub record Taken (draft : Draft) (l : Line) (e : Addition) : Type 0 where
  pub fits : IsLine l
  pub met : IsAccepted draft l
  pub makes : addition_of draft.topology l ≡ e

no_return_byte : (b : ℕ) → is_printed b ≡ true → (b == 13) ≡ false
no_return_byte b h = grind arith

no_return : (text : List ℕ) → list_all is_printed text ≡ true → has_carriage_return text ≡ false
no_return [] h = refl
no_return (b ∷ bs) h =
    let parts = and_parts (is_printed b) (list_all is_printed bs) h in
    or_from (b == 13) (has_carriage_return bs) (no_return_byte b parts.0) (no_return bs parts.1)

-- such a line is taken at any place that isn't too far
taken_text : (number ending : ℕ) (draft : Draft) (l : Line) (e : Addition) (k : Taken draft l e) → ending ≤ 1048576 → with_text number ending draft (line_text l) ≡ Ok (draft_with draft e)
taken_text number ending draft l e k near =
    let text = line_text l in
    let shown = line_shown l k.fits in
    let long = or_from (nat_lt 20000 (length text)) (nat_lt 1048576 ending) (le-ltb 20000 (length text) (omega (arith, shown.short))) (le-ltb 1048576 ending near) in
    cond-false (is_long ending text) _ _ long ∙ cond-false (has_carriage_return text) _ _ (no_return text shown.printed)
    ∙ cond-false (is_skipped text) _ _ (line_seen l) ∙ ap (with_read number draft) (line_again l k.fits)
    ∙ ap (at_line number) (accepted_gives draft l k.met ∙ ap (λ x. Ok (draft_with draft x)) k.makes)

-- a line and its line feed are the first line
pub lines_again : (text rest : List ℕ) → lacks 10 text ≡ true → lines_of (text ++ 10 ∷ rest) ≡ text ∷ lines_of rest
lines_again [] rest h = refl
lines_again (b ∷ bs) rest h =
    let parts = and_parts (not (b == 10)) (lacks 10 bs) h in
    cond-false (b == 10) _ _ (not-true (b == 10) parts.0) ∙ ap (onto_first b) (lines_again bs rest parts.1)

-- reading on from here comes to that draft at that rest
pub record Reaches (total number start : ℕ) (draft : Draft) (text : List ℕ) (next : Draft) (rest : List ℕ) : Type 0 where
  pub count : ℕ
  pub place : ℕ
  pub within : place + length rest ≤ 1048576
  pub same : with_lines total number start draft (lines_of text) ≡ with_lines total count place next (lines_of rest)

reach_one : (total number start : ℕ) (draft : Draft) (l : Line) (rest : List ℕ) (e : Addition) (k : Taken draft l e) → start + length (line_text l ++ 10 ∷ rest) ≤ 1048576
    → Reaches total number start draft (line_text l ++ 10 ∷ rest) (draft_with draft e) rest
reach_one total number start draft l rest e k within =
    let text = line_text l in
    let size = length-append text (10 ∷ rest) in
    let shown = line_shown l k.fits in
    let on : Draft → Result Draft RefusedLine = λ next. with_lines total (number + 1) (start + length text + 1) next (lines_of rest) in
    let near : min (start + length text + 1) total ≤ 1048576 = omega (arith, size, within) in
    record {
      count = number + 1;
      place = start + length text + 1;
      within = omega (arith, size, within);
      same =
          ap (with_lines total number start draft) (lines_again text rest (lacks_by is_printed 10 text refl shown.printed))
          ∙ ap (λ r. then_with r on) (taken_text number (min (start + length text + 1) total) draft l e k near);
    }

-- each line is taken by the draft that those before it made
abbrev pub Along : {X : Type 0} → (X → Line) → (X → Addition) → Draft → List X → Type 0
Along says addition draft [] = Unit {0}
Along says addition draft (x ∷ xs) = Taken draft (says x) (addition x) × Along says addition (draft_with draft (addition x)) xs

-- the draft that they make
abbrev pub after : {X : Type 0} → (X → Addition) → Draft → List X → Draft
after addition draft [] = draft
after addition draft (x ∷ xs) = after addition (draft_with draft (addition x)) xs

-- one run after another
pub reach_then : (total number start : ℕ) (draft middle next : Draft) (text more rest : List ℕ) (k : Reaches total number start draft text middle more)
    → Reaches total k.count k.place middle more next rest → Reaches total number start draft text next rest
reach_then total number start draft middle next text more rest k m = record { count = m.count; place = m.place; within = m.within; same = k.same ∙ m.same }

-- they are all taken
pub reach_all : {X : Type 0} (says : X → Line) (addition : X → Addition) (total number start : ℕ) (draft : Draft) (xs : List X) (rest : List ℕ) → Along says addition draft xs
    → start + length (lines_text says xs ++ rest) ≤ 1048576 → Reaches total number start draft (lines_text says xs ++ rest) (after addition draft xs) rest
reach_all says addition total number start draft [] rest along within = record { count = number; place = start; within = within; same = refl }
reach_all says addition total number start draft (x ∷ xs) rest along within =
    let text = line_text (says x) in
    let others : List ℕ = lines_text says xs in
    let split : ((text ++ 10 ∷ []) ++ others) ++ rest ≡ text ++ 10 ∷ (others ++ rest) =
    append_assoc (text ++ 10 ∷ []) others rest ∙ append_assoc text (10 ∷ []) (others ++ rest) in
    let fits : List ℕ → Type 0 = λ w. start + length w ≤ 1048576 in
    let next : Draft = draft_with draft (addition x) in
    let first = reach_one total number start draft (says x) (others ++ rest) (addition x) along.0 (subst fits split within) in
    let on = reach_all says addition total first.count first.place next xs rest along.1 first.within in
    let from : List ℕ → Type 0 = λ w. Reaches total number start draft w (after addition next xs) rest in
    subst from (sym split) (reach_then total number start draft next (after addition next xs) (text ++ 10 ∷ (others ++ rest)) (others ++ rest) rest first on)

-- the text of lines that are taken has at most 140 bytes for each
pub along_short : {X : Type 0} (says : X → Line) (addition : X → Addition) (draft : Draft) (xs : List X) → Along says addition draft xs → length (lines_text says xs) ≤ 140 * length xs
along_short says addition draft [] along = lit≤ tt
along_short says addition draft (x ∷ xs) along =
    let text = line_text (says x) in
    let shown = line_shown (says x) along.0.fits in
    let rest = along_short says addition _ xs along.1 in
    omega (arith, length-append text (10 ∷ []), shown.short, length-append (text ++ 10 ∷ []) (lines_text says xs), rest)
