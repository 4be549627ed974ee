-- One line more of a text.
use Rattle.std.proofs.Common.{◌≡◌, ℕ, ◌+◌, ◌<◌, ◌≤◌, Bool, true, false, List, [], ◌∷◌, ◌++◌, length, min, Ok, refl, sym, ap, ◌∙◌, arith, length-append}
use Rattle.aip_text.specs.Lines.{line_end, lines_of}
use Rattle.aip_topo.specs.Reading.{then_with, with_lines, with_text}
use Rattle.aip_topo.specs.declared.steps.Draft.{Draft}

-- once a line is taken, the rest gives what the line and the rest gave before
pub line_taken : (total number start ending : ℕ) (draft next : Draft) (rest text after : List ℕ) → lines_of rest ≡ text ∷ lines_of after → ending ≡ min (start + length text + 1) total
    → with_text number ending draft text ≡ Ok next → with_lines total (number + 1) (start + length text + 1) next (lines_of after) ≡ with_lines total number start draft (lines_of rest)
line_taken total number start ending draft next rest text after lines place read =
    let on = λ (d : Draft). with_lines total (number + 1) (start + length text + 1) d (lines_of after) in
    sym
    (ap (with_lines total number start draft) lines ∙ ap (λ e. then_with (with_text number e draft text) on) (sym place) ∙ ap (λ r. then_with r on) read)

-- where a text begins, of which so much is left
abbrev pub IsPlaced : ℕ → ℕ → List ℕ → Type 0
IsPlaced total start rest = 0 < length rest → start + length rest ≤ total

-- a line that ends within the text has the rest behind it
pub line_placed : (total start ending : ℕ) (rest text after : List ℕ) (ended : Bool) → (rest ≡ [] → ⊥) → rest ≡ text ++ (line_end ended ++ after) → (ended ≡ false → after ≡ [])
    → IsPlaced total start rest → ending ≡ min (start + length text + 1) total → ending ≤ 1048576
    → (start + length text + 1 ≤ 1048577) × IsPlaced total (start + length text + 1) after
line_placed total start ending [] text after ended some whole last within place near = absurd (some refl)
line_placed total start ending (b ∷ bs) text after true some whole last within place near =
    let size = ap length whole ∙ length-append text (10 ∷ after) in
    let there = within (omega arith) in
    (omega (arith, size, there, place, near), λ more. omega (arith, size, there))
line_placed total start ending (b ∷ bs) text after false some whole last within place near =
    let size = ap length whole ∙ length-append text after in
    let none = ap length (last refl) in
    let there = within (omega arith) in
    (omega (arith, size, there, place, near, none), λ more. omega (arith, none, more))
