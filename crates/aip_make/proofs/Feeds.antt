-- The lines of a schedule that is made of the lines of inputs.
use Rattle.std.proofs.Common.{◌≡◌, ℕ, ◌≤◌, ◌==◌, Bool, true, false, not, cond, List, [], ◌∷◌, ◌++◌, length, Option, Some, None, Ok, Err, refl, ap, ◌∙◌, append_assoc}
use Rattle.std.proofs.lemmas.Bool.{and_parts, le-ltb, not-true}
use Rattle.aip_text.specs.Lines.{has_carriage_return, is_skipped, lines_of}
use Rattle.aip_text.specs.Words.{lacks}
use Rattle.aip_event.specs.declared.input.Input.{Input}
use Rattle.aip_event.specs.Lines.{input_line}
use Rattle.aip_event.proofs.InputLaws.{input_again}
use Rattle.aip_rules.specs.declared.StepFault.TheVariants as fault
use Rattle.aip_rules.specs.Texts.{input_or_form, scheduled}
use Rattle.aip_make.specs.Schedules.{schedule_of}
use Rattle.aip_make.proofs.MadeInputs.{IsPlain}

-- a line and its line feed before a text
line_before : (line rest : List ℕ) → lacks 10 line ≡ true → lines_of (line ++ 10 ∷ rest) ≡ line ∷ lines_of rest
line_before [] rest plain = refl
line_before (b ∷ bs) rest plain =
    let parts = and_parts (not (b == 10)) (lacks 10 bs) plain in rw (not-true (b == 10) parts.0, line_before bs rest parts.1) refl

-- the lines of a schedule: that of its first input, and those of the others
pub first_of : (input : Input) (inputs : List Input) → lacks 10 (input_line input) ≡ true
    → lines_of (schedule_of (input ∷ inputs)) ≡ input_line input ∷ lines_of (schedule_of inputs)
first_of input inputs plain =
    ap lines_of (append_assoc (input_line input) (10 ∷ []) (schedule_of inputs)) ∙ line_before (input_line input) (schedule_of inputs) plain

no_return : (line : List ℕ) → lacks 13 line ≡ true → has_carriage_return line ≡ false
no_return [] plain = refl
no_return (b ∷ bs) plain =
    let parts = and_parts (not (b == 13)) (lacks 13 bs) plain in rw (not-true (b == 13) parts.0) (no_return bs parts.1)

-- a line that no test refuses
is_input : (many long return skip : Bool) (o : Option Input) (input : Input) → many ≡ false → long ≡ false → return ≡ false → skip ≡ false → o ≡ Some input
    → cond many (Err fault.Many) (cond long (Err fault.Long) (cond return (Err fault.Form) (cond skip (Ok None) (input_or_form o)))) ≡ Ok (Some input)
is_input many long return skip o input few short plain shown read = rw (few, short, plain, shown, read) refl

-- the line of such an input is scheduled as that input
pub scheduled_as : (number : ℕ) (input : Input) → number ≤ 65536 → IsPlain input → scheduled number (input_line input) ≡ Ok (Some input)
scheduled_as number input low plain =
    is_input _ _ _ (is_skipped (input_line input)) _ input (le-ltb 65536 number low) (le-ltb 20000 (length (input_line input)) plain.short)
    (no_return (input_line input) plain.no_return) plain.shown (input_again input plain.grammar)
