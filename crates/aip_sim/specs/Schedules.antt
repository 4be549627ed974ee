-- The next line of a schedule.
use Rattle.std.specs.Prelude.{◌≡◌, ◌≢◌, ℕ, ◌≤◌, ⊤, List, [], ◌∷◌, Some, None, Ok, Err}
use Rattle.aip_text.specs.Lines.{most_lines}
use Rattle.aip_event.specs.Lines.{input_line}
use Rattle.aip_rules.specs.Texts.{scheduled}
use Rattle.aip_sim.specs.declared.schedules.Scheduled.{Scheduled}
use Rattle.aip_sim.specs.declared.schedules.Scheduled.TheVariants.{Input, Skipped, Refused, End, Cut}
use Rattle.aip_sim.specs.declared.ends.RunEnd.TheVariants.{WriteFault, Memory}
use Rattle.aip_sim.specs.Ends.{IsCutShort}

-- what a line is by itself, or want of memory
abbrev pub IsJudged : ℕ → List ℕ → Scheduled → Type 0
IsJudged number line (Input input) = scheduled number line ≡ Ok (Some input)
IsJudged number line Skipped = scheduled number line ≡ Ok None
IsJudged number line (Refused f) = scheduled number line ≡ Err f
IsJudged number line End = ⊥
IsJudged number line (Cut end) = end ≡ Memory

-- What the next of the lines that are left gives, where these lines are left after it: an input, a line that is skipped
-- or refused, or the end.
abbrev pub IsNextOf : ℕ → List (List ℕ) → List (List ℕ) → List ℕ → Scheduled → Type 0
IsNextOf number before after line (Input input) = (before ≡ line ∷ after) × (scheduled number line ≡ Ok (Some input))
IsNextOf number before after line Skipped = (before ≡ line ∷ after) × (scheduled number line ≡ Ok None)
IsNextOf number before after line (Refused f) = (bad : List ℕ) × (rest : List (List ℕ)) × (before ≡ bad ∷ rest) × (scheduled number bad ≡ Err f)
IsNextOf number before after line End = before ≡ []
IsNextOf number before after line (Cut end) = ⊤

-- what is known of it, whatever is told: an input is the one that the line spells, and only the first 65,536 lines are
-- taken
abbrev pub IsScheduled : ℕ → List ℕ → Scheduled → Type 0
IsScheduled number line (Input input) = (number ≤ most_lines) × (line ≡ input_line input)
IsScheduled number line Skipped = number ≤ most_lines
IsScheduled number line (Refused f) = ⊤
IsScheduled number line End = ⊤
IsScheduled number line (Cut end) = IsCutShort end × (end ≢ WriteFault)
