-- The next line of a schedule, from what a reader of lines gives.
use Rattle.std.proofs.Common.{◌≡◌, ◌⊎◌, inl, inr, ℕ, List, ◌∷◌, Option, Some, None, ◌∙◌, ap, sym, subst}
use Rattle.std.specs.Prelude.{IfSome}
use Rattle.aip_text.specs.Lines.{lines_of}
use Rattle.aip_io.specs.declared.got.Got.{Got}
use Rattle.aip_io.specs.declared.got.Got.TheVariants as got
use Rattle.aip_io.specs.Lines.{Gives}
use Rattle.aip_sim.specs.declared.schedules.Scheduled.{Scheduled}
use Rattle.aip_sim.specs.declared.schedules.Scheduled.TheVariants.{Input, Skipped, Refused, End, Cut}
use Rattle.aip_sim.specs.Schedules.{IsJudged, IsNextOf}

-- a line that stands first is the next
judged_first : (number : ℕ) (before after : List (List ℕ)) (line : List ℕ) (next : Scheduled) → before ≡ line ∷ after → IsJudged number line next → IsNextOf number before after line next
judged_first number before after line (Input input) first judged = (first, judged)
judged_first number before after line Skipped first judged = (first, judged)
judged_first number before after line (Refused f) first judged = (line, after, first, judged)
judged_first number before after line End first judged = absurd judged
judged_first number before after line (Cut end) first judged = tt

stands_first : (most : ℕ) (before line after : List ℕ) (g : Got) → (g ≡ got.Line) ⊎ (g ≡ got.Last) → Gives g most before line after → lines_of before ≡ line ∷ lines_of after
stands_first most before line after g (inl is) gives = (subst (λ x. Gives x most before line after) is gives).lines
stands_first most before line after g (inr is) gives = (subst (λ x. Gives x most before line after) is gives).lines

-- a line that was given, and judged
pub given : (told : Option (List ℕ)) (number most : ℕ) (before after : List ℕ → List ℕ) (line read : List ℕ) (g : Got) (next : Scheduled) → (g ≡ got.Line) ⊎ (g ≡ got.Last)
    → IfSome told (λ text. Gives g most (before text) line (after text)) → read ≡ line → IsJudged number read next
    → IfSome told (λ text. IsNextOf number (lines_of (before text)) (lines_of (after text)) line next)
given None number most before after line read g next which gives same judged = tt
given (Some text) number most before after line read g next which gives same judged =
    judged_first number (lines_of (before text)) (lines_of (after text)) line next (stands_first most (before text) line (after text) g which gives)
    (subst (λ l. IsJudged number l next) same judged)
