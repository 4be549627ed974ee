-- The next line of a record file.
use Rattle.std.specs.Prelude.{◌≡◌, ℕ, ◌≤◌, ⊤, List, [], ◌∷◌, Some, None, Ok, Err}
use Rattle.aip_text.specs.Lines.{most_lines}
use Rattle.aip_records.specs.Files.{written}
use Rattle.aip_records.specs.declared.written.Written.{Written}
use Rattle.aip_records.specs.declared.written.Written.TheVariants as line_is

-- what a line is by itself, or want of memory
abbrev pub IsWritten : ℕ → List ℕ → Written → Type 0
IsWritten number line (line_is.Bytes bytes) = written number line ≡ Ok (Some bytes)
IsWritten number line line_is.Skipped = written number line ≡ Ok None
IsWritten number line (line_is.Refused f) = written number line ≡ Err f
IsWritten number line line_is.End = ⊥
IsWritten number line line_is.Unread = ⊥
IsWritten number line line_is.Memory = ⊤

-- What the next of the lines that are left gives, where these lines are left after it: bytes, a line that is skipped or
-- refused, or the end.
abbrev pub IsNextOf : ℕ → List (List ℕ) → List (List ℕ) → List ℕ → Written → Type 0
IsNextOf number before after line (line_is.Bytes bytes) = (before ≡ line ∷ after) × (written number line ≡ Ok (Some bytes))
IsNextOf number before after line line_is.Skipped = (before ≡ line ∷ after) × (written number line ≡ Ok None)
IsNextOf number before after line (line_is.Refused f) = (bad : List ℕ) × (rest : List (List ℕ)) × (before ≡ bad ∷ rest) × (written number bad ≡ Err f)
IsNextOf number before after line line_is.End = before ≡ []
IsNextOf number before after line line_is.Unread = ⊤
IsNextOf number before after line line_is.Memory = ⊤

-- only the first 65,536 lines are taken, whatever is told
abbrev pub IsWithin : ℕ → Written → Type 0
IsWithin number (line_is.Bytes bytes) = number ≤ most_lines
IsWithin number line_is.Skipped = number ≤ most_lines
IsWithin number (line_is.Refused f) = ⊤
IsWithin number line_is.End = ⊤
IsWithin number line_is.Unread = ⊤
IsWithin number line_is.Memory = ⊤
