-- The input on a line.
use Rattle.std.specs.Prelude.{◌≡◌, ◌≤◌, ◌⊎◌, true, false, ℕ, List, length, drop, Option, Some, None}
use Rattle.aip_event.specs.declared.input.Input.{Input}
use Rattle.aip_event.specs.Reading.{input_of}
use Rattle.aip_replay.specs.Texts.{is_marked}

-- what was read of a line: the input whose line stands behind its mark; or the line isn't marked, or that is the line of no
-- input
abbrev pub IsReadOn : List ℕ → Option Input → Type 0
IsReadOn line (Some input) = (2 ≤ length line) × (is_marked line ≡ true) × (input_of (drop 2 line) ≡ Some input)
IsReadOn line None = (is_marked line ≡ false) ⊎ (input_of (drop 2 line) ≡ None)
