-- The lines of a text.
use Rattle.std.specs.Prelude.{ℕ, ◌==◌, Bool, true, false, not, if◌then◌else◌, List, [], ◌∷◌}
use Rattle.std.specs.List.{list_all, list_any, onto_first}

-- the most lines of a schedule or of a file of records
abbrev pub most_lines : ℕ
most_lines = 65536

-- the most bytes of a line, without its line feed
abbrev pub most_line_bytes : ℕ
most_line_bytes = 20000

-- a byte is the line feed
abbrev pub is_line_feed : ℕ → Bool
is_line_feed b = b == 10

-- the lines of a text, each ended by a line feed; bytes after the last line feed are a last line
abbrev pub lines_of : List ℕ → List (List ℕ)
lines_of [] = []
lines_of (b ∷ bs) = if is_line_feed b then [] ∷ lines_of bs else onto_first b (lines_of bs)

-- no byte is the line feed
abbrev pub has_no_line_feed : List ℕ → Bool
has_no_line_feed line = list_all (λ b. not (is_line_feed b)) line

-- what ends a line: a line feed, unless the text ends there
abbrev pub line_end : Bool → List ℕ
line_end true = 10 ∷ []
line_end false = []

-- a line that readers skip: it is empty, or begins with #
abbrev pub is_skipped : List ℕ → Bool
is_skipped [] = true
is_skipped (b ∷ bs) = b == 35

-- some byte of the line is a carriage return
abbrev pub has_carriage_return : List ℕ → Bool
has_carriage_return line = list_any (λ b. b == 13) line
