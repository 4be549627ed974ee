-- What a reader of lines keeps, and what a call of it gives.
use Rattle.std.specs.Prelude.{◌≡◌, ◌≢◌, ℕ, ◌+◌, ◌-◌, ◌^◌, ◌<◌, Bool, true, false, List, [], ◌∷◌, ◌++◌, length, drop}
use Rattle.aip_text.specs.Lines.{lines_of}
use Rattle.aip_io.specs.declared.got.Got.{Got}
use Rattle.aip_io.specs.declared.got.Got.TheVariants.{Line, Last, Long, End, Failed}

-- a reader of lines: the bytes that it has read and not given, the offset of its next read, the line that
-- it gave last, whether it goes on, and how many bytes a line has at most
pub record LinesState : Type 0 where
  pub kept : List ℕ
  pub at : ℕ
  pub line : List ℕ
  pub more : Bool
  pub most : ℕ

-- a reader that no call has met yet
abbrev pub new_lines : ℕ → LinesState
new_lines most = record { kept = []; at = 0; line = []; more = true; most = most }

-- what of a text is left to give: what is kept, and all that stands from the next read on
abbrev pub left_of : List ℕ → LinesState → List ℕ
left_of text lines = lines.kept ++ drop lines.at text

-- how many lines it can still give at most: each takes a byte, and an offset is a number of 64 bits
abbrev pub turns_of : LinesState → ℕ
turns_of lines = length lines.kept + (2 ^ 64 - lines.at)

-- a call gave a line
abbrev pub has_line : Got → Bool
has_line Line = true
has_line Last = true
has_line Long = false
has_line End = false
has_line Failed = false

-- a line feed ends the first line of a text, and the rest of the text follows it
pub record IsLine (text line rest : List ℕ) : Type 0 where
  pub lines : lines_of text ≡ line ∷ lines_of rest
  pub whole : text ≡ line ++ (10 ∷ rest)

-- a text is one line that no line feed ends, and nothing is left of it
pub record IsLast (text line rest : List ℕ) : Type 0 where
  pub lines : lines_of text ≡ line ∷ lines_of rest
  pub whole : text ≡ line
  pub some : line ≢ []
  pub nothing : rest ≡ []

-- the first line of a text has more than so many bytes
pub record IsLong (most : ℕ) (text : List ℕ) : Type 0 where
  pub line : List ℕ
  pub rest : List (List ℕ)
  pub lines : lines_of text ≡ line ∷ rest
  pub long : most < length line

-- what an answer says of what was left before the call, of the line, and of what is left after the call
abbrev pub Gives : Got → ℕ → List ℕ → List ℕ → List ℕ → Type 0
Gives Line most before line after = IsLine before line after
Gives Last most before line after = IsLast before line after
Gives Long most before line after = IsLong most before × (after ≡ before)
Gives End most before line after = (before ≡ []) × (after ≡ [])
Gives Failed most before line after = after ≡ before
