-- Texts and a sink in memory.
use Rattle.std.specs.Prelude.{ℕ, ◌+◌, List, [], ◌∷◌, length, min, replicate, slice_index, Option, Some, None, if◌then◌else◌}
use Rattle.std.specs.Str.{bytes_eq}

-- a file: its name and its bytes
pub record NamedText : Type 0 where
  pub name : List ℕ
  pub bytes : List ℕ

-- the text under a name: of two files of that name, the first counts
abbrev pub text_under : List NamedText → List ℕ → Option (List ℕ)
text_under [] name = None
text_under (file ∷ files) name = if bytes_eq file.name name then Some file.bytes else text_under files name

-- how many files stand before the first of that name, all of them where there is none
abbrev pub place_of : List NamedText → List ℕ → ℕ
place_of [] name = 0
place_of (file ∷ files) name = if bytes_eq file.name name then 0 else 1 + place_of files name

-- a shelf in memory: its files, the numbers of the calls that fail, how much a call gives at most, how
-- many calls it has had, and the faults of each file, with those of all absent names behind them
pub record ShelfState : Type 0 where
  pub files : List NamedText
  pub failing : List ℕ
  pub most : ℕ
  pub calls : ℕ
  pub counts : List ℕ

-- how often reads of a name have failed
abbrev pub faults_under : ShelfState → List ℕ → ℕ
faults_under shelf name = slice_index shelf.counts (place_of shelf.files name)

-- a shelf that no call has met yet
abbrev pub new_shelf : List NamedText → List ℕ → ℕ → ShelfState
new_shelf files failing most =
    record { files = files; failing = failing; most = most; calls = 0; counts = replicate (length files + 1) 0 }

-- how many bytes a call gives: no more than the buffer holds, than the shelf gives at once, and than are left
abbrev pub given : ℕ → ℕ → ℕ → ℕ
given buffer most left = min (min buffer most) left

-- a sink in memory: the bytes it has taken, the room for them, the numbers of the calls that fail, how
-- much a call takes at most, how many calls it has had, and its faults
pub record SinkState : Type 0 where
  pub taken : List ℕ
  pub room : ℕ
  pub failing : List ℕ
  pub most : ℕ
  pub calls : ℕ
  pub faults : ℕ
