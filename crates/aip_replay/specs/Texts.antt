-- Trace texts: the texts of the traces that the rules give, and the lines that begin one.
use Rattle.std.specs.Prelude.{◌≡◌, ℕ, ◌≤◌, Bool, true, if◌then◌else◌, List, [], ◌∷◌, ◌++◌, length, take, drop, codes, flat_map, Option, Some, None}
use Rattle.std.specs.List.{AllByRecursion}
use Rattle.std.specs.Str.{bytes_eq}
use Rattle.aip_text.specs.Lines.{lines_of, has_no_line_feed, most_line_bytes}
use Rattle.aip_event.specs.declared.input.Input.{Input}
use Rattle.aip_event.specs.Lines.{IsInput}
use Rattle.aip_event.specs.Reading.{input_of}
use Rattle.aip_topo.specs.declared.topology.Topology.{Topology}
use Rattle.aip_rules.specs.declared.Entry.{Entry}
use Rattle.aip_rules.specs.Step.{most_inputs, trace_of}
use Rattle.aip_rules.specs.Texts.{text_of}

-- a line of a trace text: at most 20,000 bytes, and no line feed among them
pub record IsTraceLine (line : List ℕ) : Type 0 where
  pub one : has_no_line_feed line ≡ true
  pub short : length line ≤ most_line_bytes

-- a file is a trace text: the text of the trace of at most 65,536 inputs of the grammar, with no line of more than 20,000
-- bytes
pub record IsTraceText (topo : Topology) (file : List ℕ) : Type 0 where
  pub inputs : List Input
  pub formed : AllByRecursion IsInput inputs
  pub few : length inputs ≤ most_inputs
  pub trace : List Entry
  pub given : trace_of topo inputs ≡ Some trace
  pub text : file ≡ text_of trace
  pub short : AllByRecursion (λ line. length line ≤ most_line_bytes) (lines_of file)

-- the text of these lines: a line feed behind each
abbrev pub text_of_lines : List (List ℕ) → List ℕ
text_of_lines lines = flat_map (λ line. line ++ 10 ∷ []) lines

-- the line is marked as that of an input: it begins with "> "
abbrev pub is_marked : List ℕ → Bool
is_marked line = bytes_eq (take 2 line) (codes "> ")

-- the one input that was read, if one was
abbrev pub one_input : Option Input → Option (List Input)
one_input None = None
one_input (Some input) = Some (input ∷ [])

-- the inputs on a line: none where it isn't marked, else the input whose line stands behind the mark, if it is the line of one
abbrev pub inputs_at : List ℕ → Option (List Input)
inputs_at line = if is_marked line then one_input (input_of (drop 2 line)) else Some []

-- the first inputs and then the others, where both were read
abbrev pub and_inputs : Option (List Input) → Option (List Input) → Option (List Input)
and_inputs None others = None
and_inputs (Some inputs) None = None
and_inputs (Some inputs) (Some others) = Some (inputs ++ others)

-- the inputs on these lines, in their order, if what stands behind each mark is the line of an input
abbrev pub inputs_on : List (List ℕ) → Option (List Input)
inputs_on [] = Some []
inputs_on (line ∷ lines) = and_inputs (inputs_at line) (inputs_on lines)

-- these lines begin a trace: each is a line of a trace text, the inputs on them can be read and are at most 65,536, the trace
-- of these inputs is defined, and the lines, a line feed behind each, are a first part of its text
pub record Begins (topo : Topology) (lines : List (List ℕ)) : Type 0 where
  pub plain : AllByRecursion IsTraceLine lines
  pub inputs : List Input
  pub read : inputs_on lines ≡ Some inputs
  pub few : length inputs ≤ most_inputs
  pub trace : List Entry
  pub given : trace_of topo inputs ≡ Some trace
  pub more : List ℕ
  pub text : text_of trace ≡ text_of_lines lines ++ more

-- a file has so many first lines, with a line feed behind each, and they begin a trace
pub record FirstBegin (topo : Topology) (file : List ℕ) (count : ℕ) : Type 0 where
  pub there : count ≤ length (lines_of file)
  pub rest : List ℕ
  pub ended : file ≡ text_of_lines (take count (lines_of file)) ++ rest
  pub begin : Begins topo (take count (lines_of file))
