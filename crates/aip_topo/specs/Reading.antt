-- The topology that a text gives, or the first line that is refused, with its first fault.
use Rattle.std.specs.Prelude.{◌≡◌, ℕ, ◌+◌, ◌||◌, min, nat_lt, Bool, false, List, [], ◌∷◌, length, replicate, if◌then◌else◌, Option, Some, None, Result, Ok, Err}
use Rattle.aip_text.specs.Lines.{lines_of, is_skipped, has_carriage_return, most_line_bytes}
use Rattle.aip_topo.specs.LineReading.{line_in}
use Rattle.aip_topo.specs.Steps.{default_of, settings_with, with_line}
use Rattle.aip_topo.specs.declared.faults.TopoFault.{TopoFault}
use Rattle.aip_topo.specs.declared.faults.TopoFault.TheVariants as fault
use Rattle.aip_topo.specs.declared.faults.TopoEnd.{TopoEnd}
use Rattle.aip_topo.specs.declared.faults.TopoEnd.TheVariants as end
use Rattle.aip_topo.specs.declared.lines.Line.{Line}
use Rattle.aip_topo.specs.declared.steps.Draft.{Draft}
use Rattle.aip_topo.specs.declared.topology.Settings.{Settings}
use Rattle.aip_topo.specs.declared.topology.Topology.{Topology}

-- the settings where none is set
abbrev pub default_settings : Settings
default_settings = settings_with default_of

-- no line taken yet: the default settings, and nothing else
abbrev pub empty_draft : Draft
empty_draft =
    record { topology = record { settings = default_settings; domains = []; routers = []; parts = [] }; given = replicate 8 false }

-- the most bytes of a text whose lines are taken, line feeds included
abbrev pub most_text : ℕ
most_text = 1048576

-- a line has more than 20,000 bytes, or it or its line feed ends past the first 1,048,576 bytes of the text
abbrev pub is_long : ℕ → List ℕ → Bool
is_long ending text = nat_lt most_line_bytes (length text) || nat_lt most_text ending

-- why a text gives no topology: the number of its first line that is refused, from 1, and that line's first fault
pub record RefusedLine : Type 0 where
  pub line : ℕ
  pub fault : TopoFault

-- this line is refused for that
abbrev pub refused : {A : Type 0} → ℕ → TopoFault → Result A RefusedLine
refused number f = Err (record { line = number; fault = f })

-- a fault of the line of this number
abbrev pub at_line : ℕ → Result Draft TopoFault → Result Draft RefusedLine
at_line number (Ok draft) = Ok draft
at_line number (Err f) = refused number f

-- the draft with what a line says: Form where it says nothing
abbrev pub with_read : ℕ → Draft → Option Line → Result Draft RefusedLine
with_read number draft None = refused number fault.Form
with_read number draft (Some l) = at_line number (with_line draft l)

-- the draft with a line of the text, which ends at this place: Long first, then Form for a carriage return; an empty line and one that begins with # are skipped
abbrev pub with_text : ℕ → ℕ → Draft → List ℕ → Result Draft RefusedLine
with_text number ending draft text =
    if is_long ending text then refused number fault.Long
    else if has_carriage_return text then refused number fault.Form
    else if is_skipped text then Ok draft
    else with_read number draft (line_in text)

-- with a draft, if there is one
abbrev pub then_with : Result Draft RefusedLine → (Draft → Result Draft RefusedLine) → Result Draft RefusedLine
then_with (Ok draft) next = next draft
then_with (Err e) next = Err e

-- the draft with these lines of a text of so many bytes, the first of them of this number and at this place: each ends behind its line feed, the last where the text ends
abbrev pub with_lines : ℕ → ℕ → ℕ → Draft → List (List ℕ) → Result Draft RefusedLine
with_lines total number start draft [] = Ok draft
with_lines total number start draft (text ∷ texts) =
    then_with (with_text number (min (start + length text + 1) total) draft text) (λ next. with_lines total (number + 1) (start + length text + 1) next texts)

-- the topology of a draft
abbrev pub finished : Result Draft RefusedLine → Result Topology RefusedLine
finished (Ok draft) = Ok draft.topology
finished (Err e) = Err e

-- the topology that the text gives, or why it gives none
abbrev pub topology_of : List ℕ → Result Topology RefusedLine
topology_of text = finished (with_lines (length text) 1 0 empty_draft (lines_of text))

-- this end is the one that is told, unless memory ran out
abbrev pub Tells : {A : Type 0} → TopoEnd → Result A RefusedLine → Type 0
Tells (end.Line number f) told = told ≡ refused number f
Tells end.Memory told = Unit {0}
