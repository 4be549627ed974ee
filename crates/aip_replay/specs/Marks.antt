-- The lines of a trace.
use Rattle.std.specs.Prelude.{ℕ, List, [], ◌∷◌, ◌++◌, codes}
use Rattle.aip_event.specs.declared.event.Event.{Event}
use Rattle.aip_event.specs.Lines.{event_line, input_line}
use Rattle.aip_rules.specs.declared.Entry.{Entry}
use Rattle.aip_rules.specs.declared.Entry.TheVariants.{Taken, Happened}

-- the line of an event in a trace text, without its line feed
abbrev pub event_mark : Event → List ℕ
event_mark event = codes "< " ++ event_line event

-- the line of an entry in a trace text, without its line feed
abbrev pub entry_mark : Entry → List ℕ
entry_mark (Taken input) = codes "> " ++ input_line input
entry_mark (Happened event) = event_mark event

-- the lines of a trace, those of the oldest entry first
abbrev pub shown : List Entry → List (List ℕ)
shown [] = []
shown (entry ∷ tr) = shown tr ++ entry_mark entry ∷ []
