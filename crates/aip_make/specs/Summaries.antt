-- The summary of a trace, and its text.
use Rattle.std.specs.Prelude.{ℕ, ◌+◌, List, [], ◌∷◌, ◌++◌, codes, decimal}
use Rattle.hex.specs.Hex.{encode_lower}
use Rattle.sha2.specs.Sha256.{sha256}
use Rattle.aip_rules.specs.declared.Entry.{Entry}
use Rattle.aip_rules.specs.declared.Entry.TheVariants.{Taken, Happened}
use Rattle.aip_rules.specs.State.{flight_count, now_of}
use Rattle.aip_rules.specs.Texts.{text_of}
use Rattle.aip_make.specs.declared.summary.Summary.{Summary}

-- how many events a trace has
abbrev pub event_count : List Entry → ℕ
event_count [] = 0
event_count (Taken input ∷ tr) = event_count tr
event_count (Happened event ∷ tr) = 1 + event_count tr

-- the summary of the trace of so many lines: its flights, its events, its time and the hash of its text
abbrev pub summary_of : ℕ → List Entry → Summary
summary_of lines tr = record {
  lines = lines;
  flights = flight_count tr;
  events = event_count tr;
  now = now_of tr;
  trace = sha256 (text_of tr);
}

-- a line of a word and a number
abbrev pub number_line : List ℕ → ℕ → List ℕ
number_line word number = word ++ 32 ∷ decimal number ++ 10 ∷ []

-- the line of a hash, in hex
abbrev pub hash_line : List ℕ → List ℕ
hash_line hash = codes "trace " ++ encode_lower hash ++ 10 ∷ []

-- the text of a summary: a line for each number, and one for the hash
abbrev pub summary_text : Summary → List ℕ
summary_text s =
    number_line (codes "lines") s.lines ++ number_line (codes "flights") s.flights ++ number_line (codes "events") s.events
    ++ number_line (codes "now") s.now ++ hash_line s.trace
