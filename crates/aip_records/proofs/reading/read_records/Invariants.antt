use Rattle.std.proofs.Common.{◌≡◌, ℕ, ◌≤◌, ◌-◌, List}
use Rattle.std.specs.Prelude.{IfSome}
use Rattle.aip_text.specs.Lines.{lines_of, most_line_bytes}
use Rattle.aip_io.specs.Lines.{left_of}
use Rattle.aip_records.specs.Files.{records_of}
use Rattle.aip_records.specs.Turns.{HasCome}
use Rattle.aip_records.proofs.reading.read_records.Given as goal

-- the reading has come so far, and nothing has failed
abbrev pub invariant-turns : goal.invariant-turns
invariant-turns g l = record {
  few : l.number ≤ 65537;
  most : l.lines.most ≡ most_line_bytes;
  text : (other : List ℕ) → g.S.Shelf.text l.shelf other ≡ g.S.Shelf.text l.fn.shelf other;
  reads : (other : List ℕ) → g.S.Shelf.faults l.shelf other ≡ g.S.Shelf.faults l.fn.shelf other;
  came : IfSome (g.S.Shelf.text l.fn.shelf l.name) (λ told. HasCome l.domains l.registry l.number (lines_of (left_of told l.lines)) (records_of l.domains told));
}

abbrev pub decreases-turns : goal.decreases-turns
decreases-turns g l = 65538 - l.number
