use Rattle.std.proofs.Common.{◌≡◌, ◌+◌, ◌<◌, ◌≤◌, length}
use Rattle.aip_text.specs.Lines.{lines_of}
use Rattle.aip_topo.specs.Reading.{with_lines}
use Rattle.aip_topo.proofs.reading.read_lines.Given as goal

-- what the rest gives from here is what the whole gives
abbrev pub invariant-lines : goal.invariant-lines
invariant-lines l =
    record {
      same : with_lines (length l.text) l.number l.start l.draft (lines_of l.rest) ≡ with_lines (length l.fn.text) 1 0 l.fn.begun (lines_of l.fn.text);
      counted : l.number ≤ l.start + 1;
      short : l.start ≤ 1048577;
      placed : 0 < length l.rest → l.start + length l.rest ≤ length l.text;
    }

abbrev pub decreases-lines : goal.decreases-lines
decreases-lines l = length l.rest
