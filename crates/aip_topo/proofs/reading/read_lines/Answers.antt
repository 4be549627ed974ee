use Rattle.std.proofs.Common.{◌∙◌, length, arith}
use Rattle.aip_topo.proofs.Turns.{line_placed, line_taken}
use Rattle.aip_topo.proofs.reading.read_lines.Goals as goal

pub lines-preserved : goal.lines-preserved
lines-preserved c =
    let first = c.in-Some.first in
    let told = c.in-Some.ensures in
    let read = c.in_ok-draft.ensures in
    let was = c.lines.invariant in
    let total = length c.args.text.now in
    let placed = line_placed total c.lines.start c.min.result c.lines.rest.now first.line.now first.rest.now first.ended (λ empty. cc (told.none.1 empty)) told.whole told.last was.placed c.min.ensures read.short in
    record {
      same =
          line_taken total c.lines.number c.lines.start c.min.result c.lines.draft c.in_ok-draft.draft c.lines.rest.now first.line.now first.rest.now told.lines c.min.ensures read.ok
          ∙ was.same;
      counted = omega (arith, was.counted);
      short = placed.0;
      placed = placed.1;
    }
