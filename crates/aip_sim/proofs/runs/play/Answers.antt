use Rattle.std.proofs.Common.{◌≤◌, ◌∙◌, arith}
use Rattle.aip_text.specs.Lines.{lines_of}
use Rattle.aip_io.specs.Lines.{left_of}
use Rattle.aip_sim.proofs.Running.{went_on}
use Rattle.aip_sim.proofs.runs.play.Goals as goal

pub turns-preserved : goal.turns-preserved
turns-preserved g c =
    let low : c.turns.number ≤ 65536 = c.in-Goes.ensures.few tt in
    record {
      few = omega arith;
      most = c.take_line.ensures.most;
      text = λ other. c.take_line.ensures.text other ∙ c.turns.invariant.text other;
      reads = λ other. c.in-Goes.ensures.counts.stay (λ never. never) other ∙ c.turns.invariant.reads other;
      sink = c.in-Goes.ensures.sink.stays (λ never. never) ∙ c.turns.invariant.sink;
      came = went_on (g.S.Shelf.text c.args.shelf.now c.args.name.now) (g.S.Shelf.text c.turns.shelf c.args.name.now) c.args.opened.core c.turns.core c.in-Goes.after c.turns.number
          (λ told. lines_of (left_of told c.turns.lines)) (λ told. lines_of (left_of told c.take_line.new.lines))
          (g.K.Sink.taken c.args.out.now) (g.K.Sink.taken c.turns.out) (g.K.Sink.taken c.take_line.new.out)
          (c.turns.invariant.text c.args.name.now) c.turns.invariant.came c.in-Goes.ensures.told;
    }
