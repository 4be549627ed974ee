use Rattle.std.proofs.Common.{◌≡◌, ◌^◌, ◌∙◌, ap, arith, refl}
use Rattle.aip_io.specs.Lines.{left_of, turns_of}
use Rattle.aip_replay.proofs.Whole.{at_first, went_on}
use Rattle.aip_replay.proofs.replays.play.Goals as goal

pub turns-init : goal.turns-init
turns-init g c =
    let all : turns_of c.args.opened.lines ≡ 2 ^ 64 = ap turns_of c.requires.lines in
    record {
      few = omega arith;
      most = ap (λ l. l.most) c.requires.lines;
      text = λ other. refl;
      reads = λ other. refl;
      came = at_first (g.S.Shelf.text c.args.shelf.now c.args.name.now) c.args.opened.judge (λ told. left_of told c.args.opened.lines) c.requires.left;
    }

pub turns-preserved : goal.turns-preserved
turns-preserved g c =
    let few = c.turns.invariant.few in
    let takes = c.in-Goes.ensures.takes tt in
    record {
      few = omega arith;
      most = c.take_line.ensures.most;
      text = λ other. c.take_line.ensures.text other ∙ c.turns.invariant.text other;
      reads = λ other. c.in-Goes.ensures.counts.stay (λ never. never) other ∙ c.turns.invariant.reads other;
      came = went_on (g.S.Shelf.text c.args.shelf.now c.args.name.now) (g.S.Shelf.text c.turns.shelf c.args.name.now) c.args.opened.judge c.turns.judge c.in-Goes.after c.turns.number
          (λ told. left_of told c.turns.lines) (λ told. left_of told c.take_line.new.lines) (c.turns.invariant.text c.args.name.now) c.turns.invariant.came c.in-Goes.ensures.told;
    }
