use Rattle.aip_io.specs.Lines.{left_of}
use Rattle.aip_replay.proofs.Whole.{on_end, on_line, on_wrong}
use Rattle.aip_replay.proofs.turns.take_line.Goals as goal

pub returns-in-Line-clause-told : goal.returns-in-Line-clause-told
returns-in-Line-clause-told g c =
    on_line (g.S.Shelf.text c.args.shelf.now c.args.name.now) (λ told. left_of told c.args.lines.now) (λ told. left_of told c.next.new.self) c.args.lines.now.most c.next.new.self.line
    c.line.result.now c.args.number c.args.judge c.next.result c.judge_line.result c.in-Line.is c.requires c.next.ensures.gives c.line.ensures c.next.ensures.one_line c.next.ensures.short
    c.judge_line.ensures.told

pub returns-in-Last-clause-told : goal.returns-in-Last-clause-told
returns-in-Last-clause-told g c =
    on_wrong (g.S.Shelf.text c.args.shelf.now c.args.name.now) (λ told. left_of told c.args.lines.now) (λ told. left_of told c.next.new.self) c.args.lines.now.most c.next.new.self.line
    c.args.number c.args.judge c.next.result c.in-Last.is c.requires c.next.ensures.gives

pub returns-in-End-clause-told : goal.returns-in-End-clause-told
returns-in-End-clause-told g c =
    on_end (g.S.Shelf.text c.args.shelf.now c.args.name.now) (λ told. left_of told c.args.lines.now) (λ told. left_of told c.next.new.self) c.args.lines.now.most c.next.new.self.line
    c.args.number c.args.judge c.next.result c.at_end.result c.in-End.is c.next.ensures.gives c.at_end.ensures.told
