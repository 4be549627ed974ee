use Rattle.aip_io.specs.Lines.{left_of}
use Rattle.aip_records.proofs.Turning.{given}
use Rattle.aip_records.proofs.written.next_written.Goals as goal

pub returns-in-Line-clause-told : goal.returns-in-Line-clause-told
returns-in-Line-clause-told g c =
    given (g.S.Shelf.text c.args.shelf.now c.args.name.now) c.args.number c.args.lines.now.most (λ text. left_of text c.args.lines.now) (λ text. left_of text c.next.new.self)
    c.next.new.self.line c.line.result.now c.next.result c.judge.result c.in-Line.is c.next.ensures.gives c.line.ensures c.judge.ensures.judged
