use Rattle.aip_text.specs.Lines.{lines_of}
use Rattle.aip_io.specs.Lines.{left_of}
use Rattle.aip_sim.proofs.Turning.{no_write, on_cut, on_input, on_refused}
use Rattle.aip_sim.proofs.turns.take_line.Goals as goal

pub returns-in-Input-clause-told : goal.returns-in-Input-clause-told
returns-in-Input-clause-told g c =
    on_input (g.S.Shelf.text c.args.shelf.now c.args.name.now) (λ text. lines_of (left_of text c.args.lines.now)) (λ text. lines_of (left_of text c.next_scheduled.new.lines))
    c.next_scheduled.new.lines.line c.line.result.now c.args.number c.in-Input.input c.args.core (g.K.Sink.taken c.args.out.now) (g.K.Sink.taken c.take_input.new.out) c.take_input.result
    c.in-Input.ensures.told c.line.ensures c.take_input.ensures.told

pub returns-in-Refused-clause-told : goal.returns-in-Refused-clause-told
returns-in-Refused-clause-told g c =
    on_refused (g.S.Shelf.text c.args.shelf.now c.args.name.now) (λ text. lines_of (left_of text c.args.lines.now)) (λ text. lines_of (left_of text c.next_scheduled.new.lines))
    c.next_scheduled.new.lines.line c.args.number c.in-Refused.fault c.args.core (g.K.Sink.taken c.args.out.now) (g.K.Sink.taken c.refuse.new.out) c.refuse.result
    c.in-Refused.ensures.told c.refuse.ensures.told

pub returns-in-Cut-clause-told : goal.returns-in-Cut-clause-told
returns-in-Cut-clause-told g c =
    on_cut (g.S.Shelf.text c.args.shelf.now c.args.name.now) (λ text. lines_of (left_of text c.args.lines.now)) c.args.number c.args.core (g.K.Sink.taken c.args.out.now) c.in-Cut.end
    c.in-Cut.ensures.known.0

pub returns-in-Cut-clause-sink : goal.returns-in-Cut-clause-sink
returns-in-Cut-clause-sink g c = no_write c.in-Cut.end (g.K.Sink.faults c.args.out.now) c.in-Cut.ensures.known.1
