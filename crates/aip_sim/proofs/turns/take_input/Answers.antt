use Rattle.std.proofs.Common.{sym, subst}
use Rattle.aip_sim.specs.Turns.{IsStepped}
use Rattle.aip_sim.proofs.Turning.{refused_step, steps, stops}
use Rattle.aip_sim.proofs.turns.take_input.Goals as goal

pub returns-in-Ok-clause-told : goal.returns-in-Ok-clause-told
returns-in-Ok-clause-told g c = λ topo lines start whole read came.
    c.go_on.ensures.told topo c.args.number lines start whole
    (subst (λ events. IsStepped topo c.in-Ok.core c.args.number lines c.args.line.now events start (g.K.Sink.taken c.args.out.now) whole) (sym c.as_slice.ensures)
    (steps topo c.args.core c.in-Ok.core c.args.number c.args.line.now lines c.args.input c.in-Ok.events start (g.K.Sink.taken c.args.out.now) whole c.requires.spelled read
    c.in-Ok.ensures.taken came))

pub returns-in-Err-Refused-clause-told : goal.returns-in-Err-Refused-clause-told
returns-in-Err-Refused-clause-told g c = λ topo lines start whole read came.
    c.refuse.ensures.told topo lines start whole
    (refused_step topo c.args.core c.in-Err-Refused.core c.args.number c.args.line.now lines c.args.input c.in-Err-Refused.fault start (g.K.Sink.taken c.args.out.now) whole read
    (rw c.in-Err-Refused.field-0-is at c.in-Err-Refused.ensures.refused) came)

pub returns-in-Err-Memory-clause-told : goal.returns-in-Err-Memory-clause-told
returns-in-Err-Memory-clause-told g c = λ topo lines start whole read came.
    stops topo c.args.core c.args.number _ start _ whole _ tt came
