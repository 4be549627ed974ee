use Rattle.aip_sim.proofs.Turning.{wrote_step, cut_step}
use Rattle.aip_sim.proofs.turns.go_on.Goals as goal

pub returns-in-Ok-clause-told : goal.returns-in-Ok-clause-told
returns-in-Ok-clause-told g c = λ topo number lines start whole stepped.
    wrote_step topo c.args.core number lines c.args.line.now c.args.events.now start _ _ whole c.in-Ok.ensures.took stepped

pub returns-in-Err-clause-told : goal.returns-in-Err-clause-told
returns-in-Err-clause-told g c = λ topo number lines start whole stepped.
    cut_step topo c.args.core number lines c.args.line.now c.args.events.now start _ _ whole c.in-Err.end c.in-Err.ensures.part.0 c.in-Err.ensures.part.1 stepped
