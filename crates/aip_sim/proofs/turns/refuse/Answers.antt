use Rattle.aip_sim.proofs.Turning.{wrote_refusal, cut_refusal}
use Rattle.aip_sim.proofs.turns.refuse.Goals as goal

pub returns-in-Ok-clause-told : goal.returns-in-Ok-clause-told
returns-in-Ok-clause-told g c = λ topo lines start whole here.
    wrote_refusal topo c.args.core c.args.number c.args.fault start _ _ whole c.in-Ok.ensures.took here

pub returns-in-Err-clause-told : goal.returns-in-Err-clause-told
returns-in-Err-clause-told g c = λ topo lines start whole here.
    cut_refusal topo c.args.core c.args.number c.args.fault start _ _ whole c.in-Err.end c.in-Err.ensures.part.0 c.in-Err.ensures.part.1 here
