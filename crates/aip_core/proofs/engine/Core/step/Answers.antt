use Rattle.std.proofs.lemmas.Result.{IfOk-weaker, IfErr-weaker}
use Rattle.aip_core.proofs.Correspond.{step_is, refusal_is}
use Rattle.aip_core.proofs.Modest.{step_puts, step_adds}
use Rattle.aip_core.proofs.engine.Core.step.Goals as goal

pub returns-clause-taken : goal.returns-clause-taken
returns-clause-taken c =
    IfOk-weaker c.take.result _ _ (λ taken h. step_is c.args.self c.args.input taken.0 taken.1 c.take.ensures.sound h) c.take.ensures.taken

pub returns-clause-refused : goal.returns-clause-refused
returns-clause-refused c = IfErr-weaker c.take.result _ _ (λ end h. refusal_is c.args.self c.args.input end h) c.take.ensures.refused

pub returns-clause-flights : goal.returns-clause-flights
returns-clause-flights c = IfOk-weaker c.take.result _ _ (λ taken h. step_adds c.args.self c.args.input taken.0 taken.1 h) c.take.ensures.taken

pub returns-clause-puts : goal.returns-clause-puts
returns-clause-puts c =
    IfOk-weaker c.take.result _ _ (λ taken h. step_puts c.args.self c.args.input taken.0 taken.1 c.take.ensures.sound c.take.ensures.seated h) c.take.ensures.taken
