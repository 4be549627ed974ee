use Rattle.std.proofs.Common.{refl}
use Rattle.aip_core.proofs.Acting.{acts_in_core}
use Rattle.aip_core.proofs.engine.Core.act.Goals as goal

pub returns : goal.returns
returns c = λ host at.
    acts_in_core _ c.args.self.now _ c.args.input.now c.args.place c.act_at.result host c.self.view_is refl c.requires.named at (λ there. c.act_at.ensures.acts host there)
