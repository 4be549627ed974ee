use Rattle.std.proofs.lemmas.Result.{IfOk-weaker}
use Rattle.aip_core.proofs.Begins.{starts_at}
use Rattle.aip_core.proofs.engine.Core.new.Goals as goal

pub returns : goal.returns
returns c = IfOk-weaker c.start.result _ _ (λ core h. starts_at c.args.topology core c.requires h) c.start.ensures
