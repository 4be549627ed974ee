use Rattle.std.proofs.Common.{refl}
use Rattle.aip_core.proofs.Published.{publishes_in_core}
use Rattle.aip_core.proofs.engine.Core.publish.Goals as goal

pub returns : goal.returns
returns c = publishes_in_core _ c.args.self.now _ c.args.bytes.now c.publish.result c.self.view_is refl c.publish.ensures
