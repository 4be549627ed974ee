use Rattle.aip_core.proofs.Begins.{set_is_anew}
use Rattle.aip_core.proofs.routers.start_at.Goals as goal

pub returns : goal.returns
returns c = set_is_anew c.args.routers.now.items c.args.place c.index_mut.result.now c.restart.new.self c.requires.there c.index_mut.ensures.value c.restart.ensures
