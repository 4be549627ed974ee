use Rattle.aip_replay.proofs.Whole.{opened_at}
use Rattle.aip_replay.proofs.replays.open.Goals as goal

pub returns-clause-judge : goal.returns-clause-judge
returns-clause-judge g c =
    opened_at (g.S.Shelf.text c.args.shelf.now c.args.name.now) c.in_ok-topology.topology _ c.in_ok-topology.ensures.read c.in_ok-topology.ensures.sound c.in_ok-core.ensures c.new-3.ensures
