use Rattle.std.proofs.Common.{refl}
use Rattle.aip_sim.proofs.Running.{opened_at, reads_on}
use Rattle.aip_sim.proofs.runs.open.Goals as goal

pub returns-clause-core : goal.returns-clause-core
returns-clause-core g c =
    opened_at (g.S.Shelf.text c.args.shelf.now c.args.name.now) c.in_ok-topology.topology c.in_ok-core.core c.in_ok-topology.ensures.read
    c.in_ok-core.ensures

pub returns-clause-counts : goal.returns-clause-counts
returns-clause-counts g c =
    reads_on _ _ _ _ (g.S.Shelf.text c.args.shelf.now) (g.S.Shelf.text c.args.shelf.now) (g.S.Shelf.faults c.args.shelf.now) (g.S.Shelf.faults c.args.shelf.now) (g.S.Shelf.faults c.read_topology.new.shelf)
    (λ name is. is) (λ failed. cc) (λ failed. cc) (λ name. refl) (λ name. refl) c.in_ok-topology.ensures.counts
