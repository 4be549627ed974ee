use Rattle.std.proofs.Common.{◌⊎◌, inl, inr, subst}
use Rattle.fault_counts.specs.Causes.{Rose}
use Rattle.aip_sim.proofs.Running.{reads_on}
use Rattle.aip_top.proofs.RecordLists.{listed, unlisted}
use Rattle.aip_top.proofs.registry.registry.Goals as goal

pub returns-in-Ok-clause-told : goal.returns-in-Ok-clause-told
returns-in-Ok-clause-told g c =
    let old = g.S.Shelf.faults c.args.shelf.now in
    let new = g.S.Shelf.faults c.put_list.new.shelf in
    listed (g.S.Shelf.text c.args.shelf.now c.args.topology.now) (g.S.Shelf.text c.args.shelf.now c.args.records.now) (g.S.Shelf.text c.topology_under.new.shelf c.args.records.now) c.in-Ok.topology
    (Rose (old c.args.topology.now) (new c.args.topology.now) ⊎ Rose (old c.args.records.now) (new c.args.records.now)) (Rose (g.K.Sink.faults c.args.out.now) (g.K.Sink.faults c.put_list.new.out))
    c.put_list.result (g.K.Sink.taken c.args.out.now) (g.K.Sink.taken c.put_list.new.out) (c.in-Ok.ensures.text c.args.records.now) c.in-Ok.ensures.told c.put_list.ensures.writes
    (λ is.
    let rose = c.put_list.ensures.counts.rose is in
    inr (subst (λ name. Rose (old name) (new name)) rose.1.0 (subst (λ n. Rose n (new rose.0)) (c.in-Ok.ensures.counts.stay (λ failed. cc) rose.0) rose.1.1)))
    c.put_list.ensures.sink.rose

pub returns-in-Ok-clause-reads : goal.returns-in-Ok-clause-reads
returns-in-Ok-clause-reads g c =
    reads_on _ _ _ _ (g.S.Shelf.text c.args.shelf.now) (g.S.Shelf.text c.topology_under.new.shelf) (g.S.Shelf.faults c.args.shelf.now) (g.S.Shelf.faults c.topology_under.new.shelf) (g.S.Shelf.faults c.put_list.new.shelf)
    (λ name is. inr is) (λ failed. failed) (λ failed. failed) c.in-Ok.ensures.text (c.in-Ok.ensures.counts.stay (λ failed. cc)) c.put_list.ensures.counts

pub returns-in-Err-clause-told : goal.returns-in-Err-clause-told
returns-in-Err-clause-told g c =
    let old = g.S.Shelf.faults c.args.shelf.now in
    let new = g.S.Shelf.faults c.topology_under.new.shelf in
    unlisted (g.S.Shelf.text c.args.shelf.now c.args.topology.now) (g.S.Shelf.text c.args.shelf.now c.args.records.now)
    (Rose (old c.args.topology.now) (new c.args.topology.now) ⊎ Rose (old c.args.records.now) (new c.args.records.now)) (Rose (g.K.Sink.faults c.args.out.now) (g.K.Sink.faults c.args.out.now))
    c.in-Err.end (g.K.Sink.taken c.args.out.now) c.in-Err.ensures.told
    (λ is. let rose = c.in-Err.ensures.counts.rose (cc) in inl (subst (λ name. Rose (old name) (new name)) rose.1.0 rose.1.1))
