use Rattle.std.proofs.Common.{inl, inr, refl, subst}
use Rattle.fault_counts.specs.Causes.{Rose}
use Rattle.aip_sim.proofs.Running.{judges_opened, judges_unopened, reads_on, stood, unopened, wrote}
use Rattle.aip_sim.proofs.runs.run.Goals as goal

pub returns-in-Ok-clause-writes : goal.returns-in-Ok-clause-writes
returns-in-Ok-clause-writes g c =
    wrote (g.S.Shelf.text c.args.shelf.now c.args.topo.now) (g.S.Shelf.text c.args.shelf.now c.args.sched.now) (g.S.Shelf.text c.open.new.shelf c.args.sched.now)
    c.in-Ok.opened.core c.play.result.0 c.play.result.1 (g.K.Sink.taken c.args.out.now) (g.K.Sink.taken c.play.new.out) (c.in-Ok.ensures.text c.args.sched.now) c.in-Ok.ensures.core c.play.ensures.told

pub returns-in-Ok-clause-topology : goal.returns-in-Ok-clause-topology
returns-in-Ok-clause-topology g c =
    judges_opened (g.S.Shelf.text c.args.shelf.now c.args.topo.now) c.in-Ok.opened.core _ _ c.play.result.0 c.in-Ok.ensures.core c.play.ensures.topology

pub returns-in-Ok-clause-stands : goal.returns-in-Ok-clause-stands
returns-in-Ok-clause-stands g c =
    stood (g.S.Shelf.text c.args.shelf.now c.args.topo.now) (g.S.Shelf.text c.args.shelf.now c.args.sched.now) (g.S.Shelf.text c.open.new.shelf c.args.sched.now)
    c.in-Ok.opened.core c.play.result.0 c.play.result.1 (g.K.Sink.taken c.args.out.now) (g.K.Sink.taken c.play.new.out) (c.in-Ok.ensures.text c.args.sched.now) c.in-Ok.ensures.core c.play.ensures.told

pub returns-in-Ok-clause-counts : goal.returns-in-Ok-clause-counts
returns-in-Ok-clause-counts g c =
    reads_on _ _ _ _ (g.S.Shelf.text c.args.shelf.now) (g.S.Shelf.text c.open.new.shelf) (g.S.Shelf.faults c.args.shelf.now) (g.S.Shelf.faults c.open.new.shelf) (g.S.Shelf.faults c.play.new.shelf)
    (λ name is. inr is) (λ failed. failed) (λ failed. failed) c.in-Ok.ensures.text (c.in-Ok.ensures.counts.stay (λ failed. cc)) c.play.ensures.counts

pub returns-in-Err-clause-writes : goal.returns-in-Err-clause-writes
returns-in-Err-clause-writes g c =
    unopened (g.S.Shelf.text c.args.shelf.now c.args.topo.now) (g.S.Shelf.text c.args.shelf.now c.args.sched.now) c.in-Err.end (g.K.Sink.taken c.args.out.now) c.in-Err.ensures.refused

pub returns-in-Err-clause-topology : goal.returns-in-Err-clause-topology
returns-in-Err-clause-topology g c =
    judges_unopened (g.S.Shelf.text c.args.shelf.now c.args.topo.now) _ _ c.in-Err.end refl
    (λ is. let rose = c.in-Err.ensures.counts.rose (cc) in subst (λ name. Rose (g.S.Shelf.faults c.args.shelf.now name) (g.S.Shelf.faults c.open.new.shelf name)) rose.1.0 rose.1.1)
    c.in-Err.ensures.written c.in-Err.ensures.refused

pub returns-in-Err-clause-counts : goal.returns-in-Err-clause-counts
returns-in-Err-clause-counts g c =
    reads_on _ _ _ _ (g.S.Shelf.text c.args.shelf.now) (g.S.Shelf.text c.args.shelf.now) (g.S.Shelf.faults c.args.shelf.now) (g.S.Shelf.faults c.args.shelf.now) (g.S.Shelf.faults c.open.new.shelf)
    (λ name is. inl is) (λ failed. cc) (λ failed. cc) (λ name. refl) (λ name. refl) c.in-Err.ensures.counts
