use Rattle.std.proofs.Common.{subst}
use Rattle.fault_counts.specs.Causes.{Rose}
use Rattle.aip_top.proofs.Early.{unaddressed}
use Rattle.aip_top.proofs.address.address.Goals as goal

pub returns-in-Err-clause-told : goal.returns-in-Err-clause-told
returns-in-Err-clause-told g c =
    let old = g.S.Shelf.faults c.args.shelf.now in
    let new = g.S.Shelf.faults c.addresses_in.new.shelf in
    unaddressed (g.S.Shelf.text c.args.shelf.now c.args.topology.now) (Rose (old c.args.topology.now) (new c.args.topology.now)) (Rose (g.K.Sink.faults c.args.out.now) (g.K.Sink.faults c.args.out.now))
    c.in-Err.end (g.K.Sink.taken c.args.out.now) c.in-Err.ensures.ended
    (λ is. let rose = c.in-Err.ensures.counts.rose (cc) in subst (λ name. Rose (old name) (new name)) rose.1.0 rose.1.1)
