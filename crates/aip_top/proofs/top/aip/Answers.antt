use Rattle.aip_top.specs.Words.{spelled, Lease, Record}
use Rattle.std.proofs.Common.{refl, sym}
use Rattle.aip_top.specs.Named.{leased_of, stated_of}
use Rattle.aip_top.proofs.Promised.{justified, silent, leaf_once, judged}
use Rattle.aip_top.proofs.top.aip.Goals as goal

pub returns-in-Some-Run-clause-justified : goal.returns-in-Some-Run-clause-justified
returns-in-Some-Run-clause-justified g c = justified (g.S.Shelf.text c.args.shelf.now) (spelled c.args.words.now)

pub returns-in-Some-Run-clause-silent : goal.returns-in-Some-Run-clause-silent
returns-in-Some-Run-clause-silent g c = silent (g.S.Shelf.text c.args.shelf.now) (spelled c.args.words.now)

pub returns-in-Some-Run-clause-leaf_once : goal.returns-in-Some-Run-clause-leaf_once
returns-in-Some-Run-clause-leaf_once g c = leaf_once (g.S.Shelf.text c.args.shelf.now) (spelled c.args.words.now)

pub returns-in-Some-Record-clause-topology : goal.returns-in-Some-Record-clause-topology
returns-in-Some-Record-clause-topology g c =
    let ended = c.issue-status in
    judged (spelled c.args.words.now) (Record (stated_of c.in-Some-Record.words)) c.as_str-topology-in-Some-Record.result.now _ (g.S.Shelf.text c.args.shelf.now)
    (g.S.Shelf.faults c.args.shelf.now) (g.S.Shelf.faults ended.new.shelf) _ _
    c.as_str-topology-in-Some-Record.ensures.value refl (sym (rw c.in-Some-Record.field-0-is at c.in-Some-Record.ensures)) ended.ensures.judged

pub returns-in-Some-Lease-clause-topology : goal.returns-in-Some-Lease-clause-topology
returns-in-Some-Lease-clause-topology g c =
    let ended = c.lease-status in
    judged (spelled c.args.words.now) (Lease (leased_of c.in-Some-Lease.words)) c.as_str-topology-in-Some-Lease.result.now _ (g.S.Shelf.text c.args.shelf.now)
    (g.S.Shelf.faults c.args.shelf.now) (g.S.Shelf.faults ended.new.shelf) _ _
    c.as_str-topology-in-Some-Lease.ensures.value refl (sym (rw c.in-Some-Lease.field-0-is at c.in-Some-Lease.ensures)) ended.ensures.judged
