use Rattle.std.proofs.Common.{◌≢◌, ◌^◌, ◌∙◌, arith}
use Rattle.leaf_lease.proofs.Files.{next_ready}
use Rattle.leaf_lease.proofs.leases.Leases.lease.Goals as goal

pub invariant_of-leases : goal.invariant_of-leases
invariant_of-leases g c =
    let self = c.args.self in
    let left : self.next ≢ 2 ^ self.height = λ is. c.if-self-leaf_count.false (is ∙ omega (arith, c.leaf_count.ensures.count)) in
    record {
      tall = self.tall;
      within = omega (arith, self.within);
      ready = next_ready (g.D.Disk.now self.disk) (g.D.Disk.now c.write_firm.new.disk) self.id self.height self.next c.in-Ok.ensures.content self.ready left;
    }
