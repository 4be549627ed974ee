use Rattle.std.proofs.Common.{◌≡◌, ℕ, List, Some, sym, subst}
use Rattle.lease_disk.specs.MemDisk.{DiskState, MayLeave, told_of}
use Rattle.shutoff_filter.specs.FilterFile.{IsFilterOf}
use Rattle.shutoff_filter.proofs.store.FilterStore+MemDisk.stop_at.Goals as goal

pub invariant_of-self : goal.invariant_of-self
invariant_of-self c =
    let self = c.args.self.now in
    record {
      firm = subst (λ (disk : DiskState). (image : List ℕ) → MayLeave disk image → told_of disk ≡ Some image) (sym c.stop_at.ensures.armed) self.firm;
      same = subst (λ (disk : DiskState). (file : List ℕ) → told_of disk ≡ Some file → IsFilterOf self.slots.room self.slots.slots.items file) (sym c.stop_at.ensures.armed) self.same;
      closed = self.closed;
    }
