use Rattle.std.proofs.Common.{◌≡◌, ℕ, List, Some, sym, subst}
use Rattle.std.specs.Prelude.{Result, Ok, Err, OnOk, OnErr}
use Rattle.lease_disk.specs.MemDisk.{DiskState, MayLeave, reserved, told_of}
use Rattle.shutoff_filter.specs.FilterFile.{IsFilterOf}
use Rattle.shutoff_filter.proofs.store.FilterStore+MemDisk.reserve.Goals as goal

-- what holds of the disk, reserved or not, holds of the new one
either : {T E : Type 0} (result : Result T E) (old new : DiskState) (calls bytes : ℕ) (P : DiskState → Type 0) → OnOk result (new ≡ reserved old calls bytes) → OnErr result (new ≡ old) → P (reserved old calls bytes) → P old → P new
either (Ok value) old new calls bytes P ok err there here = subst P (sym ok) there
either (Err error) old new calls bytes P ok err there here = subst P (sym err) here

pub invariant_of-self : goal.invariant_of-self
invariant_of-self c =
    let self = c.args.self.now in
    record {
      firm = either c.reserve.result self.disk c.reserve.new.self c.args.calls c.args.bytes (λ disk. (image : List ℕ) → MayLeave disk image → told_of disk ≡ Some image) c.reserve.ensures.ok c.reserve.ensures.err self.firm self.firm;
      same = either c.reserve.result self.disk c.reserve.new.self c.args.calls c.args.bytes (λ disk. (file : List ℕ) → told_of disk ≡ Some file → IsFilterOf self.slots.room self.slots.slots.items file) c.reserve.ensures.ok c.reserve.ensures.err self.same self.same;
      closed = self.closed;
    }
