use Rattle.std.proofs.Common.{[], ◌∷◌, subst}
use Rattle.std.specs.Prelude.{not, Ok, Err}
use Rattle.lease_disk.specs.Call.{Len, Read, Sync}
use Rattle.lease_disk.specs.Calls.{Ran}
use Rattle.leaf_lease.specs.Ends.{opened_disk, open_failed}
use Rattle.leaf_lease.specs.LeaseFile.{file_size}
use Rattle.host_signer.proofs.signer.Signer.open.Goals as goal

-- the height that is opened is the tree's
pub returns-in-Ok-clause-calls : goal.returns-in-Ok-clause-calls
returns-in-Ok-clause-calls g c =
    subst
    (λ levels. Ran g.D.Disk.led c.args.disk (Sync ∷ Len ∷ Read 0 (file_size levels) ∷ [])
    (not (open_failed (Ok c.in-Ok.leases))) (opened_disk (Ok c.in-Ok.leases)))
    c.height_of.ensures c.in-Ok.ensures.calls

pub returns-in-Err-clause-calls : goal.returns-in-Err-clause-calls
returns-in-Err-clause-calls g c =
    subst
    (λ levels. Ran g.D.Disk.led c.args.disk (Sync ∷ Len ∷ Read 0 (file_size levels) ∷ [])
    (not (open_failed {G = g.D.Disk} (Err c.in-Err.end))) (opened_disk {G = g.D.Disk} (Err c.in-Err.end)))
    c.height_of.ensures c.in-Err.ensures.calls
