use Rattle.lease_disk.proofs.Model.{looked}
use Rattle.lease_disk.proofs.mem_disk.MemDiskDisk.read.Goals as goal

pub returns-in_err-look-clause-cause : goal.returns-in_err-look-clause-cause
returns-in_err-look-clause-cause c = looked c.args.self.now c.look.new.self c.look.result _ c.from_residual.result c.look.ensures.leads c.in_err-look.was c.from_residual.ensures.0
