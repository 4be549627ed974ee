use Rattle.std.proofs.Common.{is_ok}
use Rattle.lease_disk.specs.Call.{Sync}
use Rattle.lease_disk.proofs.Model.{cause_of, sync_crash, sync_firm, on_ok}
use Rattle.lease_disk.proofs.mem_disk.MemDiskDisk.sync.Goals as goal

pub returns-clause-crash : goal.returns-clause-crash
returns-clause-crash c = sync_crash c.args.self.now c.settle.new.self (is_ok c.settle.result) c.settle.ensures.leads

pub returns-clause-firm : goal.returns-clause-firm
returns-clause-firm c = on_ok c.settle.result _ (sync_firm c.args.self.now c.settle.new.self (is_ok c.settle.result) c.settle.ensures.leads)

pub returns-clause-cause : goal.returns-clause-cause
returns-clause-cause c = cause_of c.args.self.now c.settle.new.self Sync c.settle.result c.settle.ensures.leads
