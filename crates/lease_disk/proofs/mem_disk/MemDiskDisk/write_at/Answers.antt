use Rattle.std.proofs.Common.{is_ok}
use Rattle.lease_disk.specs.Call.{Write}
use Rattle.lease_disk.proofs.Model.{cause_of, write_crash, write_torn}
use Rattle.lease_disk.proofs.mem_disk.MemDiskDisk.write_at.Goals as goal

pub returns-clause-crash : goal.returns-clause-crash
returns-clause-crash c = write_crash c.args.self.now c.put.new.self c.args.at c.args.bytes.now (is_ok c.put.result) c.put.ensures.leads

pub returns-clause-cause : goal.returns-clause-cause
returns-clause-cause c = cause_of c.args.self.now c.put.new.self (Write c.args.at c.args.bytes.now) c.put.result c.put.ensures.leads

pub returns-clause-torn : goal.returns-clause-torn
returns-clause-torn c = write_torn c.args.self.now c.put.new.self c.args.at c.args.bytes.now (is_ok c.put.result) c.put.ensures.leads
