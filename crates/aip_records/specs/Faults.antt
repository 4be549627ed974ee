-- The numbers of the faults.
use Rattle.std.specs.Prelude.{ℕ}
use Rattle.aip_records.specs.declared.faults.RecordFault.{RecordFault}
use Rattle.aip_records.specs.declared.faults.RecordFault.TheVariants as fault

-- the number that stands for a fault
abbrev pub number_of_fault : RecordFault → ℕ
number_of_fault fault.Form = 1
number_of_fault fault.Body = 2
number_of_fault fault.Stranger = 3
number_of_fault fault.Key = 4
number_of_fault fault.Signature = 5
number_of_fault (fault.Old kept) = 6
number_of_fault fault.Many = 7
number_of_fault fault.Long = 8
