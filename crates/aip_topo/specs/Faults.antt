-- The numbers of the faults.
use Rattle.std.specs.Prelude.{ℕ}
use Rattle.aip_topo.specs.declared.faults.TopoFault.{TopoFault}
use Rattle.aip_topo.specs.declared.faults.TopoFault.TheVariants as fault

-- the number that stands for a fault
abbrev pub number_of_fault : TopoFault → ℕ
number_of_fault fault.Form = 1
number_of_fault fault.Twice = 2
number_of_fault fault.Unknown = 3
number_of_fault fault.Range = 4
number_of_fault fault.Twin = 5
number_of_fault fault.Many = 6
number_of_fault fault.Long = 7
