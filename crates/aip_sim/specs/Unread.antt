-- Why no topology could be read, by what its readers say.
use Rattle.aip_io.specs.declared.shelf.ReadEnd.{ReadEnd}
use Rattle.aip_io.specs.declared.shelf.ReadEnd.TheVariants as unread
use Rattle.aip_topo.specs.declared.faults.TopoEnd.{TopoEnd}
use Rattle.aip_topo.specs.declared.faults.TopoEnd.TheVariants as refused
use Rattle.aip_sim.specs.declared.topologies.TopologyEnd.{TopologyEnd}
use Rattle.aip_sim.specs.declared.topologies.TopologyEnd.TheVariants.{ReadFault, Refused, Memory}

-- the file couldn't be read, or there was no memory for it
abbrev pub topology_unread : ReadEnd → TopologyEnd
topology_unread unread.Failed = ReadFault
topology_unread unread.Memory = Memory

-- a line is refused, or there was no memory
abbrev pub topology_refused : TopoEnd → TopologyEnd
topology_refused (refused.Line line f) = Refused line f
topology_refused refused.Memory = Memory
