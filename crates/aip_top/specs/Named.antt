-- What a command names, seen by the bytes of its words.
use Rattle.std.specs.Prelude.{string_bytes}
use Rattle.aip_top.specs.Words.{Files, Leased, RecordFiles, Stated, TraceFiles, Command, Run, Address, Lease, Registry, Record, Replay, Make}
use Rattle.aip_top.specs.declared.command.RunWords.{RunWords}
use Rattle.aip_top.specs.declared.command.LeaseWords.{LeaseWords}
use Rattle.aip_top.specs.declared.command.RegistryWords.{RegistryWords}
use Rattle.aip_top.specs.declared.command.RecordWords.{RecordWords}
use Rattle.aip_top.specs.declared.command.ReplayWords.{ReplayWords}
use Rattle.aip_top.specs.declared.command.Command as words
use Rattle.aip_top.specs.declared.command.Command.TheVariants as command

-- the two files that a run names
abbrev pub files_of : RunWords → Files
files_of words = record { topology = string_bytes words.topology.now; schedule = string_bytes words.schedule.now }

-- the file and the domain that a lease names
abbrev pub leased_of : LeaseWords → Leased
leased_of words = record { topology = string_bytes words.topology.now; domain = words.domain }

-- the two files that a registry names
abbrev pub record_files_of : RegistryWords → RecordFiles
record_files_of words = record { topology = string_bytes words.topology.now; records = string_bytes words.records.now }

-- the file that a record names, and what it is to say
abbrev pub stated_of : RecordWords → Stated
stated_of words = record { topology = string_bytes words.topology.now; said = words.said }

-- the two files that a replay names
abbrev pub trace_files_of : ReplayWords → TraceFiles
trace_files_of words = record { topology = string_bytes words.topology.now; trace = string_bytes words.trace.now }

-- the command that was read
abbrev pub named : words.Command → Command
named (command.Run words) = Run (files_of words)
named (command.Address topology) = Address (string_bytes topology.now)
named (command.Lease words) = Lease (leased_of words)
named (command.Registry words) = Registry (record_files_of words)
named (command.Record words) = Record (stated_of words)
named (command.Replay words) = Replay (trace_files_of words)
named (command.Make number) = Make number
