-- What a status says of the end of a command.
use Rattle.std.specs.Prelude.{ℕ, Bool, true, false, Option}
use Rattle.aip_rules.specs.Texts.{Ending}
use Rattle.aip_sim.specs.Ends.{run_end_of}
use Rattle.aip_sim.specs.declared.ends.RunEnd.{RunEnd}
use Rattle.aip_sim.specs.declared.ends.RunEnd.TheVariants as run_end
use Rattle.aip_sim.specs.declared.topologies.TopologyEnd.{TopologyEnd}
use Rattle.aip_sim.specs.declared.topologies.TopologyEnd.TheVariants as topology_end
use Rattle.aip_records.specs.declared.faults.RecordsEnd.{RecordsEnd}
use Rattle.aip_records.specs.declared.faults.RecordsEnd.TheVariants as records_end
use Rattle.aip_top.specs.Words.{Command, is_run, is_lease, is_registry, is_record, is_replay, is_of_disk, is_no_command, is_any_command, is_never, is_scheduled, is_of_files}
use Rattle.aip_make.specs.declared.ends.MadeEnd.{MadeEnd}
use Rattle.aip_make.specs.declared.ends.MadeEnd.TheVariants as made_end
use Rattle.aip_top.specs.declared.status.Status.{Status}
use Rattle.aip_top.specs.declared.status.Status.TheVariants as status
use Rattle.aip_top.specs.declared.status.LeaseFault.TheVariants as fault

-- the exit code of a status
abbrev pub exit_code_of : Status → ℕ
exit_code_of status.Done = 0
exit_code_of status.Usage = 2
exit_code_of status.ReadFault = 3
exit_code_of status.WriteFault = 4
exit_code_of (status.Topology line f) = 5
exit_code_of (status.Schedule line f) = 6
exit_code_of (status.Wrong line) = 7
exit_code_of status.DiskFault = 8
exit_code_of status.Memory = 9
exit_code_of (status.Lease f) = 10
exit_code_of (status.Record line f) = 11

-- the status of an answer of a run
abbrev pub status_of_run : RunEnd → Status
status_of_run run_end.Done = status.Done
status_of_run run_end.ReadFault = status.ReadFault
status_of_run run_end.WriteFault = status.WriteFault
status_of_run (run_end.Topology line f) = status.Topology line f
status_of_run (run_end.Schedule line f) = status.Schedule line f
status_of_run run_end.Memory = status.Memory

-- the status that tells how a run ends
abbrev pub status_of : Ending → Status
status_of ending = status_of_run (run_end_of ending)

-- the status where no topology could be read
abbrev pub status_without : TopologyEnd → Status
status_without topology_end.ReadFault = status.ReadFault
status_without (topology_end.Refused line f) = status.Topology line f
status_without topology_end.Memory = status.Memory

-- the status where no records could be read
abbrev pub status_without_records : RecordsEnd → Status
status_without_records records_end.ReadFault = status.ReadFault
status_without_records (records_end.Refused line f) = status.Record line f
status_without_records records_end.Memory = status.Memory

-- the status of a made workload that has no summary
abbrev pub status_without_summary : MadeEnd → Status
status_without_summary (made_end.Topology line f) = status.Topology line f
status_without_summary (made_end.Schedule line f) = status.Schedule line f
status_without_summary made_end.Memory = status.Memory

-- What kind of answer a status is, whatever is told: the commands that it answers; those of them where bytes may have been
-- written by then, where the disk may have been met, and where a core comes back; whether it refuses a command by what the
-- topology says; and whether it is a fault of reading or writing or want of memory, which say nothing of the command's end.
pub record Kind : Type 0 where
  pub answers : Option Command → Bool
  pub writes : Option Command → Bool
  pub meets_disk : Option Command → Bool
  pub gives_core : Option Command → Bool
  pub refuses : Bool
  pub cuts_short : Bool

-- the kind of each status
abbrev pub kind_of : Status → Kind
kind_of status.Done = record { answers = is_any_command; writes = is_any_command; meets_disk = is_of_disk; gives_core = is_run; refuses = false; cuts_short = false }
kind_of status.Usage = record { answers = is_no_command; writes = is_never; meets_disk = is_never; gives_core = is_never; refuses = false; cuts_short = false }
kind_of status.ReadFault = record { answers = is_of_files; writes = is_run; meets_disk = is_never; gives_core = is_never; refuses = false; cuts_short = true }
kind_of status.WriteFault = record { answers = is_any_command; writes = is_any_command; meets_disk = is_of_disk; gives_core = is_never; refuses = false; cuts_short = true }
kind_of (status.Topology line f) = record { answers = is_any_command; writes = is_never; meets_disk = is_never; gives_core = is_never; refuses = true; cuts_short = false }
kind_of (status.Schedule line f) = record { answers = is_scheduled; writes = is_run; meets_disk = is_never; gives_core = is_run; refuses = false; cuts_short = false }
kind_of (status.Wrong line) = record { answers = is_replay; writes = is_replay; meets_disk = is_never; gives_core = is_never; refuses = false; cuts_short = false }
kind_of status.DiskFault = record { answers = is_of_disk; writes = is_never; meets_disk = is_of_disk; gives_core = is_never; refuses = false; cuts_short = false }
kind_of (status.Lease fault.Unknown) = record { answers = is_of_disk; writes = is_never; meets_disk = is_never; gives_core = is_never; refuses = true; cuts_short = false }
kind_of (status.Lease fault.Keyless) = record { answers = is_of_disk; writes = is_never; meets_disk = is_never; gives_core = is_never; refuses = true; cuts_short = false }
kind_of (status.Lease (fault.Already id height)) = record { answers = is_lease; writes = is_never; meets_disk = is_lease; gives_core = is_never; refuses = false; cuts_short = false }
kind_of (status.Lease (fault.Unformatted size gate)) = record { answers = is_record; writes = is_never; meets_disk = is_record; gives_core = is_never; refuses = false; cuts_short = false }
kind_of (status.Lease (fault.OtherKey id height)) = record { answers = is_record; writes = is_never; meets_disk = is_record; gives_core = is_never; refuses = false; cuts_short = false }
kind_of (status.Lease (fault.Dry height)) = record { answers = is_record; writes = is_never; meets_disk = is_record; gives_core = is_never; refuses = false; cuts_short = false }
kind_of (status.Record line f) = record { answers = is_registry; writes = is_never; meets_disk = is_never; gives_core = is_never; refuses = false; cuts_short = false }
kind_of status.Memory = record { answers = is_any_command; writes = is_run; meets_disk = is_record; gives_core = is_never; refuses = false; cuts_short = true }
