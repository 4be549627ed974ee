-- What a made workload comes to, by its number.
use Rattle.std.specs.Prelude.{◌≡◌, ◌⊎◌, ℕ, ⊤, List, [], Result, Ok, Err}
use Rattle.std.proofs.Common.{Vec, Global}
use Rattle.aip_topo.specs.Reading.{topology_of}
use Rattle.aip_rules.specs.Texts.{ran_over}
use Rattle.aip_make.specs.declared.ends.MadeEnd.{MadeEnd}
use Rattle.aip_make.specs.declared.summary.Summary.{Summary}
use Rattle.aip_make.specs.Ends.{answer_to}
use Rattle.aip_make.specs.Schedules.{made_schedule}
use Rattle.aip_make.specs.Summaries.{summary_text}
use Rattle.aip_make.specs.Workload.{made_topology, made_lines}
use Rattle.aip_top.specs.Statuses.{status_without_summary}
use Rattle.aip_top.specs.declared.status.Status.{Status}
use Rattle.aip_top.specs.declared.status.Status.TheVariants as status

-- what an answer to a workload gives: the lines of its summary, or the status that refuses it
abbrev pub given_by : Result Summary MadeEnd → Result (List ℕ) Status
given_by (Ok summary) = Ok (summary_text summary)
given_by (Err end) = Err (status_without_summary end)

-- what workload number n gives: that of the run of two texts, of its topology and of the schedule of its lines
unfoldable pub workload : ℕ → Result (List ℕ) Status
workload n = given_by (answer_to made_lines (ran_over (topology_of (made_topology n)) (made_schedule n made_lines)))

-- how the writing of it ends
abbrev pub workload_end : Result (List ℕ) Status → Status
workload_end (Ok text) = status.Done
workload_end (Err end) = end

-- what is written: nothing where a line is refused
abbrev pub workload_text : Result (List ℕ) Status → List ℕ
workload_text (Ok text) = text
workload_text (Err end) = []

-- a line of the workload is refused
abbrev pub IsRefused : Result (List ℕ) Status → Type 0
IsRefused (Ok text) = ⊥
IsRefused (Err end) = ⊤

-- the text is that of the summary, or the status is what refuses the workload, or memory was wanting
abbrev pub IsSummed : Result (List ℕ) Status → Result (Vec ℕ Global) Status → Type 0
IsSummed expected (Ok text) = expected ≡ Ok text.items
IsSummed expected (Err end) = (end ≡ status.Memory) ⊎ (expected ≡ Err end)

-- the status comes before a summary is written: a line is refused, or memory was wanting
abbrev pub IsMadeEnd : Status → Type 0
IsMadeEnd (status.Topology line f) = ⊤
IsMadeEnd (status.Schedule line f) = ⊤
IsMadeEnd (status.Wrong line) = ⊥
IsMadeEnd status.Memory = ⊤
IsMadeEnd status.Done = ⊥
IsMadeEnd status.Usage = ⊥
IsMadeEnd status.ReadFault = ⊥
IsMadeEnd status.WriteFault = ⊥
IsMadeEnd status.DiskFault = ⊥
IsMadeEnd (status.Lease f) = ⊥
IsMadeEnd (status.Record line f) = ⊥
