-- How a workload is answered.
use Rattle.std.specs.Prelude.{◌≡◌, ℕ, ⊤, Result, Ok, Err}
use Rattle.aip_topo.specs.declared.faults.TopoEnd.{TopoEnd}
use Rattle.aip_topo.specs.declared.faults.TopoEnd.TheVariants as topo_end
use Rattle.aip_rules.specs.Texts.{EndedRun}
use Rattle.aip_rules.specs.Texts as texts
use Rattle.aip_make.specs.declared.ends.MadeEnd.{MadeEnd}
use Rattle.aip_make.specs.declared.ends.MadeEnd.TheVariants as made_end
use Rattle.aip_make.specs.declared.summary.Summary.{Summary}
use Rattle.aip_make.specs.Summaries.{summary_of}

-- the answer where the topology's text gives none
abbrev pub end_without : TopoEnd → MadeEnd
end_without (topo_end.Line line f) = made_end.Topology line f
end_without topo_end.Memory = made_end.Memory

-- the answer to a run of so many lines that ends so: the summary of its trace where every line was taken, or what ended it
abbrev pub answer_by : ℕ → EndedRun → texts.Ending → Result Summary MadeEnd
answer_by lines ran texts.Done = Ok (summary_of lines ran.trace)
answer_by lines ran (texts.Topology_refused line f) = Err (made_end.Topology line f)
answer_by lines ran (texts.Schedule_refused line f) = Err (made_end.Schedule line f)

-- the answer to a run of so many lines
abbrev pub answer_to : ℕ → EndedRun → Result Summary MadeEnd
answer_to lines ran = answer_by lines ran ran.ending

-- it is answered this, or want of memory
abbrev pub IsAnswer : Result Summary MadeEnd → Result Summary MadeEnd → Type 0
IsAnswer right (Ok summary) = right ≡ Ok summary
IsAnswer right (Err made_end.Memory) = ⊤
IsAnswer right (Err (made_end.Topology line f)) = right ≡ Err (made_end.Topology line f)
IsAnswer right (Err (made_end.Schedule line f)) = right ≡ Err (made_end.Schedule line f)
