-- A whole workload.
use Rattle.std.proofs.Common.{◌≡◌, ℕ, List, [], Result, Ok, ap, sym, ◌∙◌}
use Rattle.aip_topo.specs.declared.topology.Topology.{Topology}
use Rattle.aip_topo.specs.Reading.{RefusedLine, topology_of}
use Rattle.aip_rules.specs.Texts.{EndedRun}
use Rattle.aip_make.specs.declared.lines.Course.{Course}
use Rattle.aip_make.specs.declared.summary.Summary.{Summary}
use Rattle.aip_make.specs.Ends.{IsAnswer, answer_to}
use Rattle.aip_make.specs.Making.{HasCome, IsOpened}
use Rattle.aip_make.specs.Summaries.{summary_of}
use Rattle.aip_make.specs.Workload.{made_from, made_over}

-- what was opened has come to its first line
pub at_first : (text : List ℕ) (state lines : ℕ) (course : Course) (opened : IsOpened text state course)
    → HasCome opened.topo course 0 lines (made_over (topology_of text) state lines)
at_first text state lines course opened = record {
  trace = [];
  stands = opened.stands;
  counted = opened.counted;
  rest =
      ap (λ s. made_from opened.topo [] s 0 lines) opened.words
      ∙ sym (ap (λ (r : Result Topology RefusedLine). made_over r state lines) opened.given);
}

-- as many lines are left, by another count
pub as_many : (topo : Topology) (course : Course) (index left other : ℕ) (whole : EndedRun) → left ≡ other → HasCome topo course index left whole → HasCome topo course index other whole
as_many topo course index left other whole same came = record {
  trace = came.trace;
  stands = came.stands;
  counted = came.counted;
  rest = ap (made_from topo came.trace course.words index) (sym same) ∙ came.rest;
}

-- where no line is left the answer is the summary
pub summed : (topo : Topology) (course : Course) (index left lines : ℕ) (whole : EndedRun) (summary : Summary) (came : HasCome topo course index left whole) → left ≡ 0
    → summary ≡ summary_of lines came.trace → IsAnswer (answer_to lines whole) (Ok summary)
summed topo course index left lines whole summary came none is =
    ap (answer_to lines) (sym came.rest ∙ ap (made_from topo came.trace course.words index) none) ∙ sym (ap Ok is)
