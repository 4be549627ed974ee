-- Laws of trace texts.
use Rattle.std.specs.Prelude.{◌≡◌, ℕ, List, ◌++◌, Some}
use Rattle.std.specs.List.{AllByRecursion}
use Rattle.aip_event.specs.declared.input.Input.{Input}
use Rattle.aip_event.specs.Lines.{IsInput}
use Rattle.aip_topo.specs.declared.topology.Topology.{Topology}
use Rattle.aip_topo.specs.Sound.{IsSound}
use Rattle.aip_rules.specs.declared.Entry.{Entry}
use Rattle.aip_rules.specs.Step.{trace_of}
use Rattle.aip_rules.specs.Texts.{ran, text_of}
use Rattle.aip_replay.specs.Answers.{IsRight}
use Rattle.aip_replay.specs.Texts.{Begins, IsTraceText}
use Rattle.aip_replay.specs.declared.ends.ReplayEnd.{ReplayEnd}

-- over a sound topology a first part of lines that begin a trace begins one
abbrev pub FirstPartsBegin : Type 0
FirstPartsBegin = (topo : Topology) → IsSound topo → (first more : List (List ℕ)) → Begins topo (first ++ more) → Begins topo first

-- over a sound topology at most one trace of inputs of the grammar has a given text
abbrev pub TextsHaveOneTrace : Type 0
TextsHaveOneTrace =
    (topo : Topology) → IsSound topo → (some others : List Input) (one other : List Entry) → AllByRecursion IsInput some → AllByRecursion IsInput others
    → trace_of topo some ≡ Some one → trace_of topo others ≡ Some other → text_of one ≡ text_of other → one ≡ other

-- over a sound topology what a run writes, its refusal line aside, is a trace text
abbrev pub RunsAreTraceTexts : Type 0
RunsAreTraceTexts = (topo : Topology) → IsSound topo → (schedule : List ℕ) → IsTraceText topo (text_of (ran topo schedule).trace)

-- for each file at most one answer is right
abbrev pub OneAnswerIsRight : Type 0
OneAnswerIsRight = (topo : Topology) (file : List ℕ) (one other : ReplayEnd) → IsRight topo file one → IsRight topo file other → one ≡ other
