-- The text of a trace over a sound topology is a trace text, so that what a run writes is one.
use Rattle.std.proofs.Common.{◌≡◌, ℕ, ◌≤◌, cond, List, [], ◌∷◌, length, Option, Some, None, refl, sym, ap, ◌∙◌, subst}
use Rattle.std.specs.List.{AllByRecursion}
use Rattle.std.proofs.lemmas.Bool.{cond_both}
use Rattle.std.proofs.lemmas.List.{append-nil}
use Rattle.aip_text.specs.Lines.{is_skipped, lines_of, most_line_bytes}
use Rattle.aip_event.specs.declared.input.Input.{Input}
use Rattle.aip_event.specs.Lines.{IsInput}
use Rattle.aip_event.specs.Reading.{input_of}
use Rattle.aip_event.proofs.InputLaws.{input_found}
use Rattle.aip_topo.specs.Sound.{IsSound}
use Rattle.aip_topo.specs.declared.topology.Topology.{Topology}
use Rattle.aip_rules.specs.declared.Entry.{Entry}
use Rattle.aip_rules.specs.Step.{trace_of}
use Rattle.aip_rules.specs.Texts.{inputs_in, inputs_in_line, lines_before, ran, text_of}
use Rattle.aip_rules.proofs.Lines.{of_lines}
use Rattle.aip_replay.specs.Laws.{RunsAreTraceTexts}
use Rattle.aip_replay.specs.Marks.{shown}
use Rattle.aip_replay.specs.Texts.{IsTraceLine, IsTraceText, text_of_lines}
use Rattle.aip_replay.proofs.Feeds.{all_append, all_weaker, lines_of_text}
use Rattle.aip_replay.proofs.Marks.{text_shown}
use Rattle.aip_replay.proofs.Plain.{plain_shown}
use Rattle.aip_replay.proofs.Prefix.{shown_one}
use Rattle.aip_replay.proofs.Traces.{few}

-- the lines of the text of a trace are the trace's
pub lines_shown : (topo : Topology) → IsSound topo → (inputs : List Input) (tr : List Entry) → AllByRecursion IsInput inputs → trace_of topo inputs ≡ Some tr → lines_of (text_of tr) ≡ shown tr
lines_shown topo sound inputs tr formed given =
    ap lines_of (text_shown tr ∙ sym (append-nil (text_of_lines (shown tr)))) ∙ lines_of_text (shown tr) [] (shown_one topo sound inputs tr formed given) ∙ append-nil (shown tr)

-- the text of a trace of inputs of the grammar is a trace text
pub trace_text : (topo : Topology) → IsSound topo → (inputs : List Input) (tr : List Entry) → AllByRecursion IsInput inputs → trace_of topo inputs ≡ Some tr → IsTraceText topo (text_of tr)
trace_text topo sound inputs tr formed given = record {
  inputs = inputs;
  formed = formed;
  few = few topo inputs tr given;
  trace = tr;
  given = given;
  text = refl;
  short =
      subst (λ (ls : List (List ℕ)). AllByRecursion (λ line. length line ≤ most_line_bytes) ls) (sym (lines_shown topo sound inputs tr formed given))
      (all_weaker IsTraceLine (λ line. length line ≤ most_line_bytes) (shown tr) (λ line is. is.short) (plain_shown topo sound inputs tr formed given));
}

line_formed : (line : List ℕ) (o : Option Input) → input_of line ≡ o → AllByRecursion IsInput (inputs_in_line o)
line_formed line None read = tt
line_formed line (Some input) read = ((input_found line input read).0, tt)

-- the inputs on the lines of a schedule are of the grammar
schedule_formed : (lines : List (List ℕ)) → AllByRecursion IsInput (inputs_in lines)
schedule_formed [] = tt
schedule_formed (line ∷ lines) =
    all_append IsInput (cond (is_skipped line) [] (inputs_in_line (input_of line))) (inputs_in lines)
    (cond_both (is_skipped line) [] (inputs_in_line (input_of line)) (AllByRecursion IsInput) (λ e. tt) (λ e. line_formed line (input_of line) refl))
    (schedule_formed lines)

-- what a run writes is a trace text
pub runs_are : RunsAreTraceTexts
runs_are = λ topo sound schedule.
    let lines = lines_before 1 (ran topo schedule).ending (lines_of schedule) in
    trace_text topo sound (inputs_in lines) (ran topo schedule).trace (schedule_formed lines) (of_lines topo schedule)
