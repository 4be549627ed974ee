-- The trace of a run is that of the inputs on the lines before the one that ends it.
use Rattle.std.proofs.Common.{◌≡◌, ℕ, suc, ◌+◌, ◌-◌, ◌≤◌, Bool, true, false, cond, List, [], ◌∷◌, ◌++◌, take, Option, Some, None, Result, Ok, Err, refl, ap, ◌∙◌, arith}
use Rattle.aip_text.specs.Lines.{lines_of, is_skipped}
use Rattle.aip_event.specs.declared.event.Event.{Event}
use Rattle.aip_event.specs.declared.input.Input.{Input}
use Rattle.aip_event.specs.Reading.{input_of}
use Rattle.aip_topo.specs.declared.topology.Topology.{Topology}
use Rattle.aip_rules.specs.declared.Entry.{Entry}
use Rattle.aip_rules.specs.declared.StepFault.{StepFault}
use Rattle.aip_rules.specs.declared.StepFault.TheVariants as fault
use Rattle.aip_rules.specs.Step.{step_of, after_step, trace_from, goes_on}
use Rattle.aip_rules.specs.Texts.{Ending, Done, Topology_refused, Schedule_refused, EndedRun, scheduled, input_or_form, by_step, by_line, ran_from, lines_before, inputs_in_line, inputs_in, IsTraceOfLines}

-- the run ends at a line from this one on, or at none
abbrev pub EndsFrom : ℕ → Ending → Type 0
EndsFrom number Done = Unit {0}
EndsFrom number (Schedule_refused line f) = number ≤ line
EndsFrom number (Topology_refused line f) = ⊥

-- a run from a trace on over these lines: it ends at one of them or at none, and its trace is that of their inputs
pub record IsOfLines (topo : Topology) (tr : List Entry) (number : ℕ) (lines : List (List ℕ)) (r : EndedRun) : Type 0 where
  pub ends : EndsFrom number r.ending
  pub trace : trace_from topo tr (inputs_in (lines_before number r.ending lines)) ≡ Some r.trace

-- a run that ends at its first line has taken no input
at_once : (topo : Topology) (tr : List Entry) (number : ℕ) (lines : List (List ℕ)) → trace_from topo tr (inputs_in (take (number - number) lines)) ≡ Some tr
at_once topo tr number lines =
    let none : number - number ≡ 0 = omega arith in
    ap (λ n. trace_from topo tr (inputs_in (take n lines))) none

refused_at : (topo : Topology) (tr : List Entry) (number : ℕ) (lines : List (List ℕ)) (f : StepFault)
    → IsOfLines topo tr number lines (record { trace = tr; ending = Schedule_refused number f })
refused_at topo tr number lines f = record { ends = omega arith; trace = at_once topo tr number lines }

-- the lines before the end, where the first is before it
first_before : (number : ℕ) (ending : Ending) (line : List ℕ) (lines : List (List ℕ)) → EndsFrom (number + 1) ending
    → lines_before number ending (line ∷ lines) ≡ line ∷ lines_before (number + 1) ending lines
first_before number Done line lines h = refl
first_before number (Schedule_refused at f) line lines h =
    let more : at - number ≡ suc (at - (number + 1)) = omega arith in ap (λ n. take n (line ∷ lines)) more
first_before number (Topology_refused at f) line lines h = absurd h

earlier : (number : ℕ) (ending : Ending) → EndsFrom (number + 1) ending → EndsFrom number ending
earlier number Done h = tt
earlier number (Schedule_refused at f) h = omega arith
earlier number (Topology_refused at f) h = h

-- the inputs of one line
abbrev pub inputs_at : List ℕ → List Input
inputs_at line = cond (is_skipped line) [] (inputs_in_line (input_of line))

-- a run over a line and more, where the inputs of the line lead from one trace to the other
with_line : (topo : Topology) (tr after : List Entry) (number : ℕ) (line : List ℕ) (lines : List (List ℕ)) (r : EndedRun)
    → ((rest : List Input) → trace_from topo tr (inputs_at line ++ rest) ≡ trace_from topo after rest)
    → IsOfLines topo after (number + 1) lines r → IsOfLines topo tr number (line ∷ lines) r
with_line topo tr after number line lines r goes h = record {
  ends = earlier number r.ending h.ends;
  trace =
      ap (λ (ls : List (List ℕ)). trace_from topo tr (inputs_in ls)) (first_before number r.ending line lines h.ends)
      ∙ (goes (inputs_in (lines_before (number + 1) r.ending lines)) ∙ h.trace);
}

-- where no test refuses a line, it is skipped or an input
skipped_by : (many long return skip : Bool) (o : Option Input)
    → cond many (Err fault.Many) (cond long (Err fault.Long) (cond return (Err fault.Form) (cond skip (Ok None) (input_or_form o)))) ≡ Ok None → skip ≡ true
skipped_by true long return skip o e = cc
skipped_by false true return skip o e = cc
skipped_by false false true skip o e = cc
skipped_by false false false true o e = refl
skipped_by false false false false None e = cc
skipped_by false false false false (Some input) e = cc

input_by : (many long return skip : Bool) (o : Option Input) (input : Input)
    → cond many (Err fault.Many) (cond long (Err fault.Long) (cond return (Err fault.Form) (cond skip (Ok None) (input_or_form o)))) ≡ Ok (Some input)
    → (skip ≡ false) × (o ≡ Some input)
input_by true long return skip o input e = cc
input_by false true return skip o input e = cc
input_by false false true skip o input e = cc
input_by false false false true o input e = cc
input_by false false false false None input e = cc
input_by false false false false (Some other) input e = (refl, cc)

-- what follows a step that was taken
goes_with : (topo : Topology) (tr : List Entry) (line : List ℕ) (input : Input) (events : List Event)
    → is_skipped line ≡ false → input_of line ≡ Some input → step_of topo tr input ≡ Ok events
    → (rest : List Input) → trace_from topo tr (inputs_at line ++ rest) ≡ trace_from topo (after_step tr input events) rest
goes_with topo tr line input events shown read taken rest =
    ap (λ b. trace_from topo tr (cond b [] (inputs_in_line (input_of line)) ++ rest)) shown
    ∙ (ap (λ (o : Option Input). trace_from topo tr (inputs_in_line o ++ rest)) read
    ∙ ap (λ (r : Result (List Event) StepFault). goes_on r (λ events. trace_from topo (after_step tr input events) rest)) taken)

-- a skipped line has no input
goes_past : (topo : Topology) (tr : List Entry) (line : List ℕ) → is_skipped line ≡ true
    → (rest : List Input) → trace_from topo tr (inputs_at line ++ rest) ≡ trace_from topo tr rest
goes_past topo tr line skipped rest =
    ap (λ b. trace_from topo tr (cond b [] (inputs_in_line (input_of line)) ++ rest)) skipped

-- the run of the lines that are left
abbrev pub left : Topology → ℕ → List (List ℕ) → List Entry → EndedRun
left topo number lines after = ran_from topo after (number + 1) lines

module _ (topo : Topology) (tr : List Entry) (number : ℕ) (line : List ℕ) (lines : List (List ℕ)) (go : List Entry → EndedRun) (more : (after : List Entry) → IsOfLines topo after (number + 1) lines (go after)) where
  by_taken : (input : Input) → is_skipped line ≡ false → input_of line ≡ Some input → (step : Result (List Event) StepFault) → step_of topo tr input ≡ step
      → IsOfLines topo tr number (line ∷ lines) (by_step tr number input go step)
  by_taken input shown read (Ok events) e =
      with_line topo tr (after_step tr input events) number line lines (go (after_step tr input events)) (goes_with topo tr line input events shown read e) (more (after_step tr input events))
  by_taken input shown read (Err f) e = refused_at topo tr number (line ∷ lines) f

  by_scheduled : (found : Result (Option Input) StepFault) → scheduled number line ≡ found → IsOfLines topo tr number (line ∷ lines) (by_line topo tr number go found)
  by_scheduled (Err f) e = refused_at topo tr number (line ∷ lines) f
  by_scheduled (Ok None) e =
      with_line topo tr tr number line lines (go tr) (goes_past topo tr line (skipped_by _ _ _ _ (input_of line) e)) (more tr)
  by_scheduled (Ok (Some input)) e =
      let is = input_by _ _ _ (is_skipped line) (input_of line) input e in by_taken input is.0 is.1 (step_of topo tr input) refl

of_from : (topo : Topology) (tr : List Entry) (number : ℕ) (lines : List (List ℕ)) → IsOfLines topo tr number lines (ran_from topo tr number lines)
of_from topo tr number [] = record { ends = tt; trace = refl }
of_from topo tr number (line ∷ lines) =
    by_scheduled topo tr number line lines (left topo number lines) (λ after. of_from topo after (number + 1) lines) (scheduled number line) refl

pub of_lines : (topo : Topology) (schedule : List ℕ) → IsTraceOfLines topo schedule
of_lines topo schedule = (of_from topo [] 1 (lines_of schedule)).trace
