-- One line of a schedule, taken.
use Rattle.std.proofs.Common.{◌≡◌, ◌≢◌, ◌≤◌, arith, ◌⊎◌, inl, inr, ℕ, ◌+◌, Bool, true, false, cond, List, [], ◌∷◌, ◌++◌, Option, Some, None, Ok, Err, refl, ap, sym, ◌∙◌, subst, append_assoc}
use Rattle.std.specs.Prelude.{IfSome, Result}
use Rattle.std.proofs.lemmas.List.{append-nil}
use Rattle.fault_counts.specs.Causes.{HasCause}
use Rattle.aip_io.specs.Sink.{and_then, and_then-and_then, TookPart, TookPart-after, TookPart-longer}
use Rattle.aip_event.specs.declared.event.Event.{Event}
use Rattle.aip_event.specs.declared.input.Input.{Input}
use Rattle.aip_event.specs.Lines.{input_line}
use Rattle.aip_topo.specs.declared.topology.Topology.{Topology}
use Rattle.aip_rules.specs.declared.Entry.{Entry}
use Rattle.aip_rules.specs.declared.StepFault.{StepFault}
use Rattle.aip_rules.specs.Step.{step_of, after_step}
use Rattle.aip_rules.specs.Texts.{Ending, EndedRun, by_line, by_step, ran_from, scheduled, text_of, text_of_run, ending_text, refusal_line}
use Rattle.aip_rules.specs.Texts as texts
use Rattle.aip_rules.proofs.StepTexts.{text_after}
use Rattle.aip_core.specs.Kept.{Kept}
use Rattle.aip_core.specs.StandsFor.{StandsFor, IsStep}
use Rattle.aip_core.specs.Answers.{IsRefusal}
use Rattle.aip_core.specs.declared.ends.StepEnd.TheVariants as step_end
use Rattle.aip_sim.specs.declared.ends.RunEnd.{RunEnd}
use Rattle.aip_sim.specs.declared.ends.RunEnd.TheVariants as run_end
use Rattle.aip_sim.specs.Ends.{IsCutShort, run_end_of}
use Rattle.aip_sim.specs.Runs.{Writes}
use Rattle.aip_sim.specs.Schedules.{IsNextOf}
use Rattle.aip_sim.specs.declared.schedules.Scheduled.TheVariants as scheduled_as
use Rattle.aip_sim.specs.declared.turns.Turn.{Turn}
use Rattle.aip_sim.specs.Turns.{HasCome, HasEnded, IsRefusedHere, IsStepped, IsTurn, step_text}

-- ## Texts

-- the text after a step, the line of whose input was read
text_after_line : (tr : List Entry) (input : Input) (line : List ℕ) (events : List Event) → line ≡ input_line input
    → text_of (after_step tr input events) ≡ text_of tr ++ step_text line events
text_after_line tr input line events spelled = text_after tr input events ∙ ap (λ l. text_of tr ++ step_text l events) (sym spelled)

-- ## What a line leads to

-- the run of the lines behind this one
abbrev behind : Topology → ℕ → List (List ℕ) → List Entry → EndedRun
behind topo number lines after = ran_from topo after (number + 1) lines

-- a line leads to what comes of what it is
ran_line : (topo : Topology) (tr : List Entry) (number : ℕ) (line : List ℕ) (lines : List (List ℕ)) (r : Result (Option Input) StepFault) → scheduled number line ≡ r
    → ran_from topo tr number (line ∷ lines) ≡ by_line topo tr number (behind topo number lines) r
ran_line topo tr number line lines r read = ap (by_line topo tr number (behind topo number lines)) read

-- a line that is an input leads to what comes of its step
ran_input : (topo : Topology) (tr : List Entry) (number : ℕ) (line : List ℕ) (lines : List (List ℕ)) (input : Input) → scheduled number line ≡ Ok (Some input)
    → ran_from topo tr number (line ∷ lines) ≡ by_step tr number input (behind topo number lines) (step_of topo tr input)
ran_input topo tr number line lines input read = ran_line topo tr number line lines (Ok (Some input)) read

-- ## The rest of a run lengthens its text

-- one text is a first part of the other
record Begins (first whole : List ℕ) : Type 0 where
  more : List ℕ
  joined : whole ≡ first ++ more

-- the text of a run that ends at a trace begins with the text of the trace
ends_at : (tr : List Entry) (ending : Ending) → Begins (text_of tr) (text_of_run (record { trace = tr; ending = ending }))
ends_at tr ending = record { more = ending_text ending; joined = refl }

begins_after : (tr : List Entry) (input : Input) (events : List Event) (whole : List ℕ) → Begins (text_of (after_step tr input events)) whole → Begins (text_of tr) whole
begins_after tr input events whole b = record {
  more = step_text (input_line input) events ++ b.more;
  joined = b.joined ∙ ap (λ t. t ++ b.more) (text_after_line tr input (input_line input) events refl) ∙ append_assoc (text_of tr) (step_text (input_line input) events) b.more;
}

step_lengthens : (tr : List Entry) (number : ℕ) (input : Input) (go : List Entry → EndedRun) (r : Result (List Event) StepFault)
    → ((after : List Entry) → Begins (text_of after) (text_of_run (go after))) → Begins (text_of tr) (text_of_run (by_step tr number input go r))
step_lengthens tr number input go (Ok events) rest = begins_after tr input events _ (rest (after_step tr input events))
step_lengthens tr number input go (Err f) rest = ends_at tr (texts.Schedule_refused number f)

line_lengthens : (topo : Topology) (tr : List Entry) (number : ℕ) (go : List Entry → EndedRun) (r : Result (Option Input) StepFault)
    → ((after : List Entry) → Begins (text_of after) (text_of_run (go after))) → Begins (text_of tr) (text_of_run (by_line topo tr number go r))
line_lengthens topo tr number go (Err f) rest = ends_at tr (texts.Schedule_refused number f)
line_lengthens topo tr number go (Ok None) rest = rest tr
line_lengthens topo tr number go (Ok (Some input)) rest = step_lengthens tr number input go (step_of topo tr input) rest

lengthens : (topo : Topology) (tr : List Entry) (number : ℕ) (lines : List (List ℕ)) → Begins (text_of tr) (text_of_run (ran_from topo tr number lines))
lengthens topo tr number [] = ends_at tr texts.Done
lengthens topo tr number (line ∷ lines) =
    line_lengthens topo tr number (behind topo number lines) (scheduled number line) (λ after. lengthens topo after (number + 1) lines)

-- what was taken with a first part of what comes next is a first part of the whole
part_of : (start mid now : Option (List ℕ)) (first next more whole : List ℕ) → mid ≡ and_then start first → TookPart mid now next → whole ≡ first ++ (next ++ more) → TookPart start now whole
part_of start mid now first next more whole took part is =
    subst (TookPart start now) (append_assoc first next more ∙ sym is) (TookPart-longer start now (first ++ next) more (TookPart-after start mid now first next took part))

-- how a run ends is never a fault or want of memory
pub not_cut_short : (e : Ending) → IsCutShort (run_end_of e) → ⊥
not_cut_short texts.Done h = h
not_cut_short (texts.Topology_refused line f) h = h
not_cut_short (texts.Schedule_refused line f) h = h

-- a run that is cut short, with a first part of its text taken
cut : (topo : Topology) (whole : EndedRun) (start now : Option (List ℕ)) (end : RunEnd) → IsCutShort end → TookPart start now (text_of_run whole) → HasEnded topo whole start now end None
cut topo whole start now end short part = record {
  writes = record {
    answer = inl short;
    whole = λ is. absurd (not_cut_short whole.ending (subst IsCutShort is short));
    part = part;
  };
  stands = tt;
}

-- ## The ends of a turn

-- a fault of reading or want of memory cuts the run short where it has come
pub stops : (topo : Topology) (core : Kept) (number : ℕ) (lines : List (List ℕ)) (start mid : Option (List ℕ)) (whole : EndedRun) (end : RunEnd) → IsCutShort end
    → HasCome topo core number lines start mid whole → HasEnded topo whole start mid end None
stops topo core number lines start mid whole end short came =
    let begins = lengthens topo came.trace number lines in
    cut topo whole start mid end short (record {
      part = text_of came.trace;
      rest = begins.more;
      whole = sym begins.joined ∙ ap text_of_run came.rest;
      took = came.took;
    })

-- the whole text was taken, and the core stands for the trace
ended : (topo : Topology) (whole : EndedRun) (start now : Option (List ℕ)) (core : Kept) → StandsFor topo whole.trace core → now ≡ and_then start (text_of_run whole)
    → HasEnded topo whole start now (run_end_of whole.ending) (Some core)
ended topo whole start now core stands took = record {
  writes = record {
    answer = inr refl;
    whole = λ is. took;
    part = record { part = text_of_run whole; rest = []; whole = append-nil (text_of_run whole); took = took };
  };
  stands = stands;
}

-- a line is refused by itself
pub refused_line : (topo : Topology) (core : Kept) (number : ℕ) (line : List ℕ) (before lines : List (List ℕ)) (f : StepFault) (start mid : Option (List ℕ)) (whole : EndedRun) → before ≡ line ∷ lines → scheduled number line ≡ Err f
    → HasCome topo core number before start mid whole → IsRefusedHere topo core number f start mid whole
refused_line topo core number line before lines f start mid whole first read came = record {
  trace = came.trace;
  stands = came.stands;
  refused = sym came.rest ∙ ap (ran_from topo came.trace number) first ∙ ran_line topo came.trace number line lines (Err f) read;
  took = came.took;
}

-- an input is refused by its step
pub refused_step : (topo : Topology) (core after : Kept) (number : ℕ) (line : List ℕ) (lines : List (List ℕ)) (input : Input) (f : StepFault) (start mid : Option (List ℕ)) (whole : EndedRun)
    → scheduled number line ≡ Ok (Some input) → IsRefusal core input (step_end.Refused after f)
    → HasCome topo core number (line ∷ lines) start mid whole → IsRefusedHere topo after number f start mid whole
refused_step topo core after number line lines input f start mid whole read refusal came = record {
  trace = came.trace;
  stands = subst (StandsFor topo came.trace) (sym refusal.0) came.stands;
  refused = sym came.rest ∙ ran_input topo came.trace number line lines input read
      ∙ ap (by_step came.trace number input (behind topo number lines)) (refusal.1 topo came.trace came.stands);
  took = came.took;
}

-- an input is stepped
pub steps : (topo : Topology) (core after : Kept) (number : ℕ) (line : List ℕ) (lines : List (List ℕ)) (input : Input) (events : List Event) (start mid : Option (List ℕ)) (whole : EndedRun)
    → line ≡ input_line input → scheduled number line ≡ Ok (Some input) → IsStep core input after events
    → HasCome topo core number (line ∷ lines) start mid whole → IsStepped topo after number lines line events start mid whole
steps topo core after number line lines input events start mid whole spelled read step came =
    let stepped = step topo came.trace came.stands in record {
      trace = after_step came.trace input events;
      before = text_of came.trace;
      stands = stepped.1;
      rest = sym (ap (by_step came.trace number input (behind topo number lines)) stepped.0) ∙ sym (ran_input topo came.trace number line lines input read) ∙ came.rest;
      text = text_after_line came.trace input line events spelled;
      took = came.took;
    }

-- the lines of a step are taken
pub wrote_step : (topo : Topology) (core : Kept) (number : ℕ) (lines : List (List ℕ)) (line : List ℕ) (events : List Event) (start mid now : Option (List ℕ)) (whole : EndedRun)
    → now ≡ and_then mid (step_text line events) → IsStepped topo core number lines line events start mid whole → HasCome topo core (number + 1) lines start now whole
wrote_step topo core number lines line events start mid now whole took stepped = record {
  trace = stepped.trace;
  stands = stepped.stands;
  rest = stepped.rest;
  took = took ∙ ap (λ o. and_then o (step_text line events)) stepped.took ∙ and_then-and_then start stepped.before (step_text line events)
      ∙ ap (and_then start) (sym stepped.text);
}

-- a first part of the lines of a step is taken
pub cut_step : (topo : Topology) (core : Kept) (number : ℕ) (lines : List (List ℕ)) (line : List ℕ) (events : List Event) (start mid now : Option (List ℕ)) (whole : EndedRun) (end : RunEnd)
    → IsCutShort end → TookPart mid now (step_text line events) → IsStepped topo core number lines line events start mid whole → HasEnded topo whole start now end None
cut_step topo core number lines line events start mid now whole end short part stepped =
    let begins = lengthens topo stepped.trace (number + 1) lines in
    cut topo whole start now end short
    (part_of start mid now stepped.before (step_text line events) begins.more (text_of_run whole) stepped.took part
    (ap text_of_run (sym stepped.rest) ∙ begins.joined ∙ ap (λ t. t ++ begins.more) stepped.text ∙ append_assoc stepped.before (step_text line events) begins.more))

-- a refusal line is taken
pub wrote_refusal : (topo : Topology) (core : Kept) (number : ℕ) (f : StepFault) (start mid now : Option (List ℕ)) (whole : EndedRun)
    → now ≡ and_then mid (refusal_line number f) → IsRefusedHere topo core number f start mid whole → HasEnded topo whole start now (run_end.Schedule number f) (Some core)
wrote_refusal topo core number f start mid now whole took here =
    subst (λ (r : EndedRun). HasEnded topo r start now (run_end.Schedule number f) (Some core)) (sym here.refused)
    (ended topo (record { trace = here.trace; ending = texts.Schedule_refused number f }) start now core here.stands
    (took ∙ ap (λ o. and_then o (refusal_line number f)) here.took ∙ and_then-and_then start (text_of here.trace) (refusal_line number f)))

-- a first part of a refusal line is taken
pub cut_refusal : (topo : Topology) (core : Kept) (number : ℕ) (f : StepFault) (start mid now : Option (List ℕ)) (whole : EndedRun) (end : RunEnd)
    → IsCutShort end → TookPart mid now (refusal_line number f) → IsRefusedHere topo core number f start mid whole → HasEnded topo whole start now end None
cut_refusal topo core number f start mid now whole end short part here =
    cut topo whole start now end short
    (part_of start mid now (text_of here.trace) (refusal_line number f) [] (text_of_run whole) here.took part
    (ap text_of_run here.refused ∙ ap (λ t. text_of here.trace ++ t) (sym (append-nil (refusal_line number f)))))

-- ## What the next line leads to, where the schedule is told

-- an input is taken
pub on_input : (t : Option (List ℕ)) (before after : List ℕ → List (List ℕ)) (line read : List ℕ) (number : ℕ) (input : Input) (core : Kept) (mid now : Option (List ℕ)) (turn : Turn)
    → IfSome t (λ told. IsNextOf number (before told) (after told) line (scheduled_as.Input input)) → read ≡ line
    → ((topo : Topology) (lines : List (List ℕ)) (start : Option (List ℕ)) (whole : EndedRun) → scheduled number read ≡ Ok (Some input)
    → HasCome topo core number (read ∷ lines) start mid whole → IsTurn topo number lines start now whole turn)
    → IfSome t (λ told. (topo : Topology) (start : Option (List ℕ)) (whole : EndedRun) → HasCome topo core number (before told) start mid whole → IsTurn topo number (after told) start now whole turn)
on_input None before after line read number input core mid now turn next same takes = tt
on_input (Some text) before after line read number input core mid now turn next same takes = λ topo start whole came.
    takes topo (after text) start whole (ap (scheduled number) same ∙ next.1)
    (subst (λ lines. HasCome topo core number lines start mid whole) (next.0 ∙ ap (λ l. l ∷ after text) (sym same)) came)

-- a refused line is written
pub on_refused : (t : Option (List ℕ)) (before after : List ℕ → List (List ℕ)) (line : List ℕ) (number : ℕ) (f : StepFault) (core : Kept) (mid now : Option (List ℕ)) (turn : Turn)
    → IfSome t (λ told. IsNextOf number (before told) (after told) line (scheduled_as.Refused f))
    → ((topo : Topology) (lines : List (List ℕ)) (start : Option (List ℕ)) (whole : EndedRun) → IsRefusedHere topo core number f start mid whole → IsTurn topo number lines start now whole turn)
    → IfSome t (λ told. (topo : Topology) (start : Option (List ℕ)) (whole : EndedRun) → HasCome topo core number (before told) start mid whole → IsTurn topo number (after told) start now whole turn)
on_refused None before after line number f core mid now turn next refuses = tt
on_refused (Some text) before after line number f core mid now turn next refuses = λ topo start whole came.
    refuses topo (after text) start whole (refused_line topo core number next.0 (before text) next.1 f start mid whole next.2 next.3 came)

-- nothing more could be read
pub on_cut : (t : Option (List ℕ)) (before : List ℕ → List (List ℕ)) (number : ℕ) (core : Kept) (mid : Option (List ℕ)) (end : RunEnd) → IsCutShort end
    → IfSome t (λ told. (topo : Topology) (start : Option (List ℕ)) (whole : EndedRun) → HasCome topo core number (before told) start mid whole → HasEnded topo whole start mid end None)
on_cut None before number core mid end short = tt
on_cut (Some text) before number core mid end short = λ topo start whole came. stops topo core number (before text) start mid whole end short came

-- no put failed
pub no_write : (end : RunEnd) (count : ℕ) → end ≢ run_end.WriteFault → HasCause (end ≡ run_end.WriteFault) count count
no_write end count differs = record { never_falls = omega arith; rose = λ is. absurd (differs is); stays = λ other. refl }
