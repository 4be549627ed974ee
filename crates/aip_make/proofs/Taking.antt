-- One made line, taken.
use Rattle.std.proofs.Common.{◌≡◌, ℕ, ◌+◌, List, Result, Ok, Err, ap, sym, ◌∙◌, add-one}
use Rattle.aip_event.specs.declared.event.Event.{Event}
use Rattle.aip_event.specs.declared.input.Input.{Input}
use Rattle.aip_topo.specs.declared.topology.Topology.{Topology}
use Rattle.aip_rules.specs.declared.Entry.{Entry}
use Rattle.aip_rules.specs.declared.StepFault.{StepFault}
use Rattle.aip_rules.specs.State.{flight_count}
use Rattle.aip_rules.specs.Step.{after_step, step_of}
use Rattle.aip_rules.specs.Texts.{EndedRun, by_step}
use Rattle.aip_core.specs.Answers.{IsRefusal}
use Rattle.aip_core.specs.Kept.{Kept}
use Rattle.aip_core.specs.StandsFor.{IsStep, StandsFor}
use Rattle.aip_core.specs.declared.ends.StepEnd.TheVariants as step_end
use Rattle.aip_make.specs.declared.ends.MadeEnd.TheVariants as made_end
use Rattle.aip_make.specs.declared.lines.Course.{Course}
use Rattle.aip_make.specs.Ends.{IsAnswer, answer_to}
use Rattle.aip_make.specs.Making.{HasCome, IsTallyOf}
use Rattle.aip_make.specs.Workload.{made_from, made_input, next_state}

-- the run of the made lines behind this one
abbrev behind : Topology → ℕ → ℕ → ℕ → List Entry → EndedRun
behind topo next index left after = made_from topo after next (index + 1) left

-- the run of one line and more
one_line : (topo : Topology) (tr : List Entry) (state index left : ℕ)
    → made_from topo tr state index (left + 1)
    ≡ by_step tr (index + 1) (made_input index (flight_count tr) state) (behind topo (next_state index (flight_count tr) state) index left)
    (step_of topo tr (made_input index (flight_count tr) state))
one_line topo tr state index left = ap (made_from topo tr state index) (add-one left)

-- the same, with the number of flights that the core tells
by_told : (topo : Topology) (tr : List Entry) (state index left flights : ℕ) (input : Input) (step : Result (List Event) StepFault) → flights ≡ flight_count tr
    → input ≡ made_input index flights state → step_of topo tr input ≡ step
    → made_from topo tr state index (left + 1) ≡ by_step tr (index + 1) input (behind topo (next_state index flights state) index left) step
by_told topo tr state index left flights input step told drawn stepped =
    one_line topo tr state index left
    ∙ ap (λ f. by_step tr (index + 1) (made_input index f state) (behind topo (next_state index f state) index left) (step_of topo tr (made_input index f state))) (sym told)
    ∙ ap (λ (i : Input). by_step tr (index + 1) i (behind topo (next_state index flights state) index left) (step_of topo tr i)) (sym drawn)
    ∙ ap (by_step tr (index + 1) input (behind topo (next_state index flights state) index left)) stepped

module _ (topo : Topology) (course : Course) (index left flights : ℕ) (whole : EndedRun) (input : Input) (told : (tr : List Entry) → StandsFor topo tr course.core → flights ≡ flight_count tr) (drawn : input ≡ made_input index flights course.words) (came : HasCome topo course index (left + 1) whole) where
  -- the line was taken: the workload has come to the next
  pub goes : (after : Course) (events : List Event) → after.words ≡ next_state index flights course.words → IsStep course.core input after.core events
      → ((tr : List Entry) → IsTallyOf tr course.tally → IsTallyOf (after_step tr input events) after.tally) → HasCome topo after (index + 1) left whole
  goes after events next step counted =
      let stepped = step topo came.trace came.stands in record {
        trace = after_step came.trace input events;
        stands = stepped.1;
        counted = counted came.trace came.counted;
        rest =
            ap (λ s. made_from topo (after_step came.trace input events) s (index + 1) left) next
            ∙ sym (by_told topo came.trace course.words index left flights input (Ok events) (told came.trace came.stands) drawn stepped.0) ∙ came.rest;
      }

  -- the line was refused: that is the answer
  pub ends : (lines : ℕ) (core : Kept) (f : StepFault) → IsRefusal course.core input (step_end.Refused core f) → IsAnswer (answer_to lines whole) (Err (made_end.Schedule (index + 1) f))
  ends lines core f refusal =
      ap (answer_to lines)
      (sym came.rest ∙ by_told topo came.trace course.words index left flights input (Err f) (told came.trace came.stands) drawn (refusal.1 topo came.trace came.stands))
