-- What a step adds to what is counted.
use Rattle.std.proofs.Common.{◌≡◌, ℕ, ◌+◌, List, [], ◌∷◌, ◌++◌, length, ap, sym, ◌∙◌, subst, arith}
use Rattle.sha2.specs.declared.Sha256.{Sha256}
use Rattle.sha2.specs.Hashers.{Holds256}
use Rattle.aip_event.specs.declared.event.Event.{Event}
use Rattle.aip_event.specs.declared.input.Input.{Input}
use Rattle.aip_event.specs.Lines.{input_text, events_text}
use Rattle.aip_rules.specs.declared.Entry.{Entry}
use Rattle.aip_rules.specs.declared.Entry.TheVariants.{Taken, Happened}
use Rattle.aip_rules.specs.Step.{after_step, with_events}
use Rattle.aip_rules.specs.Texts.{text_of}
use Rattle.aip_rules.proofs.StepTexts.{text_after}
use Rattle.aip_make.specs.declared.tally.Tally.{Tally}
use Rattle.aip_make.specs.Making.{IsTallyOf}
use Rattle.aip_make.specs.Summaries.{event_count}

-- events on top are so many more
count_with : (events : List Event) (tr : List Entry) → event_count (with_events events tr) ≡ event_count tr + length events
count_with [] tr = omega arith
count_with (event ∷ events) tr = omega (arith, count_with events (Happened event ∷ tr))

-- a tally with the lines and the number of the events of a step is that of the trace with the step
pub counted : (tr : List Entry) (input : Input) (events : List Event) (old new : Tally) (line written : List ℕ)
    → ((m : List ℕ) → Holds256 old.hasher m → Holds256 new.hasher (m ++ written)) → written ≡ line ++ events_text events → new.events ≡ old.events + length events
    → line ≡ input_text input → IsTallyOf tr old → IsTallyOf (after_step tr input events) new
counted tr input events old new line written holds is more spelled tally = record {
  events = more ∙ ap (λ n. n + length events) tally.events ∙ sym (count_with events (Taken input ∷ tr));
  text = subst (Holds256 new.hasher) (ap (λ t. text_of tr ++ t) (is ∙ ap (λ l. l ++ events_text events) spelled) ∙ sym (text_after tr input events)) (holds (text_of tr) tally.text);
}

-- the line of an input is no part of what was counted
pub begun : (tr : List Entry) (old new : Tally) → new.events ≡ old.events → new.hasher ≡ old.hasher → IsTallyOf tr old → IsTallyOf tr new
begun tr old new events hasher tally = record {
  events = events ∙ tally.events;
  text = subst (λ (h : Sha256). Holds256 h (text_of tr)) (sym hasher) tally.text;
}
