-- What a step adds to the text of a trace.
use Rattle.std.proofs.Common.{◌≡◌, List, [], ◌∷◌, ◌++◌, sym, ◌∙◌, append_assoc}
use Rattle.std.proofs.lemmas.List.{append-nil}
use Rattle.aip_event.specs.declared.event.Event.{Event}
use Rattle.aip_event.specs.declared.input.Input.{Input}
use Rattle.aip_event.specs.Lines.{input_text, event_text, events_text}
use Rattle.aip_rules.specs.declared.Entry.{Entry}
use Rattle.aip_rules.specs.declared.Entry.TheVariants.{Taken, Happened}
use Rattle.aip_rules.specs.Step.{with_events, after_step}
use Rattle.aip_rules.specs.Texts.{text_of}

-- events on top add what is written for them
text_with : (events : List Event) (tr : List Entry) → text_of (with_events events tr) ≡ text_of tr ++ events_text events
text_with [] tr = sym (append-nil (text_of tr))
text_with (event ∷ events) tr =
    text_with events (Happened event ∷ tr) ∙ append_assoc (text_of tr) (event_text event) (events_text events)

-- a step adds what is written for its input and its events
pub text_after : (tr : List Entry) (input : Input) (events : List Event) → text_of (after_step tr input events) ≡ text_of tr ++ (input_text input ++ events_text events)
text_after tr input events = text_with events (Taken input ∷ tr) ∙ append_assoc (text_of tr) (input_text input) (events_text events)
