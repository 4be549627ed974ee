use Rattle.std.proofs.Common.{◌≡◌, ◌++◌, drop}
use Rattle.aip_event.specs.Lines.{events_text}
use Rattle.aip_event.proofs.event_writing.text_of_events.Given as goal

-- what is written with what is written for the events that are left is all
abbrev pub invariant-loop-event : goal.invariant-loop-event
invariant-loop-event l = l.text.items ++ events_text (drop l.event-index l.events) ≡ events_text l.events
