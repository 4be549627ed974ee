use Rattle.std.proofs.Common.{◌∙◌, sym}
use Rattle.aip_core.proofs.Published.{event_of_fields, event_of_none}
use Rattle.aip_core.proofs.publishing.event_of.Goals as goal

pub returns-in-Some : goal.returns-in-Some
returns-in-Some c = λ kept answer.
    event_of_fields kept c.args.bytes.now c.in-Some.fields c.args.said c.publication_event.result (sym c.read_record.ensures.found ∙ c.in-Some.is) c.publication_event.ensures answer

pub returns-in-None : goal.returns-in-None
returns-in-None c = λ kept answer.
    event_of_none kept c.args.bytes.now c.args.said c.number.result (sym c.read_record.ensures.found ∙ c.in-None.is) c.number.ensures answer
