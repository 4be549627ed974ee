use Rattle.aip_text.proofs.HexWords.{ok_then}
use Rattle.aip_event.proofs.EventLaws.{event_again_in, event_found_in}
use Rattle.aip_event.proofs.event_reading.read_event.Goals as goal

pub returns-clause-found : goal.returns-clause-found
returns-clause-found c = ok_then c.event_in.result c.event_in.ensures (λ r e. event_found_in c.args.line.now r e)

pub returns-clause-again : goal.returns-clause-again
returns-clause-again c = ok_then c.event_in.result c.event_in.ensures (λ r e. event_again_in c.args.line.now r e)
