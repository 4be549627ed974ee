use Rattle.aip_text.proofs.HexWords.{ok_then}
use Rattle.aip_event.proofs.InputLaws.{input_again_in, input_found_in}
use Rattle.aip_event.proofs.input_reading.read_input.Goals as goal

pub returns-clause-found : goal.returns-clause-found
returns-clause-found c = ok_then c.input_in.result c.input_in.ensures (λ r e. input_found_in c.args.line.now r e)

pub returns-clause-again : goal.returns-clause-again
returns-clause-again c = ok_then c.input_in.result c.input_in.ensures (λ r e. input_again_in c.args.line.now r e)
