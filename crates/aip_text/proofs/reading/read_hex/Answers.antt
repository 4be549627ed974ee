use Rattle.aip_text.proofs.HexWords.{hex_again_in, hex_found_in, ok_then}
use Rattle.aip_text.proofs.reading.read_hex.Goals as goal

pub returns-clause-found : goal.returns-clause-found
returns-clause-found c = ok_then c.hex_in.result c.hex_in.ensures (λ r e. hex_found_in c.args.word.now r e)

pub returns-clause-again : goal.returns-clause-again
returns-clause-again c = ok_then c.hex_in.result c.hex_in.ensures (λ r e. hex_again_in c.args.word.now r e)
