use Rattle.aip_text.proofs.HexWords.{bytes_again_in, bytes_found_in, ok_then}
use Rattle.aip_text.proofs.reading.read_bytes.Goals as goal

pub returns-clause-found : goal.returns-clause-found
returns-clause-found c = ok_then c.bytes_in.result c.bytes_in.ensures (λ r e. bytes_found_in c.args.word.now r e)

pub returns-clause-again : goal.returns-clause-again
returns-clause-again c = ok_then c.bytes_in.result c.bytes_in.ensures (λ r e. bytes_again_in c.args.word.now r e)
