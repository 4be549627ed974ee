use Rattle.aip_text.proofs.HexWords.{sized_again_in, sized_found_in}
use Rattle.aip_text.proofs.reading.read_hex_array.Goals as goal

pub returns-clause-found : goal.returns-clause-found
returns-clause-found o c = sized_found_in o.row.N c.args.word.now c.hex_array_in.result c.hex_array_in.ensures

pub returns-clause-again : goal.returns-clause-again
returns-clause-again o c = sized_again_in o.row.N c.args.word.now c.hex_array_in.result c.hex_array_in.ensures
