use Rattle.aip_text.proofs.Numbers.{number_again_in, number_found_in}
use Rattle.aip_text.proofs.reading.read_number.Goals as goal

pub returns-clause-found : goal.returns-clause-found
returns-clause-found c = number_found_in c.args.word.now c.number_in.result c.number_in.ensures

pub returns-clause-again : goal.returns-clause-again
returns-clause-again c = number_again_in c.args.word.now c.number_in.result c.number_in.ensures
