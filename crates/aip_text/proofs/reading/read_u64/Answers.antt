use Rattle.aip_text.proofs.Numbers.{u64_again_in, u64_found_in}
use Rattle.aip_text.proofs.reading.read_u64.Goals as goal

pub returns-clause-found : goal.returns-clause-found
returns-clause-found c = u64_found_in c.args.word.now c.u64_in.result c.u64_in.ensures

pub returns-clause-again : goal.returns-clause-again
returns-clause-again c = u64_again_in c.args.word.now c.u64_in.result c.u64_in.ensures
