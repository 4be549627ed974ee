use Rattle.aip_topo.proofs.LineLaws.{again_in, found_in}
use Rattle.aip_topo.proofs.line_reader.read_line.Goals as goal

pub returns-clause-found : goal.returns-clause-found
returns-clause-found c = found_in c.args.text.now c.read_exactly.result c.read_exactly.ensures

pub returns-clause-again : goal.returns-clause-again
returns-clause-again c = again_in c.args.text.now c.read_exactly.result c.read_exactly.ensures
