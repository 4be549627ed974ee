use Rattle.aip_topo.proofs.Canon.{written_back}
use Rattle.aip_topo.proofs.writing.write.Goals as goal

pub returns-clause-read_back : goal.returns-clause-read_back
returns-clause-read_back c = written_back c.args.topology.now c.write_exactly.result c.write_exactly.ensures
