use Rattle.aip_topo.proofs.Decided.{decided}
use Rattle.aip_topo.proofs.Said.{answered_said}
use Rattle.aip_topo.proofs.Soundness.{answered_sound}
use Rattle.aip_topo.proofs.reading.read.Goals as goal

pub returns-clause-sound : goal.returns-clause-sound
returns-clause-sound c = answered_sound c.args.text.now c.read_exactly.result c.read_exactly.ensures.found

pub returns-clause-decided : goal.returns-clause-decided
returns-clause-decided c = λ whole h. decided c.args.text.now whole h

pub returns-clause-said : goal.returns-clause-said
returns-clause-said c = answered_said c.args.text.now c.read_exactly.result c.read_exactly.ensures.found
