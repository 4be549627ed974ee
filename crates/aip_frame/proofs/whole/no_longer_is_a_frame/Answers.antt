use Rattle.aip_frame.proofs.Ends.{no_longer}
use Rattle.aip_frame.proofs.whole.no_longer_is_a_frame.Goals as goal

pub returns : goal.returns
returns c = no_longer
