use Rattle.aip_frame.proofs.Ends.{no_prefix}
use Rattle.aip_frame.proofs.whole.no_prefix_is_a_frame.Goals as goal

pub returns : goal.returns
returns c = no_prefix
