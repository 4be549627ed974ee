use Rattle.aip_make.proofs.RunsSo.{are_scheduled}
use Rattle.aip_make.proofs.laws.a_made_line_is_scheduled.Goals as goal

pub returns : goal.returns
returns c = are_scheduled
