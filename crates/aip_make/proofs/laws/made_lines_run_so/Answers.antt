use Rattle.aip_make.proofs.RunsSo.{run_so}
use Rattle.aip_make.proofs.laws.made_lines_run_so.Goals as goal

pub returns : goal.returns
returns c = run_so
