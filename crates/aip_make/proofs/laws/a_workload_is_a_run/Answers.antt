use Rattle.aip_make.proofs.RunsSo.{are_runs}
use Rattle.aip_make.proofs.laws.a_workload_is_a_run.Goals as goal

pub returns : goal.returns
returns c = are_runs
