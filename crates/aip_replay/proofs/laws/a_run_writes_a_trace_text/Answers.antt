use Rattle.aip_replay.proofs.Runs.{runs_are}
use Rattle.aip_replay.proofs.laws.a_run_writes_a_trace_text.Goals as goal

pub returns : goal.returns
returns c = runs_are
