use Rattle.aip_rules.proofs.Lines.{of_lines}
use Rattle.aip_rules.proofs.laws.a_run_has_the_trace_of_its_lines.Goals as goal

pub returns : goal.returns
returns c = of_lines
