use Rattle.aip_replay.proofs.Prefix.{first_parts}
use Rattle.aip_replay.proofs.laws.a_first_part_begins_a_trace.Goals as goal

pub returns : goal.returns
returns c = first_parts
