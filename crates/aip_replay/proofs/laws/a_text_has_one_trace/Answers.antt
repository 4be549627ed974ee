use Rattle.aip_replay.proofs.Prefix.{texts_have_one}
use Rattle.aip_replay.proofs.laws.a_text_has_one_trace.Goals as goal

pub returns : goal.returns
returns c = texts_have_one
