use Rattle.aip_replay.proofs.OneAnswer.{one_right}
use Rattle.aip_replay.proofs.laws.at_most_one_answer_is_right.Goals as goal

pub returns : goal.returns
returns c = one_right
