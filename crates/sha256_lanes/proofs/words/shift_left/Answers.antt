use Rattle.sha256_lanes.proofs.FourLanes.{shifts_multiply}
use Rattle.sha256_lanes.proofs.words.shift_left.Goals as goal

pub returns : goal.returns
returns c = shifts_multiply c.args.k c.args.x c.fits-x.0
