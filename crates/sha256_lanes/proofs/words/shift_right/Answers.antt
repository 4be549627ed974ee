use Rattle.sha256_lanes.proofs.FourLanes.{shifts_divide}
use Rattle.sha256_lanes.proofs.words.shift_right.Goals as goal

pub returns : goal.returns
returns c = shifts_divide c.args.k c.args.x c.fits-x.0
