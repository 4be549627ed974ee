use Rattle.aip_mac.proofs.Filling.{padded_from}
use Rattle.aip_mac.proofs.filled_up.Goals as goal

pub returns : goal.returns
returns c =
    padded_from _ _ _ c.copy_from_slice.ensures.after c.split_at_mut-front.ensures.back
