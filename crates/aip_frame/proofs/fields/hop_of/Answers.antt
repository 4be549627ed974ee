use Rattle.std.proofs.Common.{◌≡◌, get_or, refl}
use Rattle.aip_frame.specs.Frame.{fields_at}
use Rattle.aip_frame.proofs.Frames.{of_fields}
use Rattle.aip_frame.proofs.fields.hop_of.Goals as goal

pub returns : goal.returns
unfolding fields_at
returns c = of_fields c.args.bytes.now (λ f. get_or c.args.bytes.now 2 0 ≡ f.hop) refl
