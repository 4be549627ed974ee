use Rattle.std.proofs.Common.{◌≡◌}
use Rattle.aip_frame.specs.Frame.{fields_at}
use Rattle.aip_frame.proofs.Frames.{of_fields}
use Rattle.aip_frame.proofs.fields.kind_of.Goals as goal

pub returns : goal.returns
unfolding fields_at
returns c = of_fields c.args.bytes.now (λ f. c.kind_at.result ≡ f.kind) c.kind_at.ensures
