use Rattle.std.proofs.Common.{◌≡◌, List, ℕ, ap, ◌∙◌}
use Rattle.std.proofs.lemmas.List.{take_rest}
use Rattle.byteorder.specs.Endian.{big_number}
use Rattle.aip_frame.specs.Frame.{fields_at}
use Rattle.aip_frame.proofs.Frames.{of_fields}
use Rattle.aip_frame.proofs.fields.packet_of.Goals as goal

pub returns : goal.returns
unfolding fields_at
returns c =
    of_fields c.args.bytes.now (λ f. c.read_u32.result ≡ f.packet)
    (c.read_u32.ensures ∙ ap (λ (t : List ℕ). big_number 4 t) (take_rest c.args.bytes.now 4))
