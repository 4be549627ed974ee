use Rattle.std.proofs.Common.{◌≡◌, List, ℕ, take, ap, ◌∙◌}
use Rattle.std.proofs.lemmas.List.{take_rest}
use Rattle.aip_addr.specs.Ids.{address_of}
use Rattle.aip_frame.specs.Frame.{fields_at}
use Rattle.aip_frame.proofs.Frames.{of_fields}
use Rattle.aip_frame.proofs.fields.from_of.Goals as goal

pub returns : goal.returns
unfolding fields_at
returns c =
    of_fields c.args.bytes.now (λ f. c.address_at.result ≡ f.from)
    (c.address_at.ensures ∙ ap (λ (t : List ℕ). address_of (take 40 t)) (take_rest c.args.bytes.now 48))
