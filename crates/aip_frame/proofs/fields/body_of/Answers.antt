use Rattle.std.proofs.Common.{◌≡◌, ◌-◌, length, take, drop}
use Rattle.std.proofs.lemmas.List.{take_rest}
use Rattle.aip_frame.specs.Frame.{fields_at}
use Rattle.aip_frame.proofs.Frames.{of_fields, sound}
use Rattle.aip_frame.proofs.fields.body_of.Goals as goal

pub returns-clause-body : goal.returns-clause-body
unfolding fields_at
returns-clause-body c =
    let bytes = c.args.bytes.now in
    of_fields bytes (λ f. take (length bytes - 90) (drop 90 bytes) ≡ f.body) (take_rest bytes 90)

pub returns-clause-sound : goal.returns-clause-sound
returns-clause-sound c = sound c.args.bytes.now
