use Rattle.std.proofs.Common.{◌∙◌, arith}
use Rattle.aip_frame.proofs.Frames.{frame_is, sound, told, spelled}
use Rattle.aip_frame.proofs.fields.is_frame.Goals as goal

pub returns-clause-computed : goal.returns-clause-computed
returns-clause-computed c = c.has_form.ensures ∙ told c.args.bytes.now (λ i. omega (arith, c.type_inv.bytes i))

pub returns-clause-spelled : goal.returns-clause-spelled
returns-clause-spelled c =
    spelled c.args.bytes.now c.has_form.result (c.has_form.ensures ∙ told c.args.bytes.now (λ i. omega (arith, c.type_inv.bytes i)))

pub returns-clause-exact : goal.returns-clause-exact
returns-clause-exact c f h = frame_is c.args.bytes.now f h

pub returns-clause-sound : goal.returns-clause-sound
returns-clause-sound c = sound c.args.bytes.now
