use Rattle.std.proofs.Common.{◌≡◌, ◌∙◌, ◌++◌, ap}
use Rattle.std.specs.Int.{w32, to_be_bytes}
use Rattle.lmots_core.specs.Parameters.{code_of}
use Rattle.lms_core.specs.Parameters.{height_code_of}
use Rattle.lms_core.specs.Tree.{identifier_of}
use Rattle.lms_core.proofs.Tables.{public_key_is}
use Rattle.lms_core.proofs.tree.Tree.public.Goals as goal

pub returns : goal.returns
returns c =
    let same : c.self.inside.id ≡ identifier_of c.args.self.now.seed =
    c.self.invariant.identifier ∙ ap (λ key. identifier_of key.seed) c.self.view_is in
    let kept = ap
    (λ key. to_be_bytes w32 (height_code_of key.height) ++ to_be_bytes w32 (code_of key.width)
    ++ c.self.inside.id ++ c.node.result)
    c.self.view_is in
    public_key_is c.args.self.now c.self.inside.id c.node.result _ same c.node.ensures (c.from_parts.ensures ∙ kept)
