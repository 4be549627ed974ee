use Rattle.std.proofs.Common.{◌-◌, ◌<◌, ◌≤◌, ap, refl, arith}
use Rattle.lms_core.specs.Parameters.{leaves_of}
use Rattle.lms_core.specs.Tree.{key_from}
use Rattle.lms_core.proofs.Tables.{inner_is, leaf_is}
use Rattle.lms_core.proofs.tree.computed.Goals as goal

pub returns-then-r-leaves : goal.returns-then-r-leaves
returns-then-r-leaves c =
    let key = key_from c.args.seed.now c.args.width c.args.height in
    let inner : c.args.r < leaves_of c.args.height = omega arith in
    inner_is key c.args.nodes.now c.args.r _ _ _ _ c.requires.node inner c.requires.below c.requires.identifier refl refl
    c.inner_node.ensures

pub returns-else-r-leaves : goal.returns-else-r-leaves
returns-else-r-leaves c =
    let key = key_from c.args.seed.now c.args.width c.args.height in
    let leaf : leaves_of c.args.height ≤ c.args.r = omega arith in
    leaf_is key c.args.r _ _ _ _ leaf c.requires.identifier (ap (λ n. c.args.r - n) c.leaves-leaves.ensures)
    c.public-key.ensures c.leaf_node.ensures
