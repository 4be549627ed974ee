use Rattle.std.proofs.Common.{◌≡◌, ◌≤◌, ◌+◌, ◌-◌, ◌*◌, ◌∙◌, arith, sym}
use Rattle.lms_core.proofs.Paths.{root_along_more, root_along_end}
use Rattle.lms_core.proofs.nodes.root_along.Goals as goal

pub levels-preserved : goal.levels-preserved
levels-preserved c =
    let place = 32 * c.levels.level in
    let width : (place + 32) - place ≡ 32 = omega arith in
    root_along_more _ _ _ _ _ _ _ _ c.levels-test.true width c.parent_node-node.ensures ∙ c.levels.invariant

pub returns : goal.returns
returns c =
    let past : c.args.levels ≤ c.levels.level = omega arith in
    sym (root_along_end _ _ _ _ _ _ past) ∙ c.levels.invariant
