use Rattle.std.proofs.Common.{◌∙◌, ◌<◌, ◌≤◌, ◌*◌, length, sym, ap, arith}
use Rattle.lms_core.specs.Parameters.{levels_of}
use Rattle.lms_core.specs.Tree.{sibling_of, IsNode}
use Rattle.lms_core.proofs.Paths.{sibling_inside, parent_inside, path_more, path_end}
use Rattle.lms_core.proofs.tree.Tree.copy_path.Goals as goal

pub node-requires-clause-node : goal.node-requires-clause-node
node-requires-clause-node c =
    let end = c.levels-level-end.ensures ∙ ap (λ key. levels_of key.height) c.self.view_is in
    let below : c.levels.level < levels_of c.args.self.now.height = omega arith in
    let inside = sibling_inside _ _ c.levels.r below c.levels.invariant.low c.levels.invariant.high in
    omega (arith, inside.0)

pub node-requires-clause-inside : goal.node-requires-clause-inside
node-requires-clause-inside c =
    let end = c.levels-level-end.ensures ∙ ap (λ key. levels_of key.height) c.self.view_is in
    let below : c.levels.level < levels_of c.args.self.now.height = omega arith in
    let inside = sibling_inside _ _ c.levels.r below c.levels.invariant.low c.levels.invariant.high in
    omega (arith, inside.1)

pub levels-preserved : goal.levels-preserved
levels-preserved c =
    let key = c.args.self.now in
    let end = c.levels-level-end.ensures ∙ ap (λ key. levels_of key.height) c.self.view_is in
    let below : c.levels.level < levels_of c.args.self.now.height = omega arith in
    let is : IsNode key (sibling_of c.levels.r) c.node.result = rw (← c.sibling_of.ensures) c.node.ensures in
    let inside = parent_inside _ _ c.levels.r below c.levels.invariant.low c.levels.invariant.high in
    record {
      low = inside.0;
      high = inside.1;
      written =
          path_more key _ _ _ _ c.levels.r below c.levels.invariant.low c.levels.invariant.high is c.put.ensures
          ∙ c.levels.invariant.written;
    }

pub returns : goal.returns
returns c =
    let end = c.levels-level-end.ensures ∙ ap (λ key. levels_of key.height) c.self.view_is in
    let past : levels_of c.args.self.now.height ≤ c.levels.level = omega arith in
    let room : length c.levels.path ≤ 32 * c.levels.level = omega arith in
    sym (path_end c.args.self.now c.levels.path c.levels.level c.levels.r past room) ∙ c.levels.invariant.written
