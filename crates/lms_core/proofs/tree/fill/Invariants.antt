use Rattle.std.proofs.Common.{◌≤◌, ◌*◌}
use Rattle.lms_core.specs.Parameters.{leaves_of}
use Rattle.lms_core.specs.Tree.{key_from}
use Rattle.lms_core.specs.Table.{HasNodesFrom}
use Rattle.lms_core.proofs.tree.fill.Given as goal

abbrev pub invariant-nodes : goal.invariant-nodes
invariant-nodes l = record {
  low : 1 ≤ l.r;
  high : l.r ≤ 2 * leaves_of l.height;
  table : HasNodesFrom (key_from l.seed l.width l.height) l.r l.nodes;
}

abbrev pub decreases-nodes : goal.decreases-nodes
decreases-nodes l = l.r
