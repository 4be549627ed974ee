use Rattle.std.proofs.Common.{◌≡◌, ℕ, ◌+◌, ◌-◌, ◌*◌, ◌<◌, ap, subst, arith}
use Rattle.lms_core.specs.Parameters.{leaves_of}
use Rattle.lms_core.specs.Table.{HasNodesFrom}
use Rattle.lms_core.specs.Tree.{key_from}
use Rattle.lms_core.proofs.Tables.{nodes_none, nodes_more, leaves_many}
use Rattle.lms_core.proofs.tree.fill.Goals as goal

pub nodes-init : goal.nodes-init
nodes-init c =
    let key = key_from c.args.seed.now c.args.width c.args.height in
    let end : 2 * c.leaves-r.result ≡ 2 * leaves_of c.args.height = ap (λ n. 2 * n) c.leaves-r.ensures in
    record {
      low = omega (arith, leaves_many c.args.height);
      high = omega arith;
      table = nodes_none key c.args.nodes.now (2 * c.leaves-r.result) c.requires.room end;
    }

pub nodes-preserved : goal.nodes-preserved
nodes-preserved c =
    let key = key_from c.args.seed.now c.args.width c.args.height in
    let r = c.nodes.r - 1 in
    let next : c.nodes.r ≡ r + 1 = omega arith in
    let inside : r < 2 * leaves_of c.args.height = omega arith in
    let P : ℕ → Type 0 = λ n. HasNodesFrom key n c.nodes.nodes in
    record {
      low = omega arith;
      high = omega arith;
      table = nodes_more key c.nodes.nodes r c.computed.result inside (subst P next c.nodes.invariant.table) c.computed.ensures;
    }
