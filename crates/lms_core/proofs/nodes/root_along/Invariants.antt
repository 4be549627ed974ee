use Rattle.std.proofs.Common.{◌≡◌, ◌-◌, ◌*◌, drop}
use Rattle.lms_core.specs.Verify.{root_along}
use Rattle.lms_core.proofs.nodes.root_along.Given as goal

-- the rest of the path leads from this node to where the whole path leads
abbrev pub invariant-levels : goal.invariant-levels
invariant-levels l =
    root_along l.id l.number l.node (l.levels - l.level) (drop (32 * l.level) l.path)
    ≡ root_along l.id l.fn.r l.fn.leaf l.levels l.path
