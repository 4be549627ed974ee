use Rattle.std.proofs.Common.{◌≡◌, ◌+◌, ◌-◌, ◌*◌, ◌^◌, ◌<◌, ◌≤◌, ◌++◌, take}
use Rattle.lms_core.specs.Parameters.{levels_of}
use Rattle.lms_core.specs.Tree.{path_from, path_of}
use Rattle.lms_core.proofs.tree.Tree.copy_path.Given as goal

-- node r stands at this level, and what is written, with its rest of the path, is the path
abbrev pub invariant-levels : goal.invariant-levels
invariant-levels l = record {
  low : 2 ^ (levels_of l.self.height - l.level) ≤ l.r;
  high : l.r < 2 ^ (levels_of l.self.height - l.level + 1);
  written :
      take (32 * l.level) l.path ++ path_from l.self l.level l.r (levels_of l.self.height - l.level)
      ≡ path_of l.self l.q;
}
