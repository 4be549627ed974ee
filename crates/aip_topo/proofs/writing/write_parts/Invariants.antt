use Rattle.std.proofs.Common.{◌≡◌, ◌++◌, drop}
use Rattle.aip_topo.specs.Canonical.{lines_text, part_line}
use Rattle.aip_topo.proofs.writing.write_parts.Given as goal

-- what is written with what is left is the whole
abbrev pub invariant-loop-part : goal.invariant-loop-part
invariant-loop-part l = l.out.items ++ lines_text (part_line l.routers) (drop l.part-index l.parts) ≡ l.fn.out.items ++ lines_text (part_line l.routers) l.parts
