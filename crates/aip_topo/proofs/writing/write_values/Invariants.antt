use Rattle.std.proofs.Common.{◌≡◌, ◌++◌, drop}
use Rattle.aip_topo.specs.Canonical.{lines_text, value_line}
use Rattle.aip_topo.proofs.writing.write_values.Given as goal

-- what is written with what is left is the whole
abbrev pub invariant-loop-value : goal.invariant-loop-value
invariant-loop-value l = l.out.items ++ lines_text value_line (drop l.value-index l.values) ≡ l.fn.out.items ++ lines_text value_line l.values
