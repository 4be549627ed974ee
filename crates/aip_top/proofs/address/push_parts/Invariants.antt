use Rattle.std.proofs.Common.{◌≡◌, ◌++◌, drop}
use Rattle.std.specs.Prelude.{flat_map}
use Rattle.aip_top.specs.Addresses.{part_line}
use Rattle.aip_top.proofs.address.push_parts.Given as goal

-- what is written with what is left is the whole
abbrev pub invariant-loop-part : goal.invariant-loop-part
invariant-loop-part l = l.out.items ++ flat_map (part_line l.routers) (drop l.part-index l.parts) ≡ l.fn.out.items ++ flat_map (part_line l.routers) l.parts
