use Rattle.std.proofs.Common.{◌≡◌, ◌++◌}
use Rattle.aip_gen.specs.Draws.{numbered}
use Rattle.aip_gen.specs.Network.{part_line}
use Rattle.aip_gen.proofs.topology.push_lines.Given as goal

-- the lines before the number are written, and the words behind them are to come
abbrev pub invariant-loop-number : goal.invariant-loop-number
invariant-loop-number l = record {
  text : l.out.items ≡ l.fn.out.items ++ (numbered (part_line l.part) l.number l.fn.words).0;
  state : l.words ≡ (numbered (part_line l.part) l.number l.fn.words).1;
}
