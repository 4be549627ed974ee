use Rattle.std.proofs.Common.{rules}
use Rattle.aip_gen.specs.Network.{part_line}
use Rattle.aip_gen.proofs.Numbering.{no_line, one_more_state, one_more_written}
use Rattle.aip_gen.proofs.topology.push_lines.Goals as goal

pub loop-number-init : goal.loop-number-init
loop-number-init c = rw (no_line (part_line c.args.part) c.args.words.now) (search rules)

pub loop-number-preserved : goal.loop-number-preserved
loop-number-preserved c = record {
  text =
      one_more_written (part_line c.args.part) c.loop-number.number _ _ _ _ _ c.loop-number.invariant.text c.loop-number.invariant.state
      c.in_ok-push_line.ensures.drawn;
  state = one_more_state (part_line c.args.part) c.loop-number.number _ _ _ c.loop-number.invariant.state c.in_ok-push_line.ensures.state;
}
