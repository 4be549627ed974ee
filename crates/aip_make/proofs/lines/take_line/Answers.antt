use Rattle.std.proofs.Common.{◌≡◌, ◌+◌, Err, subst}
use Rattle.aip_rules.specs.Step.{after_step}
use Rattle.aip_make.specs.declared.ends.MadeEnd.TheVariants as made_end
use Rattle.aip_make.specs.Ends.{answer_to}
use Rattle.aip_make.specs.Making.{IsTallyOf}
use Rattle.aip_make.proofs.Counting.{begun}
use Rattle.aip_make.proofs.Taking.{ends, goes}
use Rattle.aip_make.proofs.lines.take_line.Goals as goal

pub returns-in-Ok-clause-goes : goal.returns-in-Ok-clause-goes
returns-in-Ok-clause-goes c = λ topo left whole came.
    goes topo c.args.course c.args.index left c.flights.result whole c.in_ok-input.input (c.flights.ensures.count topo) c.in_ok-input.ensures.input came
    (record { core = c.in-Ok.core; words = c.draw_input.new.words; tally = c.finish.new.self }) c.in-Ok.events c.in_ok-input.ensures.state c.in-Ok.ensures.taken
    (λ tr tally. subst (λ events. IsTallyOf (after_step tr c.in_ok-input.input events) c.finish.new.self) c.as_slice.ensures
    (c.in_ok-finish-in-Ok.ensures tr c.in_ok-input.input c.in_ok-begin.ensures.line
    (begun tr c.args.course.tally c.begin.new.self c.in_ok-begin.ensures.events c.in_ok-begin.ensures.hasher tally)))

pub returns-in-Err-Refused-clause-ends : goal.returns-in-Err-Refused-clause-ends
returns-in-Err-Refused-clause-ends c = λ topo lines left whole came.
    let answered : answer_to lines whole ≡ Err (made_end.Schedule (c.args.index + 1) c.in-Err-Refused.fault) =
    ends topo c.args.course c.args.index left c.flights.result whole c.in_ok-input.input (c.flights.ensures.count topo) c.in_ok-input.ensures.input came
    lines c.in-Err-Refused.field-0-0 c.in-Err-Refused.fault (rw c.in-Err-Refused.field-0-is at c.in-Err-Refused.ensures.refused) in
    cc
