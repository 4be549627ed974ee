use Rattle.std.proofs.Common.{◌∙◌}
use Rattle.aip_make.proofs.Counting.{counted}
use Rattle.aip_make.proofs.tally.Tally.finish.Goals as goal

pub returns : goal.returns
returns c = λ tr input spelled tally.
    counted tr input c.args.events.now c.args.self.now (record { events = c.in_ok-self.field-0; hasher = c.update.new.self; step = c.write_events.new.out })
    c.args.self.now.step.items c.as_slice.result.now c.update.ensures (c.as_slice.ensures.value ∙ c.in_ok-write_events.ensures.ok) c.in_ok-self.ensures spelled tally
