use Rattle.std.proofs.Common.{refl}
use Rattle.aip_io.proofs.LineFeeds.{line_at, long_at}
use Rattle.aip_io.proofs.lines.Lines.answer_at.Goals as goal

pub returns-then-at-self-clause-gives : goal.returns-then-at-self-clause-gives
returns-then-at-self-clause-gives c = λ rest.
    rw c.stop.ensures.stops (long_at c.args.self.now.most c.args.self.now.kept rest c.args.at c.requires (rw (← c.self.view_is) c.if-at-self.true), refl)

pub returns-clause-gives : goal.returns-clause-gives
returns-clause-gives c = λ rest. rw c.give.ensures (line_at c.args.self.now.kept rest c.args.at c.requires)
