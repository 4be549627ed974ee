use Rattle.std.proofs.Common.{◌-◌, ◌≤◌, arith, refl}
use Rattle.aip_io.proofs.LineFeeds.{rest_of_range, front_of_range, length-range}
use Rattle.aip_io.proofs.lines.Lines.give.Goals as goal

pub returns : goal.returns
returns c =
    let bytes = c.self.inside.buffer.items in
    let count = rw (← c.self.view_is) at c.requires.taken in
    let within : c.args.taken ≤ c.self.inside.end - c.self.inside.start = omega (arith, count, length-range bytes c.self.inside.start c.self.inside.end) in
    let rest = rest_of_range bytes c.self.inside.start c.self.inside.end c.args.taken within in
    let front = front_of_range bytes c.self.inside.start c.self.inside.end c.args.line (omega arith) in
    rw (← c.self.view_is, rest, front) refl
