use Rattle.std.proofs.Common.{◌≡◌, ◌<◌, length, arith, ap, refl}
use Rattle.aip_io.proofs.LineFeeds.{last_rest, long_rest}
use Rattle.aip_io.proofs.lines.Lines.answer_rest.Goals as goal

pub returns-then-count-self-clause-gives : goal.returns-then-count-self-clause-gives
returns-then-count-self-clause-gives c = λ rest ended.
    let most : c.self.inside.most ≡ c.args.self.now.most = ap (λ lines. lines.most) c.self.view_is in
    let more : c.args.self.now.most < length c.args.self.now.kept = omega (arith, ap length c.kept-count.ensures) in
    rw c.stop.ensures.stops (long_rest c.args.self.now.most c.args.self.now.kept rest c.requires more, refl)

pub returns-clause-gives : goal.returns-clause-gives
returns-clause-gives c = λ rest ended.
    let most : c.self.inside.most ≡ c.args.self.now.most = ap (λ lines. lines.most) c.self.view_is in
    let all : length c.kept-count.result.now ≡ length c.args.self.now.kept = ap length c.kept-count.ensures in
    let empty = ended (omega arith) in
    rw c.give.ensures (last_rest c.args.self.now.kept rest (length c.kept-count.result.now) all c.requires (omega arith) empty)
