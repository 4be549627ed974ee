use Rattle.std.proofs.Common.{◌≡◌, ◌+◌, ◌-◌, ◌++◌, take, drop, slice_range, ap, subst, ◌∙◌}
use Rattle.std.proofs.lemmas.Option.{IfSome_then}
use Rattle.aip_io.specs.Shelf.{IsRead}
use Rattle.aip_io.proofs.LineFeeds.{begins, begins_same, kept_grows, kept_stays, left_same, left_stays}
use Rattle.aip_io.proofs.lines.Lines.read_on.Goals as goal

pub returns-in_err-count-clause-left : goal.returns-in_err-count-clause-left
returns-in_err-count-clause-left g c =
    let was : slice_range c.self.inside.buffer.items c.self.inside.start c.self.inside.end ≡ c.args.self.now.kept = ap (λ lines. lines.kept) c.self.view_is in
    let at : c.self.inside.at ≡ c.args.self.now.at = ap (λ lines. lines.at) c.self.view_is in
    IfSome_then _ c.read_behind.ensures.short (λ told _.
    left_stays told c.args.self.now.kept _ c.args.self.now.at c.self.inside.at
    (kept_stays c.self.inside.buffer.items c.make_room-self-inside.new.buffer.items c.read_behind.new.buffer.items c.self.inside.start c.self.inside.end c.make_room-self-inside.result c.make_room-self-inside.ensures.range c.read_behind.ensures.front ∙ was) at)

pub returns-in_default-clause-front : goal.returns-in_default-clause-front
returns-in_default-clause-front g c =
    let was : slice_range c.self.inside.buffer.items c.self.inside.start c.self.inside.end ≡ c.args.self.now.kept = ap (λ lines. lines.kept) c.self.view_is in
    let stays = kept_stays c.self.inside.buffer.items c.make_room-self-inside.new.buffer.items c.read_behind.new.buffer.items c.self.inside.start c.self.inside.end c.make_room-self-inside.result c.make_room-self-inside.ensures.range c.read_behind.ensures.front in
    begins_same c.args.self.now.kept _ (stays ∙ was)

pub returns-clause-front : goal.returns-clause-front
returns-clause-front g c =
    let was : slice_range c.self.inside.buffer.items c.self.inside.start c.self.inside.end ≡ c.args.self.now.kept = ap (λ lines. lines.kept) c.self.view_is in
    let grows = kept_grows c.self.inside.buffer.items c.make_room-self-inside.new.buffer.items c.read_behind.new.buffer.items c.self.inside.start c.self.inside.end c.make_room-self-inside.result c.in_ok-count.count c.make_room-self-inside.ensures.range c.read_behind.ensures.front in
    begins c.args.self.now.kept _ _ (grows ∙ ap (λ xs. xs ++ take c.in_ok-count.count (drop (c.make_room-self-inside.result + (c.self.inside.end - c.self.inside.start)) c.read_behind.new.buffer.items)) was)

pub returns-clause-left : goal.returns-clause-left
returns-clause-left g c =
    let was : slice_range c.self.inside.buffer.items c.self.inside.start c.self.inside.end ≡ c.args.self.now.kept = ap (λ lines. lines.kept) c.self.view_is in
    let at : c.self.inside.at ≡ c.args.self.now.at = ap (λ lines. lines.at) c.self.view_is in
    let more = drop (c.make_room-self-inside.result + (c.self.inside.end - c.self.inside.start)) c.read_behind.new.buffer.items in
    let grows = kept_grows c.self.inside.buffer.items c.make_room-self-inside.new.buffer.items c.read_behind.new.buffer.items c.self.inside.start c.self.inside.end c.make_room-self-inside.result c.in_ok-count.count c.make_room-self-inside.ensures.range c.read_behind.ensures.front in
    IfSome_then _ c.in_ok-count.ensures.bytes (λ told read.
    left_same told c.args.self.now.kept _ more c.args.self.now.at c.in-Some.at c.in_ok-count.count (grows ∙ ap (λ xs. xs ++ take c.in_ok-count.count more) was) (subst (λ n. IsRead told n c.in_ok-count.count more) at read)
    (c.in-Some.ensures.1 ∙ ap (λ n. n + c.in_ok-count.count) at))
