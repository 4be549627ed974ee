use Rattle.std.proofs.Common.{sym, ◌∙◌, arith}
use Rattle.shutoff_filter.specs.Places.{room_same}
use Rattle.shutoff_filter.proofs.formatting.front_of.Goals as goal

pub returns : goal.returns
returns c = record {
  says = λ file shows. (
    record { there = omega (arith, shows.read, c.if-count-lt-HEAD.false); gate = sym (shows.same 0 (omega (arith, c.if-count-lt-HEAD.false))) ∙ c.if-head.false },
    c.room_in.ensures ∙ room_same c.args.head.now file (shows.same 1 (omega (arith, c.if-count-lt-HEAD.false))) (shows.same 2 (omega (arith, c.if-count-lt-HEAD.false))),
  );
}
