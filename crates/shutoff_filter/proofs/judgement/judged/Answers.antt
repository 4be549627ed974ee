use Rattle.std.proofs.Common.{inr, sym, ◌∙◌, arith}
use Rattle.shutoff_filter.proofs.Shown.{front_filter, front_open, front_room}
use Rattle.shutoff_filter.proofs.judgement.judged.Goals as goal

pub returns-then-kept-room : goal.returns-then-kept-room
returns-then-kept-room c = record {
  says = λ file shows.
      let bytes = c.args.bytes.now in
      let kept = c.room_in-kept.ensures ∙ front_room file bytes c.args.count shows c.if-count-lt-HEAD.false in (
        front_open file bytes c.args.count shows c.if-count-lt-HEAD.false c.if-gate.false,
        kept,
        λ same. c.if-kept-room.true (kept ∙ same),
      );
}

pub returns-then-count-bytes : goal.returns-then-count-bytes
returns-then-count-bytes c = record {
  says = λ file shows.
      let bytes = c.args.bytes.now in (
        shows.same 0 (omega (arith, c.if-count-lt-HEAD.false)),
        inr (
          sym (front_room file bytes c.args.count shows c.if-count-lt-HEAD.false) ∙ sym c.room_in-kept.ensures ∙ c.if-kept-room.false,
          omega (arith, shows.read, c.if-count-bytes.true, c.requires.size),
        ),
      );
}

pub returns : goal.returns
returns c = record {
  says = λ file shows.
      front_filter file c.args.bytes.now c.args.count shows c.args.room c.if-count-lt-HEAD.false c.if-gate.false (sym c.room_in-kept.ensures ∙ c.if-kept-room.false) c.requires.size c.if-count-bytes.false;
}
