use Rattle.std.proofs.Common.{◌∙◌, arith}
use Rattle.leaf_lease.proofs.Files.{front_open, front_id}
use Rattle.leaf_lease.proofs.judging.front_of.Goals as goal

pub returns : goal.returns
returns c = record {
  says = λ file shows. (
    front_open file c.args.head.now c.args.count shows c.if-count-lt-HEAD.false c.if-gate.false,
    c.id_in.ensures.id ∙ front_id file c.args.head.now c.args.count shows c.if-count-lt-HEAD.false,
    shows.same 17 (omega (arith, c.if-count-lt-HEAD.false)),
  );
}
