use Rattle.std.proofs.Common.{◌≡◌, inr, sym, ◌∙◌, rules, arith}
use Rattle.std.specs.Prelude.{IsTrue}
use Rattle.std.proofs.lemmas.List.{take_rest}
use Rattle.leaf_lease.proofs.Files.{front_open, front_id, front_free}
use Rattle.leaf_lease.proofs.judging.judged.Goals as goal

pub returns-then-not-is_same-clause-says : goal.returns-then-not-is_same-clause-says
returns-then-not-is_same-clause-says c = λ file shows.
    let bytes = c.args.bytes.now in
    let kept = c.id_in-kept.ensures.id ∙ front_id file bytes c.args.count shows c.if-count-lt-HEAD.false in (
      front_open file bytes c.args.count shows c.if-count-lt-HEAD.false c.if-gate.false,
      kept,
      shows.same 17 (omega (arith, c.if-count-lt-HEAD.false)),
      λ key.
          let same : IsTrue c.is_same.result = c.is_same.ensures.1 (kept ∙ key.same_id) in
          let other = c.if-not-is_same.true in
          grind arith,
    )

pub returns-then-kept_height-height-clause-says : goal.returns-then-kept_height-height-clause-says
returns-then-kept_height-height-clause-says c = λ file shows.
    let bytes = c.args.bytes.now in (
      front_open file bytes c.args.count shows c.if-count-lt-HEAD.false c.if-gate.false,
      c.id_in-kept.ensures.id ∙ front_id file bytes c.args.count shows c.if-count-lt-HEAD.false,
      shows.same 17 (omega (arith, c.if-count-lt-HEAD.false)),
      λ key. c.if-kept_height-height.true (shows.same 17 (omega (arith, c.if-count-lt-HEAD.false)) ∙ key.same_height),
    )

pub returns-then-count-bytes-clause-says : goal.returns-then-count-bytes-clause-says
returns-then-count-bytes-clause-says c = λ file shows.
    let bytes = c.args.bytes.now in
    let same : c.id_in-kept.result ≡ c.args.id.now = search rules in (
      shows.same 0 (omega (arith, c.if-count-lt-HEAD.false)),
      inr (
        record {
          same_id = sym (front_id file bytes c.args.count shows c.if-count-lt-HEAD.false) ∙ sym c.id_in-kept.ensures.id ∙ same;
          same_height = sym (shows.same 17 (omega (arith, c.if-count-lt-HEAD.false))) ∙ c.if-kept_height-height.false;
        },
        omega (arith, shows.read, c.if-count-bytes.true, c.requires.size),
      ),
    )

pub returns-clause-says : goal.returns-clause-says
returns-clause-says c = λ file shows.
    let bytes = c.args.bytes.now in
    let same : c.id_in-kept.result ≡ c.args.id.now = search rules in
    record {
      is_open = front_open file bytes c.args.count shows c.if-count-lt-HEAD.false c.if-gate.false;
      has_key = record {
        same_id = sym (front_id file bytes c.args.count shows c.if-count-lt-HEAD.false) ∙ sym c.id_in-kept.ensures.id ∙ same;
        same_height = sym (shows.same 17 (omega (arith, c.if-count-lt-HEAD.false))) ∙ c.if-kept_height-height.false;
      };
      whole = omega (arith, shows.read, c.if-count-bytes.false, c.requires.size);
      first_free = front_free file bytes c.args.count shows c.if-count-lt-HEAD.false c.args.height c.first_free.result _ (take_rest bytes 18) c.requires.size c.if-count-bytes.false c.first_free.ensures.within c.first_free.ensures.free c.first_free.ensures.last_gone;
    }
