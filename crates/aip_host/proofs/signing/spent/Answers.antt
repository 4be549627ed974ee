use Rattle.std.proofs.Common.{◌≢◌}
use Rattle.std.proofs.lemmas.Bool.{false≢true}
use Rattle.lms_core.specs.Parameters.{leaves_of}
use Rattle.aip_host.specs.declared.signing.State.TheVariants.{Ready}
use Rattle.aip_host.specs.Holding.{kept_in}
use Rattle.aip_host.proofs.Turns.{stopped_leaves, done_signed, done_stopped}
use Rattle.aip_host.proofs.signing.spent.Goals as goal

pub unreachable-requires : goal.unreachable-requires
unreachable-requires c =
    let kept = kept_in (Ready c.args.signer c.args.armed) in
    let none_left = rw c.in-Err-Failed.field-0-is at c.in-Err-Failed.ensures.none_left in
    let calls = rw c.in-Err-Failed.field-0-is at c.in-Err-Failed.ensures.calls in
    let left : kept.next ≢ leaves_of kept.key.height = λ is. false≢true (none_left is) in
    let fell = stopped_leaves kept c.requires.spends.standing c.requires.spends c.requires.place left c.in-Err-Failed.disk calls in
    let none = c.in-None.is in
    let some = fell.1 in
    absurd (cc)

pub returns-in-Ok : goal.returns-in-Ok
returns-in-Ok c =
    let kept = kept_in (Ready c.args.signer c.args.armed) in
    let ends = c.in-Ok.ensures in
    let left : kept.next ≢ leaves_of kept.key.height = λ is. false≢true (c.in-Ok.ensures.none_left is) in
    record {
      signed = done_signed kept c.requires.spends.standing c.requires.spends c.requires.place left c.args.message.now
          c.in-Ok.signature c.in-Ok.leaf _ _ _ c.in-Ok.ensures.leaf c.in-Ok.ensures.signature c.in-Ok.ensures.next.0 c.in-Ok.ensures.tree c.in-Ok.ensures.calls c.in-Ok.ensures.content;
      valid = c.in-Ok.ensures.valid;
    }

pub returns-in-Some : goal.returns-in-Some
returns-in-Some c =
    let kept = kept_in (Ready c.args.signer c.args.armed) in
    let none_left = rw c.in-Err-Failed.field-0-is at c.in-Err-Failed.ensures.none_left in
    let calls = rw c.in-Err-Failed.field-0-is at c.in-Err-Failed.ensures.calls in
    let key = rw c.in-Err-Failed.field-0-is at c.in-Err-Failed.ensures.tree in
    let left : kept.next ≢ leaves_of kept.key.height = λ is. false≢true (none_left is) in
    record {
      signed = done_stopped kept c.requires.spends.standing c.requires.spends c.requires.place left c.args.message.now
          c.next-leaf.result c.in-Err-Failed.tree c.in-Err-Failed.disk c.in-Some.field-0 c.next-leaf.ensures.next key c.in-Some.is calls;
      valid = tt;
    }
