use Rattle.std.proofs.Common.{arith, ◌∙◌, ◌-◌, length, take, drop, ◌≡◌, length-drop}
use Rattle.std.proofs.lemmas.Result.{err_from_is_err_and}
use Rattle.aip_io.proofs.Pieces.{took_more, took_part, rest_of}
use Rattle.aip_io.proofs.sink.put_all.Goals as goal

pub returns-in_err-at-clause-part : goal.returns-in_err-at-clause-part
returns-in_err-at-clause-part g c =
    let p = err_from_is_err_and c.from_residual.result c.from_residual.ensures.1 in
    rw p.1 (took_part _ _ _ c.pieces.at _ c.pieces.invariant.1 c.in_err-at.ensures.nothing)

pub pieces-preserved : goal.pieces-preserved
pieces-preserved g c =
    let rest : take (length c.args.bytes.now - c.pieces.at) (drop c.pieces.at c.args.bytes.now) ≡ drop c.pieces.at c.args.bytes.now = rest_of c.pieces.at c.args.bytes.now in
    let took = rw rest at c.in_ok-at.ensures.took in
    let within = rw rest at c.in_ok-at.ensures.within in
    (omega (arith, length-drop c.pieces.at c.args.bytes.now), took_more _ _ _ c.pieces.at _ _ c.pieces.invariant.1 took, c.in_ok-at.ensures.cause.stays (λ is. cc) ∙ c.pieces.invariant.2)
