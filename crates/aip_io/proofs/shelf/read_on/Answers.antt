use Rattle.std.proofs.Common.{◌≡◌, take, vec_len, arith}
use Rattle.std.proofs.lemmas.Option.{IfSome_then}
use Rattle.aip_io.proofs.Pieces.{read_more}
use Rattle.aip_io.proofs.shelf.read_on.Goals as goal

pub returns-clause-bytes : goal.returns-clause-bytes
returns-clause-bytes g c =
    let old = c.args.bytes.now in
    let new = c.extend_from_slice.new.self in
    IfSome_then _ {Q = λ told. old.items ≡ take (vec_len old) told → new.items ≡ take (vec_len new) told} c.in_ok-came.ensures.bytes
    (λ told read so_far.
    read_more told c.read.new.into old.items new.items (vec_len old) c.len-at.result c.in_ok-came.came (vec_len new)
    read (omega arith) (omega (arith, c.in_ok-came.ensures.within)) so_far c.in_ok-extend_from_slice.ensures.items c.in_ok-extend_from_slice.ensures.len)
