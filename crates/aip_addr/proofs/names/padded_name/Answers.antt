use Rattle.std.proofs.Common.{rules, ◌≡◌, ◌++◌, ◌-◌, length, take, drop, replicate, subst, sym, ap, ◌∙◌}
use Rattle.std.proofs.Math.Seq.{take-append_seam}
use Rattle.std.proofs.lemmas.List.{drop-replicate}
use Rattle.aip_addr.specs.Naming.{IsName}
use Rattle.aip_addr.proofs.names.padded_name.Goals as goal

-- src/names.rt: what stands before the zeros are the bytes, which are a name's
pub invariant_of-result : goal.invariant_of-result
invariant_of-result c =
    let bytes = c.args.bytes.now in
    let zeros = c.split_at_mut-front.result.1.now in
    let after = c.copy_from_slice.ensures.after in
    let front = ap (λ start. take (length bytes) (start ++ zeros)) after ∙ take-append_seam bytes zeros in
    let behind = c.split_at_mut-front.ensures.back ∙ drop-replicate (length bytes) 16 0 in
    let whole = ap (λ start. start ++ zeros) after ∙ (ap (λ rest. bytes ++ rest) behind ∙ sym (ap (λ start. start ++ replicate (16 - length bytes) 0) front)) in
    (subst IsName (sym front) c.requires.name, search rules, search rules, whole)
