use Rattle.std.proofs.Common.{◌≡◌, ◌+◌, ◌-◌, ◌*◌, ◌∙◌, take, drop, get_or, ap, arith}
use Rattle.shutoff_filter.specs.FilterFile.{slot_at, slot_of}
use Rattle.shutoff_filter.proofs.opening.read_slot.Goals as goal

pub returns : goal.returns
unfolding slot_at
returns c =
    let start = 3 + 28 * c.args.number in
    let count : (start + 28) - (start + 1) ≡ 27 = omega arith in
    c.slot_of.ensures ∙ ap (λ n. slot_of (get_or c.args.bytes.now start 0) (take n (drop (start + 1) c.args.bytes.now))) count
