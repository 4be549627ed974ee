use Rattle.std.proofs.Common.{◌∙◌, ◌+◌, ap, lit<, refl, length-set, slice_index, slice_set}
use Rattle.sha256_lanes.specs.Lanes.{value_in}
use Rattle.lmots_core.specs.Chains.{step}
use Rattle.lmots_core.proofs.Standing.{left_four, stand_step}
use Rattle.lmots_core.proofs.rounds.step_at.Goals as goal

pub returns-clause-fewer : goal.returns-clause-fewer
returns-clause-fewer c =
    let first = c.requires.go_on 0 (lit< tt) in
    left_four c.args.from.now c.args.to.now (slice_index c.args.places 0) (slice_index c.args.places 1) (slice_index c.args.places 2) (slice_index c.args.places 3) first.0 first.1

pub returns-clause-stand : goal.returns-clause-stand
returns-clause-stand c = λ p ends head stand.
    let from = c.args.from.now in
    let to = c.args.to.now in
    let old = c.args.values.now in
    let next = c.chain_step-next.result in
    let a = slice_index c.args.places 0 in
    let b = slice_index c.args.places 1 in
    let d = slice_index c.args.places 2 in
    let e = slice_index c.args.places 3 in
    let open_a = c.requires.go_on 0 (lit< tt) in
    let open_b = c.requires.go_on 1 (lit< tt) in
    let open_d = c.requires.go_on 2 (lit< tt) in
    let open_e = c.requires.go_on 3 (lit< tt) in
    let step_a = rw c.from.ensures at (c.chain_step-next.ensures 0 (lit< tt) p head) ∙ ap (step _ _) c.side_by_side-value.ensures.first in
    let step_b = rw c.from-2.ensures at (c.chain_step-next.ensures 1 (lit< tt) p head) ∙ ap (step _ _) c.side_by_side-value.ensures.second in
    let step_d = rw c.from-3.ensures at (c.chain_step-next.ensures 2 (lit< tt) p head) ∙ ap (step _ _) c.side_by_side-value.ensures.third in
    let step_e = rw c.from-4.ensures at (c.chain_step-next.ensures 3 (lit< tt) p head) ∙ ap (step _ _) c.side_by_side-value.ensures.fourth in
    let from_a = slice_set from a (slice_index from a + 1) in
    let from_b = slice_set from_a b (slice_index from b + 1) in
    let from_d = slice_set from_b d (slice_index from d + 1) in
    let to_a = slice_set old a (value_in 0 next) in
    let to_b = slice_set to_a b (value_in 1 next) in
    let to_d = slice_set to_b d (value_in 2 next) in
    let same = c.requires.starts in
    let len_a = length-set from a (slice_index from a + 1) in
    let len_b = length-set from_a b (slice_index from b + 1) ∙ len_a in
    let len_d = length-set from_b d (slice_index from d + 1) ∙ len_b in
    let many_a = length-set old a (value_in 0 next) in
    let many_b = length-set to_a b (value_in 1 next) ∙ many_a in
    let many_d = length-set to_b d (value_in 2 next) ∙ many_b in
    let at_a = stand_step p from to ends from old old a (value_in 0 next) open_a.0 refl refl same open_a.1 step_a stand stand in
    let at_b = stand_step p from_a to ends from old to_a b (value_in 1 next) open_b.0 len_a many_a same open_b.1 step_b stand at_a in
    let at_d = stand_step p from_b to ends from old to_b d (value_in 2 next) open_d.0 len_b many_b same open_d.1 step_d stand at_b in
    rw c.put_lanes.ensures (stand_step p from_d to ends from old to_d e (value_in 3 next) open_e.0 len_d many_d same open_e.1 step_e stand at_d)
