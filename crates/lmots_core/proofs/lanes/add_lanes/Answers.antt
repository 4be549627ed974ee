use Rattle.std.proofs.Common.{◌≡◌, ◌+◌, ◌∙◌, ◌++◌, add-zero, arith}
use Rattle.lmots_core.specs.Chains.{joined}
use Rattle.lmots_core.proofs.Joined.{joined_more}
use Rattle.lmots_core.proofs.lanes.add_lanes.Goals as goal

pub lanes-init : goal.lanes-init
lanes-init c = λ m f n each held. rw add-zero held

pub lanes-preserved : goal.lanes-preserved
lanes-preserved c = λ m f n each held.
    let j = c.lanes.j in
    let part = c.lane_bytes.ensures ∙ each j (omega arith) in
    let place : n + (c.lanes.j + 1) ≡ n + c.lanes.j + 1 = omega arith in
    rw place (rw (joined_more m f (n + j) c.lane_bytes.result part) at (c.update.ensures (m ++ joined f (n + j)) (c.lanes.invariant m f n each held)))

pub returns : goal.returns
returns c = λ m f n each held.
    let done : c.lanes.j ≡ c.args.count = omega arith in
    rw done at (c.lanes.invariant m f n each held)
