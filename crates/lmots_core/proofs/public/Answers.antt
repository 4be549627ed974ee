use Rattle.std.proofs.Common.{◌≡◌, ℕ, ◌+◌, ◌*◌, ◌<◌, min, arith}
use Rattle.sha2.specs.Sha256.{digest_bytes}
use Rattle.lmots_core.specs.Chains.{end_of, prefix}
use Rattle.sha256_lanes.specs.Lanes.{value_in}
use Rattle.lmots_core.proofs.Joined.{joined_none}
use Rattle.lmots_core.proofs.public.Goals as goal

pub groups-init : goal.groups-init
groups-init c =
    let none : min 0 c.chains-count.result ≡ 0 = omega arith in
    rw (none, joined_none) c.hasher_of-hasher.ensures

pub groups-preserved : goal.groups-preserved
groups-preserved c =
    let n = 4 * c.groups.group in
    let here : min (4 * c.groups.group) c.chains-count.result ≡ 4 * c.groups.group = omega arith in
    let next : 4 * c.groups.group + c.min.result ≡ min (4 * (c.groups.group + 1)) c.chains-count.result = omega arith in
    let each : (j : ℕ) → j < 4 → digest_bytes (value_in j c.four_chains-ends.result) 8 ≡ end_of c.args.width c.args.seed.now c.args.id.now c.args.q (n + j) =
    λ j lt. rw (c.leaf_block-block.ensures, c.greatest.ensures) at (c.four_chains-ends.ensures j lt) in
    rw next at (c.add_lanes.ensures (prefix c.args.id.now c.args.q 0x8080) (end_of c.args.width c.args.seed.now c.args.id.now c.args.q) n each (rw here at c.groups.invariant))
