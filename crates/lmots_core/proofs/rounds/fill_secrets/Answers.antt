use Rattle.std.proofs.Common.{◌≡◌, ◌∙◌, ℕ, ◌<◌, ◌+◌, ◌*◌, ◌++◌, ◌∷◌, refl, arith, lit<}
use Rattle.std.specs.Int.{w16, to_be_bytes}
use Rattle.sha2.specs.Sha256.{sha256}
use Rattle.lmots_core.proofs.Standing.{filled_four, length-four}
use Rattle.lmots_core.proofs.rounds.fill_secrets.Goals as goal

pub equal_step-next-requires : goal.equal_step-next-requires
equal_step-next-requires c = λ j lt. omega (arith, c.chain_numbers.ensures j lt)

pub groups-init : goal.groups-init
groups-init c = record {
  len = refl;
  filled = λ p head k lt. absurd (omega arith);
}

pub groups-preserved : goal.groups-preserved
groups-preserved c = record {
  len = rw c.put_lanes.ensures (length-four c.groups.values _ _ _ _ _ _ _ _ ∙ c.groups.invariant.len);
  filled = λ p head.
      let secret = λ (j : ℕ) (lt : j < 4). rw (c.splat_bytes-start.ensures j lt, c.chain_numbers.ensures j lt) at (c.equal_step-next.ensures j lt p head) in
      let first : 4 * c.groups.group + 0 ≡ 4 * c.groups.group = omega arith in
      let f = λ (k : ℕ). sha256 (p ++ to_be_bytes w16 k ++ 0xff ∷ c.args.seed.now) in
      rw c.put_lanes.ensures (filled_four f (4 * c.groups.group) (4 * (c.groups.group + 1)) c.groups.values _ _ _ _ (omega arith)
      (rw first at (secret 0 (lit< tt))) (secret 1 (lit< tt)) (secret 2 (lit< tt)) (secret 3 (lit< tt)) (c.groups.invariant.filled p head));
}

pub returns-clause-secrets : goal.returns-clause-secrets
returns-clause-secrets c = λ p head k lt. c.groups.invariant.filled p head k (omega arith) (omega arith)
