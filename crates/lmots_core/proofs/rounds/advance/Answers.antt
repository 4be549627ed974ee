use Rattle.std.proofs.Common.{◌∙◌, ◌-◌, ◌++◌, [], refl, sym, arith, slice_index, slice_index_or}
use Rattle.std.specs.Int.{w16, to_be_bytes}
use Rattle.sha2.specs.Sha256.{digest_bytes}
use Rattle.lmots_core.specs.Chains.{steps}
use Rattle.lmots_core.proofs.Standing.{ended, stands_done}
use Rattle.lmots_core.proofs.rounds.advance.Goals as goal

pub turns-init : goal.turns-init
turns-init c = record {
  starts = c.requires.starts;
  len = refl;
  further = c.next_open-next.ensures.goes_on;
  found = c.next_open-next.ensures.found;
  stand = λ p head k lt. refl;
}

pub turns-preserved : goal.turns-preserved
turns-preserved c = record {
  starts = c.turn-next.ensures.starts ∙ sym c.turn-next.ensures.length;
  len = c.turn-next.ensures.length ∙ c.turns.invariant.len;
  further = c.turn-next.ensures.goes_on;
  found = c.turn-next.ensures.found;
  stand = λ p head. c.turn-next.ensures.stand p _ head (c.turns.invariant.stand p head);
}

pub returns-clause-stand : goal.returns-clause-stand
returns-clause-stand c = λ p head k lt.
    let end = ended c.turns.from c.args.to.now k c.turns.next (omega arith) (omega arith) c.turns.invariant.found in
    stands_done p c.turns.from c.args.to.now
    (λ k. steps (p ++ to_be_bytes w16 k) (slice_index c.args.from.now k) (slice_index c.args.to.now k - slice_index c.args.from.now k) (digest_bytes (slice_index_or c.args.values.now k []) 8))
    c.turns.values k end (c.turns.invariant.stand p head k (omega arith))
