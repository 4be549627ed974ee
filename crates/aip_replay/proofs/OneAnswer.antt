-- For each file at most one answer is right.
use Rattle.std.proofs.Common.{◌≡◌, ℕ, ◌≤◌, Bool, true, false, List, refl, ap, arith}
use Rattle.std.specs.Prelude.{nat_le}
use Rattle.std.proofs.lemmas.Bool.{leb-false, leb-true}
use Rattle.aip_topo.specs.declared.topology.Topology.{Topology}
use Rattle.aip_replay.specs.Answers.{IsFirstWrong}
use Rattle.aip_replay.specs.Laws.{OneAnswerIsRight}
use Rattle.aip_replay.specs.declared.ends.ReplayEnd.TheVariants.{Holds, Wrong, ReadFault, Topology as Refused, Memory}

-- no line before the first wrong one is it
not_behind : (topo : Topology) (file : List ℕ) (one other : ℕ) → IsFirstWrong topo file one → IsFirstWrong topo file other → one ≤ other
not_behind topo file one other p q = by (nat_le one other) refl
  where
    by : (b : Bool) → nat_le one other ≡ b → one ≤ other
    by true e = leb-true one other e
    by false e = absurd (q.wrong (p.before other (leb-false one other e)))

pub one_right : OneAnswerIsRight
one_right topo file Holds Holds p q = refl
one_right topo file Holds (Wrong other) p q = absurd (q.no_text p)
one_right topo file (Wrong one) Holds p q = absurd (p.no_text q)
one_right topo file (Wrong one) (Wrong other) p q =
    let first = not_behind topo file one other p q in
    let second = not_behind topo file other one q p in
    let same : one ≡ other = omega arith in
    ap (λ (n : ℕ). Wrong n) same
one_right topo file ReadFault other p q = absurd p
one_right topo file Memory other p q = absurd p
one_right topo file (Refused line f) other p q = absurd p
one_right topo file one ReadFault p q = absurd q
one_right topo file one Memory p q = absurd q
one_right topo file one (Refused line f) p q = absurd q
