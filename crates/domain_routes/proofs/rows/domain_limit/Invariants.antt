use Rattle.std.proofs.Common.{ℕ, ◌<◌, ◌≤◌, get_or}
use Rattle.domain_routes.proofs.rows.domain_limit.Given as goal

abbrev pub invariant-loop-domain : goal.invariant-loop-domain
invariant-loop-domain l = record {
  above : (k d : ℕ) → k < l.domain-index → get_or l.domains k d < l.limit;
  room : l.limit ≤ 65536;
}
