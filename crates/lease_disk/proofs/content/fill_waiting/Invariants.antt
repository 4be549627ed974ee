use Rattle.std.proofs.Common.{◌≡◌, ℕ, ◌<◌, ◌≤◌, ◌||◌, nat_le, get_or, length, if◌then◌else◌}
use Rattle.std.specs.List.{list_any}
use Rattle.lease_disk.specs.Marks.{covers}
use Rattle.lease_disk.proofs.content.fill_waiting.Given as goal

abbrev pub invariant-loop-k : goal.invariant-loop-k
invariant-loop-k l = record {
  left : (j : ℕ) → j < l.k → get_or l.content j 0 ≡ (if list_any (covers j) l.marks || nat_le l.firm j then l.fill else get_or l.fn.content j 0);
  rest : (j : ℕ) → l.k ≤ j → get_or l.content j 0 ≡ get_or l.fn.content j 0;
}
