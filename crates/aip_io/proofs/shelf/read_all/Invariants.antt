use Rattle.std.proofs.Common.{◌≡◌, ◌≤◌, ◌-◌, ℕ, List, take, vec_len, IfSome}
use Rattle.aip_io.proofs.shelf.read_all.Given as goal

abbrev pub invariant-pieces : goal.invariant-pieces
invariant-pieces g l =
    (vec_len l.bytes ≤ l.most)
    × ((other : List ℕ) → g.S.Shelf.text l.shelf other ≡ g.S.Shelf.text l.initial.shelf other)
    × ((other : List ℕ) → g.S.Shelf.faults l.shelf other ≡ g.S.Shelf.faults l.initial.shelf other)
    × IfSome (g.S.Shelf.text l.initial.shelf l.name) (λ told. l.bytes.items ≡ take (vec_len l.bytes) told)

abbrev pub decreases-pieces : goal.decreases-pieces
decreases-pieces g l = l.most - vec_len l.bytes
