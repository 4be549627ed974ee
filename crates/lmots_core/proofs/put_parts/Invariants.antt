use Rattle.std.proofs.Common.{◌≡◌, ◌+◌, ◌*◌, ◌++◌, take}
use Rattle.lmots_core.specs.Chains.{joined, signed_part}
use Rattle.lmots_core.proofs.put_parts.Given as goal

abbrev pub invariant-chains : goal.invariant-chains
invariant-chains l = take (36 + 32 * l.i) l.out ≡ take 36 l.initial.out ++ joined (signed_part l.fn.width l.seed l.id l.q l.hash) l.i
