use Rattle.std.proofs.Common.{◌*◌, ◌++◌, min}
use Rattle.sha2.specs.Hashers.{Holds256}
use Rattle.lmots_core.specs.Chains.{end_of, joined, prefix}
use Rattle.lmots_core.proofs.public.Given as goal

abbrev pub invariant-groups : goal.invariant-groups
invariant-groups l = Holds256 l.hasher (prefix l.id l.q 0x8080 ++ joined (end_of l.width l.seed l.id l.q) (min (4 * l.group) l.count))
