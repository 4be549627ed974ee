use Rattle.std.proofs.Common.{◌++◌}
use Rattle.sha2.specs.Hashers.{Holds256}
use Rattle.lmots_core.specs.Chains.{candidate_part, joined, message_hash, prefix, randomizer_in}
use Rattle.lmots_core.proofs.candidate_under.Given as goal

abbrev pub invariant-chains : goal.invariant-chains
invariant-chains l =
    Holds256 l.hasher (prefix l.id l.q 0x8080 ++ joined (candidate_part l.fn.width l.id l.q (message_hash l.id l.q (randomizer_in l.signature) l.message) l.signature) l.i)
