use Rattle.std.proofs.Common.{◌≡◌, ℕ, ◌<◌, [], length, slice_index_or}
use Rattle.sha2.specs.Sha256.{digest_bytes}
use Rattle.lmots_core.specs.Parameters.{chains_of}
use Rattle.lmots_core.specs.Chains.{part_in}
use Rattle.lmots_core.proofs.parts.read_parts.Given as goal

abbrev pub invariant-parts : goal.invariant-parts
invariant-parts l = record {
  len : length l.values ≡ chains_of l.fn.width;
  read : (k : ℕ) → k < l.i → digest_bytes (slice_index_or l.values k []) 8 ≡ part_in l.signature k;
}
