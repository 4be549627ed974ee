use Rattle.std.proofs.Common.{◌≡◌, ◌*◌, length, take}
use Rattle.sha2.specs.Sha256.{digest_bytes}
use Rattle.lmots_core.proofs.values.bytes_of.Given as goal

abbrev pub invariant-words : goal.invariant-words
invariant-words l = record {
  len : length l.bytes ≡ 32;
  written : take (4 * l.k) l.bytes ≡ digest_bytes l.words l.k;
}
