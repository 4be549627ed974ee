use Rattle.std.proofs.Common.{◌≡◌, ◌*◌, length, take}
use Rattle.sha2.specs.Sha256.{digest_bytes}
use Rattle.sha256_lanes.specs.Lanes.{value_in}
use Rattle.sha256_lanes.proofs.bytes.lane_bytes.Given as goal

abbrev pub invariant-words : goal.invariant-words
invariant-words l = record {
  len : length l.bytes ≡ 32;
  written : take (4 * l.k) l.bytes ≡ digest_bytes (value_in l.j l.value) l.k;
}
