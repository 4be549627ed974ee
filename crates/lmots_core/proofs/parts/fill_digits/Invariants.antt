use Rattle.std.proofs.Common.{◌≡◌, ℕ, ◌<◌, length, slice_index}
use Rattle.lmots_core.specs.Parameters.{chains_of}
use Rattle.lmots_core.specs.Chains.{digit}
use Rattle.lmots_core.proofs.parts.fill_digits.Given as goal

abbrev pub invariant-digits : goal.invariant-digits
invariant-digits l = record {
  len : length l.digits ≡ chains_of l.width;
  filled : (k : ℕ) → k < l.i → slice_index l.digits k ≡ digit l.width l.hash k;
}
