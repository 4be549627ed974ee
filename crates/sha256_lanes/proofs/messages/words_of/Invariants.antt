use Rattle.std.proofs.Common.{◌≡◌, ℕ, ◌*◌, ◌<◌, [], ◌∷◌, length}
use Rattle.std.specs.Prelude.{slice_index_or}
use Rattle.sha2.specs.Sha256.{word_at}
use Rattle.sha256_lanes.proofs.messages.words_of.Given as goal

abbrev pub invariant-words : goal.invariant-words
invariant-words l = record {
  len : length l.words ≡ 16;
  written : (i : ℕ) → i < l.k → slice_index_or l.words i [] ≡ word_at l.a (4 * i) ∷ word_at l.b (4 * i) ∷ word_at l.c (4 * i) ∷ word_at l.d (4 * i) ∷ [];
}
