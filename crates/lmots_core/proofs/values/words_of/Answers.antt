use Rattle.std.proofs.Common.{arith}
use Rattle.sha256_lanes.proofs.BytesOfWords.{bytes_of_words}
use Rattle.lmots_core.proofs.values.words_of.Goals as goal

pub returns : goal.returns
returns c =
    rw (
      c.word_at.ensures,
      c.word_at-2.ensures,
      c.word_at-3.ensures,
      c.word_at-4.ensures,
      c.word_at-5.ensures,
      c.word_at-6.ensures,
      c.word_at-7.ensures,
      c.word_at-8.ensures,
    )
    (bytes_of_words c.args.bytes.now c.requires (λ i. omega (arith, c.type_inv.bytes i)))
