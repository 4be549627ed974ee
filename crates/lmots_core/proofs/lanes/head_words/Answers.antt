use Rattle.std.proofs.Common.{◌∙◌, arith, lit<, length-take-le}
use Rattle.lmots_core.proofs.PaddedBlock.{each_five, word_front}
use Rattle.lmots_core.proofs.lanes.head_words.Goals as goal

pub returns : goal.returns
returns c =
    let b = c.args.block.now in (
      length-take-le 20 b (omega arith),
      each_five _
          (c.word_at.ensures ∙ word_front b 0 (lit< tt))
          (c.word_at-2.ensures ∙ word_front b 1 (lit< tt))
          (c.word_at-3.ensures ∙ word_front b 2 (lit< tt))
          (c.word_at-4.ensures ∙ word_front b 3 (lit< tt))
          (c.word_at-5.ensures ∙ word_front b 4 (lit< tt)),
    )
