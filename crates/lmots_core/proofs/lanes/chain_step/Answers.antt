use Rattle.std.proofs.Common.{ℕ, ◌<◌, ap, ◌∙◌, ◌∷◌, ◌++◌, arith, slice_index}
use Rattle.std.specs.Int.{w16, to_be_bytes}
use Rattle.sha2.specs.Sha256.{digest_bytes}
use Rattle.sha256_lanes.specs.Lanes.{value_in, word_of}
use Rattle.lmots_core.proofs.PaddedBlock.{length-step_message, padded_words}
use Rattle.lmots_core.proofs.lanes.chain_step.Goals as goal

pub returns : goal.returns
returns c = λ j lt p head.
    let v = c.args.value in
    let i = slice_index c.args.chains j in
    let n = slice_index c.args.numbers j in
    let m = p ++ to_be_bytes w16 i ++ n ∷ digest_bytes (value_in j v) 8 in
    let words = λ (k : ℕ) (b : k < 16).
    ap (λ ws. slice_index ws k) (c.block_words.ensures j lt)
    ∙ padded_words c.args.head p i n (word_of j v 0) (word_of j v 1) (word_of j v 2) (word_of j v 3) (word_of j v 4) (word_of j v 5) (word_of j v 6) (word_of j v 7) head (c.requires.chains j lt) k b in
    let len = length-step_message p (value_in j v) i n head.0 in
    c.hash_block.ensures j lt m (omega (arith, len)) words
