use Rattle.std.proofs.Common.{ap, sym, ◌∙◌}
use Rattle.sha2.specs.Sha256.{compress, digest_bytes, padded_message}
use Rattle.sha256_lanes.proofs.OneBlock.{sha256_block}
use Rattle.sha256_lanes.proofs.blocks.hash_block.Goals as goal

pub returns : goal.returns
returns c = λ j lt m fits words.
    ap (λ t. digest_bytes t 8) (c.compress.ensures j lt (padded_message m) words ∙ ap (λ h. compress h (padded_message m)) (c.initial.ensures j lt))
    ∙ sym (sha256_block m fits)
