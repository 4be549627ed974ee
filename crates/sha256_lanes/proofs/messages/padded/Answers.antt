use Rattle.std.proofs.Common.{rules, List, ℕ, ◌≡◌, ◌-◌, ◌++◌, ◌∙◌, ap, ap₂, length, take, drop, replicate, slice_set}
use Rattle.std.specs.Int.{w64, to_be_bytes}
use Rattle.sha256_lanes.proofs.OneBlock.{bits_are, mark_set}
use Rattle.sha256_lanes.proofs.messages.padded.Goals as goal

pub returns : goal.returns
returns c =
    let m = c.args.message.now in
    let zeros : c.split_at_mut-zeros.result.0.now ≡ take (56 - length c.args.message.now) (drop (length c.args.message.now) (replicate 64 0)) = search rules in
    ap₂ (λ a b. a ++ b) c.copy_from_slice.ensures.after
    (ap₂ (λ a b. a ++ b)
    (ap (λ (xs : List ℕ). slice_set xs 0 128) zeros ∙ mark_set (length m) c.requires)
    (c.copy_from_slice-2.ensures.after ∙ c.to_be_bytes.ensures ∙ ap (to_be_bytes w64) (bits_are (length m) c.requires)))
