use Rattle.std.proofs.Common.{rules, arith, ◌≡◌, ℕ, ◌*◌, ◌<◌, length, ap, ◌∙◌, slice_index, lit<}
use Rattle.sha2.specs.Sha256.{sha256, word_at}
use Rattle.sha256_lanes.proofs.FourLanes.{lane_word}
use Rattle.sha256_lanes.proofs.messages.digests.Goals as goal

pub returns : goal.returns
returns c =
    let ws = c.words_of-words.result in
    let len : length c.words_of-words.result ≡ 16 = search rules in
    let word = λ (j k : ℕ) (lt : k < 16). lane_word ws j k (omega arith) ∙ ap (λ w. slice_index w j) (c.words_of-words.ensures k lt) in
    let one : c.lane_bytes.result ≡ sha256 c.args.first.now =
    c.lane_bytes.ensures ∙ c.hash_block-values.ensures 0 (lit< tt) c.args.first.now c.requires.first (λ k lt. word 0 k lt ∙ ap (λ b. word_at b (4 * k)) c.padded-a.ensures) in
    let two : c.lane_bytes-2.result ≡ sha256 c.args.second.now =
    c.lane_bytes-2.ensures ∙ c.hash_block-values.ensures 1 (lit< tt) c.args.second.now c.requires.second (λ k lt. word 1 k lt ∙ ap (λ b. word_at b (4 * k)) c.padded-b.ensures) in
    let three : c.lane_bytes-3.result ≡ sha256 c.args.third.now =
    c.lane_bytes-3.ensures ∙ c.hash_block-values.ensures 2 (lit< tt) c.args.third.now c.requires.third (λ k lt. word 2 k lt ∙ ap (λ b. word_at b (4 * k)) c.padded-c.ensures) in
    let four : c.lane_bytes-4.result ≡ sha256 c.args.fourth.now =
    c.lane_bytes-4.ensures ∙ c.hash_block-values.ensures 3 (lit< tt) c.args.fourth.now c.requires.fourth (λ k lt. word 3 k lt ∙ ap (λ b. word_at b (4 * k)) c.padded-d.ensures) in
    cc
