use Rattle.std.proofs.Common.{◌∙◌, ap, refl}
use Rattle.sha2.specs.Sha256.{add_state, compress, rounds}
use Rattle.sha2.proofs.Schedule256.{IsWindow_first}
use Rattle.sha256_lanes.specs.Lanes.{lane, value_in}
use Rattle.sha256_lanes.proofs.FourLanes.{length-lane}
use Rattle.sha256_lanes.proofs.blocks.compress.Goals as goal

pub returns : goal.returns
unfolding compress rounds
returns c = λ j lt b words.
    let h = value_in j c.args.state in
    let window = IsWindow_first b (lane j c.args.words.now) (length-lane c.args.words.now j ∙ c.told-words) words in
    let s1 = c.first_four_steps-v.ensures j lt b h window refl in
    let s2 = c.first_four_steps-v-2.ensures j lt b h window s1 in
    let s3 = c.first_four_steps-v-3.ensures j lt b h window s2 in
    let s4 = c.first_four_steps-v-4.ensures j lt b h window s3 in
    let t1 = c.sixteen_steps-v.ensures j lt b h (window, s4) in
    let t2 = c.sixteen_steps-v-2.ensures j lt b h t1 in
    let t3 = c.sixteen_steps-v-3.ensures j lt b h t2 in
    c.add_values.ensures j lt ∙ ap (add_state h) t3.1
