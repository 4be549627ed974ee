use Rattle.std.proofs.Common.{◌≡◌, ◌+◌, ◌%◌, arith, refl}
use Rattle.sha256_lanes.proofs.FourLanes.{lane_word, lane-set}
use Rattle.sha256_lanes.proofs.rounds.next_word.Goals as goal

pub returns : goal.returns
returns c = record {
  value = λ j h.
      let w = c.args.w.now in
      let p = c.args.place in
      let at : c.args.place % 16 ≡ c.args.place = omega arith in
      let e14 = lane_word w j ((p + 14) % 16) (omega arith) in
      let e9 = lane_word w j ((p + 9) % 16) (omega arith) in
      let e1 = lane_word w j ((p + 1) % 16) (omega arith) in
      let e0 = lane_word w j p (omega arith) in
      rw (at, e14, e9, e1, e0, c.add-word.ensures j h, c.add.ensures j h, c.small_sigma0-far.ensures j h, c.add-near.ensures j h, c.small_sigma1.ensures j h) refl;
  window = λ j h. lane-set c.args.w.now j c.args.place c.add-word.result;
}
