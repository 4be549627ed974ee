use Rattle.std.proofs.Common.{refl}
use Rattle.lmots_core.proofs.lanes.block_words.Goals as goal

pub returns : goal.returns
returns c j h =
    rw (
      c.splat.ensures j h,
      c.splat-2.ensures j h,
      c.splat-3.ensures j h,
      c.splat-4.ensures j h,
      c.splat-5.ensures j h,
      c.place_word.ensures j h,
      c.across.ensures j h,
      c.across-2.ensures j h,
      c.across-3.ensures j h,
      c.across-4.ensures j h,
      c.across-5.ensures j h,
      c.across-6.ensures j h,
      c.across-7.ensures j h,
      c.across-8.ensures j h,
      c.splat-6.ensures j h,
      c.splat-7.ensures j h,
      c.splat-8.ensures j h,
    )
    refl
