use Rattle.sha256_lanes.proofs.BytesOfWords.{bytes_of_words}
use Rattle.sha256_lanes.proofs.bytes.splat_bytes.Goals as goal

pub returns : goal.returns
returns c j h =
    rw (
      c.splat.ensures j h,
      c.splat-2.ensures j h,
      c.splat-3.ensures j h,
      c.splat-4.ensures j h,
      c.splat-5.ensures j h,
      c.splat-6.ensures j h,
      c.splat-7.ensures j h,
      c.splat-8.ensures j h,
      c.word_at.ensures,
      c.word_at-2.ensures,
      c.word_at-3.ensures,
      c.word_at-4.ensures,
      c.word_at-5.ensures,
      c.word_at-6.ensures,
      c.word_at-7.ensures,
      c.word_at-8.ensures,
    )
    (bytes_of_words c.args.bytes.now c.told-bytes c.fits-bytes)
