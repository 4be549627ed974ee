-- What tells a frame from other bytes.
use Rattle.std.specs.Prelude.{ℕ, Bool, ◌-◌, ◌==◌, ◌&&◌, nat_le, List, length, drop, slice_index}
use Rattle.byteorder.specs.Endian.{big_number}
use Rattle.aip_frame.specs.Frame.{kind_at, body_fits}

-- at least 90 bytes, the fixed bytes, a kind, and the body's length, which is one that the kind may have
abbrev pub has_form : List ℕ → Bool
has_form bytes =
    nat_le 90 (length bytes)
    && ((slice_index bytes 0 == 1)
    && (nat_le (slice_index bytes 1) 3
    && ((slice_index bytes 3 == 0)
    && ((big_number 2 (drop 88 bytes) == (length bytes - 90))
    && body_fits (kind_at (slice_index bytes 1)) (length bytes - 90)))))
