-- Laws of frames: a frame ends where its length says.
use Rattle.std.specs.Prelude.{◌≡◌, ℕ, ◌<◌, List, ◌∷◌, ◌++◌, length, take, None, IsSome}
use Rattle.aip_frame.specs.Frame.{frame_of}

-- no proper prefix of a frame is a frame
abbrev pub NoPrefixIsAFrame : Type 0
NoPrefixIsAFrame = (bytes : List ℕ) (n : ℕ) → IsSome (frame_of bytes) → n < length bytes → frame_of (take n bytes) ≡ None

-- no frame with bytes behind it is a frame
abbrev pub NoLongerIsAFrame : Type 0
NoLongerIsAFrame =
    (bytes : List ℕ) (byte : ℕ) (more : List ℕ) → IsSome (frame_of bytes) → frame_of (bytes ++ byte ∷ more) ≡ None
