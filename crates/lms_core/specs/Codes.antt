-- What a public key that was read keeps beside its bytes
use Rattle.std.specs.Prelude.{◌≡◌, ℕ, List, length, Some}
use Rattle.lmots_core.specs.declared.parameters.Width.{Width}
use Rattle.lms_core.specs.declared.height.Height.{Height}
use Rattle.lms_core.specs.Verify.{height_in, width_in}

-- the bytes are a public key with these parameter sets
pub record IsCoded (bytes : List ℕ) (width : Width) (height : Height) : Type 0 where
  pub whole : length bytes ≡ 56
  pub height_code : height_in bytes ≡ Some height
  pub width_code : width_in bytes ≡ Some width
