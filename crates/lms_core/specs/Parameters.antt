-- The parameter sets of LMS with SHA-256 and m = 32 (RFC 8554, section 5.1, table 2), by the height h of the tree
use Rattle.std.specs.Prelude.{ℕ, ◌+◌, ◌*◌, ◌^◌, ◌==◌, if◌then◌else◌, Option, None, Some}
use Rattle.lmots_core.specs.declared.parameters.Width.{Width}
use Rattle.lmots_core.specs.Parameters as one_time
use Rattle.lms_core.specs.declared.height.Height.{Height}
use Rattle.lms_core.specs.declared.height.Height.TheVariants.{H5, H10}

-- the typecode of a tree of this height (RFC 8554, section 5.1, table 2)
abbrev pub height_code_of : Height → ℕ
height_code_of H5 = 5
height_code_of H10 = 6

-- h, the number of levels above the leaves (RFC 8554, section 5.1, table 2)
abbrev pub levels_of : Height → ℕ
levels_of H5 = 5
levels_of H10 = 10

-- the number of leaves, 2^h (RFC 8554, section 5.1)
abbrev pub leaves_of : Height → ℕ
leaves_of height = 2 ^ levels_of height

-- the height of a typecode, where there is one (RFC 8554, section 5.1, table 2)
abbrev pub height_of : ℕ → Option Height
height_of code = if code == 5 then Some H5 else if code == 6 then Some H10 else None

-- the length of a signature in bytes: the number of the leaf, its one-time signature, the code of the height, and a
-- path of one node for each level (RFC 8554, section 5.4)
abbrev pub signature_len_of : Width → Height → ℕ
signature_len_of width height = 4 + one_time.signature_len_of width + 4 + 32 * levels_of height

-- the most bytes of a signature: of width W1 and height H10
abbrev pub most_signature : ℕ
most_signature = 8844
