-- The sizes of the four parameter sets.
use Rattle.std.proofs.Common.{◌≡◌, ℕ, ◌+◌, ◌*◌, ◌/◌, ◌<◌, ◌≤◌, refl, arith}
use Rattle.lmots_core.specs.declared.parameters.Width.{Width}
use Rattle.lmots_core.specs.declared.parameters.Width.TheVariants.{W1, W2, W4, W8}
use Rattle.lmots_core.specs.Parameters.{bits_of, chains_of, greatest_of, signature_len_of}

-- the number of a chain fits 16 bits
pub chains_few : (width : Width) → chains_of width ≤ 265
chains_few W1 = omega arith
chains_few W2 = omega arith
chains_few W4 = omega arith
chains_few W8 = omega arith

-- each part lies within the signature
pub part_within : (width : Width) (i : ℕ) → i < chains_of width → 68 + 32 * i ≤ signature_len_of width
part_within W1 i h = omega arith
part_within W2 i h = omega arith
part_within W4 i h = omega arith
part_within W8 i h = omega arith

-- and the last ends with it
pub parts_whole : (width : Width) → 36 + 32 * chains_of width ≡ signature_len_of width
parts_whole W1 = refl
parts_whole W2 = refl
parts_whole W4 = refl
parts_whole W8 = refl

-- the sum of a hash's digits is below 8192
pub shortfall_small : (width : Width) (i : ℕ) → i ≤ 256 / bits_of width → greatest_of width * i ≤ 8160
shortfall_small W1 i h = omega arith
shortfall_small W2 i h = omega arith
shortfall_small W4 i h = omega arith
shortfall_small W8 i h = omega arith
