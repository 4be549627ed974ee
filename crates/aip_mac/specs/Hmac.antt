-- HMAC-SHA-256 (RFC 2104), and the secret of an epoch. A message is a list of bytes.
use Rattle.std.specs.Prelude.{ℕ, ◌-◌, List, ◌++◌, length, replicate, map, bit_xor, nat_lt, if◌then◌else◌}
use Rattle.std.specs.Int.{w32, w64, to_be_bytes}
use Rattle.sha2.specs.Sha256.{sha256}

-- a key of more than 64 bytes, the length of a block, is replaced by its hash (RFC 2104, section 2)
abbrev pub short_key : List ℕ → List ℕ
short_key key = if nat_lt 64 (length key) then sha256 key else key

-- the bytes, followed by zeros up to a block of 64
abbrev pub padded : List ℕ → List ℕ
padded bytes = bytes ++ replicate (64 - length bytes) 0

-- the block with each byte changed by the pad
abbrev pub masked : List ℕ → ℕ → List ℕ
masked block pad = map (λ byte. bit_xor byte pad) block

-- the HMAC of a message under a key: the hash of the outer block and the hash of the inner block
-- and the message, with ipad 0x36 and opad 0x5c (RFC 2104, section 2)
unfoldable pub hmac_of : List ℕ → List ℕ → List ℕ
hmac_of key message =
    let block = padded (short_key key) in
    sha256 (masked block 0x5c ++ sha256 (masked block 0x36 ++ message))

-- the secret of an epoch after the boot of that number: the HMAC of both numbers, high bytes first,
-- under the master secret
abbrev pub secret_of : List ℕ → ℕ → ℕ → List ℕ
secret_of master boot epoch = hmac_of master (to_be_bytes w32 boot ++ to_be_bytes w64 epoch)
