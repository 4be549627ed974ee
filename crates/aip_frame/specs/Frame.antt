-- Frames: the one spelling of each, and the frame that bytes spell.
use Rattle.std.specs.Prelude.{◌≡◌, ◌<◌, ◌≤◌, ◌^◌, ℕ, zero, suc, Bool, ◌==◌, ◌&&◌, nat_lt, nat_le, List, ◌∷◌, ◌++◌, length, take, drop, slice_index, Option, Some, None, if◌then◌else◌}
use Rattle.std.specs.Str.{bytes_eq}
use Rattle.byteorder.specs.Endian.{big_bytes, big_number}
use Rattle.sha2.specs.Sha256.{sha256}
use Rattle.aip_addr.specs.Ids.{address_bytes, address_of}
use Rattle.aip_addr.specs.declared.ids.Address.{Address}
use Rattle.aip_frame.specs.declared.frame.Frame.{Frame}
use Rattle.aip_frame.specs.declared.frame.Kind.{Kind}
use Rattle.aip_frame.specs.declared.frame.Kind.TheVariants.{Data, Challenge, Response, ShutOff}

-- the code of a kind
abbrev pub kind_code : Kind → ℕ
kind_code Data = 0
kind_code Challenge = 1
kind_code Response = 2
kind_code ShutOff = 3

-- the most bytes that a body has
abbrev pub most_body : ℕ
most_body = 9126

-- the bytes that a challenge's body has
abbrev pub challenge_body : ℕ
challenge_body = 154

-- the one spelling of a frame: version 1, the kind, the hop limit, 0, the packet id, the destination, the source, the body's length and the body, with numbers big-endian
unfoldable pub frame_bytes : Frame → List ℕ
frame_bytes f =
    1 ∷ kind_code f.kind ∷ f.hop ∷ 0
    ∷ (big_bytes 4 f.packet ++ (address_bytes f.to ++ (address_bytes f.from ++ (big_bytes 2 (length f.body) ++ f.body))))

-- the fields of a frame have their sizes
pub record Fits (f : Frame) : Type 0 where
  pub hop : f.hop < 256
  pub packet : f.packet < 2 ^ 32
  pub to_ad : length f.to.ad.bytes ≡ 20
  pub to_eid : length f.to.eid.bytes ≡ 20
  pub from_ad : length f.from.ad.bytes ≡ 20
  pub from_eid : length f.from.eid.bytes ≡ 20
  pub body : length f.body ≤ most_body
  pub challenge : f.kind ≡ Challenge → length f.body ≡ challenge_body

-- the bytes are the spelling of this frame, whose fields have their sizes
pub record IsFrame (bytes : List ℕ) (f : Frame) : Type 0 where
  pub spelled : bytes ≡ frame_bytes f
  pub fits : Fits f

-- whether a kind's body may have this many bytes
abbrev pub body_fits : Kind → ℕ → Bool
body_fits Data n = nat_le n most_body
body_fits Challenge n = n == challenge_body
body_fits Response n = nat_le n most_body
body_fits ShutOff n = nat_le n most_body

-- whether an address has two ids of 20 bytes
abbrev pub address_fits : Address → Bool
address_fits a = (length a.ad.bytes == 20) && (length a.eid.bytes == 20)

-- whether the fields of a frame have their sizes
abbrev pub fits : Frame → Bool
fits f =
    nat_lt f.hop 256 && (nat_lt f.packet (2 ^ 32) && (address_fits f.to && (address_fits f.from && body_fits f.kind (length f.body))))

-- the kind that a code names
abbrev pub kind_at : ℕ → Kind
kind_at zero = Data
kind_at (suc zero) = Challenge
kind_at (suc (suc zero)) = Response
kind_at (suc (suc (suc n))) = ShutOff

-- the fields that stand at their places in bytes
unfoldable pub fields_at : List ℕ → Frame
fields_at bytes = record {
  kind = kind_at (slice_index bytes 1);
  hop = slice_index bytes 2;
  packet = big_number 4 (drop 4 bytes);
  to = address_of (take 40 (drop 8 bytes));
  from = address_of (take 40 (drop 48 bytes));
  body = drop 90 bytes;
}

-- the frame that the bytes spell, where they spell one
unfoldable pub frame_of : List ℕ → Option Frame
frame_of bytes =
    let f = fields_at bytes in
    if bytes_eq bytes (frame_bytes f) && fits f then Some f else None

-- the packet hash: SHA-256 (FIPS 180-4) of the frame's bytes with hop limit 0, so that it stays while routers forward it
unfoldable pub packet_hash_of : Frame → List ℕ
packet_hash_of f = sha256 (frame_bytes (record f { hop = 0 }))
