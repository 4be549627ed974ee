-- Challenges: what a router asks, and the bytes that ask it.
use Rattle.std.specs.Prelude.{◌≡◌, ℕ, ◌<◌, ◌^◌, ◌/◌, List, ◌++◌, length, take, drop}
use Rattle.byteorder.specs.Endian.{big_bytes, big_number}
use Rattle.aip_addr.specs.Ids.{address_bytes, address_of}
use Rattle.aip_addr.specs.declared.ids.Address.{Address}
use Rattle.aip_mac.specs.Hmac.{hmac_of, secret_of}
use Rattle.verify_packet.specs.declared.challenges.RouterKey.{RouterKey}

-- what a challenge asks: the router that asks, the source that is to answer, the packet's hash, the port of the router at
-- which the packet came, and the epoch of the question
pub record Asked : Type 0 where
  pub router : Address
  pub source : Address
  pub hash : List ℕ
  pub port : ℕ
  pub epoch : ℕ

-- an address has two ids of 20 bytes
pub record IsWhole (a : Address) : Type 0 where
  pub ad : length a.ad.bytes ≡ 20
  pub eid : length a.eid.bytes ≡ 20

-- what is asked has its sizes
pub record AskedFits (asked : Asked) : Type 0 where
  pub router : IsWhole asked.router
  pub source : IsWhole asked.source
  pub hash : length asked.hash ≡ 32
  pub port : asked.port < 2 ^ 16
  pub epoch : asked.epoch < 2 ^ 64

-- the 122 bytes that ask it
abbrev pub asked_bytes : Asked → List ℕ
asked_bytes asked =
    address_bytes asked.router
    ++ (address_bytes asked.source ++ (asked.hash ++ (big_bytes 2 asked.port ++ big_bytes 8 asked.epoch)))

-- the epoch at a time: epochs are of the router's length, and rounded down
abbrev pub epoch_at : RouterKey → ℕ → ℕ
epoch_at router now = now / router.epoch_length

-- the tag of a router over bytes: their HMAC (RFC 2104) under the router's secret of an epoch since its boot
unfoldable pub tag_of : RouterKey → ℕ → List ℕ → List ℕ
tag_of router epoch bytes = hmac_of (secret_of router.master router.boot epoch) bytes

-- the body of a challenge, 154 bytes: what it asks, and the router's tag over that
unfoldable pub challenge_of : RouterKey → Asked → List ℕ
challenge_of router asked = asked_bytes asked ++ tag_of router asked.epoch (asked_bytes asked)

-- what the first 122 bytes of a body ask
unfoldable pub asked_in : List ℕ → Asked
asked_in body = record {
  router = address_of (take 40 body);
  source = address_of (take 40 (drop 40 body));
  hash = take 32 (drop 80 body);
  port = big_number 2 (take 2 (drop 112 body));
  epoch = big_number 8 (take 8 (drop 114 body));
}
