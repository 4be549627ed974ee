-- Reading an address back from its bytes.
use Rattle.std.proofs.Common.{◌≡◌, ℕ, List, ◌++◌, length, take, drop, refl, ap, sym, ◌∙◌}
use Rattle.std.proofs.Math.Seq.{take-append_seam, drop-append_seam}
use Rattle.aip_addr.specs.Ids.{address_bytes, address_of}
use Rattle.aip_addr.specs.declared.ids.Address.{Address}

-- the front of two lists, cut at its length
take_front : (n : ℕ) (xs ys : List ℕ) → length xs ≡ n → take n (xs ++ ys) ≡ xs
take_front n xs ys e = ap (λ k. take k (xs ++ ys)) (sym e) ∙ take-append_seam xs ys

-- the rest of two lists, cut at the front's length
drop_front : (n : ℕ) (xs ys : List ℕ) → length xs ≡ n → drop n (xs ++ ys) ≡ ys
drop_front n xs ys e = ap (λ k. drop k (xs ++ ys)) (sym e) ∙ drop-append_seam xs ys

-- what 20 bytes and any others spell is the address of these two
pub read_back : (address : Address) → length address.ad.bytes ≡ 20 → address_of (address_bytes address) ≡ address
read_back address sized =
    rw (take_front 20 address.ad.bytes address.eid.bytes sized, drop_front 20 address.ad.bytes address.eid.bytes sized) refl
