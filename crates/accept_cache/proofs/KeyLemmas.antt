-- Two pairs, or two wildcards, are the same exactly where they are equal.
use Rattle.std.proofs.Common.{◌≡◌, Bool, true, ◌==◌, subst}
use Rattle.std.specs.Bool.{Decides}
use Rattle.std.specs.Cmp.{IsEquivalence, and_equiv, on_equiv, nat_eq_equiv, first_so, second_so, unsigned_Decides}
use Rattle.std.specs.Cmp.Lexicographic.{nat_list_eq_equiv, bytes_decides}
use Rattle.aip_addr.specs.declared.ids.Id.{Id}
use Rattle.aip_addr.specs.declared.ids.Address.{Address}
use Rattle.accept_cache.specs.declared.keys.Pair.{Pair}
use Rattle.accept_cache.specs.declared.keys.Wildcard.{Wildcard}
use Rattle.aip_addr.specs.Ids.{is_same_address, is_same_id}
use Rattle.accept_cache.specs.Keys.{same_pair, same_wildcard}

same_id_equiv : IsEquivalence is_same_id
same_id_equiv = on_equiv (λ (a : Id). a.bytes) nat_list_eq_equiv

same_address_equiv : IsEquivalence is_same_address
same_address_equiv = and_equiv (on_equiv (λ (a : Address). a.ad) same_id_equiv) (on_equiv (λ (a : Address). a.eid) same_id_equiv)

pub same_pair_equiv : IsEquivalence same_pair
same_pair_equiv = and_equiv (on_equiv (λ (p : Pair). p.source) same_address_equiv) (on_equiv (λ (p : Pair). p.port) nat_eq_equiv)

pub same_wildcard_equiv : IsEquivalence same_wildcard
same_wildcard_equiv = and_equiv (on_equiv (λ (w : Wildcard). w.ad) same_id_equiv) (on_equiv (λ (w : Wildcard). w.port) nat_eq_equiv)

-- where an equivalence holds, the keys are equal, and so it holds exactly there
decided : {K : Type 0} {eq : K → K → Bool} → IsEquivalence eq → (a b : K) → (eq a b ≡ true → a ≡ b) → Decides (eq a b) (a ≡ b)
decided {K} {eq} laws a b from = (from, λ e. subst (λ x. eq a x ≡ true) e (laws.refl a))

same_ids : (a b : Id) → is_same_id a b ≡ true → a ≡ b
same_ids a b t = let bytes = (bytes_decides a.bytes b.bytes).0 t in λ i. record { bytes = bytes i }

same_addresses : (a b : Address) → is_same_address a b ≡ true → a ≡ b
same_addresses a b t =
    let ad = same_ids a.ad b.ad (first_so (is_same_id a.ad b.ad) (is_same_id a.eid b.eid) t) in
    let eid = same_ids a.eid b.eid (second_so (is_same_id a.ad b.ad) (is_same_id a.eid b.eid) t) in
    λ i. record { ad = ad i; eid = eid i }

same_pairs : (a b : Pair) → same_pair a b ≡ true → a ≡ b
same_pairs a b t =
    let source = same_addresses a.source b.source (first_so (is_same_address a.source b.source) (a.port == b.port) t) in
    let port = (unsigned_Decides a.port b.port).0 (second_so (is_same_address a.source b.source) (a.port == b.port) t) in
    λ i. record { source = source i; port = port i }

same_wildcards : (a b : Wildcard) → same_wildcard a b ≡ true → a ≡ b
same_wildcards a b t =
    let ad = same_ids a.ad b.ad (first_so (is_same_id a.ad b.ad) (a.port == b.port) t) in
    let port = (unsigned_Decides a.port b.port).0 (second_so (is_same_id a.ad b.ad) (a.port == b.port) t) in
    λ i. record { ad = ad i; port = port i }

pub same_pair_decides : (a b : Pair) → Decides (same_pair a b) (a ≡ b)
same_pair_decides a b = decided same_pair_equiv a b (same_pairs a b)

pub same_wildcard_decides : (a b : Wildcard) → Decides (same_wildcard a b) (a ≡ b)
same_wildcard_decides a b = decided same_wildcard_equiv a b (same_wildcards a b)
