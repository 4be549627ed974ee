-- Whom a router trusts: what the test of trust says of the trace, and on which traces a neighbour passes it.
use Rattle.std.proofs.Common.{◌≡◌, ◌≢◌, ◌⊎◌, ◌↔◌, ℕ, zero, suc, ◌<◌, ◌||◌, Bool, true, false, List, [], ◌∷◌, map, Option, Some, None, refl, sym, ap, subst, ◌∙◌, true≢false, inl, inr}
use Rattle.std.proofs.lemmas.Bool.{and_parts, and_from, or_left, or_right, ltb-true, lt-ltb}
use Rattle.std.specs.Cmp.Lexicographic.{bytes_decides}
use Rattle.std.specs.List.{AllByRecursion}
use Rattle.std.specs.Prelude.{All, option_map, slice_get}
use Rattle.std.specs.Str.{bytes_eq}
use Rattle.aip_addr.specs.Ids.{is_same_id}
use Rattle.accept_cache.specs.Keys.{pair_of, wildcard_of}
use Rattle.accept_cache.specs.Accepted.{is_fresh_pair, is_fresh_wildcard}
use Rattle.aip_addr.specs.declared.ids.Id.{Id}
use Rattle.aip_addr.specs.declared.ids.Address.{Address}
use Rattle.aip_event.specs.declared.event.Cause.TheVariants as cause
use Rattle.aip_registry.specs.declared.records.Record.{Record}
use Rattle.aip_registry.specs.declared.records.RecordKind.TheVariants.{Peer}
use Rattle.aip_registry.specs.Record.{fields_in}
use Rattle.aip_registry.specs.Kept.{kept_on}
use Rattle.aip_registry.proofs.Newest.{keeps_newest}
use Rattle.aip_topo.specs.Sound.{IsSound, IsRouterOf, AreDistinct, has_text}
use Rattle.aip_topo.specs.Steps.{ad_at}
use Rattle.aip_topo.specs.declared.topology.Domain.{Domain}
use Rattle.aip_topo.specs.declared.topology.Router.{Router}
use Rattle.aip_topo.specs.declared.topology.Topology.{Topology}
use Rattle.border_check.specs.Verdict.{port_verdict, leads_back}
use Rattle.aip_rules.specs.declared.Entry.{Entry}
use Rattle.aip_rules.specs.declared.Neighbour.{Neighbour}
use Rattle.aip_rules.specs.declared.Verdict.TheVariants.{Forwards}
use Rattle.aip_rules.specs.State.{now_of}
use Rattle.aip_rules.specs.Routes.{port_to}
use Rattle.aip_rules.specs.Accepted.{limits_of, pair_uses, wildcard_uses}
use Rattle.aip_rules.specs.Records.{is_ahead, peered_until, published_on, records_kept, trusts_domain, trusts_router, trusts}
use Rattle.aip_rules.specs.Router.{Arrival, of_border, source_known, verdict_at, verdict_by}
use Rattle.aip_rules.specs.Laws.{IsPeeringKept, AreNeighbours, IsTrustedAt, TrustsRightly, NeighboursAreTrustedRightly}
use Rattle.aip_rules.specs.Promises.{HasPeer, HasTrustedEnd}
use Rattle.aip_rules.proofs.Peerings.{IsAtMost, IsBelow, newest_peering, found_newest, newest_found}

-- ---- a domain and its id

has_it : (bytes : List ℕ) (domains : List Domain) (k : ℕ) (ad : Id) → ad_at k domains ≡ Some ad → ad.bytes ≡ bytes
    → has_text bytes (map (λ domain. domain.ad.bytes) domains) ≡ true
has_it bytes [] k ad e is = absurd cc
has_it bytes (d ∷ ds) zero ad e is =
    let same : d.ad ≡ ad = cc in
    or_left (bytes_eq d.ad.bytes bytes) (has_text bytes (map (λ domain. domain.ad.bytes) ds))
    ((bytes_decides d.ad.bytes bytes).1 (ap (λ (id : Id). id.bytes) same ∙ is))
has_it bytes (d ∷ ds) (suc k) ad e is =
    or_right (bytes_eq d.ad.bytes bytes) (has_text bytes (map (λ domain. domain.ad.bytes) ds)) (has_it bytes ds k ad e is)

-- of domains whose ids differ, two with one id are one
one_place : (domains : List Domain) → AreDistinct (map (λ domain. domain.ad.bytes) domains) → (j k : ℕ) (a b : Id) → ad_at j domains ≡ Some a → ad_at k domains ≡ Some b
    → a ≡ b → j ≡ k
one_place [] differ j k a b at_j at_k same = absurd cc
one_place (d ∷ ds) differ zero zero a b at_j at_k same = refl
one_place (d ∷ ds) differ zero (suc k) a b at_j at_k same =
    let first : d.ad ≡ a = cc in
    absurd (true≢false (sym (has_it d.ad.bytes ds k b at_k (sym (ap (λ (id : Id). id.bytes) (first ∙ same)))) ∙ differ.0))
one_place (d ∷ ds) differ (suc j) zero a b at_j at_k same =
    let first : d.ad ≡ b = cc in
    absurd (true≢false (sym (has_it d.ad.bytes ds j a at_j (ap (λ (id : Id). id.bytes) (same ∙ sym first))) ∙ differ.0))
one_place (d ∷ ds) differ (suc j) (suc k) a b at_j at_k same = ap suc (one_place ds differ.1 j k a b at_j at_k same)

-- a router at a place has the id of its domain
of_its_domain : (domains : List Domain) (routers : List Router) (place : ℕ) (self : Router) → AllByRecursion (IsRouterOf domains) routers → slice_get routers place ≡ Some self
    → ad_at self.domain domains ≡ Some self.address.ad
of_its_domain domains [] place self all there = absurd cc
of_its_domain domains (r ∷ rs) zero self all there =
    let same : r ≡ self = cc in
    subst (λ (r : Router). ad_at r.domain domains ≡ Some r.address.ad) same all.0.2
of_its_domain domains (r ∷ rs) (suc place) self all there = of_its_domain domains rs place self all.1 there

module _ (topo : Topology) (sound : IsSound topo) (place other : ℕ) (self neighbour : Router) (here : slice_get topo.routers place ≡ Some self) (there : slice_get topo.routers other ≡ Some neighbour) where
  -- routers whose domains have one id are of one domain
  one_domain : self.address.ad ≡ neighbour.address.ad → neighbour.domain ≡ self.domain
  one_domain same =
      one_place topo.domains sound.ads_differ neighbour.domain self.domain neighbour.address.ad self.address.ad
      (of_its_domain topo.domains topo.routers other neighbour sound.routers there)
      (of_its_domain topo.domains topo.routers place self sound.routers here) (sym same)

  -- and the other way round
  one_ad : neighbour.domain ≡ self.domain → self.address.ad ≡ neighbour.address.ad
  one_ad same =
      let mine = of_its_domain topo.domains topo.routers place self sound.routers here in
      let its = of_its_domain topo.domains topo.routers other neighbour sound.routers there in
      let e : Some self.address.ad ≡ Some neighbour.address.ad = sym mine ∙ (ap (λ d. ad_at d topo.domains) (sym same) ∙ its) in
      cc

same_id_so : (a b : Id) → is_same_id a b ≡ true → a ≡ b
same_id_so a b e =
    let bytes = (bytes_decides a.bytes b.bytes).0 e in
    λ i. record { bytes = bytes i }

id_so_same : (a b : Id) → a ≡ b → is_same_id a b ≡ true
id_so_same a b e = (bytes_decides a.bytes b.bytes).1 (ap (λ (id : Id). id.bytes) e)

-- ---- records in force

-- a record is there, and in force
record IsAhead (now : ℕ) (found : Option Record) : Type 0 where
  of : Record
  there : found ≡ Some of
  ahead : now < of.until

ahead_so : (now : ℕ) (found : Option Record) → is_ahead now (option_map (λ r. r.until) found) ≡ true → IsAhead now found
ahead_so now None e = absurd (true≢false (sym e))
ahead_so now (Some r) e = record { of = r; there = refl; ahead = ltb-true now r.until e }

so_ahead : (now : ℕ) (found : Option Record) (r : Record) → found ≡ Some r → now < r.until → is_ahead now (option_map (λ r. r.until) found) ≡ true
so_ahead now found r e less =
    ap (λ (o : Option Record). is_ahead now (option_map (λ r. r.until) o)) e ∙ lt-ltb now r.until less

module _ (tr : List Entry) (own other : Id) where
  -- a peering record of a domain for another is kept and in force
  abbrev is_peered : Bool
  is_peered = is_ahead (now_of tr) (peered_until (records_kept tr) own other)

  pub kept_so : is_peered ≡ true → IsPeeringKept tr own other
  kept_so e =
      let is = ahead_so (now_of tr) (kept_on Peer own other (records_kept tr)) e in
      record { peering = is.of; kept = is.there; in_force = is.ahead }

  pub so_kept : IsPeeringKept tr own other → is_peered ≡ true
  so_kept is = so_ahead (now_of tr) (kept_on Peer own other (records_kept tr)) is.peering is.kept is.in_force

  -- then the domain holds the other for its peer
  pub peer_so : is_peered ≡ true → HasPeer tr own other
  peer_so e =
      let is = kept_so e in
      let found = found_newest own other (published_on tr) is.peering (sym (keeps_newest Peer own other (published_on tr)) ∙ is.kept) in
      let number : is.peering.number ≡ (fields_in found.bytes).number = sym (ap (λ (r : Record). r.number) found.said) in
      let until : is.peering.until ≡ (fields_in found.bytes).until = sym (ap (λ (r : Record). r.until) found.said) in
      record {
        later = found.later;
        bytes = found.bytes;
        earlier = found.earlier;
        published = found.parts;
        peering = found.peering;
        stands = subst (λ n. All (IsAtMost own other n) found.later) number found.stands;
        replaces = subst (λ n. All (IsBelow own other n) found.earlier) number found.replaces;
        in_force = subst (λ n. now_of tr < n) until is.in_force;
      }

  -- and if it does, such a record is kept and in force
  pub so_peer : HasPeer tr own other → is_peered ≡ true
  so_peer is =
      so_ahead (now_of tr) (kept_on Peer own other (records_kept tr)) (fields_in is.bytes)
      (keeps_newest Peer own other (published_on tr)
      ∙ (ap (newest_peering own other) is.published ∙ newest_found own other is.later is.bytes is.earlier is.peering is.stands is.replaces))
      is.in_force

-- ---- trust

-- the parts of the test of trust
record IsTrusting (kept : List Record) (now : ℕ) (own other : Id) (marked : Bool) : Type 0 where
  is_marked : marked ≡ true
  known : (own ≡ other) ⊎ (is_ahead now (peered_until kept own other) ≡ true)

trusting_so : (kept : List Record) (now : ℕ) (own other : Id) (marked : Bool) → trusts_domain kept now own other marked ≡ true → IsTrusting kept now own other marked
trusting_so kept now own other marked e =
    let parts = and_parts marked (is_same_id own other || is_ahead now (peered_until kept own other)) e in
    record { is_marked = parts.0; known = by (is_same_id own other) refl parts.1 }
  where
    by : (same : Bool) → is_same_id own other ≡ same → same || is_ahead now (peered_until kept own other) ≡ true
        → (own ≡ other) ⊎ (is_ahead now (peered_until kept own other) ≡ true)
    by true same t = inl (same_id_so own other same)
    by false same t = inr t

so_trusting : (kept : List Record) (now : ℕ) (own other : Id) (marked : Bool) → IsTrusting kept now own other marked → trusts_domain kept now own other marked ≡ true
so_trusting kept now own other marked is = and_from marked (is_same_id own other || is_ahead now (peered_until kept own other)) is.is_marked (by is.known)
  where
    by : (own ≡ other) ⊎ (is_ahead now (peered_until kept own other) ≡ true) → (is_same_id own other || is_ahead now (peered_until kept own other)) ≡ true
    by (inl same) = or_left (is_same_id own other) (is_ahead now (peered_until kept own other)) (id_so_same own other same)
    by (inr ahead) = or_right (is_same_id own other) (is_ahead now (peered_until kept own other)) ahead

-- a neighbour that is trusted stands over a marked end, and is of the router's domain, or of one that this holds for its peer
pub trusted_end : (topo : Topology) → IsSound topo → (tr : List Entry) (place : ℕ) (self : Router) → slice_get topo.routers place ≡ Some self → (other : ℕ) (marked : Bool)
    → trusts topo (records_kept tr) (now_of tr) self other marked ≡ true → HasTrustedEnd topo tr self other marked
trusted_end topo sound tr place self here other marked t = by (slice_get topo.routers other) refl t
  where
    known : (router : Router) → slice_get topo.routers other ≡ Some router
        → (self.address.ad ≡ router.address.ad) ⊎ (is_ahead (now_of tr) (peered_until (records_kept tr) self.address.ad router.address.ad) ≡ true)
        → (router.domain ≡ self.domain) ⊎ HasPeer tr self.address.ad router.address.ad
    known router there (inl same) = inl (one_domain topo sound place other self router here there same)
    known router there (inr ahead) = inr (peer_so tr self.address.ad router.address.ad ahead)

    by : (found : Option Router) → slice_get topo.routers other ≡ found → trusts_router (records_kept tr) (now_of tr) self.address.ad found marked ≡ true
        → HasTrustedEnd topo tr self other marked
    by None there t = absurd (true≢false (sym t))
    by (Some router) there t =
        let is = trusting_so (records_kept tr) (now_of tr) self.address.ad router.address.ad marked t in
        record { is_marked = is.is_marked; neighbour = router; there = there; known = known router there is.known }

-- ---- the verdict

-- the verdict at a link's port is to forward for trust exactly where the neighbour is trusted
for_trust : (trusted reverse fresh wild : Bool) (back : Option ℕ) → (of_border back (port_verdict trusted reverse fresh wild) ≡ Forwards cause.Trusted) ↔ (trusted ≡ true)
for_trust true reverse fresh wild back = (λ e. refl, λ e. refl)
for_trust false true fresh wild back = (λ e. absurd cc, λ e. absurd (true≢false (sym e)))
for_trust false false true wild back = (λ e. absurd cc, λ e. absurd (true≢false (sym e)))
for_trust false false false true back = (λ e. absurd cc, λ e. absurd (true≢false (sym e)))
for_trust false false false false back = (λ e. absurd cc, λ e. absurd (true≢false (sym e)))

module _ (topo : Topology) (sound : IsSound topo) (tr : List Entry) (at : Arrival) (neighbour : Router) (marked : Bool) (near : AreNeighbours topo at neighbour marked) (source : Address) where
  -- the parts of the test of trust in this neighbour
  abbrev Trusting : Type 0
  Trusting = IsTrusting (records_kept tr) (now_of tr) at.self.address.ad neighbour.address.ad marked

  trusted_test : IsTrustedAt topo tr at source ↔ (trusts_domain (records_kept tr) (now_of tr) at.self.address.ad neighbour.address.ad marked ≡ true)
  trusted_test =
      let back = port_to topo tr at.place at.self source in
      let fresh = is_fresh_pair (limits_of topo.settings) (pair_uses tr at.self.name) (now_of tr) (pair_of source at.port) in
      let wild = is_fresh_wildcard (limits_of topo.settings) (wildcard_uses tr at.self.name) (now_of tr) (wildcard_of source.ad at.port) in
      let trusted = trusts_domain (records_kept tr) (now_of tr) at.self.address.ad neighbour.address.ad marked in
      let same : verdict_at topo tr at source ≡ of_border back (port_verdict trusted (leads_back back at.port) fresh wild) =
      ap (λ (o : Option Neighbour). verdict_by topo (records_kept tr) (now_of tr) at o (source_known topo tr at source)) near.link
      ∙ ap (λ (o : Option Router). of_border back (port_verdict (trusts_router (records_kept tr) (now_of tr) at.self.address.ad o marked) (leads_back back at.port) fresh wild)) near.there in
      let is = for_trust trusted (leads_back back at.port) fresh wild back in
      (λ e. is.0 (sym same ∙ e), λ t. same ∙ is.1 t)

  trusting : IsTrustedAt topo tr at source → Trusting
  trusting e = trusting_so (records_kept tr) (now_of tr) at.self.address.ad neighbour.address.ad marked (trusted_test.0 e)

  trusted : Trusting → IsTrustedAt topo tr at source
  trusted is = trusted_test.1 (so_trusting (records_kept tr) (now_of tr) at.self.address.ad neighbour.address.ad marked is)

  by_record : neighbour.domain ≢ at.self.domain → Trusting → is_peered tr at.self.address.ad neighbour.address.ad ≡ true
  by_record differ is = by is.known
    where
      by : (at.self.address.ad ≡ neighbour.address.ad) ⊎ (is_peered tr at.self.address.ad neighbour.address.ad ≡ true)
          → is_peered tr at.self.address.ad neighbour.address.ad ≡ true
      by (inl same) = absurd (differ (one_domain topo sound at.place near.other at.self neighbour near.here near.there same))
      by (inr ahead) = ahead

  rightly : TrustsRightly topo tr at neighbour marked source
  rightly =
      let own = at.self.address.ad in
      let other = neighbour.address.ad in
      record {
        own = λ same. (
          λ e. (trusting e).is_marked,
          λ m. trusted (record { is_marked = m; known = inl (one_ad topo sound at.place near.other at.self neighbour near.here near.there same) }),
        );
        kept = λ differ. (
          λ e. ((trusting e).is_marked, kept_so tr own other (by_record differ (trusting e))),
          λ is. trusted (record { is_marked = is.0; known = inr (so_kept tr own other is.1) }),
        );
        peer = λ differ. (
          λ e. ((trusting e).is_marked, peer_so tr own other (by_record differ (trusting e))),
          λ is. trusted (record { is_marked = is.0; known = inr (so_peer tr own other is.1) }),
        );
      }

pub all_rightly : NeighboursAreTrustedRightly
all_rightly = λ topo sound tr at neighbour marked near source. rightly topo sound tr at neighbour marked near source
