-- Distinct pairs at one port have distinct sources, so a threshold of fresh pairs gives a threshold of answers.
use Rattle.std.proofs.Common.{◌≡◌, ◌≢◌, ℕ, ◌≤◌, ◌==◌, Bool, true, false, cond, ◌&&◌, ◌||◌, List, [], ◌∷◌, map, filter, All, refl, sym, subst, ◌∙◌, true≢false}
use Rattle.std.proofs.lemmas.List.{length-map}
use Rattle.std.proofs.lemmas.List.Elements.{All-from_recursion, recursion_from_All, All-map, filter_passes}
use Rattle.std.specs.Cmp.{first_so, second_so, unsigned_Decides}
use Rattle.std.specs.Cmp.Lexicographic.{bytes_decides}
use Rattle.std.specs.List.{AllByRecursion}
use Rattle.std.specs.Set.{is_member, unique_keys, distinct_count}
use Rattle.aip_addr.specs.declared.ids.Id.{Id}
use Rattle.aip_addr.specs.declared.ids.Address.{Address}
use Rattle.accept_cache.specs.declared.keys.Pair.{Pair}
use Rattle.aip_addr.specs.Ids.{is_same_id}
use Rattle.accept_cache.specs.Keys.{same_pair, wildcard_of, is_of}
use Rattle.accept_cache.proofs.KeyLemmas.{same_pair_decides}
use Rattle.aip_topo.specs.declared.topology.Router.{Router}
use Rattle.aip_topo.specs.declared.topology.Topology.{Topology}
use Rattle.aip_rules.specs.declared.Entry.{Entry}
use Rattle.aip_rules.specs.State.{now_of}
use Rattle.aip_rules.specs.Promises.{Answered, AllDiffer, ManyAnswered}

-- ids of the same bytes are one
same_ids : (a b : Id) → is_same_id a b ≡ true → a ≡ b
same_ids a b t = let bytes = (bytes_decides a.bytes b.bytes).0 t in λ i. record { bytes = bytes i }

-- a pair of a wildcard has its domain
of_domain : (ad : Id) (port : ℕ) (pair : Pair) → is_of (wildcard_of ad port) pair ≡ true → pair.source.ad ≡ ad
of_domain ad port pair t = same_ids pair.source.ad ad (first_so (is_same_id pair.source.ad ad) (pair.port == port) t)

-- and its port
of_port : (ad : Id) (port : ℕ) (pair : Pair) → is_of (wildcard_of ad port) pair ≡ true → pair.port ≡ port
of_port ad port pair t = (unsigned_Decides pair.port port).0 (second_so (is_same_id pair.source.ad ad) (pair.port == port) t)

-- what holds of each pair holds of each once
all_once : (P : Pair → Type 0) (pairs : List Pair) → AllByRecursion P pairs → AllByRecursion P (unique_keys same_pair pairs)
all_once P [] all = tt
all_once P (pair ∷ pairs) all = by (is_member same_pair pairs pair) (all_once P pairs all.1)
  where
    by : (b : Bool) → AllByRecursion P (unique_keys same_pair pairs) → AllByRecursion P (cond b (unique_keys same_pair pairs) (pair ∷ unique_keys same_pair pairs))
    by true rest = rest
    by false rest = (all.0, rest)

-- pairs at one port that aren't the same have different sources
apart : (port : ℕ) (pair : Pair) (pairs : List Pair) → pair.port ≡ port → AllByRecursion (λ (p : Pair). p.port ≡ port) pairs → is_member same_pair pairs pair ≡ false
    → AllByRecursion (λ (p : Pair). pair.source ≢ p.source) pairs
apart port pair [] here all absent = tt
apart port pair (other ∷ others) here all absent = by (same_pair pair other) refl absent (apart port pair others here all.1)
  where
    by : (b : Bool) → same_pair pair other ≡ b → (b || is_member same_pair others pair) ≡ false
        → (is_member same_pair others pair ≡ false → AllByRecursion (λ (p : Pair). pair.source ≢ p.source) others)
        → (pair.source ≢ other.source) × AllByRecursion (λ (p : Pair). pair.source ≢ p.source) others
    by true t gone rest = absurd (true≢false gone)
    by false t gone rest = (
      λ e.
          let ports : pair.port ≡ other.port = here ∙ sym all.0 in
          let same : pair ≡ other = λ i. record { source = e i; port = ports i } in
          true≢false (sym ((same_pair_decides pair other).1 same) ∙ t),
      rest gone,
    )

-- the sources of distinct pairs at one port differ
sources_differ : (port : ℕ) (pairs : List Pair) → AllByRecursion (λ (p : Pair). p.port ≡ port) pairs
    → AllDiffer (map (λ (p : Pair). p.source) (unique_keys same_pair pairs))
sources_differ port [] all = tt
sources_differ port (pair ∷ pairs) all = by (is_member same_pair pairs pair) refl (sources_differ port pairs all.1)
  where
    by : (b : Bool) → is_member same_pair pairs pair ≡ b → AllDiffer (map (λ (p : Pair). p.source) (unique_keys same_pair pairs))
        → AllDiffer (map (λ (p : Pair). p.source) (cond b (unique_keys same_pair pairs) (pair ∷ unique_keys same_pair pairs)))
    by true t rest = rest
    by false t rest = (
      All-map (λ source. pair.source ≢ source) (λ (p : Pair). p.source) (unique_keys same_pair pairs)
          (All-from_recursion (λ (p : Pair). pair.source ≢ p.source) (unique_keys same_pair pairs)
          (all_once (λ (p : Pair). pair.source ≢ p.source) pairs (apart port pair pairs all.0 all.1 t))),
      rest,
    )

all_weaker : (P Q : Pair → Type 0) → ((pair : Pair) → P pair → Q pair) → (pairs : List Pair) → AllByRecursion P pairs → AllByRecursion Q pairs
all_weaker P Q weaker [] all = tt
all_weaker P Q weaker (pair ∷ pairs) all = (weaker pair all.0, all_weaker P Q weaker pairs all.1)

module _ (topo : Topology) (place : ℕ) (self : Router) (tr : List Entry) (ad : Id) (port : ℕ) (fresh : Pair → Bool) (answered : (pair : Pair) → fresh pair ≡ true → pair.port ≡ port → Answered topo place self tr pair.source port (now_of tr)) where
  -- a pair of the domain at the port that is fresh
  abbrev passes : Pair → Bool
  passes pair = is_of (wildcard_of ad port) pair && fresh pair

  -- enough distinct pairs of the domain at the port that are fresh give enough answers
  pub many_answered : (pairs : List Pair) → topo.settings.threshold ≤ distinct_count same_pair (filter passes pairs) → ManyAnswered topo place self tr ad port
  many_answered pairs enough =
      let passing : AllByRecursion (λ pair. passes pair ≡ true) (filter passes pairs) =
      recursion_from_All (λ pair. passes pair ≡ true) (filter passes pairs) (filter_passes passes pairs) in
      let once = unique_keys same_pair (filter passes pairs) in
      let each : (Q : Address → Type 0) → ((pair : Pair) → passes pair ≡ true → Q pair.source) → All Q (map (λ (p : Pair). p.source) once) =
      λ Q weaker. All-map Q (λ (p : Pair). p.source) once
      (All-from_recursion (λ (p : Pair). Q p.source) once
      (all_once (λ (p : Pair). Q p.source) (filter passes pairs) (all_weaker (λ pair. passes pair ≡ true) (λ (p : Pair). Q p.source) weaker (filter passes pairs) passing))) in
      record {
        sources = map (λ (p : Pair). p.source) once;
        differ = sources_differ port (filter passes pairs)
            (all_weaker (λ pair. passes pair ≡ true) (λ (p : Pair). p.port ≡ port)
            (λ pair t. of_port ad port pair (first_so (is_of (wildcard_of ad port) pair) (fresh pair) t)) (filter passes pairs) passing);
        enough = subst (λ n. topo.settings.threshold ≤ n) (sym (length-map once (λ (p : Pair). p.source))) enough;
        of_domain = each (λ source. source.ad ≡ ad) (λ pair t. of_domain ad port pair (first_so (is_of (wildcard_of ad port) pair) (fresh pair) t));
        answered = each (λ source. Answered topo place self tr source port (now_of tr))
            (λ pair t.
            answered pair (second_so (is_of (wildcard_of ad port) pair) (fresh pair) t)
            (of_port ad port pair (first_so (is_of (wildcard_of ad port) pair) (fresh pair) t)));
      }
