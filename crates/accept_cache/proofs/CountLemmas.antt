-- How many of the entries are fresh: as many as distinct keys of the uses are.
use Rattle.std.proofs.Common.{◌≡◌, ℕ, Bool, true, false, cond, ◌&&◌, List, [], ◌∷◌, length, filter, count_by, All, Some, refl, sym, ap, ◌∙◌, arith}
use Rattle.std.proofs.lemmas.List.Elements.{All-head, All-tail}
use Rattle.std.proofs.lemmas.List.Sums.{length-filter}
use Rattle.std.proofs.lemmas.Map.Made.{length-from_keys, All-is_member, is_member-filter, alike_from_same}
use Rattle.std.specs.Bool.{Decides}
use Rattle.std.specs.Cmp.{IsEquivalence}
use Rattle.std.specs.List.{AllByRecursion, IsDistinct}
use Rattle.std.specs.Map.{keys_of}
use Rattle.std.specs.Set.{is_member, distinct_count}
use Rattle.accept_cache.specs.Recency.{Use, touched, last_proved, is_held, is_within, is_fresh}
use Rattle.accept_cache.specs.StandsFor.{HasLastTime, AreLastTouched}
use Rattle.accept_cache.proofs.EntryLemmas.{distinct, kept_is_held}

module _ {K : Type 0} (eq : K → K → Bool) where
  all_filtered : (P : K → Type 0) (test : K → Bool) (ks : List K) → AllByRecursion P ks → AllByRecursion P (filter test ks)
  all_filtered P test [] a = tt
  all_filtered P test (k ∷ ks) a = by (test k) (all_filtered P test ks a.1)
    where
      by : (b : Bool) → AllByRecursion P (filter test ks) → AllByRecursion P (cond b (k ∷ filter test ks) (filter test ks))
      by true r = (a.0, r)
      by false r = r

  -- distinct keys are distinct still where some are left out
  distinct_filtered : (test : K → Bool) (ks : List K) → IsDistinct eq ks → IsDistinct eq (filter test ks)
  unfolding IsDistinct
  distinct_filtered test [] d = tt
  distinct_filtered test (k ∷ ks) d = by (test k) (all_filtered (λ y. eq k y ≡ false) test ks d.0) (distinct_filtered test ks d.1)
    where
      by : (b : Bool) → AllByRecursion (λ y. eq k y ≡ false) (filter test ks) → IsDistinct eq (filter test ks) → IsDistinct eq (cond b (k ∷ filter test ks) (filter test ks))
      by true a r = (a, r)
      by false a r = r

  module _ (of : K → Bool) (room lasting now : ℕ) (uses : List (Use K)) where
    -- the entry's key passes, and its time has not run out
    abbrev is_live : K × ℕ → Bool
    is_live e = of e.0 && is_within lasting now (Some e.1)

    -- the key passes and is fresh
    abbrev passes : K → Bool
    passes key = of key && is_fresh eq room lasting uses now key

    -- an entry that is held and has the last time is live where its key is fresh
    live_keys : (es : List (K × ℕ)) → All (HasLastTime eq uses) es → All (λ key. is_held eq room (touched uses) key ≡ true) (keys_of es)
        → length (filter is_live es) ≡ length (filter passes (keys_of es))
    live_keys [] times held = refl
    live_keys (e ∷ es) times held =
        let time : Some e.1 ≡ last_proved eq uses e.0 = sym (All-head (HasLastTime eq uses) e es times) in
        let here : true ≡ is_held eq room (touched uses) e.0 = sym (All-head (λ key. is_held eq room (touched uses) key ≡ true) e.0 (keys_of es) held) in
        let agrees : is_live e ≡ passes e.0 = λ i. of e.0 && (here i && is_within lasting now (time i)) in
        ap (λ b. length (cond b (e ∷ filter is_live es) (filter is_live es))) agrees
        ∙ by (passes e.0) (live_keys es (All-tail (HasLastTime eq uses) e es times) (All-tail (λ key. is_held eq room (touched uses) key ≡ true) e.0 (keys_of es) held))
      where
        by : (b : Bool) → length (filter is_live es) ≡ length (filter passes (keys_of es))
            → length (cond b (e ∷ filter is_live es) (filter is_live es)) ≡ length (cond b (e.0 ∷ filter passes (keys_of es)) (filter passes (keys_of es)))
        by true h = omega arith
        by false h = h

    held_twice : (m n o w : Bool) → ((m && n) && (o && ((m && n) && w))) ≡ (m && (o && ((m && n) && w)))
    held_twice true true o w = refl
    held_twice true false true w = refl
    held_twice true false false w = refl
    held_twice false n o w = refl

    -- as many entries are live as distinct keys of the uses pass and are fresh
    pub live_count : (laws : IsEquivalence eq) (same : (a b : K) → Decides (eq a b) (a ≡ b)) (es : List (K × ℕ)) → AreLastTouched eq room uses es
        → count_by is_live es ≡ distinct_count eq (filter passes (touched uses))
    live_count laws same es kept =
        let held = kept_is_held eq laws same room uses es kept in
        let all_held : All (λ key. is_held eq room (touched uses) key ≡ true) (keys_of es) =
        λ k d h. sym (held _) ∙ All-is_member laws (keys_of es) k d h in
        sym (length-filter is_live es)
        ∙ live_keys es kept.times all_held
        ∙ length-from_keys laws (filter passes (keys_of es)) (filter passes (touched uses))
        (distinct_filtered passes (keys_of es) (distinct eq laws same room uses es kept))
        (λ q.
        is_member-filter laws passes q (alike_from_same same passes q) (keys_of es)
        ∙ ap (λ b. b && passes q) (held q)
        ∙ held_twice (is_member eq (touched uses) q) _ (of q) (is_within lasting now (last_proved eq uses q))
        ∙ sym (is_member-filter laws passes q (alike_from_same same passes q) (touched uses)))
