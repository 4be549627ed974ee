-- The entries of the last touched keys: what a proof and a hit make of them, which are fresh, and how many.
use Rattle.std.proofs.Common.{◌≡◌, ℕ, zero, suc, ◌+◌, ◌-◌, ◌<◌, ◌≤◌, Bool, true, false, cond, ◌&&◌, List, [], ◌∷◌, length, take, All, Option, Some, None, refl, sym, ap, subst, ◌∙◌, arith}
use Rattle.std.proofs.lemmas.List.{take_all, take-map, length-take}
use Rattle.std.proofs.lemmas.List.Elements.{All-cons, All-head, All-tail, All-nil, All-take, All-contains}
use Rattle.std.proofs.lemmas.Map.Made.{is_some-lookup}
use Rattle.std.proofs.lemmas.Map.Entries.{length-keys_of}
use Rattle.std.specs.Bool.{Decides}
use Rattle.std.specs.Cmp.{IsEquivalence}
use Rattle.std.specs.List.{AllByRecursion, IsDistinct}
use Rattle.std.specs.Map.{keys_of, lookup, lookup_entry, remove_entry}
use Rattle.std.specs.Option.{option_map_or}
use Rattle.std.specs.Prelude.{is_some}
use Rattle.std.specs.Set.{is_member, remove_key}
use Rattle.lru.specs.LruCache.{lru_cache, put_entries, promoted}
use Rattle.lru.proofs.CallerLemmas.{Contains-lookup_entry, Contains-lookup}
use Rattle.accept_cache.specs.Recency.{Use, Proved, Hit, touched, by_last_touch, last_proved, is_held, is_within, is_fresh}
use Rattle.accept_cache.specs.StandsFor.{HasLastTime, AreLastTouched}
use Rattle.accept_cache.proofs.OrderLemmas.{take_remove, distinct_taken, IsDistinct-by_last_touch, is_member-is_held, apart_left}

module _ {K X : Type 0} (test : K → Bool) where
  -- where no key passes, nothing is taken out
  remove_absent : (es : List (K × X)) → lookup_entry test es ≡ None → remove_entry test es ≡ es
  remove_absent [] h = refl
  remove_absent (e ∷ es) h = by (test e.0) (remove_absent es) h
    where
      by : (b : Bool) → (lookup_entry test es ≡ None → remove_entry test es ≡ es) → cond b (Some e) (lookup_entry test es) ≡ None → cond b es (e ∷ remove_entry test es) ≡ e ∷ es
      by true r h = cc
      by false r h = ap (λ l. e ∷ l) (r h)

  -- where a key passes, one entry is taken out
  length-remove_entry : (es : List (K × X)) (found : K × X) → lookup_entry test es ≡ Some found → length (remove_entry test es) + 1 ≡ length es
  length-remove_entry [] found h = cc
  length-remove_entry (e ∷ es) found h = by (test e.0) (length-remove_entry es found) h
    where
      by : (b : Bool) → (lookup_entry test es ≡ Some found → length (remove_entry test es) + 1 ≡ length es) → cond b (Some e) (lookup_entry test es) ≡ Some found → length (cond b es (e ∷ remove_entry test es)) + 1 ≡ suc (length es)
      by true r h = omega arith
      by false r h = let s = r h in omega arith

  -- the value that is found stands in the entry that is found
  lookup_entry_found : (es : List (K × X)) (v : X) → lookup test es ≡ Some v → (found : K × X) × (lookup_entry test es ≡ Some found) × (found.1 ≡ v)
  lookup_entry_found [] v h = cc
  lookup_entry_found (e ∷ es) v h = by (test e.0) (lookup_entry_found es v) h
    where
      by : (b : Bool) → (lookup test es ≡ Some v → (found : K × X) × (lookup_entry test es ≡ Some found) × (found.1 ≡ v)) → cond b (Some e.1) (lookup test es) ≡ Some v
          → (found : K × X) × (cond b (Some e) (lookup_entry test es) ≡ Some found) × (found.1 ≡ v)
      by true r h = (e, refl, cc)
      by false r h = r h

  keys_of-remove_entry : (es : List (K × X)) → keys_of (remove_entry test es) ≡ remove_key test (keys_of es)
  keys_of-remove_entry [] = refl
  keys_of-remove_entry (e ∷ es) = by (test e.0) (keys_of-remove_entry es)
    where
      by : (b : Bool) → keys_of (remove_entry test es) ≡ remove_key test (keys_of es) → keys_of (cond b es (e ∷ remove_entry test es)) ≡ cond b (keys_of es) (e.0 ∷ remove_key test (keys_of es))
      by true r = refl
      by false r = ap (λ l. e.0 ∷ l) r

  All-remove_entry : (P : K × X → Type 0) (es : List (K × X)) → All P es → All P (remove_entry test es)
  All-remove_entry P [] a = a
  All-remove_entry P (e ∷ es) a = by (test e.0) (All-remove_entry P es (All-tail P e es a))
    where
      by : (b : Bool) → All P (remove_entry test es) → All P (cond b es (e ∷ remove_entry test es))
      by true r = All-tail P e es a
      by false r = All-cons P e (remove_entry test es) (All-head P e es a) r

module _ {K : Type 0} (eq : K → K → Bool) (laws : IsEquivalence eq) (same : (a b : K) → Decides (eq a b) (a ≡ b)) where
  -- the entry goes first, and at most n others stay
  abbrev moved : ℕ → K → ℕ → List (K × ℕ) → List (K × ℕ)
  moved n key time es = (key, time) ∷ take n (remove_entry (eq key) es)

  put_moved : (n : ℕ) (key : K) (time : ℕ) (es : List (K × ℕ)) → length es ≤ suc n → put_entries eq (lru_cache es (suc n)) key time ≡ moved n key time es
  put_moved n key time es bound = by (lookup_entry (eq key) es) refl
    where
      by : (o : Option (K × ℕ)) → lookup_entry (eq key) es ≡ o → option_map_or (λ e. (e.0, time) ∷ remove_entry (eq key) es) o ((key, time) ∷ take (suc n - 1) es) ≡ moved n key time es
      by None h = let below : suc n - 1 ≡ n = omega arith in rw (below, remove_absent (eq key) es h) refl
      by (Some e) h =
          let key_is : key ≡ e.0 = (same key e.0).0 (Contains-lookup_entry (eq key) es e h).1 in
          let shorter = length-remove_entry (eq key) es e h in
          let all : take n (remove_entry (eq key) es) ≡ remove_entry (eq key) es = take_all n (remove_entry (eq key) es) (omega arith) in
          cc

  promoted_moved : (n : ℕ) (key : K) (time : ℕ) (es : List (K × ℕ)) → length es ≤ suc n → lookup (eq key) es ≡ Some time → promoted (eq key) es ≡ moved n key time es
  promoted_moved n key time es bound h =
      let found = lookup_entry_found (eq key) es time h in
      let key_is : key ≡ found.0.0 = (same key found.0.0).0 (Contains-lookup_entry (eq key) es found.0 found.1).1 in
      let shorter = length-remove_entry (eq key) es found.0 found.1 in
      let all : take n (remove_entry (eq key) es) ≡ remove_entry (eq key) es = take_all n (remove_entry (eq key) es) (omega arith) in
      let first : (key, time) ≡ found.0 = λ i. (key_is i, sym found.2 i) in
      rw found.1 (rw all (rw first refl))

  module _ (room : ℕ) (uses : List (Use K)) (es : List (K × ℕ)) (kept : AreLastTouched eq room uses es) where
    pub bounded : length es ≤ room
    bounded = let e = length-keys_of es in let f = ap length kept.order in let g = length-take room (by_last_touch eq (touched uses)) in omega arith

    pub distinct : IsDistinct eq (keys_of es)
    distinct = subst (IsDistinct eq) (sym kept.order) (distinct_taken eq room (by_last_touch eq (touched uses)) (IsDistinct-by_last_touch eq laws (touched uses)))

    -- a key stands in the list exactly where it is held
    pub kept_is_held : (q : K) → is_member eq (keys_of es) q ≡ is_held eq room (touched uses) q
    kept_is_held q = ap (λ ks. is_member eq ks q) kept.order ∙ is_member-is_held eq laws room (touched uses) q

    -- what is found has the time of the last proof
    found_time : (q : K) (time : ℕ) → lookup (eq q) es ≡ Some time → last_proved eq uses q ≡ Some time
    found_time q time h =
        let found = Contains-lookup (eq q) es time h in
        let key_is : q ≡ found.0 = (same q found.0).0 found.2 in
        let proved : last_proved eq uses found.0 ≡ Some time = All-contains (HasLastTime eq uses) es (found.0, time) kept.times found.1 in
        ap (last_proved eq uses) key_is ∙ proved

    -- the time that is found has run out exactly where the key isn't fresh
    pub fresh_agrees : (lasting now : ℕ) (q : K) → is_within lasting now (lookup (eq q) es) ≡ is_fresh eq room lasting uses now q
    fresh_agrees lasting now q = by (lookup (eq q) es) refl
      where
        by : (o : Option ℕ) → lookup (eq q) es ≡ o → is_within lasting now o ≡ (is_held eq room (touched uses) q && is_within lasting now (last_proved eq uses q))
        by None h =
            let held : false ≡ is_held eq room (touched uses) q = sym (ap is_some h) ∙ is_some-lookup (eq q) es ∙ kept_is_held q in
            ap (λ b. b && is_within lasting now (last_proved eq uses q)) held
        by (Some time) h =
            let held : true ≡ is_held eq room (touched uses) q = sym (ap is_some h) ∙ is_some-lookup (eq q) es ∙ kept_is_held q in
            let proved : Some time ≡ last_proved eq uses q = sym (found_time q time h) in
            λ i. held i && is_within lasting now (proved i)

  -- the first of the keys once one of them goes first
  order_moved : (n : ℕ) (key : K) (time : ℕ) (keys : List K) (es : List (K × ℕ)) → keys_of es ≡ take (suc n) (by_last_touch eq keys)
      → keys_of (moved n key time es) ≡ take (suc n) (by_last_touch eq (key ∷ keys))
  order_moved n key time keys es order =
      ap (λ l. key ∷ l) (sym (take-map (λ e. e.0) n (remove_entry (eq key) es))
      ∙ ap (take n) (keys_of-remove_entry (eq key) es ∙ ap (remove_key (eq key)) order)
      ∙ take_remove (eq key) n (by_last_touch eq keys))

  -- each entry that is left has another key, and so the time that it had
  others_proved : (uses : List (Use K)) (key : K) (time : ℕ) (es : List (K × ℕ)) → AllByRecursion (λ y. eq key y ≡ false) (keys_of es)
      → All (HasLastTime eq uses) es → All (HasLastTime eq (Proved key time ∷ uses)) es
  others_proved uses key time [] apart times = All-nil (HasLastTime eq (Proved key time ∷ uses))
  others_proved uses key time (e ∷ es) apart times =
      All-cons (HasLastTime eq (Proved key time ∷ uses)) e es
      (ap (λ b. cond b (Some time) (last_proved eq uses e.0)) (laws.symm e.0 key ∙ apart.0) ∙ All-head (HasLastTime eq uses) e es times)
      (others_proved uses key time es apart.1 (All-tail (HasLastTime eq uses) e es times))

  -- a proof puts the key first, with its time
  pub proof_stays : (room : ℕ) (uses : List (Use K)) (es : List (K × ℕ)) (key : K) (time : ℕ) → 0 < room → AreLastTouched eq room uses es
      → AreLastTouched eq room (Proved key time ∷ uses) (put_entries eq (lru_cache es room) key time)
  proof_stays zero uses es key time room kept = absurd (omega arith)
  proof_stays (suc n) uses es key time room kept =
      let rest = remove_entry (eq key) es in
      let apart : AllByRecursion (λ y. eq key y ≡ false) (keys_of rest) =
      subst (AllByRecursion (λ y. eq key y ≡ false)) (sym (keys_of-remove_entry (eq key) es)) (apart_left eq laws key (keys_of es) (distinct (suc n) uses es kept)) in
      let others = others_proved uses key time rest apart (All-remove_entry (eq key) (HasLastTime eq uses) es kept.times) in
      subst (AreLastTouched eq (suc n) (Proved key time ∷ uses)) (sym (put_moved n key time es (bounded (suc n) uses es kept)))
      (record {
        order = order_moved n key time (touched uses) es kept.order;
        times = All-cons (HasLastTime eq (Proved key time ∷ uses)) (key, time) (take n rest)
            (ap (λ b. cond b (Some time) (last_proved eq uses key)) (laws.refl key))
            (All-take (HasLastTime eq (Proved key time ∷ uses)) n rest others);
      })

  -- a hit puts the key first, with the time that it had
  pub hit_stays : (room : ℕ) (uses : List (Use K)) (es : List (K × ℕ)) (key : K) (time : ℕ) → 0 < room → lookup (eq key) es ≡ Some time → AreLastTouched eq room uses es
      → AreLastTouched eq room (Hit key ∷ uses) (promoted (eq key) es)
  hit_stays zero uses es key time room h kept = absurd (omega arith)
  hit_stays (suc n) uses es key time room h kept =
      let rest = remove_entry (eq key) es in
      subst (AreLastTouched eq (suc n) (Hit key ∷ uses)) (sym (promoted_moved n key time es (bounded (suc n) uses es kept) h))
      (record {
        order = order_moved n key time (touched uses) es kept.order;
        times = All-cons (HasLastTime eq (Hit key ∷ uses)) (key, time) (take n rest)
            (found_time (suc n) uses es kept key time h)
            (All-take (HasLastTime eq (Hit key ∷ uses)) n rest (All-remove_entry (eq key) (HasLastTime eq uses) es kept.times));
      })

  -- what is fresh is kept, so a hit on it puts it first
  pub fresh_hit_stays : (room : ℕ) (uses : List (Use K)) (es : List (K × ℕ)) (lasting now : ℕ) (key : K) → 0 < room → AreLastTouched eq room uses es
      → (b : Bool) → b ≡ is_within lasting now (lookup (eq key) es) → AreLastTouched eq room (cond b (Hit key ∷ uses) uses) (cond b (promoted (eq key) es) es)
  fresh_hit_stays room uses es lasting now key some kept false h = kept
  fresh_hit_stays room uses es lasting now key some kept true h = by (lookup (eq key) es) refl h
    where
      by : (o : Option ℕ) → lookup (eq key) es ≡ o → true ≡ is_within lasting now o → AreLastTouched eq room (Hit key ∷ uses) (promoted (eq key) es)
      by None at t = cc
      by (Some time) at t = hit_stays room uses es key time some at kept
