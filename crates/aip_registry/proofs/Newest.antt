-- The records that are kept are the newest of all that were published.
use Rattle.std.proofs.Common.{◌≡◌, ℕ, ◌&&◌, Bool, true, false, cond, List, [], ◌∷◌, Option, Some, None, refl, sym, ◌∙◌, ap}
use Rattle.std.specs.Prelude.{find, nat_le, not}
use Rattle.std.specs.Ordering.{match_ordering}
use Rattle.std.specs.declared.cmp.Ordering.{Ordering}
use Rattle.std.specs.declared.cmp.Ordering.TheVariants.{Less, Equal, Greater}
use Rattle.aip_addr.specs.declared.ids.Id.{Id}
use Rattle.aip_registry.specs.declared.records.RecordKind.{RecordKind}
use Rattle.aip_registry.specs.declared.records.Record.{Record}
use Rattle.aip_registry.specs.declared.published.Published.TheVariants as published
use Rattle.aip_registry.specs.Record.{is_record, fields_in}
use Rattle.aip_registry.specs.Kept.{after, against, has_key, has_signature, is_about, is_genuine, is_taken, kept_on, kept_records, newer_of, newest, record_cmp, with_record}
use Rattle.aip_registry.proofs.Order.{about_these, equal_if_same, exact, SameSubject}

module _ (kind : RecordKind) (ad other : Id) where
  abbrev test : Record → Bool
  test r = is_about kind ad other r

  -- records that the order finds equal pass the same test
  alike : (a b : Record) → record_cmp a b ≡ Equal → test a ≡ test b
  alike a b e = same (exact a b e)
    where
      same : SameSubject a b → test a ≡ test b
      same s i = test (record { kind = s.kind i; ad = s.ad i; other = s.other i; number = a.number; until = a.until })

  -- and two that pass it are equal in the order
  both_pass : (a b : Record) → test a ≡ true → test b ≡ true → record_cmp a b ≡ Equal
  both_pass a b ta tb =
      let sa = about_these kind ad other a ta in
      let sb = about_these kind ad other b tb in
      equal_if_same a b (record { kind = sym sa.kind ∙ sb.kind; ad = sym sa.ad ∙ sb.ad; other = sym sa.other ∙ sb.other })

  -- a record that passes is found once it is put
  found_same : (r : Record) (ks : List Record) → test r ≡ true → find test (with_record r ks) ≡ Some r
  found_same r [] t = rw t refl
  found_same r (k ∷ ks) t = by (record_cmp r k) refl (test k) refl (with_record r ks) (found_same r ks t)
    where
      by : (o : Ordering) → record_cmp r k ≡ o → (b : Bool) → test k ≡ b → (f : List Record) → find test f ≡ Some r
          → find test (match_ordering o (r ∷ k ∷ ks) (r ∷ ks) (k ∷ f)) ≡ Some r
      by Less e b tk f rest = rw t refl
      by Equal e b tk f rest = rw t refl
      by Greater e true tk f rest = let clash : Greater ≡ Equal = sym e ∙ both_pass r k t tk in cc
      by Greater e false tk f rest = rw tk rest

  -- and one that doesn't pass changes nothing of what is found
  found_other : (r : Record) (ks : List Record) → test r ≡ false → find test (with_record r ks) ≡ find test ks
  found_other r [] t = rw t refl
  found_other r (k ∷ ks) t = by (record_cmp r k) refl (with_record r ks) (found_other r ks t)
    where
      by : (o : Ordering) → record_cmp r k ≡ o → (f : List Record) → find test f ≡ find test ks
          → find test (match_ordering o (r ∷ k ∷ ks) (r ∷ ks) (k ∷ f)) ≡ find test (k ∷ ks)
      by Less e f rest = rw t refl
      by Equal e f rest = let tk : test k ≡ false = sym (alike r k e) ∙ t in rw (t, tk) refl
      by Greater e f rest = ap (λ (x : Option Record). cond (test k) (Some k) x) rest

  -- what is found after a genuine record is judged against what was found
  judged : (r : Record) (ks : List Record) (o : Option Record) → kept_on r.kind r.ad r.other ks ≡ o → (b : Bool) → test r ≡ b
      → find test (cond (is_taken (against o r.number)) (with_record r ks) ks) ≡ cond b (newer_of r (find test ks)) (find test ks)
  judged r ks o was true t = rw (same_found o was) (pass o was)
    where
      same_found : (o : Option Record) → kept_on r.kind r.ad r.other ks ≡ o → find test ks ≡ o
      same_found o was =
          let s = about_these kind ad other r t in
          (λ i. kept_on (s.kind i) (s.ad i) (s.other i) ks) ∙ was

      by : (k : Record) (b : Bool) → find test ks ≡ Some k
          → find test (cond (is_taken (cond b (published.Old k.number) published.Ok)) (with_record r ks) ks) ≡ cond b (Some k) (Some r)
      by k true here = here
      by k false here = found_same r ks t

      pass : (o : Option Record) → kept_on r.kind r.ad r.other ks ≡ o
          → find test (cond (is_taken (against o r.number)) (with_record r ks) ks) ≡ newer_of r o
      pass None was = found_same r ks t
      pass (Some k) was = by k (nat_le r.number k.number) (same_found (Some k) was)
  judged r ks o was false t = by (is_taken (against o r.number))
    where
      by : (b : Bool) → find test (cond b (with_record r ks) ks) ≡ find test ks
      by true = found_other r ks t
      by false = refl

  -- one more that is published
  step : (ks : List Record) (bytes : List ℕ) (n : Option Record) → find test ks ≡ n
      → find test (after ks bytes) ≡ cond (is_genuine bytes && test (fields_in bytes)) (newer_of (fields_in bytes) n) n
  step ks bytes n h = by (is_record bytes) (has_key bytes) (has_signature bytes)
    where
      r : Record
      r = fields_in bytes

      by : (a b c : Bool)
          → find test (cond (is_taken (cond (not a) published.Body (cond (not b) published.Key (cond (not c) published.Signature (against (kept_on (fields_in bytes).kind (fields_in bytes).ad (fields_in bytes).other ks) (fields_in bytes).number))))) (with_record (fields_in bytes) ks) ks)
          ≡ cond ((a && (b && c)) && test (fields_in bytes)) (newer_of (fields_in bytes) n) n
      by true true true =
          rw (← h) (judged (fields_in bytes) ks (kept_on (fields_in bytes).kind (fields_in bytes).ad (fields_in bytes).other ks) refl (test (fields_in bytes)) refl)
      by true true false = h
      by true false c = h
      by false b c = h

module _ (kind : RecordKind) (ad other : Id) where
  -- of all that was published, what is kept is the newest
  pub keeps_newest : (published : List (List ℕ)) → kept_on kind ad other (kept_records published) ≡ newest kind ad other published
  keeps_newest [] = refl
  keeps_newest (bytes ∷ earlier) = step kind ad other (kept_records earlier) bytes (newest kind ad other earlier) (keeps_newest earlier)
