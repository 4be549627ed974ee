-- What the byte of a leaf makes of a lease file.
use Rattle.std.proofs.Common.{◌≡◌, ◌≢◌, inl, inr, ℕ, zero, suc, ◌+◌, ◌-◌, ◌<◌, ◌≤◌, ◌==◌, if◌then◌else◌, true, false, List, [], ◌∷◌, length, drop, get_or, refl, sym, ◌∙◌, ap, subst, arith}
use Rattle.std.proofs.lemmas.Bool.{cases_lt}
use Rattle.std.proofs.lemmas.Bool.Decides.{nat_tests}
use Rattle.std.proofs.lemmas.List.{ext_get_or, length-take, length-drop, get_or-take, get_or-drop}
use Rattle.lease_disk.specs.Images.{overwritten}
use Rattle.lease_disk.specs.PastLaws.{length-overwritten, overwritten_before, overwritten_after, overwritten_inside}
use Rattle.leaf_lease.specs.LeaseFile.{IsLeaseFile, head_size, kept_id}
use Rattle.lms_core.specs.Parameters.{levels_of, leaves_of}
use Rattle.lms_core.specs.Tree.{Key, identifier_of}
use Rattle.aip_host.specs.Signing.{IsSpentBelow}
use Rattle.aip_host.specs.Holding.{first_free}

-- files with the same head keep the same identifier
pub same_kept_id : (file other : List ℕ) → 18 ≤ length file → 18 ≤ length other → ((k : ℕ) → k < 18 → get_or file k 0 ≡ get_or other k 0) → kept_id file ≡ kept_id other
same_kept_id file other long long' same =
    let size = length-take 16 (drop 1 file) in
    let size' = length-take 16 (drop 1 other) in
    let rest = length-drop 1 file in
    let rest' = length-drop 1 other in
    ext_get_or 0 (kept_id file) (kept_id other) (omega arith) (λ k there.
    get_or-take 16 (drop 1 file) k 0 (omega arith)
    ∙ get_or-drop 1 file k 0
    ∙ same (1 + k) (omega arith)
    ∙ sym (get_or-drop 1 other k 0)
    ∙ sym (get_or-take 16 (drop 1 other) k 0 (omega arith)))

-- The byte of the next leaf is written: the leaf is spent where the byte is not 0.
module _ (key : Key) (next byte : ℕ) (image : List ℕ) (spent : IsSpentBelow key next image) (left : next < leaves_of key.height) where
  abbrev file : List ℕ
  file = overwritten image (head_size + next) (byte ∷ [])

  size : length file ≡ length image
  size = let whole = spent.whole in omega (arith, length-overwritten image (head_size + next) (byte ∷ []))

  before : (k : ℕ) → k < head_size + next → get_or file k 0 ≡ get_or image k 0
  before k low = let whole = spent.whole in overwritten_before image (head_size + next) (byte ∷ []) k (omega arith) low

  after : (k : ℕ) → head_size + next < k → k < length image → get_or file k 0 ≡ get_or image k 0
  after k past there = overwritten_after image (head_size + next) (byte ∷ []) k there (omega arith)

  here : (leaf : ℕ) → leaf ≡ next → get_or file (head_size + leaf) 0 ≡ byte
  here leaf is =
      ap (λ k. get_or file k 0) (omega arith)
      ∙ overwritten_inside image (head_size + next) (byte ∷ []) 0 (omega arith)

  written : (later : ℕ) → next ≤ later → later ≤ next + 1 → (next < later → byte ≢ 0) → (later ≤ next → byte ≡ 0) → IsSpentBelow key later file
  written later from upto is_spent is_free =
      let whole = spent.whole in
      record {
        is_open = record { there = omega (arith, size); gate = before 0 (omega arith) ∙ spent.is_open.gate };
        has_key = record {
          same_id = same_kept_id file image (omega (arith, size)) (omega arith) (λ k low. before k (omega arith)) ∙ spent.has_key.same_id;
          same_height = before 17 (omega arith) ∙ spent.has_key.same_height;
        };
        whole = omega (arith, size);
        gone = λ leaf there below. elim (cases_lt leaf next) [
          | inl low ↦ λ is. spent.gone leaf there low (sym (before (head_size + leaf) (omega arith)) ∙ is)
          | inr high ↦ λ is. is_spent (omega arith) (sym (here leaf (omega arith)) ∙ is)
        ];
        free = λ leaf there above. elim (cases_lt next leaf) [
          | inl past ↦ after (head_size + leaf) (omega arith) (omega arith) ∙ spent.free leaf there (omega arith)
          | inr upto ↦ here leaf (omega arith) ∙ is_free (omega arith)
        ];
      }

-- a leaf whose byte is written with 0 is not spent, and else it is
pub spent_by : (key : Key) (next byte : ℕ) (image : List ℕ) → IsSpentBelow key next image → next < leaves_of key.height
    → IsSpentBelow key (if byte == 0 then next else next + 1) (overwritten image (head_size + next) (byte ∷ []))
spent_by key next zero image spent left = written key next zero image spent left next (omega arith) (omega arith) (λ more. absurd (omega arith)) (λ same. refl)
spent_by key next (suc byte) image spent left =
    let test : (suc byte == 0) ≡ false = grind (arith, nat_tests) in
    let other : suc byte ≢ 0 = λ none. absurd (omega arith) in
    subst (λ b. IsSpentBelow key (if b then next else next + 1) (overwritten image (head_size + next) (suc byte ∷ []))) (sym test)
    (written key next (suc byte) image spent left (next + 1) (omega arith) (omega arith) (λ more. other) (λ same. absurd (omega arith)))

-- the first leaf that is free is known by the leaves that are gone
pub first_free_is : (leaves next : ℕ) (image : List ℕ) → next ≤ leaves
    → ((leaf : ℕ) → leaf < leaves → leaf < next → get_or image (head_size + leaf) 0 ≢ 0)
    → ((leaf : ℕ) → leaf < leaves → next ≤ leaf → get_or image (head_size + leaf) 0 ≡ 0)
    → first_free leaves image ≡ next
first_free_is zero next image within gone free = omega arith
first_free_is (suc leaf) next image within gone free = elim (cases_lt leaf next) [
  | inl low ↦
      let there : get_or image (head_size + leaf) 0 ≢ 0 = gone leaf (omega arith) low in
      let test : (get_or image (head_size + leaf) 0 == 0) ≡ false = grind (arith, nat_tests) in
      ap (λ b. if b then first_free leaf image else suc leaf) test ∙ omega arith
  | inr past ↦
      let none : get_or image (head_size + leaf) 0 ≡ 0 = free leaf (omega arith) past in
      let test : (get_or image (head_size + leaf) 0 == 0) ≡ true = grind (arith, nat_tests) in
      ap (λ b. if b then first_free leaf image else suc leaf) test
      ∙ first_free_is leaf next image past (λ l there. gone l (omega arith)) (λ l there. free l (omega arith))
]

-- so the next leaf of a lease file of the key is the one that was next
pub same_next : (key : Key) (next other : ℕ) (image : List ℕ) → next ≤ leaves_of key.height → IsSpentBelow key next image
    → IsLeaseFile (identifier_of key.seed) (levels_of key.height) other image → other ≡ next
same_next key next other image within spent is = elim (cases_lt other next) [
  | inl low ↦
      let top = is.first_free.free other (omega arith) (omega arith) in absurd (spent.gone other (omega arith) low top)
  | inr from ↦ elim (cases_lt next other) [
    | inl past ↦
        let top = is.first_free.within in
        absurd (is.first_free.last_gone (other - 1) (omega arith) (spent.free (other - 1) (omega arith) (omega arith)))
    | inr same ↦ omega arith
  ]
]
