-- An index of names, as a list that it stands for grows by one.
use Rattle.std.proofs.Common.{◌≡◌, ℕ, suc, ◌+◌, Bool, true, false, cond, ◌||◌, List, [], ◌∷◌, ◌++◌, length, Option, Some, None, refl, sym, ap, subst, ◌∙◌, arith}
use Rattle.std.specs.Prelude.{position, take, is_some}
use Rattle.std.specs.List.{list_any, position_from}
use Rattle.std.specs.Option.{option_or}
use Rattle.std.specs.Ordering.{is_eq}
use Rattle.std.specs.Str.{bytes_eq}
use Rattle.std.specs.BTreeMap.{BTreeMap, get, Updates}
use Rattle.std.specs.BTreeSet as set
use Rattle.std.proofs.lemmas.Iterator.Adapters.{position_from-zero}
use Rattle.std.proofs.lemmas.List.Folds.{list_any-append}
use Rattle.std.proofs.lemmas.Map.Text.{is_eq-slice_cmp}
use Rattle.std.proofs.lemmas.Slice.Eq.{bytes_eq-Decides}
use Rattle.aip_addr.specs.Ids.{key_id_of}
use Rattle.aip_addr.specs.declared.ids.Id.{Id}
use Rattle.aip_addr.specs.declared.ids.KeyId.{KeyId}
use Rattle.aip_topo.specs.declared.topology.Part.{Part}
use Rattle.aip_topo.specs.declared.topology.HostPart.{HostPart}
use Rattle.aip_topo.specs.declared.topology.Part.TheVariants as part
use Rattle.aip_topo.specs.Index.{key_id_cmp, name_cmp}
use Rattle.aip_topo.specs.Steps.{has_key_id, names_host}

-- ## Places

from_push : {A : Type 0} (test : A → Bool) (i : ℕ) (xs : List A) (y : A)
    → position_from test i (xs ++ y ∷ []) ≡ option_or (position_from test i xs) (cond (test y) (Some (i + length xs)) None)
from_push test i [] y = ap (λ n. cond (test y) (Some n) None) (omega arith)
from_push test i (x ∷ xs) y =
    elim (test x) as (λ b. cond b (Some i) (position_from test (i + 1) (xs ++ y ∷ [])) ≡ option_or (cond b (Some i) (position_from test (i + 1) xs)) (cond (test y) (Some (i + suc (length xs))) None)) [
      | true ↦ refl
      | false ↦ from_push test (i + 1) xs y ∙ ap (λ n. option_or (position_from test (i + 1) xs) (cond (test y) (Some n) None)) (omega arith)
    ]

-- what is found in a list with one more: what was found before, or the one more
position_push : {A : Type 0} (test : A → Bool) (xs : List A) (y : A) → position test (xs ++ y ∷ []) ≡ option_or (position test xs) (cond (test y) (Some (length xs)) None)
position_push test xs y =
    position_from-zero test (xs ++ y ∷ []) ∙ from_push test 0 xs y ∙ ap (λ n. option_or (position_from test 0 xs) (cond (test y) (Some n) None)) (omega arith)
    ∙ ap (λ o. option_or o (cond (test y) (Some (length xs)) None)) (sym (position_from-zero test xs))

-- the place of a name that had none
pub put_new : (old new : BTreeMap (List ℕ) ℕ) (name : List ℕ) (place : ℕ) → is_some (get name_cmp old name) ≡ false → Updates name_cmp old new name (Some place)
    → (other : List ℕ) → get name_cmp new other ≡ option_or (get name_cmp old other) (cond (bytes_eq name other) (Some place) None)
put_new old new name place fresh updates other =
    let here : is_eq (name_cmp name other) ≡ bytes_eq name other = is_eq-slice_cmp name other in
    let found : get name_cmp new other ≡ cond (bytes_eq name other) (Some place) (get name_cmp old other) =
    subst (λ b. get name_cmp new other ≡ cond b (Some place) (get name_cmp old other)) here (updates.0 other) in
    found ∙ by (bytes_eq name other) refl
  where
    absent : (o : Option ℕ) → is_some o ≡ false → o ≡ None
    absent None e = refl
    absent (Some n) e = cc

    same_else : (o : Option ℕ) → o ≡ option_or o None
    same_else None = refl
    same_else (Some n) = refl

    by : (b : Bool) → bytes_eq name other ≡ b → cond b (Some place) (get name_cmp old other) ≡ option_or (get name_cmp old other) (cond b (Some place) None)
    by true e =
        let is : name ≡ other = (bytes_eq-Decides name other).0 e in
        let none : get name_cmp old other ≡ None = subst (λ n. get name_cmp old n ≡ None) is (absent (get name_cmp old name) fresh) in
        ap (λ o. option_or o (Some place)) (sym none)
    by false e = same_else (get name_cmp old other)

-- names that are found where they stand are so with one more
pub places_more : {A : Type 0} (named : A → List ℕ) (old new : BTreeMap (List ℕ) ℕ) (xs more : List A) (y : A)
    → ((name : List ℕ) → get name_cmp old name ≡ position (λ x. bytes_eq (named x) name) xs)
    → ((name : List ℕ) → get name_cmp new name ≡ option_or (get name_cmp old name) (cond (bytes_eq (named y) name) (Some (length xs)) None))
    → more ≡ xs ++ y ∷ []
    → (name : List ℕ) → get name_cmp new name ≡ position (λ x. bytes_eq (named x) name) more
places_more {A} named old new xs more y finds put is name =
    let test : A → Bool = λ x. bytes_eq (named x) name in
    put name ∙ ap (λ o. option_or o (cond (test y) (Some (length xs)) None)) (finds name) ∙ sym (position_push test xs y) ∙ ap (position test) (sym is)

-- ## Hosts

-- a test with one more, where the new one is found and the others are as they were
one_more : (test had : Bool) → cond test true had ≡ (had || (test || false))
one_more true false = refl
one_more true true = refl
one_more false true = refl
one_more false false = refl

-- what no link has, parts with one link more have as those before
pub link_more : (test : Part → Bool) (parts more : List Part) (link : Part) → test link ≡ false → more ≡ parts ++ link ∷ [] → list_any test parts ≡ list_any test more
link_more test parts more link none is =
    shorter (list_any test parts) (test link) none ∙ sym (list_any-append test parts (link ∷ [])) ∙ ap (list_any test) (sym is)
  where
    shorter : (had here : Bool) → here ≡ false → had ≡ (had || (here || false))
    shorter true here e = refl
    shorter false true e = cc
    shorter false false e = refl

-- the names of the hosts with one more
pub hosts_more : (old new : set.BTreeSet (List ℕ)) (parts more : List Part) (host : HostPart)
    → ((name : List ℕ) → set.contains name_cmp old name ≡ list_any (names_host name) parts) → set.Updates name_cmp old new host.name true → more ≡ parts ++ part.Host host ∷ []
    → (name : List ℕ) → set.contains name_cmp new name ≡ list_any (names_host name) more
hosts_more old new parts more host finds updates is name =
    let test = names_host name in
    let found : set.contains name_cmp new name ≡ cond (bytes_eq host.name name) true (set.contains name_cmp old name) =
    subst (λ b. set.contains name_cmp new name ≡ cond b true (set.contains name_cmp old name)) (is_eq-slice_cmp host.name name) (updates.0 name) in
    found ∙ ap (cond (bytes_eq host.name name) true) (finds name) ∙ one_more (bytes_eq host.name name) (list_any test parts)
    ∙ sym (list_any-append test parts (part.Host host ∷ [])) ∙ ap (list_any test) (sym is)

-- the key identifiers of the hosts with one more
pub keys_more : (old new : set.BTreeSet KeyId) (parts more : List Part) (host : HostPart)
    → ((eid : Id) → set.contains key_id_cmp old (key_id_of eid) ≡ list_any (has_key_id eid) parts) → set.Updates key_id_cmp old new (key_id_of host.eid) true → more ≡ parts ++ part.Host host ∷ []
    → (eid : Id) → set.contains key_id_cmp new (key_id_of eid) ≡ list_any (has_key_id eid) more
keys_more old new parts more host finds updates is eid =
    let test = has_key_id eid in
    let mine = take 19 host.eid.bytes in
    let its = take 19 eid.bytes in
    let found : set.contains key_id_cmp new (key_id_of eid) ≡ cond (bytes_eq mine its) true (set.contains key_id_cmp old (key_id_of eid)) =
    subst (λ b. set.contains key_id_cmp new (key_id_of eid) ≡ cond b true (set.contains key_id_cmp old (key_id_of eid))) (is_eq-slice_cmp mine its) (updates.0 (key_id_of eid)) in
    found ∙ ap (cond (bytes_eq mine its) true) (finds eid) ∙ one_more (bytes_eq mine its) (list_any test parts)
    ∙ sym (list_any-append test parts (part.Host host ∷ [])) ∙ ap (list_any test) (sym is)
