-- On the places of keys: what the order of keys finds equal is what the rules find the same.
use Rattle.std.proofs.Common.{◌≡◌, ℕ, ◌+◌, ◌&&◌, Bool, true, false, cond, List, [], ◌∷◌, length, map, Option, Some, None, refl, sym, ◌∙◌, ap, arith, ltb}
use Rattle.std.specs.Prelude.{find, position, slice_get, option_and_then}
use Rattle.std.specs.List.{position_from, position_or_len}
use Rattle.std.specs.Str.{bytes_eq}
use Rattle.std.specs.Ordering.{nat_cmp, is_eq, ordering_then}
use Rattle.std.specs.Cmp.Lexicographic.{slice_cmp}
use Rattle.std.specs.declared.cmp.Ordering.{Ordering}
use Rattle.std.specs.declared.cmp.Ordering.TheVariants.{Less, Equal, Greater}
use Rattle.std.proofs.lemmas.Cmp.{same_from_slice_cmp}
use Rattle.std.proofs.lemmas.Bool.Decides.{nat_tests}
use Rattle.std.proofs.lemmas.List.Folds.{find_at}
use Rattle.std.proofs.lemmas.Option.{slice_get_past}
use Rattle.std.proofs.lemmas.Iterator.Adapters.{position_from-zero}
use Rattle.aip_addr.specs.declared.ids.Id.{Id}
use Rattle.aip_addr.specs.declared.ids.Address.{Address}
use Rattle.aip_topo.specs.declared.topology.Domain.{Domain}
use Rattle.aip_topo.specs.declared.topology.Router.{Router}
use Rattle.aip_rules.specs.declared.Seat.{Seat}
use Rattle.aip_addr.specs.Ids.{is_same_address}
use Rattle.aip_rules.specs.Nodes.{place_of_router, router_with_address, domain_with_ad}
use Rattle.aip_topo.specs.Index.{name_cmp}
use Rattle.aip_core.specs.Directory.{id_cmp, address_cmp}

-- the order of lists of bytes finds the same bytes equal
same_bytes : (a b : List ℕ) → is_eq (slice_cmp nat_cmp a b) ≡ bytes_eq a b
same_bytes a b =
    same_from_slice_cmp nat_cmp is_eq bytes_eq refl (λ _ _. refl) (λ _ _. refl) (λ x y xs ys o h. grind (arith, nat_tests)) a b (slice_cmp nat_cmp a b) refl

both_equal : (x y : Ordering) → is_eq (ordering_then x y) ≡ is_eq x && is_eq y
both_equal Less y = refl
both_equal Equal y = refl
both_equal Greater y = refl

-- the order of addresses finds the same addresses equal
same_address : (a b : Address) → is_eq (address_cmp a b) ≡ is_same_address a b
same_address a b =
    both_equal (id_cmp a.ad b.ad) (id_cmp a.eid b.eid)
    ∙ ap (λ t. t && is_eq (id_cmp a.eid b.eid)) (same_bytes a.ad.bytes b.ad.bytes)
    ∙ ap (λ t. bytes_eq a.ad.bytes b.ad.bytes && t) (same_bytes a.eid.bytes b.eid.bytes)

-- the place of a key among the keys of a list is the place in the list
through : {A B : Type 0} (f : A → B) (same : B → Bool) (test : A → Bool) → ((a : A) → same (f a) ≡ test a) → (n : ℕ) (xs : List A)
    → position_from same n (map f xs) ≡ position_from test n xs
through f same test h n [] = refl
through f same test h n (x ∷ xs) =
    ap (λ b. cond b (Some n) (position_from same (n + 1) (map f xs))) (h x)
    ∙ ap (λ rest. cond (test x) (Some n) rest) (through f same test h (n + 1) xs)

-- and that is its position
at_position : {A B : Type 0} (f : A → B) (same : B → Bool) (test : A → Bool) → ((a : A) → same (f a) ≡ test a) → (xs : List A)
    → position_from same 0 (map f xs) ≡ position test xs
at_position f same test h xs = through f same test h 0 xs ∙ sym (position_from-zero test xs)

pub host_by_name : (seats : List Seat) (name : List ℕ)
    → position_from (λ other. is_eq (name_cmp other name)) 0 (map (λ seat. seat.name) seats) ≡ position (λ seat. bytes_eq seat.name name) seats
host_by_name seats name = at_position (λ (seat : Seat). seat.name) (λ other. is_eq (name_cmp other name)) (λ seat. bytes_eq seat.name name) (λ seat. same_bytes seat.name name) seats

pub host_by_address : (seats : List Seat) (address : Address)
    → position_from (λ other. is_eq (address_cmp other address)) 0 (map (λ seat. seat.address) seats) ≡ position (λ seat. is_same_address seat.address address) seats
host_by_address seats address = at_position (λ (seat : Seat). seat.address) (λ other. is_eq (address_cmp other address)) (λ seat. is_same_address seat.address address) (λ seat. same_address seat.address address) seats

pub router_by_name : (routers : List Router) (name : List ℕ)
    → position_from (λ other. is_eq (name_cmp other name)) 0 (map (λ router. router.name) routers) ≡ place_of_router routers name
router_by_name routers name = at_position (λ (router : Router). router.name) (λ other. is_eq (name_cmp other name)) (λ router. bytes_eq router.name name) (λ router. same_bytes router.name name) routers

pub router_by_address : (routers : List Router) (address : Address)
    → position_from (λ other. is_eq (address_cmp other address)) 0 (map (λ router. router.address) routers) ≡ router_with_address routers address
router_by_address routers address = at_position (λ (router : Router). router.address) (λ other. is_eq (address_cmp other address)) (λ router. is_same_address router.address address) (λ router. same_address router.address address) routers

pub domain_by_ad : (domains : List Domain) (ad : Id)
    → position_from (λ other. is_eq (id_cmp other ad)) 0 (map (λ domain. domain.ad) domains) ≡ domain_with_ad domains ad
domain_by_ad domains ad = at_position (λ (domain : Domain). domain.ad) (λ other. is_eq (id_cmp other ad)) (λ domain. bytes_eq domain.ad.bytes ad.bytes) (λ domain. same_bytes domain.ad.bytes ad.bytes) domains

-- what stands at the first place, if there is one, by a test whether there is
found_if : {A : Type 0} (xs : List A) (k : ℕ) (b : Bool) → ltb k (length xs) ≡ b → option_and_then (λ n. slice_get xs n) (cond b (Some k) None) ≡ slice_get xs k
found_if xs k true e = refl
found_if xs k false e = sym (slice_get_past xs k (grind (arith, nat_tests)))

-- what stands at the position is what is found
pub found_at : {A : Type 0} (test : A → Bool) (xs : List A) → option_and_then (λ n. slice_get xs n) (position test xs) ≡ find test xs
found_at test xs = found_if xs (position_or_len test xs) (ltb (position_or_len test xs) (length xs)) refl ∙ sym (find_at test xs)

-- the look-up of a place in a list that is the one that is meant
pub looked_up : {A : Type 0} (test : A → Bool) (xs ys : List A) (place : Option ℕ) (r : Option A)
    → r ≡ option_and_then (λ n. slice_get ys n) place → ys ≡ xs → place ≡ position test xs → r ≡ find test xs
looked_up {A} test xs ys place r is same at =
    is ∙ ap (λ (zs : List A). option_and_then (λ n. slice_get zs n) place) same
    ∙ ap (λ (o : Option ℕ). option_and_then (λ n. slice_get xs n) o) at ∙ found_at test xs
