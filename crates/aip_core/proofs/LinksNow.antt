-- The links as they are after a trace, once one more link is cut or mended.
use Rattle.std.proofs.Common.{◌≡◌, ◌≢◌, ℕ, zero, suc, ◌+◌, ◌≤◌, ◌==◌, Bool, true, false, cond, List, [], ◌∷◌, length, refl, ap, sym, ◌∙◌, zero-add, arith}
use Rattle.std.proofs.lemmas.Bool.Decides.{nat_tests}
use Rattle.domain_routes.specs.declared.Edge.{Edge}
use Rattle.aip_topo.specs.declared.topology.Part.{Part}
use Rattle.aip_topo.specs.declared.topology.Part.TheVariants.{Host, Link}
use Rattle.aip_topo.specs.declared.topology.Topology.{Topology}
use Rattle.aip_event.specs.declared.input.Input.{Input}
use Rattle.aip_event.specs.declared.input.Input.TheVariants.{Cut, Mend}
use Rattle.aip_rules.specs.declared.Entry.{Entry}
use Rattle.aip_rules.specs.declared.Entry.TheVariants.{Taken}
use Rattle.aip_rules.specs.State.{is_up}
use Rattle.aip_rules.specs.Nodes.{links_after, links_of, ports_in}
use Rattle.aip_rules.specs.Routes.{links_by, links_now}
use Rattle.aip_core.specs.Moves.{with_link, links_with}

-- an edge with its test
abbrev pub tested : Edge → Bool → Edge
tested e up = record e { up = up }

-- two lists from equal heads and equal rests
both : (e : Edge) (a b : Bool) (xs ys : List Edge) → a ≡ b → xs ≡ ys → tested e a ∷ xs ≡ tested e b ∷ ys
both e a b xs ys p q = ap (λ up. tested e up ∷ xs) p ∙ ap (λ rest. tested e b ∷ rest) q

-- tests that agree from n on give the same links from n on
links_by_same : (f g : ℕ → Bool) (n : ℕ) (es : List Edge) → ((k : ℕ) → n ≤ k → f k ≡ g k) → links_by f n es ≡ links_by g n es
links_by_same f g n [] h = refl
links_by_same f g n (e ∷ es) h =
    both e (f n) (g n) _ _ (h n (omega arith)) (links_by_same f g (n + 1) es (λ k p. h k (omega arith)))

-- to change link l is to change the test at its number alone
with_is_by : (f g : ℕ → Bool) (v : Bool) (n l : ℕ) (es : List Edge) → g (n + l) ≡ v → ((k : ℕ) → k ≢ n + l → f k ≡ g k) → with_link (links_by f n es) l v ≡ links_by g n es
with_is_by f g v n l [] at others = refl
with_is_by f g v n zero (e ∷ es) at others =
    let here : n + zero ≡ n = omega arith in
    both e v (g n) _ _ (sym at ∙ ap g here) (links_by_same f g (n + 1) es (λ k p. others k (omega arith)))
with_is_by f g v n (suc l) (e ∷ es) at others =
    let next : n + suc l ≡ (n + 1) + l = omega arith in
    both e (f n) (g n) _ _ (others n (omega arith)) (with_is_by f g v (n + 1) l es (sym (ap g next) ∙ at) (λ k p. others k (omega arith)))

-- the test of a number at itself
same_test : (l : ℕ) (a b : Bool) → cond (l == l) a b ≡ a
same_test l a b = grind (arith, nat_tests)

-- the same at a link's number, counted from 0
same_test_at : (l : ℕ) (a : Bool) (tr : List Entry) → cond (l == (0 + l)) a (is_up tr (0 + l)) ≡ a
same_test_at l a tr = rw zero-add (same_test l a (is_up tr l))

-- the test of a number at another
other_test : (l k : ℕ) (a b : Bool) → k ≢ l → cond (l == k) a b ≡ b
other_test l k a b ne = grind (arith, nat_tests)

-- the links after one more input
pub links_with_input : (topo : Topology) (tr : List Entry) (input : Input) → links_with input (links_now topo tr) ≡ links_now topo (Taken input ∷ tr)
links_with_input topo tr (Cut link) = with_is_by (is_up tr) (is_up (Taken (Cut link) ∷ tr)) false 0 link (links_of topo) (same_test_at link false tr) (λ k ne. sym (other_test link k false (is_up tr k) (λ e. ne (e ∙ sym (zero-add link)))))
links_with_input topo tr (Mend link) = with_is_by (is_up tr) (is_up (Taken (Mend link) ∷ tr)) true 0 link (links_of topo) (same_test_at link true tr) (λ k ne. sym (other_test link k true (is_up tr k) (λ e. ne (e ∙ sym (zero-add link)))))
links_with_input topo tr input = refl

-- before any input all links are up
pub links_at_start : (before parts : List Part) (n : ℕ) → links_after before parts ≡ links_by (is_up []) n (links_after before parts)
links_at_start before [] n = refl
links_at_start before (Host host ∷ parts) n = links_at_start (Host host ∷ before) parts n
links_at_start before (Link link ∷ parts) n =
    ap (λ rest. record { a = link.a; a_port = ports_in before link.a; b = link.b; b_port = ports_in before link.b; up = true } ∷ rest) (links_at_start (Link link ∷ before) parts (n + 1))

-- there are as many links as before
pub length-links_now : (topo : Topology) (tr : List Entry) → length (links_now topo tr) ≡ length (links_of topo)
length-links_now topo tr = as_many (is_up tr) 0 (links_of topo) where
  as_many : (up : ℕ → Bool) (n : ℕ) (es : List Edge) → length (links_by up n es) ≡ length es
  as_many up n [] = refl
  as_many up n (e ∷ es) = ap suc (as_many up (n + 1) es)
