-- On the links, as one of them is cut or mended.
use Rattle.std.proofs.Common.{◌≡◌, ℕ, zero, suc, Bool, List, [], ◌∷◌, refl, ap, set, get_or}
use Rattle.std.specs.Prelude.{All}
use Rattle.std.proofs.lemmas.List.Elements.{All-cons, All-head, All-tail}
use Rattle.domain_routes.specs.declared.Edge.{Edge}
use Rattle.domain_routes.specs.Walks.{JoinsRouters, IsSoundGraph}
use Rattle.aip_core.specs.Moves.{with_link}

-- a link with its test changed
abbrev pub relinked_edge : Edge → Bool → Edge
relinked_edge e up = record { a = e.a; a_port = e.a_port; b = e.b; b_port = e.b_port; up = up }

-- a write of one link's test is the list with that link changed
pub set_is_with : (es : List Edge) (l : ℕ) (up : Bool) (d : Edge) → set es l (relinked_edge (get_or es l d) up) ≡ with_link es l up
set_is_with [] l up d = refl
set_is_with (e ∷ es) zero up d = refl
set_is_with (e ∷ es) (suc l) up d = ap (λ rest. e ∷ rest) (set_is_with es l up d)

-- to set the test of a link to what it is changes nothing
pub same_with : (es : List Edge) (l : ℕ) (d : Edge) → with_link es l (get_or es l d).up ≡ es
same_with [] l d = refl
same_with (e ∷ es) zero d = refl
same_with (e ∷ es) (suc l) d = ap (λ rest. e ∷ rest) (same_with es l d)

-- a link that is cut or mended joins the same routers
joined_with : (domains : List ℕ) (links : List Edge) (l : ℕ) (up : Bool) → All (JoinsRouters domains) links → All (JoinsRouters domains) (with_link links l up)
joined_with domains [] l up h = h
joined_with domains (e ∷ es) zero up h = All-cons (JoinsRouters domains) _ es (All-head (JoinsRouters domains) e es h) (All-tail (JoinsRouters domains) e es h)
joined_with domains (e ∷ es) (suc l) up h =
    All-cons (JoinsRouters domains) e _ (All-head (JoinsRouters domains) e es h) (joined_with domains es l up (All-tail (JoinsRouters domains) e es h))

pub sound_with : (domains : List ℕ) (links : List Edge) (l : ℕ) (up : Bool) → IsSoundGraph domains links → IsSoundGraph domains (with_link links l up)
sound_with domains links l up h = record { routers = h.routers; links = joined_with domains links l up h.links }
