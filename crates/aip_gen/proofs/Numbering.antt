-- The lines numbered up to a count: one more is the line behind the others.
use Rattle.std.proofs.Common.{ℕ, ◌≡◌, ◌+◌, List, [], ◌++◌, refl, ◌∙◌, add-one, append_assoc}
use Rattle.aip_gen.specs.Draws.{Drawn, numbered}

pub no_line : (line : ℕ → Drawn (List ℕ)) (state : ℕ) → numbered line 0 state ≡ ([], state)
unfolding numbered
no_line line state = refl

pub one_more : (line : ℕ → Drawn (List ℕ)) (count state : ℕ)
    → numbered line (count + 1) state
    ≡ ((numbered line count state).0 ++ (line count (numbered line count state).1).0, (line count (numbered line count state).1).1)
unfolding numbered
one_more line count state = rw (add-one count) refl

-- what is written with one more line
pub one_more_written : (line : ℕ → Drawn (List ℕ)) (count state words : ℕ) (start out new : List ℕ)
    → out ≡ start ++ (numbered line count state).0 → words ≡ (numbered line count state).1
    → new ≡ out ++ (line count words).0 → new ≡ start ++ (numbered line (count + 1) state).0
one_more_written line count state words start out new before at last =
    last ∙ rw (before, at, one_more line count state) (append_assoc start (numbered line count state).0 _)

-- the words behind one more line
pub one_more_state : (line : ℕ → Drawn (List ℕ)) (count state words next : ℕ)
    → words ≡ (numbered line count state).1 → next ≡ (line count words).1 → next ≡ (numbered line (count + 1) state).1
one_more_state line count state words next at last = last ∙ rw (at, one_more line count state) refl
