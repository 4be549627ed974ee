-- When a source is accepted at a port, by the uses of pairs and of wildcards.
use Rattle.std.specs.Prelude.{ℕ, Bool, not, ◌&&◌, nat_le, filter, List}
use Rattle.std.specs.Set.{distinct_count}
use Rattle.accept_cache.specs.declared.keys.Pair.{Pair}
use Rattle.accept_cache.specs.declared.keys.Wildcard.{Wildcard}
use Rattle.accept_cache.specs.declared.keys.Limits.{Limits}
use Rattle.accept_cache.specs.Keys.{same_pair, same_wildcard, is_of}
use Rattle.accept_cache.specs.Recency.{Use, touched, is_fresh}

-- the uses of pairs at a router, newest first
abbrev pub PairUses : Type 0
PairUses = List (Use Pair)

-- the uses of wildcards at a router, newest first
abbrev pub WildcardUses : Type 0
WildcardUses = List (Use Wildcard)

-- the pair is held among `cache` pairs, and now is below the time of its last proof plus `accept`
abbrev pub is_fresh_pair : Limits → PairUses → (now : ℕ) → Pair → Bool
is_fresh_pair limits = is_fresh same_pair limits.cache limits.accept

-- the wildcard is held among `wildcache` wildcards, and now is below the time when it was last made plus `wild`
abbrev pub is_fresh_wildcard : Limits → WildcardUses → (now : ℕ) → Wildcard → Bool
is_fresh_wildcard limits = is_fresh same_wildcard limits.wildcache limits.wild

-- how many distinct sources of the domain are fresh at the port
abbrev pub fresh_sources : Limits → PairUses → (now : ℕ) → Wildcard → ℕ
fresh_sources limits uses now wildcard =
    distinct_count same_pair (filter (λ pair. is_of wildcard pair && is_fresh_pair limits uses now pair) (touched uses))

-- at least `threshold` of them are, and no fresh wildcard of the domain stands at the port
abbrev pub promotes : Limits → PairUses → WildcardUses → (now : ℕ) → Wildcard → Bool
promotes limits uses wilds now wildcard =
    nat_le limits.threshold (fresh_sources limits uses now wildcard) && not (is_fresh_wildcard limits wilds now wildcard)
