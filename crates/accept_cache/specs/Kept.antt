-- What a cache keeps, and what each call makes of it.
use Rattle.std.specs.Prelude.{ℕ, ◌<◌, Bool, cond, not, ◌&&◌, nat_le, count_by, List, [], Some}
use Rattle.std.specs.Map.{lookup}
use Rattle.lru.specs.LruCache.{lru_cache, put_entries, promoted}
use Rattle.accept_cache.specs.declared.keys.Pair.{Pair}
use Rattle.accept_cache.specs.declared.keys.Wildcard.{Wildcard}
use Rattle.accept_cache.specs.declared.keys.Limits.{Limits}
use Rattle.accept_cache.specs.Keys.{same_pair, same_wildcard, is_of}
use Rattle.accept_cache.specs.Recency.{is_within}

-- the pairs and the wildcards, each with the time of its last proof, the last touched first
pub record Kept : Type 0 where
  pub sources : List (Pair × ℕ)
  pub wildcards : List (Wildcard × ℕ)
  pub limits : Limits

-- each limit is at least 1
pub record HasRoom (limits : Limits) : Type 0 where
  pub cache : 0 < limits.cache
  pub wildcache : 0 < limits.wildcache
  pub threshold : 0 < limits.threshold
  pub accept : 0 < limits.accept
  pub wild : 0 < limits.wild

-- a router that has accepted nothing yet
abbrev pub nothing_kept : Limits → Kept
nothing_kept limits = record { sources = []; wildcards = []; limits = limits }

-- after a proof the pair stands first, with this time
abbrev pub after_proved : Kept → Pair → ℕ → Kept
after_proved kept pair now = record kept { sources = put_entries same_pair (lru_cache kept.sources kept.limits.cache) pair now }

-- the pair is kept, and its time has not run out
abbrev pub has_fresh : Kept → Pair → ℕ → Bool
has_fresh kept pair now = is_within kept.limits.accept now (lookup (same_pair pair) kept.sources)

-- after a hit the pair stands first, with its old time
abbrev pub after_hit : Kept → Pair → Bool → Kept
after_hit kept pair hit = record kept { sources = cond hit (promoted (same_pair pair) kept.sources) kept.sources }

-- the wildcard is kept, and its time has not run out
abbrev pub has_fresh_wild : Kept → Wildcard → ℕ → Bool
has_fresh_wild kept wildcard now = is_within kept.limits.wild now (lookup (same_wildcard wildcard) kept.wildcards)

-- after a hit the wildcard stands first, with its old time
abbrev pub after_hit_wild : Kept → Wildcard → Bool → Kept
after_hit_wild kept wildcard hit = record kept { wildcards = cond hit (promoted (same_wildcard wildcard) kept.wildcards) kept.wildcards }

-- how many pairs of the domain at the port are kept whose time has not run out
abbrev pub fresh_count : Kept → Wildcard → ℕ → ℕ
fresh_count kept wildcard now = count_by (λ e. is_of wildcard e.0 && is_within kept.limits.accept now (Some e.1)) kept.sources

-- enough of them are kept, and the wildcard isn't, or its time has run out
abbrev pub is_promoted : Kept → Wildcard → ℕ → Bool
is_promoted kept wildcard now = nat_le kept.limits.threshold (fresh_count kept wildcard now) && not (has_fresh_wild kept wildcard now)

-- where it is made, the wildcard stands first, with this time
abbrev pub after_promote : Kept → Wildcard → ℕ → Bool → Kept
after_promote kept wildcard now made = record kept { wildcards = cond made (put_entries same_wildcard (lru_cache kept.wildcards kept.limits.wildcache) wildcard now) kept.wildcards }
