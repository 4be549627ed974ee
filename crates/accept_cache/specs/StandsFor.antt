-- What a cache stands for: the uses of pairs and of wildcards since it was last cleared.
use Rattle.std.specs.Prelude.{◌≡◌, ℕ, Bool, All, List, take, Some}
use Rattle.std.specs.Map.{keys_of}
use Rattle.accept_cache.specs.Keys.{same_pair, same_wildcard}
use Rattle.accept_cache.specs.Recency.{Use, touched, by_last_touch, last_proved}
use Rattle.accept_cache.specs.Accepted.{PairUses, WildcardUses}
use Rattle.accept_cache.specs.Kept.{Kept, HasRoom}

-- the entry has the time of the last proof of its key
abbrev pub HasLastTime : {K : Type 0} → (K → K → Bool) → List (Use K) → K × ℕ → Type 0
HasLastTime eq uses e = last_proved eq uses e.0 ≡ Some e.1

-- the entries are the first `room` distinct keys touched, in order of last touch, newest first, each with the time of its last proof
pub record AreLastTouched {K : Type 0} (eq : K → K → Bool) (room : ℕ) (uses : List (Use K)) (entries : List (K × ℕ)) : Type 0 where
  pub order : keys_of entries ≡ take room (by_last_touch eq (touched uses))
  pub times : All (HasLastTime eq uses) entries

-- the cache keeps the last touched pairs, at most `cache`, and the last touched wildcards, at most `wildcache`
pub record CacheStandsFor (uses : PairUses) (wilds : WildcardUses) (kept : Kept) : Type 0 where
  pub room : HasRoom kept.limits
  pub sources : AreLastTouched same_pair kept.limits.cache uses kept.sources
  pub wildcards : AreLastTouched same_wildcard kept.limits.wildcache wilds kept.wildcards
