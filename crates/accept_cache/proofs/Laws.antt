-- What each call gives, in the words of the uses that the cache stands for.
use Rattle.std.proofs.Common.{◌≡◌, ℕ, zero, suc, Bool, true, false, cond, ◌&&◌, not, nat_le, [], ◌∷◌, take, refl}
use Rattle.std.proofs.lemmas.List.Elements.{All-nil}
use Rattle.accept_cache.specs.declared.keys.Pair.{Pair}
use Rattle.accept_cache.specs.declared.keys.Wildcard.{Wildcard}
use Rattle.accept_cache.specs.declared.keys.Limits.{Limits}
use Rattle.accept_cache.specs.Keys.{same_pair, same_wildcard, is_of}
use Rattle.accept_cache.specs.Recency.{Proved, Hit}
use Rattle.accept_cache.specs.Accepted.{PairUses, WildcardUses, is_fresh_pair, is_fresh_wildcard, promotes}
use Rattle.accept_cache.specs.Kept.{Kept, HasRoom, nothing_kept, after_proved, after_hit, after_hit_wild, after_promote, has_fresh, has_fresh_wild, is_promoted}
use Rattle.accept_cache.specs.StandsFor.{HasLastTime, CacheStandsFor}
use Rattle.accept_cache.proofs.EntryLemmas.{fresh_agrees, proof_stays, fresh_hit_stays}
use Rattle.accept_cache.proofs.CountLemmas.{live_count}
use Rattle.accept_cache.proofs.KeyLemmas.{same_pair_equiv, same_wildcard_equiv, same_pair_decides, same_wildcard_decides}

none_taken : {K : Type 0} (n : ℕ) → [] ≡ take {A = K} n []
none_taken zero = refl
none_taken (suc n) = refl

-- where nothing is kept, nothing was used
pub nothing_stands : (limits : Limits) → HasRoom limits → CacheStandsFor [] [] (nothing_kept limits)
nothing_stands limits room = record {
  room = room;
  sources = record { order = none_taken limits.cache; times = All-nil (HasLastTime same_pair []) };
  wildcards = record { order = none_taken limits.wildcache; times = All-nil (HasLastTime same_wildcard []) };
}

module _ (uses : PairUses) (wilds : WildcardUses) (kept : Kept) (stands : CacheStandsFor uses wilds kept) where
  pub proof_stands : (pair : Pair) (now : ℕ) → CacheStandsFor (Proved pair now ∷ uses) wilds (after_proved kept pair now)
  proof_stands pair now = record {
    room = stands.room;
    sources = proof_stays same_pair same_pair_equiv same_pair_decides kept.limits.cache uses kept.sources pair now stands.room.cache stands.sources;
    wildcards = stands.wildcards;
  }

  pub has_fresh_agrees : (pair : Pair) (now : ℕ) → has_fresh kept pair now ≡ is_fresh_pair kept.limits uses now pair
  has_fresh_agrees pair now =
      fresh_agrees same_pair same_pair_equiv same_pair_decides kept.limits.cache uses kept.sources stands.sources kept.limits.accept now pair

  pub hit_stands : (pair : Pair) (now : ℕ) (hit : Bool) → hit ≡ has_fresh kept pair now → CacheStandsFor (cond hit (Hit pair ∷ uses) uses) wilds (after_hit kept pair hit)
  hit_stands pair now hit answer = record {
    room = stands.room;
    sources = fresh_hit_stays same_pair same_pair_equiv same_pair_decides kept.limits.cache uses kept.sources kept.limits.accept now pair stands.room.cache stands.sources hit answer;
    wildcards = stands.wildcards;
  }

  pub has_fresh_wild_agrees : (wildcard : Wildcard) (now : ℕ) → has_fresh_wild kept wildcard now ≡ is_fresh_wildcard kept.limits wilds now wildcard
  has_fresh_wild_agrees wildcard now =
      fresh_agrees same_wildcard same_wildcard_equiv same_wildcard_decides kept.limits.wildcache wilds kept.wildcards stands.wildcards kept.limits.wild now wildcard

  pub hit_wild_stands : (wildcard : Wildcard) (now : ℕ) (hit : Bool) → hit ≡ has_fresh_wild kept wildcard now
      → CacheStandsFor uses (cond hit (Hit wildcard ∷ wilds) wilds) (after_hit_wild kept wildcard hit)
  hit_wild_stands wildcard now hit answer = record {
    room = stands.room;
    sources = stands.sources;
    wildcards = fresh_hit_stays same_wildcard same_wildcard_equiv same_wildcard_decides kept.limits.wildcache wilds kept.wildcards kept.limits.wild now wildcard stands.room.wildcache stands.wildcards hit answer;
  }

  pub is_promoted_agrees : (wildcard : Wildcard) (now : ℕ) → is_promoted kept wildcard now ≡ promotes kept.limits uses wilds now wildcard
  is_promoted_agrees wildcard now =
      let count = live_count same_pair (is_of wildcard) kept.limits.cache kept.limits.accept now uses same_pair_equiv same_pair_decides kept.sources stands.sources in
      let fresh = has_fresh_wild_agrees wildcard now in
      λ i. nat_le kept.limits.threshold (count i) && not (fresh i)

  pub promotion_stands : (wildcard : Wildcard) (now : ℕ) (made : Bool) → CacheStandsFor uses (cond made (Proved wildcard now ∷ wilds) wilds) (after_promote kept wildcard now made)
  promotion_stands wildcard now false = stands
  promotion_stands wildcard now true = record {
    room = stands.room;
    sources = stands.sources;
    wildcards = proof_stays same_wildcard same_wildcard_equiv same_wildcard_decides kept.limits.wildcache wilds kept.wildcards wildcard now stands.room.wildcache stands.wildcards;
  }
