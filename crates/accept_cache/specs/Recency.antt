-- Uses of keys over time: which keys are held by a list of bounded length in order of last touch, and for how long a proof lasts.
use Rattle.std.specs.Prelude.{ℕ, ◌+◌, Bool, false, cond, ◌&&◌, nat_lt, List, [], ◌∷◌, Option, Some, None}
use Rattle.std.specs.Set.{is_member, remove_key, distinct_count}

-- a use of a key: its proof with the time, or a hit
pub data Use (K : Type 0) : Type 0 where
  Proved : K → ℕ → Use K
  Hit : K → Use K

-- now is before the end of what lasts so long from the time on, if there is one
abbrev pub is_within : (lasting now : ℕ) → Option ℕ → Bool
is_within lasting now None = false
is_within lasting now (Some time) = nat_lt now (time + lasting)

-- the keys touched, newest first: a proof and a hit both touch
abbrev pub touched : {K : Type 0} → List (Use K) → List K
touched [] = []
touched (Proved key time ∷ uses) = key ∷ touched uses
touched (Hit key ∷ uses) = key ∷ touched uses

module _ {K : Type 0} (eq : K → K → Bool) where
  -- the keys touched since the last touch of this one
  abbrev pub after_last : K → List K → List K
  after_last key [] = []
  after_last key (k ∷ keys) = cond (eq key k) [] (k ∷ after_last key keys)

  -- each key once, in order of its last touch, newest first
  abbrev pub by_last_touch : List K → List K
  by_last_touch [] = []
  by_last_touch (k ∷ keys) = k ∷ remove_key (eq k) (by_last_touch keys)

  -- the key was touched, and after its last touch fewer than `room` other distinct keys were
  abbrev pub is_held : (room : ℕ) → List K → K → Bool
  is_held room keys key = is_member eq keys key && nat_lt (distinct_count eq (after_last key keys)) room

  -- the time of the last proof of the key
  abbrev pub last_proved : List (Use K) → K → Option ℕ
  last_proved [] key = None
  last_proved (Proved k time ∷ uses) key = cond (eq key k) (Some time) (last_proved uses key)
  last_proved (Hit k ∷ uses) key = last_proved uses key

  -- the key is held, and now is below the time of its last proof plus `lasting`
  abbrev pub is_fresh : (room lasting : ℕ) → List (Use K) → (now : ℕ) → K → Bool
  is_fresh room lasting uses now key = is_held room (touched uses) key && is_within lasting now (last_proved uses key)
