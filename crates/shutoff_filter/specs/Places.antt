-- What a write within one slot leaves of a filter file.
use Rattle.std.proofs.Common.{◌≡◌, ◌≢◌, ◌⊎◌, inl, inr, ℕ, ◌+◌, ◌<◌, ◌≤◌, ◌==◌, false, List, length, drop, get_or, refl, sym, ◌∙◌, ap, arith}
use Rattle.std.proofs.lemmas.Bool.{cases_eq, cases_lt}
use Rattle.std.proofs.lemmas.Bool.Decides.{nat_tests}
use Rattle.std.proofs.lemmas.List.{ext_get_or, length-take, length-drop, get_or-take, get_or-drop}
use Rattle.lease_disk.specs.Images.{overwritten, Torn}
use Rattle.lease_disk.specs.PastLaws.{length-overwritten, overwritten_before, overwritten_after, overwritten_inside}
use Rattle.shutoff_filter.specs.FilterFile.{IsFilter, body_at, kept_room, open_gate, slot_at, slot_of, slot_start}

-- files that begin with the same bytes keep the same room
pub room_same : (a b : List ℕ) → get_or a 1 0 ≡ get_or b 1 0 → get_or a 2 0 ≡ get_or b 2 0 → kept_room a ≡ kept_room b
room_same a b one two =
    let here : get_or (drop 1 a) 0 0 ≡ get_or (drop 1 b) 0 0 = get_or-drop 1 a 0 0 ∙ one ∙ sym (get_or-drop 1 b 0 0) in
    let there : get_or (drop 1 a) 1 0 ≡ get_or (drop 1 b) 1 0 = get_or-drop 1 a 1 0 ∙ two ∙ sym (get_or-drop 1 b 1 0) in
    rw (here, there) refl

-- both files have the same byte there
abbrev pub Same : List ℕ → List ℕ → ℕ → Type 0
Same a b k = get_or a k 0 ≡ get_or b k 0

-- files with the same bytes of a slot past its gate
pub body_same : (i : ℕ) (a b : List ℕ) → slot_start i + 28 ≤ length a → slot_start i + 28 ≤ length b → ((k : ℕ) → slot_start i < k → k < slot_start i + 28 → Same a b k) → body_at a i ≡ body_at b i
body_same i a b long long' same =
    let size = length-take 27 (drop (slot_start i + 1) a) in
    let size' = length-take 27 (drop (slot_start i + 1) b) in
    let rest = length-drop (slot_start i + 1) a in
    let rest' = length-drop (slot_start i + 1) b in
    ext_get_or 0 (body_at a i) (body_at b i) (omega arith) (λ k there.
    get_or-take 27 (drop (slot_start i + 1) a) k 0 (omega arith)
    ∙ get_or-drop (slot_start i + 1) a k 0
    ∙ same (slot_start i + 1 + k) (omega arith) (omega arith)
    ∙ sym (get_or-drop (slot_start i + 1) b k 0)
    ∙ sym (get_or-take 27 (drop (slot_start i + 1) b) k 0 (omega arith)))

-- and its gate
pub slot_same : (i : ℕ) (a b : List ℕ) → slot_start i + 28 ≤ length a → slot_start i + 28 ≤ length b → ((k : ℕ) → slot_start i ≤ k → k < slot_start i + 28 → Same a b k) → slot_at a i ≡ slot_at b i
unfolding slot_at
slot_same i a b long long' same =
    ap (λ gate. slot_of gate (body_at a i)) (same (slot_start i) (omega arith) (omega arith))
    ∙ ap (slot_of (get_or b (slot_start i) 0)) (body_same i a b long long' (λ k from below. same k (omega arith) below))

-- a slot by its gate and the rest
pub slot_by : (file : List ℕ) (i gate : ℕ) (body : List ℕ) → get_or file (slot_start i) 0 ≡ gate → body_at file i ≡ body → slot_at file i ≡ slot_of gate body
unfolding slot_at
slot_by file i gate body g b = ap (λ x. slot_of x (body_at file i)) g ∙ ap (slot_of gate) b

-- whether a slot is open is said by its gate
pub open_by : (file : List ℕ) (i : ℕ) → (slot_at file i).is_open ≡ (get_or file (slot_start i) 0 == open_gate)
unfolding slot_at
open_by file i = refl

-- all that a change within slot s leaves: the head, the length and the other slots
pub record ChangesSlot (room s : ℕ) (before image : List ℕ) : Type 0 where
  pub filter : IsFilter room image
  pub size : length image ≡ length before
  pub others : (i : ℕ) → i ≤ room → i ≢ s → slot_at image i ≡ slot_at before i

pub changed_by : (room s : ℕ) (before image : List ℕ) → s ≤ room → IsFilter room before → length image ≡ length before
    → ((k : ℕ) → k < length before → (k < slot_start s) ⊎ (slot_start s + 28 ≤ k) → Same image before k) → ChangesSlot room s before image
changed_by room s before image within is size same =
    let whole = is.whole in
    record {
      filter = record {
        gate = same 0 (omega arith) (inl (omega arith)) ∙ is.gate;
        same_room = room_same image before (same 1 (omega arith) (inl (omega arith))) (same 2 (omega arith) (inl (omega arith))) ∙ is.same_room;
        whole = omega arith;
      };
      size = size;
      others = λ i le apart. slot_same i image before (omega arith) (omega arith) (λ k from below. elim (cases_lt i s) [
        | inl low ↦ same k (omega arith) (inl (omega arith))
        | inr high ↦ same k (omega arith) (inr (omega (arith, high, apart)))
      ]);
    }

-- a write within the slot, cut short
pub torn_slot : (room s at count : ℕ) (before image : List ℕ) → s ≤ room → IsFilter room before → slot_start s ≤ at → at + count ≤ slot_start s + 28 → Torn at count before image → ChangesSlot room s before image
torn_slot room s at count before image within is from to torn =
    let whole = is.whole in
    changed_by room s before image within is (omega (arith, torn.no_shorter, torn.no_longer)) (λ k there out. elim out [
      | inl low ↦ torn.outside k there (inl (omega arith))
      | inr high ↦ torn.outside k there (inr (omega arith))
    ])

-- a write within the slot
pub written_slot : (room s at : ℕ) (before bytes : List ℕ) → s ≤ room → IsFilter room before → slot_start s ≤ at → at + length bytes ≤ slot_start s + 28 → ChangesSlot room s before (overwritten before at bytes)
written_slot room s at before bytes within is from to =
    let whole = is.whole in
    let size = length-overwritten before at bytes in
    changed_by room s before (overwritten before at bytes) within is (omega arith) (λ k there out. elim out [
      | inl low ↦ overwritten_before before at bytes k there (omega arith)
      | inr high ↦ overwritten_after before at bytes k there (omega arith)
    ])

-- two changes within one slot
pub changed_twice : (room s : ℕ) (before mid image : List ℕ) → ChangesSlot room s before mid → ChangesSlot room s mid image → ChangesSlot room s before image
changed_twice room s before mid image first second = record {
  filter = second.filter;
  size = second.size ∙ first.size;
  others = λ i le apart. second.others i le apart ∙ first.others i le apart;
}

-- a write of the body past a closed gate, cut short, leaves it closed
pub body_torn : (room s : ℕ) (before image : List ℕ) → s ≤ room → IsFilter room before → Torn (slot_start s + 1) 27 before image → (slot_at before s).is_open ≡ false → (slot_at image s).is_open ≡ false
body_torn room s before image within is torn shut =
    let whole = is.whole in
    open_by image s ∙ ap (λ gate. gate == open_gate) (torn.outside (slot_start s) (omega arith) (inl (omega arith))) ∙ sym (open_by before s) ∙ shut

-- a write of the gate, cut short, leaves the slot closed or opens what stands past it
pub gate_torn : (room s : ℕ) (before image : List ℕ) → s ≤ room → IsFilter room before → Torn (slot_start s) 1 before image
    → ((slot_at image s).is_open ≡ false) ⊎ (slot_at image s ≡ slot_of open_gate (body_at before s))
gate_torn room s before image within is torn =
    let whole = is.whole in
    let body : body_at image s ≡ body_at before s = body_same s image before (omega (arith, torn.no_shorter)) (omega arith) (λ k from below. torn.outside k (omega arith) (inr (omega arith))) in
    elim (cases_eq (get_or image (slot_start s) 0) open_gate) [
      | inl opened ↦ inr (slot_by image s open_gate (body_at before s) opened body)
      | inr shut ↦ inl (open_by image s ∙ not_open (get_or image (slot_start s) 0) shut)
    ]
  where
    not_open : (gate : ℕ) → gate ≢ open_gate → (gate == open_gate) ≡ false
    not_open gate apart = grind (arith, nat_tests)

-- the body that was written
pub body_written : (s : ℕ) (before body : List ℕ) → length body ≡ 27 → slot_start s + 28 ≤ length before → body_at (overwritten before (slot_start s + 1) body) s ≡ body
body_written s before body size long =
    let all = length-overwritten before (slot_start s + 1) body in
    let front = length-take 27 (drop (slot_start s + 1) (overwritten before (slot_start s + 1) body)) in
    let rest = length-drop (slot_start s + 1) (overwritten before (slot_start s + 1) body) in
    ext_get_or 0 (body_at (overwritten before (slot_start s + 1) body) s) body (omega arith) (λ k there.
    get_or-take 27 (drop (slot_start s + 1) (overwritten before (slot_start s + 1) body)) k 0 (omega arith)
    ∙ get_or-drop (slot_start s + 1) (overwritten before (slot_start s + 1) body) k 0
    ∙ overwritten_inside before (slot_start s + 1) body k (omega arith))
