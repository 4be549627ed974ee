-- What a host is told and what the promises call in force are one: some event laid it, and it lasts past now.
use Rattle.std.proofs.Common.{◌≡◌, ℕ, ◌<◌, ◌==◌, ◌&&◌, ◌||◌, Bool, true, false, cond, List, [], ◌∷◌, refl, sym, ap, ◌∙◌, ◌⊎◌, inl, inr, arith, true≢false}
use Rattle.std.proofs.lemmas.Bool.{and_parts, eqb-true}
use Rattle.std.proofs.lemmas.Bool.Decides.{nat_tests}
use Rattle.std.proofs.lemmas.List.Folds.{list_any-append}
use Rattle.std.specs.Cmp.Lexicographic.{bytes_decides}
use Rattle.std.specs.Prelude.{nat_lt}
use Rattle.std.specs.Str.{bytes_eq}
use Rattle.aip_addr.specs.declared.ids.KeyId.{KeyId}
use Rattle.aip_event.specs.declared.event.Event.{Event}
use Rattle.aip_event.specs.declared.event.Event.TheVariants.{Obeyed, Halted}
use Rattle.shutoff_filter.specs.Entries.{is_key, is_withheld, withholds}
use Rattle.shutoff_filter.specs.InForce.{key_laws, one_key}
use Rattle.aip_rules.specs.declared.Entry.{Entry}
use Rattle.aip_rules.specs.declared.Entry.TheVariants.{Taken, Happened}
use Rattle.aip_rules.specs.State.{now_of}
use Rattle.aip_rules.specs.Standing.{left_entry, told_in, told_to}
use Rattle.aip_rules.specs.Promises.{IsInForce, Lays, WasLaid}

pub either : (a b : Bool) → a || b ≡ true → (a ≡ true) ⊎ (b ≡ true)
either true b e = inl refl
either false b e = inr e

either_so : (a b : Bool) → (a ≡ true) ⊎ (b ≡ true) → a || b ≡ true
either_so true b e = refl
either_so false b (inl e) = absurd (true≢false (sym e))
either_so false b (inr e) = e

both_so : (a b : Bool) → a ≡ true → b ≡ true → a && b ≡ true
both_so true b p q = q
both_so false b p q = p

-- a gate that is left open was written or made firm, and left the byte that opens it
gate : (call byte : ℕ) → left_entry call byte ≡ true → ((call ≡ 3) ⊎ (call ≡ 4)) × (byte ≡ 165)
gate call byte e =
    let parts = and_parts ((call == 3) || (call == 4)) (byte == 165) e in
    (calls (either (call == 3) (call == 4) parts.0), eqb-true byte 165 parts.1)
  where
    calls : ((call == 3) ≡ true) ⊎ ((call == 4) ≡ true) → (call ≡ 3) ⊎ (call ≡ 4)
    calls (inl third) = inl (eqb-true call 3 third)
    calls (inr fourth) = inr (eqb-true call 4 fourth)

gate_so : (call byte : ℕ) → (call ≡ 3) ⊎ (call ≡ 4) → byte ≡ 165 → left_entry call byte ≡ true
gate_so call byte (inl third) byte_is = ap (λ c. left_entry c byte) third ∙ ap (left_entry 3) byte_is
gate_so call byte (inr fourth) byte_is = ap (λ c. left_entry c byte) fourth ∙ ap (left_entry 4) byte_is

module _ (name : List ℕ) (to : KeyId) (now : ℕ) where
  -- one entry, laid where a test is passed
  one_laid : (test : Bool) (sender : KeyId) (until : ℕ) → is_withheld now to (cond test (record { to = sender; until = until } ∷ []) []) ≡ true
      → (test ≡ true) × (sender ≡ to) × (now < until)
  one_laid false sender until e = absurd (true≢false (sym e))
  one_laid true sender until e = by (either (is_key sender to && nat_lt now until) false e)
    where
      by : ((is_key sender to && nat_lt now until) ≡ true) ⊎ (false ≡ true) → (true ≡ true) × (sender ≡ to) × (now < until)
      by (inl holds) =
          let parts = and_parts (is_key sender to) (nat_lt now until) holds in
          let later = parts.1 in
          (refl, one_key sender to parts.0, grind (arith, nat_tests))
      by (inr none) = absurd (true≢false (sym none))

  one_laid_so : (test : Bool) (sender : KeyId) (until : ℕ) → test ≡ true → sender ≡ to → now < until
      → is_withheld now to (cond test (record { to = sender; until = until } ∷ []) []) ≡ true
  one_laid_so false sender until passed is lasts = absurd (true≢false (sym passed))
  one_laid_so true sender until passed is lasts =
      let later : nat_lt now until ≡ true = grind (arith, nat_tests) in
      let same : is_key sender to ≡ true = ap (λ (k : KeyId). is_key k to) is ∙ key_laws.refl to in
      either_so (is_key sender to && nat_lt now until) false (inl (both_so (is_key sender to) (nat_lt now until) same later))

  event_lays : (event : Event) → is_withheld now to (told_in event name) ≡ true → Lays name to now event
  event_lays (Obeyed host sender until) e =
      let laid = one_laid (bytes_eq host name) sender until e in
      ((bytes_decides host name).0 laid.0, laid.1, laid.2)
  event_lays (Halted host sender until call byte) e =
      let laid = one_laid (bytes_eq host name && left_entry call byte) sender until e in
      let parts = and_parts (bytes_eq host name) (left_entry call byte) laid.0 in
      let opened = gate call byte parts.1 in
      ((bytes_decides host name).0 parts.0, laid.1, laid.2, opened.0, opened.1)
  event_lays _ e = absurd (true≢false (sym e))

  event_lays_so : (event : Event) → Lays name to now event → is_withheld now to (told_in event name) ≡ true
  event_lays_so (Obeyed host sender until) laid =
      one_laid_so (bytes_eq host name) sender until ((bytes_decides host name).1 laid.0) laid.1 laid.2
  event_lays_so (Halted host sender until call byte) laid =
      one_laid_so (bytes_eq host name && left_entry call byte) sender until
      (both_so (bytes_eq host name) (left_entry call byte) ((bytes_decides host name).1 laid.0) (gate_so call byte laid.3 laid.4)) laid.1 laid.2
  event_lays_so _ laid = absurd laid

  -- what is withheld by what the host was told was laid on it
  was_laid : (tr : List Entry) → is_withheld now to (told_to tr name) ≡ true → WasLaid name to now tr
  was_laid [] e = absurd (true≢false (sym e))
  was_laid (Taken input ∷ tr) e = was_laid tr e
  was_laid (Happened event ∷ tr) e =
      by (either (is_withheld now to (told_in event name)) (is_withheld now to (told_to tr name))
      (sym (list_any-append (withholds now to) (told_in event name) (told_to tr name)) ∙ e)) (was_laid tr)
    where
      by : (is_withheld now to (told_in event name) ≡ true) ⊎ (is_withheld now to (told_to tr name) ≡ true)
          → (is_withheld now to (told_to tr name) ≡ true → WasLaid name to now tr) → WasLaid name to now (Happened event ∷ tr)
      by (inl here) rest = inl (event_lays event here)
      by (inr before) rest = inr (rest before)

  -- and what was laid on it is withheld
  was_laid_so : (tr : List Entry) → WasLaid name to now tr → is_withheld now to (told_to tr name) ≡ true
  was_laid_so [] laid = absurd laid
  was_laid_so (Taken input ∷ tr) laid = was_laid_so tr laid
  was_laid_so (Happened event ∷ tr) laid =
      list_any-append (withholds now to) (told_in event name) (told_to tr name)
      ∙ either_so (is_withheld now to (told_in event name)) (is_withheld now to (told_to tr name)) (by laid (was_laid_so tr))
    where
      by : Lays name to now event ⊎ WasLaid name to now tr → (WasLaid name to now tr → is_withheld now to (told_to tr name) ≡ true)
          → (is_withheld now to (told_in event name) ≡ true) ⊎ (is_withheld now to (told_to tr name) ≡ true)
      by (inl here) rest = inl (event_lays_so event here)
      by (inr before) rest = inr (rest before)

-- a key identifier that is withheld by what the host was told is in force
pub in_force_by_told : (tr : List Entry) (name : List ℕ) (to : KeyId) → is_withheld (now_of tr) to (told_to tr name) ≡ true → IsInForce tr name to
in_force_by_told tr name to e = was_laid name to (now_of tr) tr e

-- and one in force is withheld by it
pub told_by_in_force : (tr : List Entry) (name : List ℕ) (to : KeyId) → IsInForce tr name to → is_withheld (now_of tr) to (told_to tr name) ≡ true
told_by_in_force tr name to laid = was_laid_so name to (now_of tr) tr laid
