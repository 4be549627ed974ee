-- What a guard withholds.
use Rattle.std.proofs.Common.{◌≡◌, ℕ, ◌&&◌, true, false, if◌then◌else◌, List, refl, sym, ◌∙◌, ap, Option, Some, None, arith}
use Rattle.std.specs.Prelude.{IfSome, is_some}
use Rattle.aip_addr.specs.Ids.{key_id_of}
use Rattle.aip_addr.specs.declared.ids.Address.{Address}
use Rattle.aip_addr.specs.declared.ids.KeyId.{KeyId}
use Rattle.aip_frame.specs.declared.frame.Frame.{Frame}
use Rattle.aip_frame.specs.Frame.{frame_of}
use Rattle.shutoff_filter.specs.Entries.{is_withheld}
use Rattle.shutoff_filter.specs.InForce.{withheld_in_force}
use Rattle.aip_rules.specs.Reaction.{puts}
use Rattle.aip_rules.specs.Host as rules
use Rattle.aip_host.specs.Guarding.{GuardState}
use Rattle.aip_host.specs.HostState.{HostState, shut_in, standing_of}
use Rattle.aip_host.specs.Withholding.{withheld_by, held_for, held_back}

-- ---- by a guard

-- bytes that are no frame are not withheld
pub noise : (kept : GuardState) (now : ℕ) (o : Option Frame) → is_some o ≡ false → withheld_by (Some kept) now o ≡ None
noise kept now None is = refl
noise kept now (Some f) is = absurd cc

-- a frame to this key identifier is withheld or not, by whether that is in force
by_test : (kept : GuardState) (now : ℕ) (o : Option Frame) (to : Address) (key : KeyId) → is_some o ≡ true → IfSome o (λ f. to ≡ f.to) → key ≡ key_id_of to.eid
    → withheld_by (Some kept) now o ≡ (if is_withheld now key kept.entries then Some key else None)
by_test kept now None to key some same_to same_key = absurd cc
by_test kept now (Some f) to key some same_to same_key =
    let same : key ≡ key_id_of f.to.eid = same_key ∙ ap (λ (a : Address). key_id_of a.eid) same_to in
    ap (λ k. if is_withheld now k kept.entries then Some k else None) (sym same)

pub stays : (kept : GuardState) (now : ℕ) (o : Option Frame) (to : Address) (key : KeyId) → is_some o ≡ true → IfSome o (λ f. to ≡ f.to) → key ≡ key_id_of to.eid
    → is_withheld now key kept.entries ≡ true → Some key ≡ withheld_by (Some kept) now o
stays kept now o to key some same_to same_key is = sym (by_test kept now o to key some same_to same_key ∙ ap (λ b. if b then Some key else None) is)

pub goes : (kept : GuardState) (now : ℕ) (o : Option Frame) (to : Address) (key : KeyId) → is_some o ≡ true → IfSome o (λ f. to ≡ f.to) → key ≡ key_id_of to.eid
    → is_withheld now key kept.entries ≡ false → withheld_by (Some kept) now o ≡ None
goes kept now o to key some same_to same_key is = by_test kept now o to key some same_to same_key ∙ ap (λ b. if b then Some key else None) is

-- without a guard nothing is withheld
pub plain : (now : ℕ) (o : Option Frame) → withheld_by None now o ≡ None
plain now None = refl
plain now (Some f) = refl

-- ---- by the rules

-- what a guard withholds by what it keeps is what it withholds by the rules
pub withheld_is : (old : HostState) (now : ℕ) (o : Option Frame) → rules.withheld_key (standing_of old now) o ≡ withheld_by old.guard now o
withheld_is old now None = refl
withheld_is old now (Some f) =
    ap (λ b. if is_some old.guard && b then Some (key_id_of f.to.eid) else None) (withheld_in_force now now (key_id_of f.to.eid) (shut_in old.guard) (omega arith))

-- so is what it leaves of bytes that are put
pub hands_as : (old : HostState) (now : ℕ) (bytes : List ℕ) → rules.handed_down (standing_of old now) bytes ≡ held_back old.seat.name old.guard now (puts old.towards bytes)
hands_as old now bytes = ap (rules.handed_to (standing_of old now) bytes) (withheld_is old now (frame_of bytes)) ∙ by_case (withheld_by old.guard now (frame_of bytes))
  where
    by_case : (to : Option KeyId) → rules.handed_to (standing_of old now) bytes to ≡ held_for old.seat.name (puts old.towards bytes) to
    by_case None = refl
    by_case (Some to) = refl
