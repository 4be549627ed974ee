-- What a host does with a shut-off that its guard judges.
use Rattle.std.proofs.Common.{◌≡◌, ◌⊎◌, inl, inr, ℕ, ◌-◌, ◌<◌, ◌&&◌, ◌||◌, max, nat_lt, Bool, true, false, if◌then◌else◌, List, [], ◌∷◌, ◌++◌, refl, sym, ◌∙◌, ap, subst, Option, Some, None, arith}
use Rattle.std.specs.Prelude.{IfOk, IfSome, IsSome, is_some, Result, Ok, Err}
use Rattle.std.specs.List.{list_any}
use Rattle.std.proofs.Math.Nat.{zero-max}
use Rattle.std.proofs.lemmas.Bool.Decides.{nat_tests}
use Rattle.aip_addr.specs.Ids.{key_id_of}
use Rattle.aip_addr.specs.declared.ids.Address.{Address}
use Rattle.aip_addr.specs.declared.ids.KeyId.{KeyId}
use Rattle.aip_frame.specs.declared.frame.Frame.{Frame}
use Rattle.aip_frame.specs.declared.frame.Kind.TheVariants.{ShutOff}
use Rattle.aip_event.specs.declared.event.Event.{Event}
use Rattle.aip_event.specs.declared.event.Event.TheVariants as event
use Rattle.aip_event.specs.declared.event.Reason.{Reason}
use Rattle.aip_event.specs.declared.event.Reason.TheVariants as reason
use Rattle.sent_log.specs.Log.{Log}
use Rattle.shutoff_filter.specs.Body.{order_in}
use Rattle.shutoff_filter.specs.Entries.{SameInForce, is_key, is_withheld, others_in_force, withholds}
use Rattle.shutoff_filter.specs.InForce.{one_key, withheld_in_force}
use Rattle.shutoff_filter.specs.Judged.{is_full, is_in_log, refusal_number, shutoff_verdict}
use Rattle.shutoff_filter.specs.declared.entries.ShutOffEntry.{ShutOffEntry}
use Rattle.shutoff_filter.specs.declared.judging.Heard.{Heard}
use Rattle.shutoff_filter.specs.declared.judging.Heard.TheVariants as heard
use Rattle.aip_rules.specs.declared.Arming.{Arming}
use Rattle.aip_rules.specs.declared.Reaction.{Reaction}
use Rattle.aip_rules.specs.State.{is_stop_of}
use Rattle.aip_rules.specs.Standing.{left_entry, noted_in, past_leaf}
use Rattle.aip_rules.specs.Reaction.{dropped, happens}
use Rattle.aip_rules.specs.Host as rules
use Rattle.aip_host.specs.declared.guard.Obeying.{Obeying}
use Rattle.aip_host.specs.declared.guard.Obeying.TheVariants.{Obeyed, Halted}
use Rattle.aip_host.specs.Guarding.{GuardState, is_told, written_with, entries_with, obeying_of, halt_after, down_after_order, entries_after}
use Rattle.aip_host.specs.HostState.{HostState, next_in, stop_in, halt_in, shut_in, down_in, fell_in, down_of, standing_of}
use Rattle.aip_host.specs.After.{Follows, halt_past, down_past, told_past}
use Rattle.aip_host.specs.Withholding.{GuardFollows, LeavesUnordered, is_order, order_event, verdict_event, verdict_of}
use Rattle.aip_host.proofs.Signed.{same_name, neither}

-- what holds of a value that is given holds of it still as it says less
pub if_ok : {T E : Type 0} (result : Result T E) (P Q : T → Type 0) → IfOk result P → ((value : T) → P value → Q value) → IfOk result Q
if_ok (Ok value) P Q is less = less value is
if_ok (Err end) P Q is less = tt

-- what holds of a value in two ways
pub if_both : {T E : Type 0} (result : Result T E) (P Q R : T → Type 0) → IfOk result P → IfOk result Q → ((value : T) → P value → Q value → R value) → IfOk result R
if_both (Ok value) P Q R first second joined = joined value first second
if_both (Err end) P Q R first second joined = tt

-- what is there
pub there : {A : Type 0} (o : Option A) → IsSome o → (value : A) × (o ≡ Some value)
there None some = absurd cc
there (Some value) some = (value, refl)

-- ---- what a judgement says

last_case : (a b c d e f g : Bool) (ends until : ℕ)
    → (if a then heard.Body else if b then heard.Key else if c then heard.Signature else if d then heard.Early else if e then heard.Late else if f then heard.Unlogged else if g then heard.Full else heard.Obeyed ends) ≡ heard.Obeyed until
    → (e ≡ false) × (g ≡ false) × (ends ≡ until)
last_case true b c d e f g ends until is = absurd cc
last_case false true c d e f g ends until is = absurd cc
last_case false false true d e f g ends until is = absurd cc
last_case false false false true e f g ends until is = absurd cc
last_case false false false false true f g ends until is = absurd cc
last_case false false false false false true g ends until is = absurd cc
last_case false false false false false false true ends until is = absurd cc
last_case false false false false false false false ends until is = (refl, refl, cc)

-- a shut-off is obeyed until a time to come, and where fewer other key identifiers are in force than there is room for
verdict_says : (kept : GuardState) (log : Log) (now until : ℕ) (f : Frame) → verdict_of kept log now f ≡ heard.Obeyed until
    → (now < until) × (others_in_force now (key_id_of f.from.eid) kept.entries < kept.room)
verdict_says kept log now until f is =
    let last = last_case _ _ _ _ _ _ _ _ until is in
    let late = last.0 in
    let full = last.1 in
    let ends = last.2 in
    let lasts : now < until = grind (arith, nat_tests, late, ends) in
    let room : others_in_force now (key_id_of f.from.eid) kept.entries < kept.room = grind (arith, nat_tests, full) in
    (lasts, room)

-- a refusal comes to an event with its number
pub refused_event : (name : List ℕ) (kept : GuardState) (to : KeyId) (verdict : Heard) → ((until : ℕ) → verdict ≡ heard.Obeyed until → ⊥) → event.Heard name (refusal_number verdict) ≡ verdict_event name kept to verdict
refused_event name kept to (heard.Obeyed until) not_obeyed = absurd (not_obeyed until refl)
refused_event name kept to heard.Body not_obeyed = refl
refused_event name kept to heard.Key not_obeyed = refl
refused_event name kept to heard.Signature not_obeyed = refl
refused_event name kept to heard.Early not_obeyed = refl
refused_event name kept to heard.Late not_obeyed = refl
refused_event name kept to heard.Unlogged not_obeyed = refl
refused_event name kept to heard.Full not_obeyed = refl

-- ---- how the guard stands then

both : (a b : Bool) → (a && b) ≡ true → (a ≡ true) × (b ≡ true)
both true b is = (refl, is)
both false b is = absurd cc

one_of : (a b : Bool) → (a || b) ≡ true → (a ≡ true) ⊎ (b ≡ true)
one_of true b is = inl refl
one_of false b is = inr is

either : (a b : Bool) → b ≡ true → (a || b) ≡ true
either true b is = refl
either false b is = is

-- a key identifier that is withheld at the last tick before a time is withheld at each earlier tick
lasts_before : (until time : ℕ) (to : KeyId) (entries : List ShutOffEntry) → time < until → is_withheld (until - 1) to entries ≡ true → is_withheld time to entries ≡ true
lasts_before until time to [] early covered = absurd cc
lasts_before until time to (e ∷ es) early covered = elim (one_of (withholds (until - 1) to e) (is_withheld (until - 1) to es) covered) [
  | inl here ↦
      let parts = both (is_key e.to to) (nat_lt (until - 1) e.until) here in
      let before = parts.1 in
      let test : nat_lt time e.until ≡ true = grind (arith, nat_tests, before) in
      ap (λ b. (b && nat_lt time e.until) || is_withheld time to es) parts.0 ∙ ap (λ b. b || is_withheld time to es) test
  | inr later ↦ either (withholds time to e) (is_withheld time to es) (lasts_before until time to es early later)
]

-- so an entry until then adds nothing
adds_nothing : (now until : ℕ) (to : KeyId) (entries : List ShutOffEntry) → is_withheld (until - 1) to entries ≡ true → SameInForce now (record { to = to; until = until } ∷ entries) entries
adds_nothing now until to entries covered = λ key time later. by_case key time (withholds time key (record { to = to; until = until })) refl
  where
    by_case : (key : KeyId) (time : ℕ) (b : Bool) → withholds time key (record { to = to; until = until }) ≡ b → (withholds time key (record { to = to; until = until }) || is_withheld time key entries) ≡ is_withheld time key entries
    by_case key time false is = ap (λ b. b || is_withheld time key entries) is
    by_case key time true is =
        let parts = both (is_key to key) (nat_lt time until) is in
        let before = parts.1 in
        let early : time < until = grind (arith, nat_tests, before) in
        let there : is_withheld time key entries ≡ true = subst (λ k. is_withheld time k entries ≡ true) (one_key to key parts.0) (lasts_before until time to entries early covered) in
        ap (λ b. b || is_withheld time key entries) is ∙ sym there

-- after an order a guard stands as what it comes to tells
module _ (now : ℕ) (name : List ℕ) (to : KeyId) (until : ℕ) (entries : List ShutOffEntry) (new : GuardState) where
  abbrev entry : ShutOffEntry
  entry = record { to = to; until = until }

  abbrev ends : Bool → Option Arming → List Event
  ends told halt = order_event name to until (if told then Obeyed else written_with halt) ∷ []

  obeyed_told : told_past (event.Obeyed name to until ∷ []) name entries ≡ entry ∷ entries
  obeyed_told = ap (λ b. (if b then entry ∷ [] else []) ++ entries) (same_name name)

  halted_told : (arming : Arming) → told_past (event.Halted name to until arming.call arming.byte ∷ []) name entries ≡ entries_with (Some arming) entry entries
  halted_told arming = ap (λ b. (if b && left_entry arming.call arming.byte then entry ∷ [] else []) ++ entries) (same_name name) ∙ by_case (left_entry arming.call arming.byte)
    where
      by_case : (b : Bool) → (if b then entry ∷ [] else []) ++ entries ≡ (if b then entry ∷ entries else entries)
      by_case true = refl
      by_case false = refl

  order_case : (told : Bool) (halt : Option Arming) → (told ≡ true → is_withheld (until - 1) to entries ≡ true)
      → new.halt ≡ (if told then halt else None) → new.is_down ≡ (if told then false else is_some halt) → SameInForce now (if told then entries else entries_with halt entry entries) new.entries
      → (new.halt ≡ halt_past (ends told halt) name halt) × (new.is_down ≡ down_past (ends told halt) name false) × SameInForce now (told_past (ends told halt) name entries) new.entries
  order_case true halt covered same_halt same_down same =
      (same_halt, same_down, subst (λ (es : List ShutOffEntry). SameInForce now es new.entries) (sym obeyed_told) (λ key time later. adds_nothing now until to entries (covered refl) key time later ∙ same key time later))
  order_case false None covered same_halt same_down same =
      (same_halt, same_down, subst (λ (es : List ShutOffEntry). SameInForce now es new.entries) (sym obeyed_told) same)
  order_case false (Some arming) covered same_halt same_down same = (
    same_halt ∙ sym (ap (λ b. if b then None else Some arming) (same_name name)),
    same_down ∙ sym (ap (λ b. if b then true else false) (same_name name)),
    subst (λ (es : List ShutOffEntry). SameInForce now es new.entries) (sym (halted_told arming)) same,
  )

pub order_follows : (now : ℕ) (name : List ℕ) (old new : GuardState) (to : KeyId) (until : ℕ) (obeying : Obeying) (reaction : Reaction) → old.is_down ≡ false → obeying ≡ obeying_of old to until
    → new.halt ≡ halt_after old to until → new.is_down ≡ down_after_order old to until → SameInForce now (entries_after old to until) new.entries
    → reaction ≡ happens (order_event name to until obeying)
    → GuardFollows now name old reaction new
order_follows now name old new to until obeying reaction up ends halt down same comes =
    let after = order_case now name to until old.entries new (is_told old to until) old.halt (λ told. told) halt down same in
    subst (λ r. GuardFollows now name old r new) (sym (comes ∙ ap (λ o. happens (order_event name to until o)) ends))
    (record { halt = after.0; down = after.1 ∙ ap (down_past (order_event name to until (obeying_of old to until) ∷ []) name) (sym up); told = after.2 })

-- ---- how the host stands then

-- a host with a guard
abbrev with_guard : HostState → GuardState → HostState
with_guard old kept = record old { guard = Some kept }

-- an event of a host that tells nothing of its frames, its leaves and its stop
record IsIdle (name : List ℕ) (happening : Event) : Type 0 where
  quiet : noted_in happening ≡ []
  leaf : past_leaf happening name ≡ 0
  stop : is_stop_of happening name ≡ false

order_idle : (name : List ℕ) (to : KeyId) (until : ℕ) (obeying : Obeying) → IsIdle name (order_event name to until obeying)
order_idle name to until Obeyed = record { quiet = refl; leaf = refl; stop = refl }
order_idle name to until (Halted call byte) = record { quiet = refl; leaf = refl; stop = refl }

verdict_idle : (name : List ℕ) (kept : GuardState) (to : KeyId) (verdict : Heard) → IsIdle name (verdict_event name kept to verdict)
verdict_idle name kept to (heard.Obeyed until) = order_idle name to until (obeying_of kept to until)
verdict_idle name kept to heard.Body = record { quiet = refl; leaf = refl; stop = refl }
verdict_idle name kept to heard.Key = record { quiet = refl; leaf = refl; stop = refl }
verdict_idle name kept to heard.Signature = record { quiet = refl; leaf = refl; stop = refl }
verdict_idle name kept to heard.Early = record { quiet = refl; leaf = refl; stop = refl }
verdict_idle name kept to heard.Late = record { quiet = refl; leaf = refl; stop = refl }
verdict_idle name kept to heard.Unlogged = record { quiet = refl; leaf = refl; stop = refl }
verdict_idle name kept to heard.Full = record { quiet = refl; leaf = refl; stop = refl }

-- what its guard judged happens, and the host stands as that tells
pub heard_follows : (now : ℕ) (old : HostState) (kept after : GuardState) (to : KeyId) (verdict : Heard) (reaction : Reaction) → old.guard ≡ Some kept → down_of old ≡ false
    → reaction ≡ happens (verdict_event old.seat.name kept to verdict) → GuardFollows now old.seat.name kept reaction after
    → Follows now old reaction (with_guard old after)
heard_follows now old kept after to verdict reaction is up comes goes =
    let name = old.seat.name in
    let happening = verdict_event name kept to verdict in
    let idle = verdict_idle name kept to verdict in
    let on : GuardFollows now name kept (happens happening) after = subst (λ r. GuardFollows now name kept r after) comes goes in
    let parts = neither (down_in old.key) (fell_in old.guard) up in
    let guard_up : kept.is_down ≡ false = sym (ap fell_in is) ∙ parts.1 in
    subst (λ r. Follows now old r (with_guard old after)) (sym comes)
    (record {
      seat = refl;
      towards = refl;
      room = refl;
      key = refl;
      guarded = sym (ap is_some is);
      quiet = (idle.quiet, tt);
      log = refl;
      next = sym (ap (λ n. max n (next_in old.key)) idle.leaf ∙ zero-max (next_in old.key));
      stop = sym (ap (λ b. if b then None else stop_in old.key) idle.stop);
      halt = on.halt ∙ ap (halt_past (happening ∷ []) name) (sym (ap halt_in is));
      down = ap (λ b. b || after.is_down) parts.0 ∙ on.down ∙ ap (down_past (happening ∷ []) name) (guard_up ∙ sym up);
      told = subst (λ (es : List ShutOffEntry). SameInForce now (told_past (happening ∷ []) name es) after.entries) (sym (ap shut_in is)) on.told;
      untold = λ plain. absurd (let no : true ≡ false = sym (ap is_some is) ∙ plain in cc);
    })

-- a host that drops what reached it stands as before
pub drop_follows : (now : ℕ) (old : HostState) (why : Reason) (reaction : Reaction) → reaction ≡ dropped old.seat.name why → Follows now old reaction old
drop_follows now old why reaction is =
    subst (λ r. Follows now old r old) (sym is)
    (record {
      seat = refl;
      towards = refl;
      room = refl;
      key = refl;
      guarded = refl;
      quiet = (refl, tt);
      log = refl;
      next = sym (zero-max (next_in old.key));
      stop = refl;
      halt = refl;
      down = refl;
      told = λ to time later. refl;
      untold = λ plain. refl;
    })

-- ---- what the rules say

order_is : (old : HostState) (kept : GuardState) (now : ℕ) (to : KeyId) (until : ℕ) (halt : Option Arming) → now < until
    → rules.obeyed_by (standing_of (with_guard old kept) now) to until halt ≡ happens (order_event old.seat.name to until (if is_told kept to until then Obeyed else written_with halt))
order_is old kept now to until None soon = by_case (is_told kept to until)
  where
    by_case : (b : Bool) → happens (event.Obeyed old.seat.name to until) ≡ happens (order_event old.seat.name to until (if b then Obeyed else Obeyed))
    by_case true = refl
    by_case false = refl
order_is old kept now to until (Some arming) soon =
    ap (λ b. if b then happens (event.Obeyed old.seat.name to until) else happens (event.Halted old.seat.name to until arming.call arming.byte))
    (withheld_in_force now (until - 1) to kept.entries (omega arith))
    ∙ by_case (is_told kept to until)
  where
    by_case : (b : Bool) → (if b then happens (event.Obeyed old.seat.name to until) else happens (event.Halted old.seat.name to until arming.call arming.byte))
        ≡ happens (order_event old.seat.name to until (if b then Obeyed else Halted arming.call arming.byte))
    by_case true = refl
    by_case false = refl

verdict_is : (old : HostState) (kept : GuardState) (now : ℕ) (f : Frame) (verdict : Heard) → verdict_of kept old.log now f ≡ verdict
    → rules.heard_by (standing_of (with_guard old kept) now) f verdict ≡ happens (verdict_event old.seat.name kept (key_id_of f.from.eid) verdict)
verdict_is old kept now f (heard.Obeyed until) is = order_is old kept now (key_id_of f.from.eid) until kept.halt (verdict_says kept old.log now until f is).0
verdict_is old kept now f heard.Body is = refl
verdict_is old kept now f heard.Key is = refl
verdict_is old kept now f heard.Signature is = refl
verdict_is old kept now f heard.Early is = refl
verdict_is old kept now f heard.Late is = refl
verdict_is old kept now f heard.Unlogged is = refl
verdict_is old kept now f heard.Full is = refl

hearing_is : (old : HostState) (kept : GuardState) (now : ℕ) (f : Frame) → kept.room ≡ old.room → rules.hearing (standing_of (with_guard old kept) now) f ≡ verdict_of kept old.log now f
hearing_is old kept now f same =
    ap (λ room. shutoff_verdict now f (is_in_log old.log.frames f.from (order_in f.body)) (is_full room now f.from kept.entries)) (sym same)

-- a host with a guard does with a shut-off what its guard judges, as the rules say
pub heard_is : (old : HostState) (kept : GuardState) (now : ℕ) (f : Frame) → old.guard ≡ Some kept → kept.room ≡ old.room
    → rules.kind_at_host (standing_of old now) f ShutOff ≡ happens (verdict_event old.seat.name kept (key_id_of f.from.eid) (verdict_of kept old.log now f))
heard_is old kept now f is same =
    ap (λ g. rules.kind_at_host (standing_of (record old { guard = g }) now) f ShutOff) is
    ∙ ap (rules.heard_by (standing_of (with_guard old kept) now) f) (hearing_is old kept now f same)
    ∙ verdict_is old kept now f (verdict_of kept old.log now f) refl

-- without a guard it drops it
pub heard_nowhere : (old : HostState) (now : ℕ) (f : Frame) → old.guard ≡ None → rules.kind_at_host (standing_of old now) f ShutOff ≡ dropped old.seat.name reason.Unguarded
heard_nowhere old now f is = ap (λ g. rules.kind_at_host (standing_of (record old { guard = g }) now) f ShutOff) is

-- what an order comes to tells of an order
pub told_order : (name : List ℕ) (to : KeyId) (until : ℕ) (obeying : Obeying) → is_order (order_event name to until obeying) ≡ true
told_order name to until Obeyed = refl
told_order name to until (Halted call byte) = refl

-- a reaction that tells of an order and nothing else isn't one without an order
pub ordered : {A : Type 0} (e : Event) (reaction : Reaction) (old new : A) → reaction ≡ happens e → is_order e ≡ true → LeavesUnordered reaction old new
ordered e reaction old new is order none =
    let tells : (is_order e || false) ≡ false = sym (ap (λ (r : Reaction). list_any is_order r.events) is) ∙ none in
    let told : (true || false) ≡ false = sym (ap (λ b. b || false) order) ∙ tells in
    absurd (cc)
