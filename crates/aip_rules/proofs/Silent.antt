-- Guards are silent: what a guarded host puts is under no shut-off in force, what it withholds is, and it is told
-- shut-offs alone.
use Rattle.std.proofs.Common.{◌≡◌, ℕ, ◌&&◌, Bool, true, false, cond, List, [], ◌∷◌, take, Option, Some, None, Result, Ok, Err, refl, sym, ap, subst, ◌∙◌, arith}
use Rattle.std.specs.Prelude.{IfOk}
use Rattle.std.proofs.lemmas.Bool.{both_ways, cond-false}
use Rattle.aip_addr.specs.Ids.{key_id_of}
use Rattle.aip_addr.specs.declared.ids.KeyId.{KeyId}
use Rattle.aip_frame.specs.declared.frame.Frame.{Frame}
use Rattle.aip_frame.specs.Frame.{frame_of}
use Rattle.aip_event.specs.declared.event.Event.{Event}
use Rattle.aip_event.specs.declared.event.Event.TheVariants.{Put, Signed, Withheld, Obeyed, Halted}
use Rattle.aip_event.specs.declared.input.Input.{Input}
use Rattle.aip_topo.specs.declared.topology.Topology.{Topology}
use Rattle.sent_log.specs.Log.{is_logged}
use Rattle.sent_log.specs.declared.log.Noted.{Noted}
use Rattle.shutoff_filter.specs.Body.{order_in}
use Rattle.shutoff_filter.specs.Entries.{is_withheld}
use Rattle.shutoff_filter.specs.InForce.{withheld_in_force}
use Rattle.aip_rules.specs.declared.Entry.{Entry}
use Rattle.aip_rules.specs.declared.Entry.TheVariants.{Taken, Happened}
use Rattle.aip_rules.specs.declared.Flight.{Flight}
use Rattle.aip_rules.specs.declared.Reaction.{Reaction}
use Rattle.aip_rules.specs.declared.Seat.{Seat}
use Rattle.aip_rules.specs.declared.StepFault.{StepFault}
use Rattle.aip_rules.specs.State.{flight_count, now_of, ticks_of, is_restart_of}
use Rattle.aip_rules.specs.Nodes.{is_guarded}
use Rattle.aip_rules.specs.Reaction.{put_event, numbered, events_on}
use Rattle.aip_rules.specs.Standing.{Standing, standing, acts, frames_put, told_to, next_leaf}
use Rattle.aip_rules.specs.Host.{withheld_key, handed_to, handed_down, others_shut}
use Rattle.aip_rules.specs.Step.{outcome_of}
use Rattle.aip_rules.specs.Promises.{IsInForce, PutIsFree, WithholdsRightly, IsShutOff, IsSilent, GuardsAreSilent, HoldsOfAll}
use Rattle.aip_rules.proofs.SilentEvents.{IsPlain, Adds, past_plain, of_trace}
use Rattle.aip_rules.proofs.SilentActs.{acts_so, guarded_so, host_so, so_guarded, was_put}
use Rattle.aip_rules.proofs.SilentForce.{in_force_by_told, told_by_in_force}
use Rattle.aip_rules.proofs.SilentOrders.{good_shut_off}
use Rattle.aip_rules.proofs.SilentSteps.{IsBy, IsOrdered, Comes, Plainly, ByOther, ByHand, BySignature, ByObeying, ByHalting, outcome_comes}
use Rattle.std.specs.Prelude.{nat_le}

-- what stands for the one host that acts on a trace, as far as its guard goes by it
record IsUnder (topo : Topology) (tr : List Entry) (s : Standing) : Type 0 where
  only : (name : List ℕ) → acts tr name ≡ true → name ≡ s.seat.name
  guard : s.guarded ≡ is_guarded topo.parts s.seat.name
  shut : (to : KeyId) → is_withheld s.now to s.shut ≡ is_withheld (now_of tr) to (told_to tr s.seat.name)

-- the time of an input by which no time passes
same_now : (tr : List Entry) (input : Input) → ticks_of input ≡ 0 → now_of (Taken input ∷ tr) ≡ now_of tr
same_now tr input still = omega arith

first_under : (topo : Topology) (tr : List Entry) (input : Input) (seat : Seat) → IsBy tr input seat → IsUnder topo (Taken input ∷ tr) (standing topo tr seat)
first_under topo tr input seat by = record {
  only = by.only;
  guard = refl;
  shut = λ to.
      withheld_in_force (now_of tr) (now_of tr) to (told_to tr seat.name) (omega arith)
      ∙ ap (λ now. is_withheld now to (told_to tr seat.name)) (sym (same_now tr input by.still));
}

-- a signature changes nothing of that
signed_under : (topo : Topology) (tr : List Entry) (s : Standing) (host : List ℕ) (leaf : ℕ) → IsUnder topo tr s → IsUnder topo (Happened (Signed host leaf) ∷ tr) s
signed_under topo tr s host leaf under = record { only = under.only; guard = under.guard; shut = under.shut }

-- ---- what is put, and what is withheld

not_withheld : (guarded shut : Bool) (to : KeyId) → guarded ≡ true → cond (guarded && shut) (Some to) None ≡ None → shut ≡ false
not_withheld true true to g e = absurd cc
not_withheld true false to g e = refl
not_withheld false shut to g e = absurd cc

is_withheld_for : (guarded shut : Bool) (own to : KeyId) → cond (guarded && shut) (Some own) None ≡ Some to → (guarded ≡ true) × (shut ≡ true) × (own ≡ to)
is_withheld_for true true own to e = (refl, refl, cc)
is_withheld_for true false own to e = cc
is_withheld_for false shut own to e = cc

module _ (topo : Topology) (tr : List Entry) (s : Standing) (under : IsUnder topo tr s) where
  put_free : (bytes : List ℕ) → withheld_key s (frame_of bytes) ≡ None → PutIsFree topo tr bytes
  put_free bytes none = λ name frame acting guarded spelled laid.
      let own : name ≡ s.seat.name = under.only name (acts_so tr name acting) in
      let to = key_id_of frame.to.eid in
      let guard : s.guarded ≡ true = under.guard ∙ (ap (is_guarded topo.parts) (sym own) ∙ guarded_so topo.parts name guarded) in
      let here : withheld_key s (Some frame) ≡ None = ap (withheld_key s) (sym spelled) ∙ none in
      let told : is_withheld (now_of tr) to (told_to tr s.seat.name) ≡ true = told_by_in_force tr s.seat.name to (subst (λ host. IsInForce tr host to) own laid) in
      both_ways (is_withheld s.now to s.shut) (not_withheld s.guarded (is_withheld s.now to s.shut) to guard here) (under.shut to ∙ told)

  rightly : (frame : Option Frame) (to : KeyId) → withheld_key s frame ≡ Some to → WithholdsRightly topo tr s.seat.name to
  rightly None to e = absurd cc
  rightly (Some frame) to e =
      let is = is_withheld_for s.guarded (is_withheld s.now (key_id_of frame.to.eid) s.shut) (key_id_of frame.to.eid) to e in
      record {
        guarded = so_guarded topo.parts s.seat.name (sym under.guard ∙ is.0);
        shut = in_force_by_told tr s.seat.name to
            (ap (λ (k : KeyId). is_withheld (now_of tr) k (told_to tr s.seat.name)) (sym is.2) ∙ (sym (under.shut (key_id_of frame.to.eid)) ∙ is.1));
      }

  handed_by : (bytes : List ℕ) (number : ℕ) (withheld : Option KeyId) → withheld_key s (frame_of bytes) ≡ withheld → Adds (IsSilent topo) tr (numbered number (handed_to s bytes withheld))
  handed_by bytes number None e = (put_free bytes e, tt)
  handed_by bytes number (Some to) e = (rightly (frame_of bytes) to e, tt)

  handed_silent : (bytes : List ℕ) (number : ℕ) → Adds (IsSilent topo) tr (numbered number (handed_down s bytes))
  handed_silent bytes number = handed_by bytes number (withheld_key s (frame_of bytes)) refl

-- ---- what is told

-- no restart is among what a host's input starts
same_put : (tr : List Entry) (input : Input) (name : List ℕ) → is_restart_of input name ≡ false → frames_put (Taken input ∷ tr) name ≡ frames_put tr name
same_put tr input name stays = cond-false (is_restart_of input name) [] (frames_put tr name) stays

ordered_is : (topo : Topology) (tr : List Entry) (input : Input) (seat : Seat) (flight : Flight) (frame : Frame) (until : ℕ) → IsBy tr input seat → IsOrdered topo tr input seat flight frame until
    → IsShutOff topo (Taken input ∷ tr) seat.name (key_id_of frame.from.eid) until
ordered_is topo tr input seat flight frame until by ordered =
    let s = standing topo tr seat in
    let sender = key_id_of frame.from.eid in
    let good = good_shut_off (now_of tr) frame (is_logged s.log (order_in frame.body).hash sender.bytes) (nat_le s.room (others_shut sender s.shut)) until ordered.told in
    let now = same_now tr input by.still in
    let issued = good.issued in
    let ahead = good.ahead in
    let logged =
    ap (λ (put : List Noted). is_logged (take topo.settings.log put) (order_in frame.body).hash sender.bytes) (same_put tr input seat.name (by.stays seat.name))
    ∙ good.known in
    record {
      flight = flight;
      frame = frame;
      delivered = ordered.delivered;
      arrives = host_so flight.target seat.name ordered.arrives;
      spelled = ordered.spelled;
      kind = ordered.kind;
      by_sender = refl;
      owner = good.owner;
      signed = good.signed;
      issued = omega arith;
      lasts = good.lasts;
      ahead = omega arith;
      put = was_put seat.name (order_in frame.body).hash sender topo.settings.log (Taken input ∷ tr) logged;
      logged = logged;
    }

-- ---- the steps

module _ (topo : Topology) where
  plain_silent : (tr : List Entry) (event : Event) → IsPlain event → IsSilent topo tr event
  plain_silent tr (Put number to bytes) plain = absurd plain
  plain_silent tr (Withheld host to) plain = absurd plain
  plain_silent tr (Obeyed host sender until) plain = absurd plain
  plain_silent tr (Halted host sender until call byte) plain = absurd plain
  plain_silent tr _ plain = tt

  -- no host acts on the trace
  abbrev NoneActs : List Entry → Type 0
  NoneActs tr = (name : List ℕ) → acts tr name ≡ false

  put_silent : (put : Option Flight) (number : ℕ) (tr : List Entry) → NoneActs tr → Adds (IsSilent topo) tr (put_event number put)
  put_silent None number tr none = tt
  put_silent (Some flight) number tr none = (λ name frame acting guarded spelled. absurd (both_ways (acts tr name) (none name) (acts_so tr name acting)), tt)

  comes_silent : (tr : List Entry) (input : Input) (number : ℕ) (reaction : Reaction) → Comes topo tr input reaction → Adds (IsSilent topo) (Taken input ∷ tr) (numbered number reaction)
  comes_silent tr input number reaction (Plainly events plain) =
      past_plain (IsSilent topo) plain_silent (λ tr. Unit {0}) (λ event tr still. tt) events [] (Taken input ∷ tr) plain tt (λ after still. tt)
  comes_silent tr input number reaction (ByOther other none plain) =
      past_plain (IsSilent topo) plain_silent NoneActs (λ event tr still. still) other.events (put_event number other.put) (Taken input ∷ tr) plain none (put_silent other.put number)
  comes_silent tr input number reaction (ByHand seat by bytes) =
      handed_silent topo (Taken input ∷ tr) (standing topo tr seat) (first_under topo tr input seat by) bytes number
  comes_silent tr input number reaction (BySignature seat by own known bytes) =
      let leaf = next_leaf tr seat.name in (
        tt,
        handed_silent topo (Happened (Signed seat.name leaf) ∷ (Taken input ∷ tr)) (standing topo tr seat)
            (signed_under topo (Taken input ∷ tr) (standing topo tr seat) seat.name leaf (first_under topo tr input seat by)) bytes number,
      )
  comes_silent tr input number reaction (ByObeying seat by flight frame until ordered) = (ordered_is topo tr input seat flight frame until by ordered, tt)
  comes_silent tr input number reaction (ByHalting seat by flight frame until call byte ordered) = (ordered_is topo tr input seat flight frame until by ordered, tt)

  outcome_silent : (tr : List Entry) (input : Input) (outcome : Result Reaction StepFault) → IfOk outcome (Comes topo tr input)
      → IfOk outcome (λ reaction. Adds (IsSilent topo) (Taken input ∷ tr) (events_on tr reaction))
  outcome_silent tr input (Ok reaction) comes = comes_silent tr input (flight_count tr) reaction comes
  outcome_silent tr input (Err f) comes = tt

pub all_silent : HoldsOfAll GuardsAreSilent
all_silent = λ topo sound inputs tr e.
    of_trace (IsSilent topo) (GuardsAreSilent topo) (λ input tr p. p) (λ event tr h p. (h, p)) topo
    (λ tr input. outcome_silent topo tr input (outcome_of topo tr input) (outcome_comes topo tr input)) inputs [] tr tt e
