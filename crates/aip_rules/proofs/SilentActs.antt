-- When a host acts, and what it has put, in the words of the promises.
use Rattle.std.proofs.Common.{◌≡◌, ◌≢◌, ℕ, zero, suc, ◌&&◌, ◌||◌, Bool, true, false, cond, List, [], ◌∷◌, ◌++◌, take, Option, Some, None, refl, sym, ap, ◌∙◌, ◌⊎◌, inl, inr, true≢false}
use Rattle.std.proofs.lemmas.Bool.{and_parts}
use Rattle.std.proofs.lemmas.List.Folds.{list_any-append}
use Rattle.std.specs.Cmp.Lexicographic.{bytes_decides}
use Rattle.std.specs.List.{list_any}
use Rattle.std.specs.Str.{bytes_eq}
use Rattle.aip_addr.specs.Ids.{key_id_of}
use Rattle.aip_addr.specs.declared.ids.KeyId.{KeyId}
use Rattle.aip_frame.specs.declared.frame.Frame.{Frame}
use Rattle.aip_frame.specs.Frame.{frame_of, packet_hash_of}
use Rattle.aip_event.specs.declared.event.Event.{Event}
use Rattle.aip_event.specs.declared.event.Event.TheVariants.{Put}
use Rattle.aip_event.specs.declared.input.Input.{Input}
use Rattle.aip_event.specs.declared.input.Input.TheVariants.{Send, Raw, Deliver, Shutoff}
use Rattle.aip_event.specs.declared.input.Target.{Target}
use Rattle.aip_event.specs.declared.input.Target.TheVariants as target
use Rattle.aip_topo.specs.declared.topology.Part.{Part}
use Rattle.aip_topo.specs.declared.topology.Part.TheVariants as part
use Rattle.sent_log.specs.Log.{is_frame_to, is_logged}
use Rattle.sent_log.specs.declared.log.Noted.{Noted}
use Rattle.shutoff_filter.specs.Entries.{is_key}
use Rattle.shutoff_filter.specs.InForce.{one_key}
use Rattle.aip_rules.specs.declared.Entry.{Entry}
use Rattle.aip_rules.specs.declared.Entry.TheVariants.{Taken, Happened}
use Rattle.aip_rules.specs.declared.Flight.{Flight}
use Rattle.aip_rules.specs.Nodes.{host_named, is_guarded, is_guarded_host}
use Rattle.aip_rules.specs.State.{flight_at, is_restart_of}
use Rattle.aip_rules.specs.Standing.{acts, frames_put, is_host_target, lets_act, noted_in, noted_of, reaches_host}
use Rattle.aip_rules.specs.Promises.{Acts, GoesTo, IsGuarded, LetsAct, PutsFrame, WasPut}
use Rattle.aip_rules.proofs.SilentForce.{either}

-- ---- who acts

-- a target that passes the test of a host is that host
pub host_so : (to : Target) (name : List ℕ) → is_host_target to name ≡ true → to ≡ target.Host name
host_so (target.Host host) name e = ap (λ (n : List ℕ). target.Host n) ((bytes_decides host name).0 e)
host_so (target.Port router port) name e = absurd (true≢false (sym e))

goes_to : (flight : Option Flight) (name : List ℕ) → reaches_host flight name ≡ true → GoesTo flight name
goes_to None name e = absurd (true≢false (sym e))
goes_to (Some flight) name e = host_so flight.target name e

reaches : (flight : Option Flight) (name : List ℕ) → GoesTo flight name → reaches_host flight name ≡ true
reaches None name to = absurd to
reaches (Some flight) name to = ap (λ t. is_host_target t name) to ∙ (bytes_decides name name).1 refl

lets_act_so : (tr : List Entry) (input : Input) (name : List ℕ) → LetsAct tr input name → lets_act tr input name ≡ true
lets_act_so tr (Send host node packet body) name is = (bytes_decides host name).1 is
lets_act_so tr (Raw host bytes) name is = (bytes_decides host name).1 is
lets_act_so tr (Shutoff host flight ttl) name is = (bytes_decides host name).1 is
lets_act_so tr (Deliver flight) name to = reaches (flight_at tr flight) name to
lets_act_so tr _ name none = absurd none

so_lets_act : (tr : List Entry) (input : Input) (name : List ℕ) → lets_act tr input name ≡ true → LetsAct tr input name
so_lets_act tr (Send host node packet body) name e = (bytes_decides host name).0 e
so_lets_act tr (Raw host bytes) name e = (bytes_decides host name).0 e
so_lets_act tr (Shutoff host flight ttl) name e = (bytes_decides host name).0 e
so_lets_act tr (Deliver flight) name e = goes_to (flight_at tr flight) name e
so_lets_act tr _ name e = absurd (true≢false (sym e))

-- a host that acts passes the test of it
pub acts_so : (tr : List Entry) (name : List ℕ) → Acts tr name → acts tr name ≡ true
acts_so [] name none = absurd none
acts_so (Taken input ∷ tr) name is = lets_act_so tr input name is
acts_so (Happened event ∷ tr) name is = acts_so tr name is

-- and one that passes the test acts
so_acts : (tr : List Entry) (name : List ℕ) → acts tr name ≡ true → Acts tr name
so_acts [] name e = absurd (true≢false (sym e))
so_acts (Taken input ∷ tr) name e = so_lets_act tr input name e
so_acts (Happened event ∷ tr) name e = so_acts tr name e

-- ---- who is guarded

-- a host that is guarded passes the test of it
pub guarded_so : (parts : List Part) (name : List ℕ) → IsGuarded parts name → is_guarded parts name ≡ true
guarded_so [] name none = absurd none
guarded_so (part.Link link ∷ parts) name is = guarded_so parts name is
guarded_so (part.Host host ∷ parts) name is = by (bytes_eq host.name name) refl is (guarded_so parts name)
  where
    by : (here : Bool) → bytes_eq host.name name ≡ here → ((host.name ≡ name) × (host.guarded ≡ true)) ⊎ ((host.name ≢ name) × IsGuarded parts name)
        → (IsGuarded parts name → is_guarded parts name ≡ true) → is_guarded_host (cond here (Some host) (host_named parts name)) ≡ true
    by true here (inl own) rest = own.1
    by true here (inr other) rest = absurd (other.0 ((bytes_decides host.name name).0 here))
    by false here (inl own) rest = absurd (true≢false (sym ((bytes_decides host.name name).1 own.0) ∙ here))
    by false here (inr other) rest = rest other.1

-- and one that passes the test is guarded
pub so_guarded : (parts : List Part) (name : List ℕ) → is_guarded parts name ≡ true → IsGuarded parts name
so_guarded [] name e = absurd (true≢false (sym e))
so_guarded (part.Link link ∷ parts) name e = so_guarded parts name e
so_guarded (part.Host host ∷ parts) name e = by (bytes_eq host.name name) refl e (so_guarded parts name)
  where
    by : (here : Bool) → bytes_eq host.name name ≡ here → is_guarded_host (cond here (Some host) (host_named parts name)) ≡ true
        → (is_guarded parts name ≡ true → IsGuarded parts name) → ((host.name ≡ name) × (host.guarded ≡ true)) ⊎ ((host.name ≢ name) × IsGuarded parts name)
    by true here e rest = inl ((bytes_decides host.name name).0 here, e)
    by false here e rest = inr (λ own. true≢false (sym ((bytes_decides host.name name).1 own) ∙ here), rest e)

-- ---- what was put

-- what is among the first of a list is in it
in_whole : (p : Noted → Bool) (n : ℕ) (noted : List Noted) → list_any p (take n noted) ≡ true → list_any p noted ≡ true
in_whole p zero noted e = absurd (true≢false (sym e))
in_whole p (suc n) [] e = e
in_whole p (suc n) (x ∷ xs) e = by (p x) e (in_whole p n xs)
  where
    by : (here : Bool) → here || list_any p (take n xs) ≡ true → (list_any p (take n xs) ≡ true → list_any p xs ≡ true) → here || list_any p xs ≡ true
    by true e rest = refl
    by false e rest = rest e

module _ (name hash : List ℕ) (to : KeyId) where
  -- what is noted of a frame is its packet hash, and the key identifier that it is to
  frame_noted : (bytes : List ℕ) (frame : Option Frame) → frame_of bytes ≡ frame → is_logged (noted_of frame) hash to.bytes ≡ true
      → (f : Frame) × (frame_of bytes ≡ Some f) × (packet_hash_of f ≡ hash) × (key_id_of f.to.eid ≡ to)
  frame_noted bytes None spelled e = absurd (true≢false (sym e))
  frame_noted bytes (Some frame) spelled e = by (either (bytes_eq (packet_hash_of frame) hash && is_key (key_id_of frame.to.eid) to) false e)
    where
      by : ((bytes_eq (packet_hash_of frame) hash && is_key (key_id_of frame.to.eid) to) ≡ true) ⊎ (false ≡ true)
          → (f : Frame) × (frame_of bytes ≡ Some f) × (packet_hash_of f ≡ hash) × (key_id_of f.to.eid ≡ to)
      by (inl here) =
          let parts = and_parts (bytes_eq (packet_hash_of frame) hash) (is_key (key_id_of frame.to.eid) to) here in
          (frame, spelled, (bytes_decides (packet_hash_of frame) hash).0 parts.0, one_key (key_id_of frame.to.eid) to parts.1)
      by (inr none) = absurd (true≢false (sym none))

  event_puts : (event : Event) → is_logged (noted_in event) hash to.bytes ≡ true → PutsFrame hash to event
  event_puts (Put number target bytes) e = frame_noted bytes (frame_of bytes) refl e
  event_puts _ e = absurd (true≢false (sym e))

  among_put : (tr : List Entry) → is_logged (frames_put tr name) hash to.bytes ≡ true → WasPut tr name hash to
  among_put [] e = absurd (true≢false (sym e))
  among_put (Taken input ∷ tr) e = by (is_restart_of input name) refl e (among_put tr)
    where
      by : (anew : Bool) → is_restart_of input name ≡ anew → is_logged (cond anew [] (frames_put tr name)) hash to.bytes ≡ true
          → (is_logged (frames_put tr name) hash to.bytes ≡ true → WasPut tr name hash to) → (is_restart_of input name ≡ false) × WasPut tr name hash to
      by true anew e rest = absurd (true≢false (sym e))
      by false anew e rest = (anew, rest e)
  among_put (Happened event ∷ tr) e = by (acts tr name) refl e (among_put tr)
    where
      one : Acts tr name → (is_logged (noted_in event) hash to.bytes ≡ true) ⊎ (is_logged (frames_put tr name) hash to.bytes ≡ true)
          → (is_logged (frames_put tr name) hash to.bytes ≡ true → WasPut tr name hash to) → WasPut (Happened event ∷ tr) name hash to
      one acting (inl here) rest = inl (acting, event_puts event here)
      one acting (inr before) rest = inr (rest before)

      by : (acting : Bool) → acts tr name ≡ acting → is_logged (cond acting (noted_in event ++ frames_put tr name) (frames_put tr name)) hash to.bytes ≡ true
          → (is_logged (frames_put tr name) hash to.bytes ≡ true → WasPut tr name hash to) → WasPut (Happened event ∷ tr) name hash to
      by true acting e rest =
          one (so_acts tr name acting) (either (is_logged (noted_in event) hash to.bytes) (is_logged (frames_put tr name) hash to.bytes)
          (sym (list_any-append (is_frame_to hash to.bytes) (noted_in event) (frames_put tr name)) ∙ e)) rest
      by false acting e rest = inr (rest e)

  -- a frame that is among the last that a host put was put by it
  pub was_put : (room : ℕ) (tr : List Entry) → is_logged (take room (frames_put tr name)) hash to.bytes ≡ true → WasPut tr name hash to
  was_put room tr e = among_put tr (in_whole (is_frame_to hash to.bytes) room (frames_put tr name) e)
