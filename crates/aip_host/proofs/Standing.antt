-- A host that does what the rules say stands on.
use Rattle.std.proofs.Common.{◌≡◌, ℕ, Bool, true, List, [], refl, sym, ◌∙◌, ap, subst, Option}
use Rattle.std.specs.Prelude.{Result, IfOk}
use Rattle.aip_addr.specs.declared.ids.Address.{Address}
use Rattle.aip_event.specs.declared.input.Input.{Input}
use Rattle.aip_event.specs.declared.input.Input.TheVariants.{Restart, Stop, Halt}
use Rattle.aip_event.specs.declared.input.Target.{Target}
use Rattle.aip_frame.specs.declared.frame.Frame.{Frame}
use Rattle.aip_frame.specs.Frame.{frame_bytes}
use Rattle.aip_topo.specs.declared.topology.Settings.{Settings}
use Rattle.aip_topo.specs.declared.topology.Topology.{Topology}
use Rattle.lms_core.specs.Tree.{Key}
use Rattle.sent_log.specs.Log.{empty_log}
use Rattle.aip_rules.specs.declared.Entry.{Entry}
use Rattle.aip_rules.specs.declared.Reaction.{Reaction}
use Rattle.aip_rules.specs.declared.Seat.{Seat}
use Rattle.aip_rules.specs.Host.{at_host, back_up, put_by, sent_frame, shut_by}
use Rattle.aip_rules.specs.Reaction.{nothing, events_on}
use Rattle.aip_rules.specs.Standing.{Standing, standing}
use Rattle.aip_rules.specs.State.{now_of, flight_count}
use Rattle.aip_rules.specs.Step.{has_key, after_step}
use Rattle.aip_host.specs.HostState.{HostState, key_in, standing_of}
use Rattle.aip_host.specs.After.{Follows, IsNew, IsRestarted, halted_in, stopped_in}
use Rattle.aip_host.specs.StandsFor.{HostStandsFor, DisksServe}
use Rattle.aip_host.specs.StandsOn.{StandsOn, AsksItToAct, ArmsStop, ArmsHalt, StartsAnew, IsSeated}
use Rattle.aip_host.proofs.Signed.{same_name}
use Rattle.aip_host.proofs.Obeys.{if_ok, if_both}
use Rattle.aip_host.proofs.Corresponds.{arrives_as, puts_as, shuts_as, restarts_as, starts, follows}
use Rattle.aip_host.proofs.Inputs.{stops, halts, restarts}

-- ---- where it acts

-- what the rules say of what is kept is what they say on each trace for which that stands
abbrev IsSame : HostState → (Standing → Reaction) → Type 0
IsSame old rule = (topo : Topology) (tr : List Entry) (at : Seat) → HostStandsFor topo tr at old → rule (standing_of old (now_of tr)) ≡ rule (standing topo tr at)

acts : (now : ℕ) (old new : HostState) (rule : Standing → Reaction) (reaction : Reaction)
    → IsSame old rule → reaction ≡ rule (standing_of old now) → Follows now old reaction new → DisksServe new → StandsOn now old AsksItToAct rule reaction new
acts now old new rule reaction same is moved disks topo tr at time stands = record {
  ruled = is ∙ ap (λ n. rule (standing_of old n)) (sym time) ∙ same topo tr at stands;
  stands = λ input acting. follows topo tr at old new input (flight_count tr) reaction stands (subst (λ n. Follows n old reaction new) (sym time) moved) disks acting;
}

module _ {E : Type 0} (result : Result Reaction E) (now : ℕ) (old new : HostState) where
  acts_so : (rule : Standing → Reaction) → IsSame old rule → IfOk result (λ reaction. reaction ≡ rule (standing_of old now)) → IfOk result (λ reaction. Follows now old reaction new) → DisksServe new
      → IfOk result (λ reaction. StandsOn now old AsksItToAct rule reaction new)
  acts_so rule same is moved disks = if_both result _ _ _ is moved (λ reaction says goes. acts now old new rule reaction same says goes disks)

  -- it sends a packet
  pub sends_on : (to : Address) (packet : ℕ) (body : List ℕ)
      → IfOk result (λ reaction. reaction ≡ put_by (standing_of old now) (frame_bytes (sent_frame to old.seat.address packet body))) → IfOk result (λ reaction. Follows now old reaction new) → DisksServe new
      → IfOk result (λ reaction. StandsOn now old AsksItToAct (λ s. put_by s (frame_bytes (sent_frame to s.seat.address packet body))) reaction new)
  sends_on to packet body = acts_so (λ s. put_by s (bytes s.seat)) (λ topo tr at stands. puts_as topo tr at old stands (bytes old.seat) ∙ ap (λ seat. put_by (standing topo tr at) (bytes seat)) stands.seat)
    where
      bytes : Seat → List ℕ
      bytes seat = frame_bytes (sent_frame to seat.address packet body)

  -- it puts bytes
  pub puts_on : (bytes : List ℕ) → IfOk result (λ reaction. reaction ≡ put_by (standing_of old now) bytes) → IfOk result (λ reaction. Follows now old reaction new) → DisksServe new
      → IfOk result (λ reaction. StandsOn now old AsksItToAct (λ s. put_by s bytes) reaction new)
  puts_on bytes = acts_so (λ s. put_by s bytes) (λ topo tr at stands. puts_as topo tr at old stands bytes)

  -- bytes arrive at it
  pub meets_on : (bytes : List ℕ) → IfOk result (λ reaction. reaction ≡ at_host (standing_of old now) bytes) → IfOk result (λ reaction. Follows now old reaction new) → DisksServe new
      → IfOk result (λ reaction. StandsOn now old AsksItToAct (λ s. at_host s bytes) reaction new)
  meets_on bytes = acts_so (λ s. at_host s bytes) (λ topo tr at stands. arrives_as topo tr at old stands bytes)

  -- it signs a shut-off
  pub shuts_on : (key : Key) (frame : Frame) (ttl : ℕ) → IfOk result (λ reaction. reaction ≡ shut_by (standing_of old now) key frame ttl) → IfOk result (λ reaction. Follows now old reaction new) → DisksServe new
      → IfOk result (λ reaction. StandsOn now old AsksItToAct (λ s. shut_by s key frame ttl) reaction new)
  shuts_on key frame ttl = acts_so (λ s. shut_by s key frame ttl) (λ topo tr at stands. shuts_as topo tr at old stands key frame ttl)

  risen : IsRestarted old new → DisksServe new → (reaction : Reaction) → reaction ≡ back_up (standing_of old now) → StandsOn now old StartsAnew back_up reaction new
  risen anew disks reaction is topo tr at time stands =
      let says : reaction ≡ back_up (standing topo tr at) = is ∙ ap (λ n. back_up (standing_of old n)) (sym time) ∙ restarts_as topo tr at old stands in
      record {
        ruled = says;
        stands = λ input asked.
            subst (λ (i : Input). HostStandsFor topo (after_step tr i (events_on tr reaction)) at new) (sym asked)
            (subst (λ (r : Reaction). HostStandsFor topo (after_step tr (Restart at.name) (events_on tr r)) at new) (sym says)
            (restarts topo tr at old new at.name (flight_count tr) stands (same_name at.name) anew disks));
      }

  -- it starts anew
  pub rises_on : IfOk result (λ reaction. reaction ≡ back_up (standing_of old now)) → IsRestarted old new → DisksServe new → IfOk result (λ reaction. StandsOn now old StartsAnew back_up reaction new)
  rises_on is anew disks = if_ok result _ _ is (risen anew disks)

-- ---- where a stop or a halt is armed

-- ---- at first

module _ (seat : Seat) (towards : Target) (settings : Settings) (key : Option Key) (guard : Bool) where
  begun : (topo : Topology) (host : HostState) → IsSeated topo seat towards settings key guard → IsNew seat towards settings key guard host → DisksServe host → HostStandsFor topo [] seat host
  begun topo host seated new disks =
      starts topo seat host
      (record {
        place = new.place;
        port = new.port ∙ seated.port;
        room = new.room ∙ ap (λ (s : Settings). s.filter) seated.rooms;
        log = new.log ∙ ap (λ (s : Settings). empty_log s.log) seated.rooms;
        private = new.private ∙ seated.private;
        guarded = new.guarded ∙ seated.guarded;
        next = new.next;
        stop = new.stop;
        halt = new.halt;
        told = new.told;
        up = new.up;
      })
      disks

  -- a new host stands for the trace of no inputs, in each topology that has it
  pub begins_on : {E : Type 0} (result : Result HostState E) → IfOk result (λ host. IsNew seat towards settings key guard host) → IfOk result (λ host. DisksServe host)
      → IfOk result (λ host. (topo : Topology) → IsSeated topo seat towards settings key guard → HostStandsFor topo [] seat host)
  begins_on result new disks = if_both result _ _ _ new disks (λ host fresh serve topo seated. begun topo host seated fresh serve)
