-- What comes of a signing of a host, and how the host stands then.
use Rattle.std.proofs.Common.{◌≡◌, ℕ, ◌+◌, ◌≤◌, ◌==◌, ◌||◌, max, Bool, true, false, not, if◌then◌else◌, List, [], length, refl, sym, ◌∙◌, ap, subst, Option, Some, None, arith}
use Rattle.std.specs.Prelude.{Result, IfOk, IfSome, is_some}
use Rattle.std.specs.Str.{bytes_eq}
use Rattle.std.specs.List.{AllByRecursion}
use Rattle.std.proofs.Math.Nat.{zero-max}
use Rattle.std.proofs.lemmas.Slice.Eq.{bytes_eq-Decides}
use Rattle.std.proofs.lemmas.Bool.Decides.{nat_tests}
use Rattle.lmots_core.specs.declared.parameters.Width.{Width}
use Rattle.lmots_core.specs.declared.parameters.Width.TheVariants.{W1, W2, W4, W8}
use Rattle.lms_core.specs.declared.height.Height.{Height}
use Rattle.lms_core.specs.declared.height.Height.TheVariants.{H5, H10}
use Rattle.lms_core.specs.Parameters.{signature_len_of, most_signature}
use Rattle.lms_core.specs.Tree.{Key, public_key_of, signature_of}
use Rattle.lms_core.specs.Verify.{IsValidSignature, is_valid_signature, is_valid_under, width_in, height_in}
use Rattle.aip_addr.specs.declared.ids.Address.{Address}
use Rattle.aip_addr.specs.declared.ids.KeyId.{KeyId}
use Rattle.aip_frame.specs.declared.frame.Frame.{Frame}
use Rattle.aip_frame.specs.declared.frame.Kind.TheVariants.{Challenge, ShutOff}
use Rattle.aip_frame.specs.Frame.{frame_of, frame_bytes, packet_hash_of}
use Rattle.aip_event.specs.declared.event.Event.TheVariants.{Signed as Signs}
use Rattle.aip_event.specs.declared.event.Reason.TheVariants as reason
use Rattle.aip_event.specs.declared.input.Target.{Target}
use Rattle.verify_packet.specs.Challenge.{asked_in}
use Rattle.verify_packet.specs.Response.{response_text_of}
use Rattle.shutoff_filter.specs.Body.{shutoff_text_of}
use Rattle.shutoff_filter.specs.declared.entries.ShutOffEntry.{ShutOffEntry as Told}
use Rattle.shutoff_filter.specs.Entries.{is_withheld}
use Rattle.sent_log.specs.Log.{Log}
use Rattle.aip_rules.specs.declared.Arming.{Arming}
use Rattle.aip_rules.specs.declared.Reaction.{Reaction}
use Rattle.aip_rules.specs.declared.Seat.{Seat}
use Rattle.aip_addr.specs.Ids.{is_same_address}
use Rattle.aip_rules.specs.Reaction.{behind, dropped, happens_and_puts, puts}
use Rattle.aip_rules.specs.Standing.{Standing, noted_in}
use Rattle.aip_rules.specs.Host as rules
use Rattle.aip_host.specs.declared.silencing.Demand.{Demand}
use Rattle.aip_host.specs.declared.signing.Signing.{Signing}
use Rattle.aip_host.specs.declared.signing.Signing.TheVariants.{Signed, Dry, Stopped}
use Rattle.aip_host.specs.Signing.{KeyState, SignsValidly, IsShort, is_dry, spent_on, signing_of, next_after, stop_after, down_after}
use Rattle.aip_host.specs.Signing as key
use Rattle.aip_host.specs.Guarding.{GuardState}
use Rattle.aip_host.specs.HostState.{HostState, key_in, next_in, halt_in, shut_in, down_in, fell_in, down_of, standing_of}
use Rattle.aip_host.specs.After.{Follows, logged, next_past, stop_past, halt_past, down_past, told_past}
use Rattle.aip_host.specs.Withholding.{withheld_by, held_for, held_back}
use Rattle.aip_host.specs.Ended.{demand_frame, response_frame, ended}
use Rattle.aip_host.proofs.Withheld.{withheld_is}

-- ---- how long a signature is

-- a signature of any parameter sets is short
short_len : (width : Width) (height : Height) → signature_len_of width height ≤ most_signature
short_len W1 H5 = omega arith
short_len W1 H10 = omega arith
short_len W2 H5 = omega arith
short_len W2 H10 = omega arith
short_len W4 H5 = omega arith
short_len W4 H10 = omega arith
short_len W8 H5 = omega arith
short_len W8 H10 = omega arith

short_under : (width : Option Width) (height : Option Height) (key message signature : List ℕ)
    → is_valid_under width height key message signature ≡ true → length signature ≤ most_signature
short_under None height key message signature is = absurd cc
short_under (Some width) None key message signature is = absurd cc
short_under (Some width) (Some height) key message signature is =
    let len : length signature ≡ signature_len_of width height = grind (arith, nat_tests) in
    omega (arith, short_len width height, len)

-- a valid signature is short
pub valid_short : (key message signature : List ℕ) → IsValidSignature key message signature → length signature ≤ most_signature
unfolding is_valid_signature
valid_short key message signature is = short_under (width_in key) (height_in key) key message signature (grind (arith, nat_tests))

-- so is the signature of a leaf that signed
pub signing_short : (key message : List ℕ) (signing : Signing) → SignsValidly key message signing → IsShort signing
signing_short key message (Signed leaf signature) is = valid_short key message signature is
signing_short key message Dry is = tt
signing_short key message (Stopped leaf call byte) is = tt

-- ---- what comes of it

-- what comes of a signing, in the words of another frame and another signing that are the same
pub ended_is : {E : Type 0} (result : Result Reaction E) (seat : Seat) (towards : Target) (frame other : List ℕ → Frame) (signing same : Signing)
    → IfOk result (λ reaction. reaction ≡ ended seat towards frame signing) → frame ≡ other → signing ≡ same
    → IfOk result (λ reaction. reaction ≡ ended seat towards other same)
ended_is result seat towards frame other signing same is same_frame same_signing =
    subst (λ s. IfOk result (λ reaction. reaction ≡ ended seat towards other s)) same_signing
    (subst (λ f. IfOk result (λ reaction. reaction ≡ ended seat towards f signing)) same_frame is)

-- a host with a key
abbrev with_key : HostState → KeyState → HostState
with_key old kept = record old { key = Some kept }

module _ (old : HostState) (kept : KeyState) (now : ℕ) (text : List ℕ) (frame : List ℕ → Frame) where
  abbrev s : Standing
  s = standing_of (with_key old kept) now

  -- what its guard leaves of what comes of a signing
  abbrev left : Signing → Reaction
  left ends = held_back old.seat.name old.guard now (ended old.seat old.towards frame ends)

  hands : (bytes : List ℕ) → behind (Signs old.seat.name kept.next) (rules.handed_down s bytes)
      ≡ held_back old.seat.name old.guard now (happens_and_puts (Signs old.seat.name kept.next) old.towards bytes)
  hands bytes =
      ap (λ to. behind (Signs old.seat.name kept.next) (rules.handed_to s bytes to)) (withheld_is (with_key old kept) now (frame_of bytes)) ∙ by_case (withheld_by old.guard now (frame_of bytes))
    where
      by_case : (to : Option KeyId) → behind (Signs old.seat.name kept.next) (rules.handed_to s bytes to)
          ≡ held_for old.seat.name (happens_and_puts (Signs old.seat.name kept.next) old.towards bytes) to
      by_case None = refl
      by_case (Some to) = refl

  signed_case : (dry : Bool) (stop : Option Arming) → rules.signed s kept.key text frame (if dry then rules.Dry else rules.signing_with kept.next stop)
      ≡ left (if dry then Dry else spent_on kept text stop)
  signed_case true stop = refl
  signed_case false (Some arming) = refl
  signed_case false None = hands (frame_bytes (frame (signature_of kept.key kept.next text)))

  -- what the rules say of a signing of a host is what its guard leaves of what comes of it
  pub signed_is : rules.signed s kept.key text frame (rules.signing s kept.key) ≡ left (signing_of kept text)
  signed_is = signed_case (is_dry kept) kept.stop

-- a host that has this key is the host with it
keyed : (old : HostState) (kept : KeyState) → old.key ≡ Some kept → old ≡ with_key old kept
keyed old kept is = ap (λ k. record old { key = k }) is

-- a shut-off to this address that names the frame of this packet hash
abbrev shut_to : HostState → KeyState → ℕ → ℕ → Address → List ℕ → Reaction
shut_to old kept now ttl to hash =
    rules.signed (standing_of (with_key old kept) now) kept.key (shutoff_text_of old.seat.address to hash now ttl)
    (demand_frame old.seat.address (record { to = to; hash = hash; issue = now; ttl = ttl }) (public_key_of kept.key))
    (rules.signing (standing_of (with_key old kept) now) kept.key)

-- a host that is up signs a shut-off to the source of the frame that it names
shut_up : (old : HostState) (kept : KeyState) (now ttl : ℕ) (frame : Frame) → down_of (with_key old kept) ≡ false
    → rules.shut_by (standing_of (with_key old kept) now) kept.key frame ttl ≡ shut_to old kept now ttl frame.from (packet_hash_of frame)
shut_up old kept now ttl frame up = rw up refl

-- a shut-off that a host signs is the one of the rules
pub shut_is : (old : HostState) (kept : KeyState) (demand : Demand) (named : Option Frame) (reaction : Reaction) → old.key ≡ Some kept → down_of old ≡ false
    → IfSome named (λ f. demand.to ≡ f.from) → IfSome named (λ f. demand.hash ≡ packet_hash_of f)
    → reaction ≡ held_back old.seat.name old.guard demand.issue
    (ended old.seat old.towards (demand_frame old.seat.address demand (public_key_of kept.key)) (signing_of kept (shutoff_text_of old.seat.address demand.to demand.hash demand.issue demand.ttl)))
    → (key : Key) (frame : Frame) → key_in old.key ≡ Some key → named ≡ Some frame → reaction ≡ rules.shut_by (standing_of old demand.issue) key frame demand.ttl
shut_is old kept demand None reaction is up same_to same_hash comes key frame has there = absurd cc
shut_is old kept demand (Some f) reaction is up same_to same_hash comes key frame has there =
    let same_frame : f ≡ frame = cc in
    let own_key : key_in old.key ≡ Some kept.key = ap key_in is in
    let same_key : kept.key ≡ key = cc in
    let to : demand.to ≡ frame.from = same_to ∙ ap (λ (g : Frame). g.from) same_frame in
    let hash : demand.hash ≡ packet_hash_of frame = same_hash ∙ ap packet_hash_of same_frame in
    let own : reaction ≡ rules.shut_by (standing_of (with_key old kept) demand.issue) kept.key frame demand.ttl
    = comes
    ∙ sym (signed_is old kept demand.issue _ _)
    ∙ ap (λ t. shut_to old kept demand.issue demand.ttl t demand.hash) to
    ∙ ap (shut_to old kept demand.issue demand.ttl frame.from) hash
    ∙ sym (shut_up old kept demand.issue demand.ttl frame (ap down_of (sym (keyed old kept is)) ∙ up)) in
    subst (λ k. reaction ≡ rules.shut_by (standing_of old demand.issue) k frame demand.ttl) same_key
    (subst (λ h. reaction ≡ rules.shut_by (standing_of h demand.issue) kept.key frame demand.ttl) (sym (keyed old kept is)) own)

-- a challenge that is answered
pub answer_is : (old : HostState) (kept : KeyState) (now : ℕ) (challenge : Frame) (reaction : Reaction) → old.key ≡ Some kept
    → reaction ≡ held_back old.seat.name old.guard now (ended old.seat old.towards (response_frame old.seat.address challenge (public_key_of kept.key)) (signing_of kept (response_text_of challenge.body)))
    → reaction ≡ rules.answered (standing_of old now) challenge (key_in old.key)
answer_is old kept now challenge reaction is comes =
    let same : reaction ≡ rules.answered (standing_of (with_key old kept) now) challenge (Some kept.key) = comes ∙ sym (signed_is old kept now _ _) in
    subst (λ (h : HostState). reaction ≡ rules.answered (standing_of h now) challenge (key_in h.key)) (sym (keyed old kept is)) same

-- what reaches a host that is up, by its kind
module _ {E : Type 0} (result : Result Reaction E) (s : Standing) (frame : Frame) (mine : is_same_address s.seat.address frame.to ≡ true) where
  taken_as : rules.taken_at_host s (Some frame) ≡ rules.kind_at_host s frame frame.kind
  taken_as = ap (λ b. if b then rules.kind_at_host s frame frame.kind else dropped s.seat.name reason.Stray) mine

  -- a challenge
  pub taken_challenge : frame.kind ≡ Challenge → IfOk result (λ reaction. reaction ≡ rules.challenged s frame (asked_in frame.body)) → IfOk result (λ reaction. reaction ≡ rules.taken_at_host s (Some frame))
  taken_challenge is comes = subst (λ r. IfOk result (λ reaction. reaction ≡ r)) (sym (taken_as ∙ ap (rules.kind_at_host s frame) is)) comes

  -- a shut-off
  pub taken_shutoff : frame.kind ≡ ShutOff → IfOk result (λ reaction. reaction ≡ rules.kind_at_host s frame ShutOff) → IfOk result (λ reaction. reaction ≡ rules.taken_at_host s (Some frame))
  taken_shutoff is comes = subst (λ r. IfOk result (λ reaction. reaction ≡ r)) (sym (taken_as ∙ ap (rules.kind_at_host s frame) is)) comes

-- ---- how the host stands then

-- a name is itself
pub same_name : (name : List ℕ) → bytes_eq name name ≡ true
same_name name = (bytes_eq-Decides name name).1 refl

-- a host hands down bytes
pub put_follows : (now : ℕ) (old : HostState) (bytes : List ℕ) (log : Log) (reaction : Reaction) → reaction ≡ held_back old.seat.name old.guard now (puts old.towards bytes) → log ≡ logged old.log reaction.put
    → Follows now old reaction (record old { log = log })
put_follows now old bytes log reaction is noted = subst (λ r. Follows now old r (record old { log = log })) (sym is) (by_case (withheld_by old.guard now (frame_of bytes)) (noted ∙ ap (λ (r : Reaction). logged old.log r.put) is))
  where
    by_case : (to : Option KeyId) → log ≡ logged old.log (held_for old.seat.name (puts old.towards bytes) to).put → Follows now old (held_for old.seat.name (puts old.towards bytes) to) (record old { log = log })
    by_case None noted = record {
      seat = refl;
      towards = refl;
      room = refl;
      key = refl;
      guarded = refl;
      quiet = tt;
      log = noted;
      next = refl;
      stop = refl;
      halt = refl;
      down = refl;
      told = λ to time later. refl;
      untold = λ plain. refl;
    }
    by_case (Some to) noted = record {
      seat = refl;
      towards = refl;
      room = refl;
      key = refl;
      guarded = refl;
      quiet = (refl, tt);
      log = noted;
      next = sym (zero-max (next_in old.key));
      stop = refl;
      halt = refl;
      down = refl;
      told = λ to time later. refl;
      untold = λ plain. refl;
    }

module _ (seat : Seat) (towards : Target) (guard : Option GuardState) (now : ℕ) (frame : List ℕ → Frame) (kept : KeyState) (text : List ℕ) where
  -- what is left of what comes of a signing that is dry or not, with this stop armed or none
  abbrev comes : Bool → Option Arming → Reaction
  comes dry stop = held_back seat.name guard now (ended seat towards frame (if dry then Dry else spent_on kept text stop))

  -- where a leaf signs
  abbrev signs : Option KeyId → Reaction
  signs to = held_for seat.name (happens_and_puts (Signs seat.name kept.next) towards (frame_bytes (frame (signature_of kept.key kept.next text)))) to

  next_case : (dry : Bool) (stop : Option Arming) → (if dry then kept.next else key.next_once_stopped kept.next stop) ≡ next_past (comes dry stop).events seat.name kept.next
  next_case true stop = sym (zero-max kept.next)
  next_case false None = signing (withheld_by guard now (frame_of (frame_bytes (frame (signature_of kept.key kept.next text)))))
    where
      signing : (to : Option KeyId) → kept.next + 1 ≡ next_past (signs to).events seat.name kept.next
      signing None = rw (same_name seat.name) (omega arith)
      signing (Some to) = rw (same_name seat.name) (omega arith)
  next_case false (Some arming) = rw (same_name seat.name) (byte_case (arming.byte == 0))
    where
      byte_case : (zero : Bool) → (if zero then kept.next else kept.next + 1) ≡ max (if not zero then kept.next + 1 else 0) kept.next
      byte_case true = sym (zero-max kept.next)
      byte_case false = omega arith

  stop_case : (dry : Bool) (stop : Option Arming) → (if dry then stop else None) ≡ stop_past (comes dry stop).events seat.name stop
  stop_case true stop = refl
  stop_case false None = signing (withheld_by guard now (frame_of (frame_bytes (frame (signature_of kept.key kept.next text)))))
    where
      signing : (to : Option KeyId) → None ≡ stop_past (signs to).events seat.name None
      signing None = refl
      signing (Some to) = refl
  stop_case false (Some arming) = rw (same_name seat.name) refl

  halt_case : (dry : Bool) (stop halt : Option Arming) → halt ≡ halt_past (comes dry stop).events seat.name halt
  halt_case true stop halt = refl
  halt_case false None halt = signing (withheld_by guard now (frame_of (frame_bytes (frame (signature_of kept.key kept.next text)))))
    where
      signing : (to : Option KeyId) → halt ≡ halt_past (signs to).events seat.name halt
      signing None = refl
      signing (Some to) = refl
  halt_case false (Some arming) halt = refl

  down_case : (dry : Bool) (stop : Option Arming) → (if dry then false else is_some stop) ≡ down_past (comes dry stop).events seat.name false
  down_case true stop = refl
  down_case false None = signing (withheld_by guard now (frame_of (frame_bytes (frame (signature_of kept.key kept.next text)))))
    where
      signing : (to : Option KeyId) → false ≡ down_past (signs to).events seat.name false
      signing None = refl
      signing (Some to) = refl
  down_case false (Some arming) = rw (same_name seat.name) refl

  told_case : (dry : Bool) (stop : Option Arming) (told : List Told) → told_past (comes dry stop).events seat.name told ≡ told
  told_case true stop told = refl
  told_case false None told = signing (withheld_by guard now (frame_of (frame_bytes (frame (signature_of kept.key kept.next text)))))
    where
      signing : (to : Option KeyId) → told_past (signs to).events seat.name told ≡ told
      signing None = refl
      signing (Some to) = refl
  told_case false (Some arming) told = refl

  quiet_case : (dry : Bool) (stop : Option Arming) → AllByRecursion (λ event. noted_in event ≡ []) (comes dry stop).events
  quiet_case true stop = (refl, tt)
  quiet_case false None = signing (withheld_by guard now (frame_of (frame_bytes (frame (signature_of kept.key kept.next text)))))
    where
      signing : (to : Option KeyId) → AllByRecursion (λ event. noted_in event ≡ []) (signs to).events
      signing None = (refl, tt)
      signing (Some to) = (refl, (refl, tt))
  quiet_case false (Some arming) = (refl, tt)

-- neither of two that are not
pub neither : (a b : Bool) → (a || b) ≡ false → (a ≡ false) × (b ≡ false)
neither true b up = absurd cc
neither false b up = (refl, up)

-- after a signing the host stands as tells what its guard leaves of what came of it
pub signing_follows : (now : ℕ) (old : HostState) (kept after : KeyState) (log : Log) (reaction : Reaction) (frame : List ℕ → Frame) (text : List ℕ) → old.key ≡ Some kept → down_of old ≡ false
    → reaction ≡ held_back old.seat.name old.guard now (ended old.seat old.towards frame (signing_of kept text)) → log ≡ logged old.log reaction.put
    → after.next ≡ next_after kept → after.stop ≡ stop_after kept → after.is_down ≡ down_after kept → after.key ≡ kept.key
    → Follows now old reaction (record { seat = old.seat; towards = old.towards; room = old.room; log = log; key = Some after; guard = old.guard })
signing_follows now old kept after log reaction frame text is up comes_is log_is next stop down same_key =
    let new : HostState = record { seat = old.seat; towards = old.towards; room = old.room; log = log; key = Some after; guard = old.guard } in
    let parts = neither (down_in old.key) (fell_in old.guard) up in
    let was_up : kept.is_down ≡ false = ap down_in (sym is) ∙ parts.0 in
    let left = comes old.seat old.towards old.guard now frame kept text (is_dry kept) kept.stop in
    let now_down : down_of new ≡ down_past left.events old.seat.name false
    = ap (λ b. b || fell_in old.guard) (down ∙ down_case old.seat old.towards old.guard now frame kept text (is_dry kept) kept.stop)
    ∙ ap (λ b. down_past left.events old.seat.name false || b) parts.1 ∙ or_false (down_past left.events old.seat.name false) in
    subst (λ h. Follows now h reaction new) (sym (keyed old kept is))
    (subst (λ r. Follows now (with_key old kept) r new) (sym comes_is)
    (record {
      seat = refl;
      towards = refl;
      room = refl;
      key = ap Some same_key;
      guarded = refl;
      quiet = quiet_case old.seat old.towards old.guard now frame kept text (is_dry kept) kept.stop;
      log = log_is ∙ ap (λ (r : Reaction). logged old.log r.put) comes_is;
      next = next ∙ next_case old.seat old.towards old.guard now frame kept text (is_dry kept) kept.stop;
      stop = stop ∙ stop_case old.seat old.towards old.guard now frame kept text (is_dry kept) kept.stop;
      halt = halt_case old.seat old.towards old.guard now frame kept text (is_dry kept) kept.stop (halt_in old.guard);
      down = now_down ∙ ap (down_past left.events old.seat.name) (sym (ap (λ b. b || fell_in old.guard) was_up ∙ parts.1));
      told = λ to time later. ap (is_withheld time to) (told_case old.seat old.towards old.guard now frame kept text (is_dry kept) kept.stop (shut_in old.guard));
      untold = λ plain. told_case old.seat old.towards old.guard now frame kept text (is_dry kept) kept.stop [];
    }))
  where
    or_false : (b : Bool) → (b || false) ≡ b
    or_false true = refl
    or_false false = refl
