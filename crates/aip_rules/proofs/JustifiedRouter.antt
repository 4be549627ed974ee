-- What a router does where a flight arrives at it is backed.
use Rattle.std.proofs.Common.{◌≡◌, ◌≢◌, ℕ, ◌+◌, ◌<◌, ◌≤◌, Bool, true, false, cond, not, ◌&&◌, List, [], ◌∷◌, ◌++◌, Option, Some, None, refl, sym, ap, subst, ◌∙◌, inl, inr, arith, true≢false}
use Rattle.std.proofs.lemmas.Bool.Decides.{nat_tests}
use Rattle.std.specs.Cmp.{first_so, second_so}
use Rattle.std.specs.Prelude.{nat_le}
use Rattle.std.specs.Str.{bytes_eq}
use Rattle.aip_addr.specs.declared.ids.Address.{Address}
use Rattle.aip_frame.specs.declared.frame.Frame.{Frame}
use Rattle.aip_frame.specs.declared.frame.Kind.TheVariants.{Challenge, Response}
use Rattle.aip_frame.specs.Frame.{frame_of}
use Rattle.aip_event.specs.declared.event.Cause.{Cause}
use Rattle.aip_event.specs.declared.event.Cause.TheVariants as cause
use Rattle.aip_event.specs.declared.event.Event.TheVariants as event
use Rattle.aip_event.specs.declared.event.Reason.TheVariants as reason
use Rattle.aip_event.specs.declared.input.Input.TheVariants.{Deliver}
use Rattle.aip_event.specs.declared.input.Target.TheVariants as target
use Rattle.accept_cache.specs.Keys.{pair_of, wildcard_of}
use Rattle.accept_cache.specs.Recency.{Proved}
use Rattle.accept_cache.specs.Accepted.{is_fresh_wildcard, fresh_sources, promotes}
use Rattle.verify_packet.specs.declared.responses.Checked.{Checked}
use Rattle.verify_packet.specs.declared.responses.Checked.TheVariants as checked
use Rattle.verify_packet.specs.Response.{response_verdict}
use Rattle.aip_topo.specs.declared.topology.Router.{Router}
use Rattle.aip_topo.specs.declared.topology.Topology.{Topology}
use Rattle.aip_topo.specs.Sound.{IsSound}
use Rattle.aip_rules.specs.declared.Entry.{Entry}
use Rattle.aip_rules.specs.declared.Entry.TheVariants.{Taken, Happened}
use Rattle.aip_rules.specs.declared.Flight.{Flight}
use Rattle.aip_rules.specs.declared.Neighbour.{Neighbour}
use Rattle.aip_rules.specs.declared.Neighbour.TheVariants as neighbour
use Rattle.aip_rules.specs.declared.Verdict.{Verdict}
use Rattle.aip_rules.specs.declared.Verdict.TheVariants.{Forwards, Foreign, Asks}
use Rattle.aip_rules.specs.State.{now_of, flight_at}
use Rattle.aip_addr.specs.Ids.{is_same_address}
use Rattle.aip_rules.specs.Nodes.{neighbour_at}
use Rattle.aip_rules.specs.Routes.{port_to}
use Rattle.aip_rules.specs.Reaction.{dropped}
use Rattle.aip_rules.specs.Accepted.{limits_of, pair_uses, wildcard_uses}
use Rattle.aip_rules.specs.Records.{records_kept, trusts}
use Rattle.aip_rules.specs.Router.{Arrival, source_known, router_key, forwarded, verdict_at, by_verdict, is_challenge, passed, is_link, makes_wildcard, responded, is_response, own_frame, frame_at_router, taken_at_router}
use Rattle.aip_rules.specs.Promises.{IsAtRouter, IsProof, IsTrusted, Answered, ManyAnswered, Justified, ByTrust, ByReversePath, ByAnswer, ByWildcard}
use Rattle.aip_rules.proofs.JustifiedBacked.{IsRouterNamed, ProofIsBacked, WildcardIsBacked, AreBacked, Follow}
use Rattle.aip_rules.proofs.JustifiedProofs.{valid_response}
use Rattle.aip_rules.proofs.JustifiedReasons.{PassesTrust, Reasons, Trusted, Reverse, Fresh, FreshDomain, reasoned, challenges, responses, same_addresses, same_router, either_follows}
use Rattle.aip_rules.proofs.JustifiedUses.{fresh_answered, fresh_made, enough_answered}
use Rattle.aip_rules.proofs.Trusting.{trusted_end}

-- a flight that was put arrives at a router, on a backed trace
pub record Arrives (topo : Topology) (tr : List Entry) (number : ℕ) (flight : Flight) (at : Arrival) : Type 0 where
  pub sound : IsSound topo
  pub backed : AreBacked topo tr
  pub put : flight_at tr number ≡ Some flight
  pub named : IsRouterNamed topo at.self.name at.place at.self
  pub arrives : flight.target ≡ target.Port at.self.name at.port

-- the trace once the flight is delivered
abbrev pub delivering : List Entry → ℕ → List Entry
delivering tr number = Taken (Deliver number) ∷ tr

-- a delivery takes no time
same_now : (tr : List Entry) (number : ℕ) → now_of (delivering tr number) ≡ now_of tr
same_now tr number = omega arith

module _ (topo : Topology) (tr : List Entry) (number : ℕ) (flight : Flight) (at : Arrival) (here : Arrives topo tr number flight at) (frame : Frame) (spelled : frame_of flight.bytes ≡ Some frame) where
  -- what justifies a forward of the frame
  abbrev IsJust : Type 0
  IsJust = Justified topo at.place at.self (delivering tr number) frame.from at.port

  -- a neighbour that passes the test of trust is trusted
  trusted_so : (there : Option Neighbour) → PassesTrust topo (records_kept tr) (now_of tr) at.self there → IsTrusted topo (delivering tr number) at.self there
  trusted_so None t = t
  trusted_so (Some (neighbour.Host name)) t = t
  trusted_so (Some (neighbour.Link other far marked)) t =
      trusted_end topo here.sound (delivering tr number) at.place at.self here.named.there other marked
      (subst (λ n. trusts topo (records_kept tr) n at.self other marked ≡ true) (sym (same_now tr number)) t)

  -- a reason to forward justifies it
  just : Reasons topo (records_kept tr) (now_of tr) at.self (neighbour_at topo at.place at.port) at.port (source_known topo tr at frame.from) → IsJust
  just (Trusted trusted) = ByTrust (trusted_so (neighbour_at topo at.place at.port) trusted)
  just (Reverse link back) = ByReversePath link back
  just (Fresh fresh) =
      ByAnswer (subst (λ n. Answered topo at.place at.self (delivering tr number) frame.from at.port n) (sym (same_now tr number))
      (refl, inr (fresh_answered topo at.place at.self here.named tr here.backed frame.from at.port (now_of tr) fresh)))
  just (FreshDomain link fresh) =
      ByWildcard link (
        refl,
        fresh_made topo at.place at.self here.named tr here.backed frame.from.ad at.port (now_of (delivering tr number))
            (subst (λ n. is_fresh_wildcard (limits_of topo.settings) (wildcard_uses tr at.self.name) n (wildcard_of frame.from.ad at.port) ≡ true) (sym (same_now tr number)) fresh),
      )

  -- a forward follows, where at a checking router it is justified
  forwards : (out : ℕ) (why : Cause) → (at.self.checking ≡ true → frame.kind ≢ Challenge → IsJust)
      → Follow topo (delivering tr number) (forwarded topo at out why frame).events
  forwards out why justified = (
    record {
      flight = flight;
      frame = frame;
      delivered = here.put;
      arrives = here.arrives;
      spelled = spelled;
      justified = λ place self named there checking kind.
          let same = same_router topo at.self.name at.place place at.self self here.named (record { named = named; there = there }) in
          subst (λ p. Justified topo p self (delivering tr number) frame.from at.port) same.0
          (subst (λ (r : Router). Justified topo at.place r (delivering tr number) frame.from at.port) same.1
          (justified (subst (λ (r : Router). r.checking ≡ true) (sym same.1) checking) kind));
    },
    tt,
  )

  verdict_follows : (out : ℕ) (verdict : Verdict) → verdict_at topo tr at frame.from ≡ verdict
      → Follow topo (delivering tr number) (by_verdict topo (router_key topo tr at.place at.self) (now_of tr) at frame out verdict).events
  verdict_follows out (Forwards why) e = forwards out why (λ checking kind. just (reasoned topo (records_kept tr) (now_of tr) at _ (source_known topo tr at frame.from) why e))
  verdict_follows out Foreign e = (tt, tt)
  verdict_follows out (Asks None) e = (tt, tt)
  verdict_follows out (Asks (Some back)) e = (tt, tt)

  passed_follows : (out : Option ℕ) → Follow topo (delivering tr number) (passed topo tr at frame out).events
  passed_follows None = (tt, tt)
  passed_follows (Some out) =
      let judged = by_verdict topo (router_key topo tr at.place at.self) (now_of tr) at frame out (verdict_at topo tr at frame.from) in
      either_follows topo (delivering tr number) (not at.self.checking) (forwarded topo at out cause.Open frame)
      (cond (is_challenge frame.kind) (forwarded topo at out cause.Exempt frame) judged)
      (λ unchecked. forwards out cause.Open (λ checking kind. absurd (true≢false (sym unchecked ∙ ap not checking))))
      (λ t. either_follows topo (delivering tr number) (is_challenge frame.kind) (forwarded topo at out cause.Exempt frame) judged
      (λ exempt. forwards out cause.Exempt (λ checking kind. absurd (kind (challenges frame.kind exempt))))
      (λ other. verdict_follows out (verdict_at topo tr at frame.from) refl))

  module _ (own : frame.to ≡ at.self.address) (response : frame.kind ≡ Response) where
    -- a proof stands under its delivery
    proof_backed : (source : Address) (port : ℕ) → response_verdict (router_key topo tr at.place at.self) (now_of tr) frame ≡ checked.Proved source port
        → ProofIsBacked topo (delivering tr number) at.self.name source port
    proof_backed source port valid = λ place self named now before.
        let same = same_router topo at.self.name at.place place at.self self here.named named in
        let proof : IsProof topo tr at.place at.self source port (flight_at tr number) =
        subst (λ (o : Option Flight). IsProof topo tr at.place at.self source port o) (sym here.put)
        (record { frame = frame; spelled = spelled; arrives = subst (IsAtRouter at.self) (sym here.arrives) refl; own = own; response = response; valid = valid_response topo tr at.place at.self frame source port valid }) in
        let answered : Answered topo at.place at.self (delivering tr number) source port now =
        (refl, inl (proof, subst (λ n. now < n + topo.settings.accept) (same_now tr number) before)) in
        subst (λ p. Answered topo p self (delivering tr number) source port now) same.0
        (subst (λ (r : Router). Answered topo at.place r (delivering tr number) source port now) same.1 answered)

    -- and a wildcard under a threshold of answers, that of the proof among them
    wildcard_backed : (source : Address) (port : ℕ) → ProofIsBacked topo (delivering tr number) at.self.name source port
        → makes_wildcard topo tr at.place at.self source port ≡ true
        → WildcardIsBacked topo (Happened (event.Proved at.self.name source port) ∷ delivering tr number) at.self.name source.ad port
    wildcard_backed source port backed made = λ place self named.
        let same = same_router topo at.self.name at.place place at.self self here.named named in
        let after = Happened (event.Proved at.self.name source port) ∷ delivering tr number in
        let wildcard = wildcard_of source.ad port in
        let uses = λ (now : ℕ). cond (bytes_eq at.self.name at.self.name) (Proved (pair_of source port) now ∷ []) [] ++ pair_uses tr at.self.name in
        let fresh = fresh_sources (limits_of topo.settings) (uses (now_of tr)) (now_of tr) wildcard in
        let promoted = second_so (is_link (neighbour_at topo at.place port)) (promotes (limits_of topo.settings) (uses (now_of tr)) (wildcard_uses tr at.self.name) (now_of tr) wildcard) made in
        let many : nat_le topo.settings.threshold fresh ≡ true = first_so (nat_le topo.settings.threshold fresh)
        (not (is_fresh_wildcard (limits_of topo.settings) (wildcard_uses tr at.self.name) (now_of tr) wildcard)) promoted in
        let enough : topo.settings.threshold ≤ fresh = grind (arith, nat_tests) in
        let answered : ManyAnswered topo at.place at.self after source.ad port =
        enough_answered topo at.place at.self here.named after (backed, here.backed) source.ad port
        (subst (λ n. topo.settings.threshold ≤ fresh_sources (limits_of topo.settings) (uses n) n wildcard) (sym (same_now tr number)) enough) in
        subst (λ p. ManyAnswered topo p self after source.ad port) same.0
        (subst (λ (r : Router). ManyAnswered topo at.place r after source.ad port) same.1 answered)

    responded_follows : (verdict : Checked) → response_verdict (router_key topo tr at.place at.self) (now_of tr) frame ≡ verdict
        → Follow topo (delivering tr number) (responded topo tr at.place at.self verdict).events
    responded_follows (checked.Proved source port) e = (proof_backed source port e, by (makes_wildcard topo tr at.place at.self source port) refl)
      where
        by : (made : Bool) → makes_wildcard topo tr at.place at.self source port ≡ made
            → Follow topo (Happened (event.Proved at.self.name source port) ∷ delivering tr number) (cond made (event.Wild at.self.name source.ad port ∷ []) [])
        by true made = (wildcard_backed source port (proof_backed source port e) made, tt)
        by false made = tt
    responded_follows checked.Body e = (tt, tt)
    responded_follows checked.Other e = (tt, tt)
    responded_follows checked.Old e = (tt, tt)
    responded_follows checked.Tag e = (tt, tt)
    responded_follows checked.Port e = (tt, tt)
    responded_follows checked.Key e = (tt, tt)
    responded_follows checked.Signature e = (tt, tt)

  own_follows : is_same_address at.self.address frame.to ≡ true → Follow topo (delivering tr number) (own_frame topo tr at frame).events
  own_follows own =
      let verdict = response_verdict (router_key topo tr at.place at.self) (now_of tr) frame in
      either_follows topo (delivering tr number) (at.self.checking && is_response frame.kind) (responded topo tr at.place at.self verdict) (dropped at.self.name reason.Mine)
      (λ t. responded_follows (sym (same_addresses at.self.address frame.to own)) (responses frame.kind (second_so at.self.checking (is_response frame.kind) t)) verdict refl)
      (λ t. (tt, tt))

  frame_follows : Follow topo (delivering tr number) (frame_at_router topo tr at frame).events
  frame_follows =
      let on = passed topo tr at frame (port_to topo tr at.place at.self frame.to) in
      either_follows topo (delivering tr number) (is_same_address at.self.address frame.to) (own_frame topo tr at frame)
      (cond (nat_le frame.hop 1) (dropped at.self.name reason.Hops) on)
      own_follows
      (λ other. either_follows topo (delivering tr number) (nat_le frame.hop 1) (dropped at.self.name reason.Hops) on (λ t. (tt, tt))
      (λ t. passed_follows (port_to topo tr at.place at.self frame.to)))

-- what a router does where bytes arrive
pub router_follows : (topo : Topology) (tr : List Entry) (number : ℕ) (flight : Flight) (at : Arrival) → Arrives topo tr number flight at
    → (frame : Option Frame) → frame_of flight.bytes ≡ frame → Follow topo (delivering tr number) (taken_at_router topo tr at frame).events
router_follows topo tr number flight at here None spelled = (tt, tt)
router_follows topo tr number flight at here (Some frame) spelled = frame_follows topo tr number flight at here frame spelled
