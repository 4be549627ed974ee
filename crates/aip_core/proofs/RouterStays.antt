-- Where what a router keeps stands for a trace, what it keeps after bytes reached it stands for the trace with what came.
use Rattle.std.proofs.Common.{◌≡◌, ℕ, ◌&&◌, Bool, true, false, cond, not, List, [], ◌∷◌, ◌++◌, Option, Some, None, refl, sym, ap, subst, ◌∙◌, zero-add}
use Rattle.std.specs.Prelude.{nat_le}
use Rattle.aip_addr.specs.declared.ids.Address.{Address}
use Rattle.aip_frame.specs.declared.frame.Frame.{Frame}
use Rattle.aip_frame.specs.Frame.{frame_of, frame_bytes}
use Rattle.aip_event.specs.declared.event.Event.TheVariants as event
use Rattle.aip_event.specs.declared.event.Cause.{Cause}
use Rattle.aip_event.specs.declared.event.Cause.TheVariants as cause
use Rattle.aip_event.specs.declared.event.Reason.{Reason}
use Rattle.aip_event.specs.declared.event.Reason.TheVariants as reason
use Rattle.aip_event.specs.declared.input.Input.TheVariants.{Deliver}
use Rattle.aip_topo.specs.declared.topology.Topology.{Topology}
use Rattle.aip_addr.specs.Ids.{is_same_id, is_same_address}
use Rattle.accept_cache.specs.Keys.{pair_of, wildcard_of}
use Rattle.accept_cache.specs.Recency.{Proved}
use Rattle.accept_cache.specs.Accepted.{PairUses, WildcardUses}
use Rattle.accept_cache.specs.Kept.{Kept, after_hit, after_hit_wild, after_proved, after_promote, has_fresh, has_fresh_wild}
use Rattle.accept_cache.specs.StandsFor.{CacheStandsFor}
use Rattle.accept_cache.proofs.Laws.{proof_stands, hit_stands, hit_wild_stands, promotion_stands}
use Rattle.first_hop.specs.Verdict.{host_verdict}
use Rattle.border_check.specs.Verdict.{port_verdict, leads_back}
use Rattle.verify_packet.specs.declared.challenges.RouterKey.{RouterKey}
use Rattle.verify_packet.specs.declared.responses.Checked.{Checked}
use Rattle.verify_packet.specs.declared.responses.Checked.TheVariants as checked
use Rattle.aip_rules.specs.declared.Entry.{Entry}
use Rattle.aip_rules.specs.declared.Entry.TheVariants.{Taken, Happened}
use Rattle.aip_rules.specs.declared.Flight.{Flight}
use Rattle.aip_rules.specs.declared.Neighbour.{Neighbour}
use Rattle.aip_rules.specs.declared.Neighbour.TheVariants as neighbour
use Rattle.aip_rules.specs.declared.Reaction.{Reaction}
use Rattle.aip_rules.specs.declared.Verdict.{Verdict}
use Rattle.aip_rules.specs.Accepted.{hit_of_pair, hit_of_wildcard, pair_uses, wildcard_uses}
use Rattle.aip_rules.specs.State.{now_of, flight_at, frame_in, delivered_frame}
use Rattle.aip_rules.specs.Nodes.{neighbour_at, target_at}
use Rattle.aip_rules.specs.Routes.{port_over}
use Rattle.aip_rules.specs.Reaction.{dropped, numbered}
use Rattle.aip_rules.specs.Records.{trusts}
use Rattle.aip_rules.specs.Router.{Arrival, key_after, one_hop_less, forwarded, asked, of_host, of_border, by_verdict, is_challenge, is_response, proved, refused}
use Rattle.aip_rules.specs.Step.{with_events, after_step}
use Rattle.aip_core.specs.RouterMachine.{Basis, RouterState, kept_verdict, kept_checked, kept_passed, kept_wild, kept_responded, kept_answer, kept_own, kept_frame, kept_taken, kept_at_router, after_verdict, after_checked, after_passed, after_response, after_own, after_frame, after_taken, after_arrival}
use Rattle.aip_core.specs.RouterStands.{RouterStands}
use Rattle.aip_core.proofs.RouterReacts.{same_name}
use Rattle.aip_core.proofs.RouterUses.{accepts_same, unused, taken}

-- one part, by a test that decides two things at once
both_ways : {A B : Type 0} (P : A → B → Type 0) (test : Bool) (a c : A) (b d : B) → P a b → P c d → P (cond test a c) (cond test b d)
both_ways P true a c b d yes_ no_ = yes_
both_ways P false a c b d yes_ no_ = no_

-- what a router goes by at a base trace, whose newest input is a delivery to it, and the number of what it puts
module _ (at : Arrival) (basis : Basis) (n : ℕ) (base : List Entry) (stands : RouterStands basis.topo base at.self basis.state) where
  -- what the router keeps after a reaction stands for the trace with its events
  abbrev Leaves : Reaction → RouterState → Type 0
  Leaves reaction after = RouterStands basis.topo (with_events (numbered n reaction) base) at.self after

  drops : (why : Reason) → Leaves (dropped at.self.name why) basis.state
  drops why = unused basis.topo at.self basis.state (event.Drop at.self.name why) base refl stands

  refuses : (verdict : Checked) → Leaves (refused at.self verdict) basis.state
  refuses verdict = unused basis.topo at.self basis.state _ base refl stands

  asks : (key : RouterKey) (frame : Frame) (back : Option ℕ) → Leaves (asked basis.topo key basis.now at frame back) basis.state
  asks key frame None = drops reason.NoBack
  asks key frame (Some back) =
      unused basis.topo at.self basis.state _ (Happened (event.Ask at.self.name at.port back) ∷ base) refl
      (unused basis.topo at.self basis.state (event.Ask at.self.name at.port back) base refl stands)

  -- ---- a source is proved

  module _ (is_now : basis.now ≡ now_of base) where
    proved_pair : (source : Address) (port : ℕ) → Proved (pair_of source port) basis.now ∷ pair_uses base at.self.name ≡ pair_uses (Happened (event.Proved at.self.name source port) ∷ base) at.self.name
    proved_pair source port =
        ap (λ time. Proved (pair_of source port) time ∷ pair_uses base at.self.name) is_now
        ∙ ap (λ b. cond b (Proved (pair_of source port) (now_of base) ∷ []) [] ++ pair_uses base at.self.name) (sym (same_name at.self.name))

    made_wildcard : (source : Address) (port : ℕ)
        → Proved (wildcard_of source.ad port) basis.now ∷ wildcard_uses base at.self.name
        ≡ wildcard_uses (Happened (event.Wild at.self.name source.ad port) ∷ Happened (event.Proved at.self.name source port) ∷ base) at.self.name
    made_wildcard source port =
        ap (λ time. Proved (wildcard_of source.ad port) time ∷ wildcard_uses base at.self.name) is_now
        ∙ ap (λ b. cond b (Proved (wildcard_of source.ad port) (now_of base) ∷ []) [] ++ wildcard_uses base at.self.name) (sym (same_name at.self.name))

    proves : (source : Address) (port : ℕ) (wild : Bool)
        → Leaves (proved at.self source port wild) (record basis.state { cache = after_promote (after_proved basis.state.cache (pair_of source port) basis.now) (wildcard_of source.ad port) basis.now wild })
    proves source port false = record {
      boot = stands.boot;
      limits = stands.limits;
      accepts = accepts_same (record basis.state { cache = after_proved basis.state.cache (pair_of source port) basis.now }) _ _ _ _ (proved_pair source port) refl
          (proof_stands (pair_uses base at.self.name) (wildcard_uses base at.self.name) basis.state.cache stands.accepts (pair_of source port) basis.now);
    }
    proves source port true =
        let uses = pair_uses base at.self.name in
        let wilds = wildcard_uses base at.self.name in
        let pair = pair_of source port in
        record {
          boot = stands.boot;
          limits = stands.limits;
          accepts = accepts_same (record basis.state { cache = after_promote (after_proved basis.state.cache pair basis.now) (wildcard_of source.ad port) basis.now true }) _ _ _ _ (proved_pair source port) (made_wildcard source port)
              (promotion_stands (Proved pair basis.now ∷ uses) wilds (after_proved basis.state.cache pair basis.now) (proof_stands uses wilds basis.state.cache stands.accepts pair basis.now) (wildcard_of source.ad port) basis.now true);
        }

    responds : (verdict : Checked) → Leaves (kept_responded basis at.place at.self verdict) (after_response basis at.place verdict)
    responds (checked.Proved source port) = proves source port (kept_wild basis at.place source port)
    responds checked.Body = refuses checked.Body
    responds checked.Other = refuses checked.Other
    responds checked.Old = refuses checked.Old
    responds checked.Tag = refuses checked.Tag
    responds checked.Port = refuses checked.Port
    responds checked.Key = refuses checked.Key
    responds checked.Signature = refuses checked.Signature

    owns : (frame : Frame) → Leaves (kept_own basis at frame) (after_own basis at frame)
    owns frame =
        both_ways Leaves (at.self.checking && is_response frame.kind) _ _ _ _ (responds (kept_answer basis at frame)) (drops reason.Mine)

  -- ---- a frame is forwarded

  module _ (frame : Frame) (delivered : delivered_frame base ≡ Some frame) where
    forwards : (out : ℕ) (why : Cause) (cache : Kept) → cache.limits ≡ basis.state.cache.limits
        → CacheStandsFor (hit_of_pair why (Some frame) at.port ++ pair_uses base at.self.name) (hit_of_wildcard why (Some frame) at.port ++ wildcard_uses base at.self.name) cache
        → Leaves (forwarded basis.topo at out why frame) (record { boot = basis.state.boot; cache = cache })
    forwards out why cache limits accepts =
        let after : RouterState = record { boot = basis.state.boot; cache = cache } in
        let forward = event.Forward at.self.name at.port out why in
        let pairs : hit_of_pair why (Some frame) at.port ++ pair_uses base at.self.name ≡ pair_uses (Happened forward ∷ base) at.self.name =
        ap (λ (f : Option Frame). hit_of_pair why f at.port ++ pair_uses base at.self.name) (sym delivered)
        ∙ ap (λ b. cond b (hit_of_pair why (delivered_frame base) at.port) [] ++ pair_uses base at.self.name) (sym (same_name at.self.name)) in
        let domains : hit_of_wildcard why (Some frame) at.port ++ wildcard_uses base at.self.name ≡ wildcard_uses (Happened forward ∷ base) at.self.name =
        ap (λ (f : Option Frame). hit_of_wildcard why f at.port ++ wildcard_uses base at.self.name) (sym delivered)
        ∙ ap (λ b. cond b (hit_of_wildcard why (delivered_frame base) at.port) [] ++ wildcard_uses base at.self.name) (sym (same_name at.self.name)) in
        unused basis.topo at.self after (event.Put n (target_at basis.topo at.place out) (frame_bytes (one_hop_less frame))) (Happened forward ∷ base) refl
        (record { boot = stands.boot; limits = limits ∙ stands.limits; accepts = accepts_same after _ _ _ _ pairs domains accepts })

    -- for a cause that is no hit
    forwards_on : (out : ℕ) (why : Cause) → hit_of_pair why (Some frame) at.port ≡ [] → hit_of_wildcard why (Some frame) at.port ≡ [] → Leaves (forwarded basis.topo at out why frame) basis.state
    forwards_on out why no_pair no_domain =
        forwards out why basis.state.cache refl
        (accepts_same basis.state _ _ _ _ (sym (ap (λ (us : PairUses). us ++ pair_uses base at.self.name) no_pair)) (sym (ap (λ (ws : WildcardUses). ws ++ wildcard_uses base at.self.name) no_domain)) stands.accepts)

    -- because its source is fresh, which is hit
    forwards_proved : (out : ℕ) → true ≡ has_fresh basis.state.cache (pair_of frame.from at.port) basis.now
        → Leaves (forwarded basis.topo at out cause.Proved frame) (record basis.state { cache = after_hit basis.state.cache (pair_of frame.from at.port) true })
    forwards_proved out fresh =
        forwards out cause.Proved (after_hit basis.state.cache (pair_of frame.from at.port) true) refl
        (hit_stands (pair_uses base at.self.name) (wildcard_uses base at.self.name) basis.state.cache stands.accepts (pair_of frame.from at.port) basis.now true fresh)

    -- because its source's domain is, which is hit
    forwards_wild : (out : ℕ) → true ≡ has_fresh_wild basis.state.cache (wildcard_of frame.from.ad at.port) basis.now
        → Leaves (forwarded basis.topo at out cause.Wild frame) (record basis.state { cache = after_hit_wild basis.state.cache (wildcard_of frame.from.ad at.port) true })
    forwards_wild out fresh =
        forwards out cause.Wild (after_hit_wild basis.state.cache (wildcard_of frame.from.ad at.port) true) refl
        (hit_wild_stands (pair_uses base at.self.name) (wildcard_uses base at.self.name) basis.state.cache stands.accepts (wildcard_of frame.from.ad at.port) basis.now true fresh)

    module _ (key : RouterKey) (out : ℕ) where
      -- what a verdict leaves
      abbrev Judged : Verdict → Type 0
      Judged verdict = Leaves (by_verdict basis.topo key basis.now at frame out verdict) (after_verdict basis.state frame.from at.port verdict)

      at_host : (foreign fresh : Bool) → fresh ≡ has_fresh basis.state.cache (pair_of frame.from at.port) basis.now → Judged (of_host at.port (host_verdict foreign fresh))
      at_host true fresh is = drops reason.Foreign
      at_host false true is = forwards_proved out is
      at_host false false is = asks key frame (Some at.port)

      at_link : (back : Option ℕ) (trusted reverse fresh wild : Bool) → fresh ≡ has_fresh basis.state.cache (pair_of frame.from at.port) basis.now
          → wild ≡ has_fresh_wild basis.state.cache (wildcard_of frame.from.ad at.port) basis.now → Judged (of_border back (port_verdict trusted reverse fresh wild))
      at_link back true reverse fresh wild is made = forwards_on out cause.Trusted refl refl
      at_link back false true fresh wild is made = forwards_on out cause.Reverse refl refl
      at_link back false false true wild is made = forwards_proved out is
      at_link back false false false true is made = forwards_wild out made
      at_link back false false false false is made = asks key frame back

      judges : (found : Option Neighbour) → Judged (kept_verdict basis at found frame.from)
      judges None = asks key frame (port_over basis.topo basis.links at.place at.self frame.from)
      judges (Some (neighbour.Host name)) = at_host (not (is_same_id frame.from.ad at.self.address.ad)) (has_fresh basis.state.cache (pair_of frame.from at.port) basis.now) refl
      judges (Some (neighbour.Link other far marked)) =
          let back = port_over basis.topo basis.links at.place at.self frame.from in
          at_link back (trusts basis.topo basis.records basis.now at.self other marked) (leads_back back at.port)
          (has_fresh basis.state.cache (pair_of frame.from at.port) basis.now) (has_fresh_wild basis.state.cache (wildcard_of frame.from.ad at.port) basis.now) refl refl

    checks : (out : ℕ) → Leaves (kept_checked basis at frame out) (after_checked basis at frame)
    checks out =
        both_ways Leaves (not at.self.checking) _ _ _ _ (forwards_on out cause.Open refl refl)
        (both_ways Leaves (is_challenge frame.kind) _ _ _ _ (forwards_on out cause.Exempt refl refl)
        (judges (key_after basis.topo basis.state.boot at.place at.self) out (neighbour_at basis.topo at.place at.port)))

    passes : (out : Option ℕ) → Leaves (kept_passed basis at frame out) (after_passed basis at frame out)
    passes None = drops reason.NoRoute
    passes (Some out) = checks out

    takes : basis.now ≡ now_of base → Leaves (kept_frame basis at frame) (after_frame basis at frame)
    takes is_now =
        both_ways Leaves (is_same_address at.self.address frame.to) _ _ _ _ (owns is_now frame)
        (both_ways Leaves (nat_le frame.hop 1) _ _ _ _ (drops reason.Hops) (passes (port_over basis.topo basis.links at.place at.self frame.to)))

  taken_leaves : (frame : Option Frame) → delivered_frame base ≡ frame → basis.now ≡ now_of base → Leaves (kept_taken basis at frame) (after_taken basis at frame)
  taken_leaves None delivered is_now = drops reason.Bad
  taken_leaves (Some frame) delivered is_now = takes frame delivered is_now

-- what a router keeps after a delivery stands for the trace with it and the events of the reaction, whatever the number of
-- what is put
pub stays : (topo : Topology) (tr : List Entry) (at : Arrival) (basis : Basis) (n k : ℕ) (flight : Flight) (bytes : List ℕ)
    → RouterStands topo tr at.self basis.state → basis.topo ≡ topo → basis.now ≡ now_of tr → flight_at tr k ≡ Some flight → flight.bytes ≡ bytes
    → RouterStands topo (after_step tr (Deliver k) (numbered n (kept_at_router basis at bytes))) at.self (after_arrival basis at bytes)
stays topo tr at basis n k flight bytes stands here is_now put same =
    let before : RouterStands basis.topo (Taken (Deliver k) ∷ tr) at.self basis.state =
    subst (λ (t : Topology). RouterStands t (Taken (Deliver k) ∷ tr) at.self basis.state) (sym here) (taken topo at.self basis.state (Deliver k) tr refl stands) in
    subst (λ (t : Topology). RouterStands t (after_step tr (Deliver k) (numbered n (kept_at_router basis at bytes))) at.self (after_arrival basis at bytes)) here
    (taken_leaves at basis n (Taken (Deliver k) ∷ tr) before (frame_of bytes)
    (ap frame_in put ∙ ap frame_of same)
    (is_now ∙ sym (zero-add (now_of tr))))
