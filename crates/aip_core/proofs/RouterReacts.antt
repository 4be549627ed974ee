-- Where what a router keeps stands for a trace, it reacts as the rules say.
use Rattle.std.proofs.Common.{◌≡◌, ℕ, ◌&&◌, true, cond, not, List, [], ◌∷◌, ◌++◌, Option, Some, None, refl, sym, ap, ◌∙◌}
use Rattle.std.specs.Prelude.{nat_le}
use Rattle.std.specs.Str.{bytes_eq}
use Rattle.std.proofs.lemmas.Slice.Eq.{bytes_eq-Decides}
use Rattle.aip_addr.specs.declared.ids.Address.{Address}
use Rattle.aip_frame.specs.declared.frame.Frame.{Frame}
use Rattle.aip_frame.specs.Frame.{frame_of}
use Rattle.aip_event.specs.declared.event.Event.TheVariants as event
use Rattle.aip_event.specs.declared.event.Cause.TheVariants as cause
use Rattle.aip_event.specs.declared.event.Reason.TheVariants as reason
use Rattle.aip_topo.specs.declared.topology.Router.{Router}
use Rattle.aip_topo.specs.declared.topology.Topology.{Topology}
use Rattle.accept_cache.specs.declared.keys.Pair.{Pair}
use Rattle.accept_cache.specs.declared.keys.Wildcard.{Wildcard}
use Rattle.accept_cache.specs.declared.keys.Limits.{Limits}
use Rattle.accept_cache.specs.Keys.{pair_of, wildcard_of}
use Rattle.accept_cache.specs.Recency.{Proved}
use Rattle.accept_cache.specs.Accepted.{is_fresh_pair, is_fresh_wildcard, promotes}
use Rattle.accept_cache.specs.Kept.{has_fresh, has_fresh_wild, is_promoted, after_proved}
use Rattle.accept_cache.proofs.Laws.{proof_stands, has_fresh_agrees, has_fresh_wild_agrees, is_promoted_agrees}
use Rattle.verify_packet.specs.declared.responses.Checked.{Checked}
use Rattle.verify_packet.specs.declared.responses.Checked.TheVariants as checked
use Rattle.verify_packet.specs.Response.{response_verdict}
use Rattle.aip_rules.specs.declared.Entry.{Entry}
use Rattle.aip_rules.specs.declared.Entry.TheVariants.{Happened}
use Rattle.aip_rules.specs.declared.Reaction.{Reaction}
use Rattle.aip_rules.specs.State.{now_of}
use Rattle.aip_rules.specs.Accepted.{limits_of, pair_uses, wildcard_uses}
use Rattle.aip_addr.specs.Ids.{is_same_address}
use Rattle.aip_rules.specs.Nodes.{neighbour_at}
use Rattle.aip_rules.specs.Routes.{links_now, port_to}
use Rattle.aip_rules.specs.Reaction.{dropped}
use Rattle.aip_rules.specs.Records.{records_kept}
use Rattle.aip_rules.specs.Router.{Arrival, key_after, router_key, forwarded, by_verdict, verdict_by, verdict_at, is_challenge, is_link, is_response, checked_frame, passed, proved, makes_wildcard, responded, own_frame, frame_at_router, taken_at_router, at_router}
use Rattle.aip_core.specs.RouterMachine.{Basis, RouterState, kept_verdict, kept_checked, kept_passed, kept_wild, kept_responded, kept_own, kept_frame, kept_taken, kept_at_router}
use Rattle.aip_core.specs.RouterStands.{RouterStands}

-- a name is the same as itself
pub same_name : (name : List ℕ) → bytes_eq name name ≡ true
same_name name = (bytes_eq-Decides name name).1 refl

module _ (topo : Topology) (tr : List Entry) (state : RouterState) where
  -- what a router goes by after the trace, where it keeps this
  abbrev basis : Basis
  basis = record { topo = topo; links = links_now topo tr; records = records_kept tr; state = state; now = now_of tr }

  module _ (self : Router) (stands : RouterStands topo tr self state) where
    fresh_is : (pair : Pair) → has_fresh state.cache pair (now_of tr) ≡ is_fresh_pair (limits_of topo.settings) (pair_uses tr self.name) (now_of tr) pair
    fresh_is pair =
        has_fresh_agrees (pair_uses tr self.name) (wildcard_uses tr self.name) state.cache stands.accepts pair (now_of tr)
        ∙ ap (λ (limits : Limits). is_fresh_pair limits (pair_uses tr self.name) (now_of tr) pair) stands.limits

    wild_is : (wildcard : Wildcard) → has_fresh_wild state.cache wildcard (now_of tr) ≡ is_fresh_wildcard (limits_of topo.settings) (wildcard_uses tr self.name) (now_of tr) wildcard
    wild_is wildcard =
        has_fresh_wild_agrees (pair_uses tr self.name) (wildcard_uses tr self.name) state.cache stands.accepts wildcard (now_of tr)
        ∙ ap (λ (limits : Limits). is_fresh_wildcard limits (wildcard_uses tr self.name) (now_of tr) wildcard) stands.limits

    -- once the source is proved, its domain is promoted where the rules make it a wildcard
    promoted_is : (source : Address) (port : ℕ)
        → is_promoted (after_proved state.cache (pair_of source port) (now_of tr)) (wildcard_of source.ad port) (now_of tr)
        ≡ promotes (limits_of topo.settings) (pair_uses (Happened (event.Proved self.name source port) ∷ tr) self.name) (wildcard_uses tr self.name) (now_of tr) (wildcard_of source.ad port)
    promoted_is source port =
        let pair = pair_of source port in
        let uses = pair_uses tr self.name in
        let wilds = wildcard_uses tr self.name in
        is_promoted_agrees (Proved pair (now_of tr) ∷ uses) wilds (after_proved state.cache pair (now_of tr))
        (proof_stands uses wilds state.cache stands.accepts pair (now_of tr)) (wildcard_of source.ad port) (now_of tr)
        ∙ ap (λ (limits : Limits). promotes limits (Proved pair (now_of tr) ∷ uses) wilds (now_of tr) (wildcard_of source.ad port)) stands.limits
        ∙ ap (λ b. promotes (limits_of topo.settings) (cond b (Proved pair (now_of tr) ∷ []) [] ++ uses) wilds (now_of tr) (wildcard_of source.ad port)) (sym (same_name self.name))

    makes_is : (place : ℕ) (source : Address) (port : ℕ) → kept_wild basis place source port ≡ makes_wildcard topo tr place self source port
    makes_is place source port = ap (λ b. is_link (neighbour_at topo place port) && b) (promoted_is source port)

    responded_is : (place : ℕ) (verdict : Checked) → kept_responded basis place self verdict ≡ responded topo tr place self verdict
    responded_is place (checked.Proved source port) = ap (proved self source port) (makes_is place source port)
    responded_is place checked.Body = refl
    responded_is place checked.Other = refl
    responded_is place checked.Old = refl
    responded_is place checked.Tag = refl
    responded_is place checked.Port = refl
    responded_is place checked.Key = refl
    responded_is place checked.Signature = refl

  module _ (at : Arrival) (stands : RouterStands topo tr at.self state) where
    verdict_is : (source : Address) → kept_verdict basis at (neighbour_at topo at.place at.port) source ≡ verdict_at topo tr at source
    verdict_is source =
        let fresh = fresh_is at.self stands (pair_of source at.port) in
        let wild = wild_is at.self stands (wildcard_of source.ad at.port) in
        λ i. verdict_by topo (records_kept tr) (now_of tr) at (neighbour_at topo at.place at.port) (record {
          address = source;
          back = port_to topo tr at.place at.self source;
          fresh = fresh i;
          wild = wild i;
        })

    checked_is : (frame : Frame) (out : ℕ) → kept_checked basis at frame out ≡ checked_frame topo tr at frame out
    checked_is frame out =
        let verdict = verdict_is frame.from in
        let boot = stands.boot in
        λ i. cond (not at.self.checking) (forwarded topo at out cause.Open frame)
        (cond (is_challenge frame.kind) (forwarded topo at out cause.Exempt frame)
        (by_verdict topo (key_after topo (boot i) at.place at.self) (now_of tr) at frame out (verdict i)))

    passed_is : (frame : Frame) (out : Option ℕ) → kept_passed basis at frame out ≡ passed topo tr at frame out
    passed_is frame None = refl
    passed_is frame (Some out) = checked_is frame out

    own_is : (frame : Frame) → kept_own basis at frame ≡ own_frame topo tr at frame
    own_is frame =
        let test = at.self.checking && is_response frame.kind in
        let mine = dropped at.self.name reason.Mine in
        ap (λ boot. cond test (kept_responded basis at.place at.self (response_verdict (key_after topo boot at.place at.self) (now_of tr) frame)) mine) stands.boot
        ∙ ap (λ (reaction : Reaction). cond test reaction mine) (responded_is at.self stands at.place (response_verdict (router_key topo tr at.place at.self) (now_of tr) frame))

    frame_is : (frame : Frame) → kept_frame basis at frame ≡ frame_at_router topo tr at frame
    frame_is frame =
        let own = own_is frame in
        let passing = passed_is frame (port_to topo tr at.place at.self frame.to) in
        λ i. cond (is_same_address at.self.address frame.to) (own i) (cond (nat_le frame.hop 1) (dropped at.self.name reason.Hops) (passing i))

    taken_is : (frame : Option Frame) → kept_taken basis at frame ≡ taken_at_router topo tr at frame
    taken_is None = refl
    taken_is (Some frame) = frame_is frame

-- the reaction to bytes, by what stands for the trace, is the one that the rules give
pub reacts : (topo : Topology) (tr : List Entry) (basis : Basis) (at : Arrival) → RouterStands topo tr at.self basis.state → (bytes : List ℕ)
    → basis.topo ≡ topo → basis.links ≡ links_now topo tr → basis.records ≡ records_kept tr → basis.now ≡ now_of tr → kept_at_router basis at bytes ≡ at_router topo tr at bytes
reacts topo tr basis at stands bytes here over kept at_time =
    let same : kept_at_router basis at bytes ≡ kept_at_router (record { topo = topo; links = links_now topo tr; records = records_kept tr; state = basis.state; now = now_of tr }) at bytes =
    λ i. kept_at_router (record { topo = here i; links = over i; records = kept i; state = basis.state; now = at_time i }) at bytes in
    same ∙ taken_is topo tr basis.state at stands (frame_of bytes)
