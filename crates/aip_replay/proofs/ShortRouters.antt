-- What a router does has short words.
use Rattle.std.proofs.Common.{◌≡◌, ℕ, ◌&&◌, Bool, true, false, cond, not, List, length, Option, Some, None, refl, arith, lit<}
use Rattle.std.specs.Prelude.{IfSome, nat_le, nat_lt}
use Rattle.std.proofs.lemmas.Bool.{cond_both, leb-false}
use Rattle.aip_addr.specs.Ids.{is_owner, is_same_address, is_same_id}
use Rattle.aip_addr.specs.declared.ids.Address.{Address}
use Rattle.aip_frame.specs.declared.frame.Frame.{Frame}
use Rattle.aip_frame.specs.Frame.{Fits, IsFrame, frame_of}
use Rattle.aip_frame.proofs.Frames.{sound as frame_sound}
use Rattle.aip_event.specs.declared.event.Cause.{Cause}
use Rattle.aip_event.specs.declared.event.Cause.TheVariants as cause
use Rattle.aip_event.specs.declared.event.Event.TheVariants as event
use Rattle.aip_event.specs.declared.event.Reason.{Reason}
use Rattle.aip_event.specs.declared.event.Reason.TheVariants as reason
use Rattle.aip_topo.specs.Sound.{IsSound}
use Rattle.aip_topo.specs.declared.topology.Topology.{Topology}
use Rattle.first_hop.specs.declared.HostVerdict.{HostVerdict}
use Rattle.first_hop.specs.declared.HostVerdict.TheVariants as host
use Rattle.first_hop.specs.Verdict.{host_verdict}
use Rattle.border_check.specs.declared.PortVerdict.{PortVerdict}
use Rattle.border_check.specs.declared.PortVerdict.TheVariants as border
use Rattle.border_check.specs.Verdict.{leads_back, port_verdict}
use Rattle.lms_core.specs.Verify.{is_valid_signature}
use Rattle.aip_registry.specs.declared.records.Record.{Record}
use Rattle.verify_packet.specs.Challenge.{asked_in, epoch_at}
use Rattle.verify_packet.specs.Response.{answer_verdict, challenge_in, has_tag, is_asked, is_current, key_in, response_text_of, response_verdict, signature_in}
use Rattle.verify_packet.specs.declared.challenges.RouterKey.{RouterKey}
use Rattle.verify_packet.specs.declared.responses.Checked.{Checked}
use Rattle.verify_packet.specs.declared.responses.Checked.TheVariants as checked
use Rattle.aip_rules.specs.declared.Entry.{Entry}
use Rattle.aip_rules.specs.declared.Neighbour.{Neighbour}
use Rattle.aip_rules.specs.declared.Neighbour.TheVariants as neighbour
use Rattle.aip_rules.specs.declared.Verdict.{Verdict}
use Rattle.aip_rules.specs.declared.Verdict.TheVariants.{Asks, Foreign, Forwards}
use Rattle.aip_rules.specs.Nodes.{neighbour_at}
use Rattle.aip_rules.specs.Reaction.{dropped}
use Rattle.aip_rules.specs.Records.{records_kept, trusts}
use Rattle.aip_rules.specs.Router.{Arrival, SourceKnown, asked, at_router, by_verdict, challenge_frame, checked_frame, forwarded, frame_at_router, is_challenge, is_response, makes_wildcard, of_border, of_host, own_frame, passed, proved, responded, router_key, source_known, taken_at_router, verdict_at, verdict_by}
use Rattle.aip_rules.specs.Routes.{port_to}
use Rattle.aip_rules.specs.State.{now_of}
use Rattle.aip_rules.proofs.Sizes.{IsSizedAddress}
use Rattle.aip_replay.proofs.Brief.{AreBrief, brief_less, brief_other}
use Rattle.aip_replay.proofs.Seats.{few_at, port_low, target_short}
use Rattle.aip_replay.proofs.Short.{IsBrief, IsLow, IsShortName}
use Rattle.aip_replay.proofs.ShortHosts.{IsShortReaction, happens_short}

-- ## Verdicts

-- the port by which a verdict asks is low
abbrev IsLowVerdict : Verdict → Type 0
IsLowVerdict (Forwards why) = Unit {0}
IsLowVerdict Foreign = Unit {0}
IsLowVerdict (Asks back) = IfSome back IsLow

host_low : (port : ℕ) (verdict : HostVerdict) → IsLow port → IsLowVerdict (of_host port verdict)
host_low port host.Foreign low = tt
host_low port host.Proved low = tt
host_low port host.Ask low = low

border_low : (back : Option ℕ) (verdict : PortVerdict) → IfSome back IsLow → IsLowVerdict (of_border back verdict)
border_low back border.Trusted low = tt
border_low back border.Reverse low = tt
border_low back border.Proved low = tt
border_low back border.Wild low = tt
border_low back border.Ask low = low

verdict_low : (topo : Topology) (kept : List Record) (now : ℕ) (at : Arrival) (found : Option Neighbour) (source : SourceKnown) → IsLow at.port → IfSome source.back IsLow
    → IsLowVerdict (verdict_by topo kept now at found source)
verdict_low topo kept now at None source port low = low
verdict_low topo kept now at (Some (neighbour.Host name)) source port low = host_low at.port (host_verdict (not (is_same_id source.address.ad at.self.address.ad)) source.fresh) port
verdict_low topo kept now at (Some (neighbour.Link other far marked)) source port low =
    border_low source.back (port_verdict (trusts topo kept now at.self other marked) (leads_back source.back at.port) source.fresh source.wild) low

-- ## Responses

-- a source that is proved has ids of their size, and its port a low number
abbrev IsLowChecked : Checked → Type 0
IsLowChecked (checked.Proved source port) = IsSizedAddress source × IsLow port
IsLowChecked checked.Body = Unit {0}
IsLowChecked checked.Other = Unit {0}
IsLowChecked checked.Old = Unit {0}
IsLowChecked checked.Tag = Unit {0}
IsLowChecked checked.Port = Unit {0}
IsLowChecked checked.Key = Unit {0}
IsLowChecked checked.Signature = Unit {0}

tests_low : (other old tag high key signed : Bool) (source : Address) (port : ℕ) → IsSizedAddress source → (high ≡ false → IsLow port)
    → IsLowChecked (cond other checked.Other (cond old checked.Old (cond tag checked.Tag (cond high checked.Port (cond key checked.Key (cond signed checked.Signature (checked.Proved source port)))))))
tests_low true old tag high key signed source port sized low = tt
tests_low false true tag high key signed source port sized low = tt
tests_low false false true high key signed source port sized low = tt
tests_low false false false true key signed source port sized low = tt
tests_low false false false false true signed source port sized low = tt
tests_low false false false false false true source port sized low = tt
tests_low false false false false false false source port sized low = (sized, low refl)

answer_low : (router : RouterKey) (now : ℕ) (source : Address) (challenge key signature : List ℕ) → IsLow router.ports → IsSizedAddress source
    → IsLowChecked (answer_verdict router now source challenge key signature)
answer_low router now source challenge key signature few sized =
    let asked = asked_in challenge in
    tests_low (not (is_asked router source asked)) (not (is_current (epoch_at router now) asked.epoch)) (not (has_tag router challenge asked.epoch)) (nat_le router.ports asked.port)
    (not (is_owner key source.eid)) (not (is_valid_signature key (response_text_of challenge) signature)) source asked.port sized
    (λ e. let below = leb-false router.ports asked.port e in omega arith)

response_low : (router : RouterKey) (now : ℕ) (frame : Frame) → IsLow router.ports → IsSizedAddress frame.from → IsLowChecked (response_verdict router now frame)
response_low router now frame few sized =
    cond_both (nat_lt (length frame.body) 210) checked.Body (answer_verdict router now frame.from (challenge_in frame.body) (key_in frame.body) (signature_in frame.body)) IsLowChecked
    (λ e. tt) (λ e. answer_low router now frame.from (challenge_in frame.body) (key_in frame.body) (signature_in frame.body) few sized)

-- ## Frames

module _ (leaves : ℕ) (topo : Topology) (sound : IsSound topo) (tr : List Entry) (at : Arrival) (name : IsShortName at.self.name) (port : IsLow at.port) where
  drops : (why : Reason) → IsShortReaction leaves (dropped at.self.name why)
  drops why = happens_short leaves (event.Drop at.self.name why) name

  proved_short : (source : Address) (p : ℕ) (wild : Bool) → IsSizedAddress source → IsLow p → IsShortReaction leaves (proved at.self source p wild)
  proved_short source p true sized low = record { events = ((name, sized, low), ((name, sized.ad, low), tt)); put = tt }
  proved_short source p false sized low = record { events = ((name, sized, low), tt); put = tt }

  responded_short : (verdict : Checked) → IsLowChecked verdict → IsShortReaction leaves (responded topo tr at.place at.self verdict)
  responded_short (checked.Proved source p) low = proved_short source p (makes_wildcard topo tr at.place at.self source p) low.0 low.1
  responded_short checked.Body low = record { events = ((name, lit< tt), tt); put = tt }
  responded_short checked.Other low = record { events = ((name, lit< tt), tt); put = tt }
  responded_short checked.Old low = record { events = ((name, lit< tt), tt); put = tt }
  responded_short checked.Tag low = record { events = ((name, lit< tt), tt); put = tt }
  responded_short checked.Port low = record { events = ((name, lit< tt), tt); put = tt }
  responded_short checked.Key low = record { events = ((name, lit< tt), tt); put = tt }
  responded_short checked.Signature low = record { events = ((name, lit< tt), tt); put = tt }

  module _ (frame : Frame) (fits : Fits frame) (brief : IsBrief frame) where
    forwarded_short : (out : ℕ) (why : Cause) → IsLow out → IsShortReaction leaves (forwarded topo at out why frame)
    forwarded_short out why low = record {
      events = ((name, port, low), tt);
      put = record { target = target_short topo at.place out sound low; brief = brief_less frame fits brief };
    }

    asked_short : (key : RouterKey) (back : Option ℕ) → IfSome back IsLow → IsShortReaction leaves (asked topo key (now_of tr) at frame back)
    asked_short key None low = drops reason.NoBack
    asked_short key (Some back) low = record {
      events = ((name, port, low), tt);
      put = record {
        target = target_short topo at.place back sound low;
        brief = brief_other (challenge_frame key (now_of tr) at.port frame) (λ e. cc);
      };
    }

    by_short : (key : RouterKey) (out : ℕ) (verdict : Verdict) → IsLow out → IsLowVerdict verdict → IsShortReaction leaves (by_verdict topo key (now_of tr) at frame out verdict)
    by_short key out (Forwards why) low is = forwarded_short out why low
    by_short key out Foreign low is = drops reason.Foreign
    by_short key out (Asks back) low is = asked_short key back is

    checked_short : (out : ℕ) → IsLow out → IsShortReaction leaves (checked_frame topo tr at frame out)
    checked_short out low =
        let key = router_key topo tr at.place at.self in
        let verdict = verdict_at topo tr at frame.from in
        let is = verdict_low topo (records_kept tr) (now_of tr) at (neighbour_at topo at.place at.port) (source_known topo tr at frame.from)
        port (port_low topo tr at.place at.self frame.from sound) in
        let rest = by_verdict topo key (now_of tr) at frame out verdict in
        let closed = cond (is_challenge frame.kind) (forwarded topo at out cause.Exempt frame) rest in
        cond_both (not at.self.checking) (forwarded topo at out cause.Open frame) closed (IsShortReaction leaves)
        (λ e. forwarded_short out cause.Open low)
        (λ e. cond_both (is_challenge frame.kind) (forwarded topo at out cause.Exempt frame) rest (IsShortReaction leaves)
        (λ e. forwarded_short out cause.Exempt low) (λ e. by_short key out verdict low is))

    passed_short : (out : Option ℕ) → IfSome out IsLow → IsShortReaction leaves (passed topo tr at frame out)
    passed_short None low = drops reason.NoRoute
    passed_short (Some out) low = checked_short out low

    own_short : IsShortReaction leaves (own_frame topo tr at frame)
    own_short =
        let key = router_key topo tr at.place at.self in
        let verdict = response_verdict key (now_of tr) frame in
        let from : IsSizedAddress frame.from = record { ad = fits.from_ad; eid = fits.from_eid } in
        cond_both (at.self.checking && is_response frame.kind) (responded topo tr at.place at.self verdict) (dropped at.self.name reason.Mine) (IsShortReaction leaves)
        (λ e. responded_short verdict (response_low key (now_of tr) frame (few_at topo at.place sound) from)) (λ e. drops reason.Mine)

    frame_short : IsShortReaction leaves (frame_at_router topo tr at frame)
    frame_short =
        let out = port_to topo tr at.place at.self frame.to in
        let hops = cond (nat_le frame.hop 1) (dropped at.self.name reason.Hops) (passed topo tr at frame out) in
        cond_both (is_same_address at.self.address frame.to) (own_frame topo tr at frame) hops (IsShortReaction leaves)
        (λ e. own_short)
        (λ e. cond_both (nat_le frame.hop 1) (dropped at.self.name reason.Hops) (passed topo tr at frame out) (IsShortReaction leaves)
        (λ e. drops reason.Hops) (λ e. passed_short out (port_low topo tr at.place at.self frame.to sound)))

  taken_short : (bytes : List ℕ) (frame : Option Frame) → IfSome frame (IsFrame bytes) → IfSome frame IsBrief → IsShortReaction leaves (taken_at_router topo tr at frame)
  taken_short bytes None spelled brief = drops reason.Bad
  taken_short bytes (Some frame) spelled brief = frame_short frame spelled.fits brief

  -- what happens where bytes arrive at a router
  pub router_short : (bytes : List ℕ) → AreBrief bytes → IsShortReaction leaves (at_router topo tr at bytes)
  router_short bytes brief = taken_short bytes (frame_of bytes) (frame_sound bytes) brief
