use Rattle.std.proofs.Common.{◌≡◌, refl, false, sym, ap, subst, ◌∙◌, Option, Some}
use Rattle.std.specs.Prelude.{IfOk, Result}
use Rattle.aip_addr.specs.Ids.{key_id_of}
use Rattle.aip_frame.specs.Frame.{frame_of}
use Rattle.aip_frame.specs.declared.frame.Kind.TheVariants.{ShutOff}
use Rattle.aip_event.specs.declared.event.Reason.TheVariants as reason
use Rattle.std.specs.declared.alloc.AllocError.{AllocError}
use Rattle.aip_rules.specs.declared.Reaction.{Reaction}
use Rattle.aip_rules.specs.Host.{kind_at_host}
use Rattle.aip_host.specs.contracts.host.Host.{the_view}
use Rattle.aip_host.specs.declared.host.Host.TheInside.{Inside}
use Rattle.aip_host.specs.Guarding.{GuardState}
use Rattle.aip_host.specs.HostState.{HostState, down_of, standing_of}
use Rattle.aip_host.specs.After.{Follows}
use Rattle.aip_host.specs.StandsFor.{DiskKeeps}
use Rattle.aip_host.specs.Withholding.{LeavesUnordered, verdict_of}
use Rattle.aip_host.proofs.Obeys.{if_ok, if_both, there, heard_is, heard_nowhere, heard_follows, drop_follows}
use Rattle.aip_host.proofs.host.Host.heed.Goals.{in-Some, in-None}
use Rattle.aip_host.proofs.host.Host.heed.Goals as goal

pub returns-clause-reaction : goal.returns-clause-reaction
returns-clause-reaction c =
    let inside = c.self.inside in
    let old : HostState = record { seat = inside.seat; towards = inside.towards; room = inside.room; log = inside.log; key = inside.key; guard = inside.guard } in
    let now = c.args.now in
    subst (λ (h : HostState). (f : _) → frame_of c.args.bytes.now ≡ Some f → IfOk c.match-self.result (λ reaction. reaction ≡ kind_at_host (standing_of h now) f ShutOff)) c.self.view_is
    (λ f is. elim c.match-self.branch [
      | in-Some w ↦
          let kept = subst (λ (g : Option GuardState). DiskKeeps old.room g) w.in-Some.is c.self.invariant.keeps in
          subst (λ r. IfOk r (λ reaction. reaction ≡ kind_at_host (standing_of old now) f ShutOff)) (sym w.result-is)
          (if_ok w.hear.result _ _ (w.hear.ensures.reaction f is) (λ reaction comes. comes ∙ sym (heard_is old w.in-Some.guard now f w.in-Some.is kept.0)))
      | in-None w ↦
          subst (λ r. IfOk r (λ reaction. reaction ≡ kind_at_host (standing_of old now) f ShutOff)) (sym w.result-is)
          (if_ok w.dropped.result _ _ w.dropped.ensures (λ reaction comes. comes ∙ sym (heard_nowhere old now f w.in-None.is)))
    ])

pub returns-clause-follows : goal.returns-clause-follows
returns-clause-follows c =
    let inside = c.self.inside in
    let old : HostState = record { seat = inside.seat; towards = inside.towards; room = inside.room; log = inside.log; key = inside.key; guard = inside.guard } in
    let now = c.args.now in
    let up : down_of old ≡ false = ap down_of c.self.view_is ∙ c.requires.up in
    let frame = there (frame_of c.args.bytes.now) c.requires.frame in
    let Goes = λ (result : Result Reaction AllocError) (h : Inside).
    IfOk result (λ reaction. Follows now old reaction (record { seat = h.seat; towards = h.towards; room = h.room; log = h.log; key = h.key; guard = h.guard })) in
    subst (λ (h : HostState). IfOk c.match-self.result (λ reaction. Follows now h reaction (the_view c.match-self.self-inside))) c.self.view_is
    (elim c.match-self.branch [
      | in-Some w ↦
          let kept = w.in-Some.guard in
          let verdict = verdict_of kept old.log now frame.0 in
          subst (λ result. Goes result c.match-self.self-inside) (sym w.result-is)
          (subst (λ (h : Inside). Goes w.hear.result h) (sym w.self-inside-is)
          (if_both w.hear.result _ _ _ (w.hear.ensures.reaction frame.0 frame.1) w.hear.ensures.follows (λ reaction comes goes.
          heard_follows now old kept w.hear.new.guard (key_id_of frame.0.from.eid) verdict reaction w.in-Some.is up comes goes)))
      | in-None w ↦
          subst (λ result. Goes result c.match-self.self-inside) (sym w.result-is)
          (subst (λ (h : Inside). Goes w.dropped.result h) (sym w.self-inside-is)
          (if_ok w.dropped.result _ _ w.dropped.ensures (λ reaction comes. drop_follows now old reason.Unguarded reaction comes)))
    ])

pub returns-clause-unordered : goal.returns-clause-unordered
returns-clause-unordered c =
    let inside = c.self.inside in
    let old : HostState = record { seat = inside.seat; towards = inside.towards; room = inside.room; log = inside.log; key = inside.key; guard = inside.guard } in
    let Leaves = λ (result : Result Reaction AllocError) (h : Inside). IfOk result (λ reaction. LeavesUnordered reaction old.guard h.guard) in
    subst (λ (h : HostState). IfOk c.match-self.result (λ reaction. LeavesUnordered reaction h.guard (the_view c.match-self.self-inside).guard)) c.self.view_is
    (elim c.match-self.branch [
      | in-Some w ↦
          subst (λ result. Leaves result c.match-self.self-inside) (sym w.result-is)
          (subst (λ (h : Inside). Leaves w.hear.result h) (sym w.self-inside-is)
          (if_ok w.hear.result _ _ w.hear.ensures.unordered (λ reaction same none. ap Some (same none) ∙ sym w.in-Some.is)))
      | in-None w ↦
          subst (λ result. Leaves result c.match-self.self-inside) (sym w.result-is)
          (subst (λ (h : Inside). Leaves w.dropped.result h) (sym w.self-inside-is)
          (if_ok w.dropped.result _ _ w.dropped.ensures (λ reaction comes none. refl)))
    ])
