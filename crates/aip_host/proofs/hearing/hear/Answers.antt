use Rattle.std.proofs.Common.{◌≡◌, refl, sym, ap, subst, ◌∙◌, Option}
use Rattle.std.specs.Prelude.{IfSome}
use Rattle.aip_addr.specs.Ids.{key_id_of}
use Rattle.aip_frame.specs.declared.frame.Frame.{Frame}
use Rattle.aip_event.specs.declared.event.Event.TheVariants as event
use Rattle.aip_rules.specs.Reaction.{happens}
use Rattle.aip_host.specs.Withholding.{GuardFollows, verdict_event, verdict_of}
use Rattle.aip_host.proofs.Obeys.{if_ok, refused_event}
use Rattle.aip_host.proofs.hearing.hear.Goals as goal

pub returns-in_default : goal.returns-in_default
returns-in_default c =
    let kept = c.args.guard.now in
    let name = c.args.host in
    record {
      reaction = λ f there.
          let to = key_id_of f.from.eid in
          let judged = subst (λ (o : Option Frame). IfSome o (λ g. c.judge.result ≡ verdict_of kept c.args.log.now c.args.now g)) there c.judge.ensures.verdict in
          if_ok c.happens.result _ _ c.happens.ensures (λ r comes.
          comes ∙ ap (λ n. happens (event.Heard name n)) c.number.ensures ∙ ap happens (refused_event name kept to c.judge.result c.in_default.not-Obeyed)
          ∙ ap (λ v. happens (verdict_event name kept to v)) judged);
      follows = if_ok c.happens.result _ _ c.happens.ensures (λ r comes. subst (λ s. GuardFollows c.args.now name kept s kept) (sym comes) (record { halt = refl; down = refl; told = λ to time later. refl }));
      unordered = if_ok c.happens.result _ _ c.happens.ensures (λ reaction comes none. refl);
      room = refl;
      keeps = c.judge.ensures.keeps;
    }
