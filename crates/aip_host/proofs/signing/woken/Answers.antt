use Rattle.std.proofs.Common.{refl, ◌∙◌}
use Rattle.aip_host.specs.Holding.{kept_in}
use Rattle.aip_host.proofs.Turns.{rest_woken}
use Rattle.aip_host.proofs.signing.woken.Goals as goal

pub opened-requires : goal.opened-requires
opened-requires c =
    let kept = kept_in c.args.state in
    record { rest = (kept.next, rest_woken kept _ _ _ c.requires.spends c.put_down-disk.ensures.key c.put_down-disk.ensures.disk c.restart.ensures.disk) }

pub returns : goal.returns
returns c =
    let kept = kept_in c.args.state in
    let rest = rest_woken kept _ _ _ c.requires.spends c.put_down-disk.ensures.key c.put_down-disk.ensures.disk c.restart.ensures.disk in
    record {
      up = record {
        up = refl;
        unarmed = refl;
        same_key = c.opened.ensures.key ∙ c.put_down-disk.ensures.key;
        same_next = c.opened.ensures.next kept.next rest;
        spends = c.opened.ensures.spends;
      };
    }
