use Rattle.std.proofs.Common.{refl, ◌∙◌}
use Rattle.aip_host.specs.Guarded.{guard_in}
use Rattle.aip_host.proofs.Filed.{rest_woken}
use Rattle.aip_host.proofs.guard.woken.Goals as goal

pub opened-requires : goal.opened-requires
opened-requires c =
    let kept = guard_in c.args.state in
    record { rest = (kept.entries, rest_woken kept _ _ _ c.requires.keeps c.put_down-disk.ensures.room c.put_down-disk.ensures.disk c.restart.ensures.disk) }

pub returns : goal.returns
returns c =
    let kept = guard_in c.args.state in
    let rest = rest_woken kept _ _ _ c.requires.keeps c.put_down-disk.ensures.room c.put_down-disk.ensures.disk c.restart.ensures.disk in
    record {
      up = record {
        up = refl;
        unarmed = refl;
        same_room = c.opened.ensures.room ∙ c.put_down-disk.ensures.room;
        same_entries = c.opened.ensures.entries kept.entries rest;
        keeps = c.opened.ensures.keeps;
      };
    }
