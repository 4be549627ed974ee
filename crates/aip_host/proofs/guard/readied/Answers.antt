use Rattle.std.proofs.Common.{true, false, ◌∙◌, sym, ap, subst}
use Rattle.shutoff_filter.specs.FilterFile.{file_size}
use Rattle.shutoff_filter.specs.Stops.{IsReadyToKeep}
use Rattle.aip_host.proofs.Orders.{ready_serves, same_length}
use Rattle.aip_host.proofs.guard.readied.Goals as goal

pub unreachable-requires : goal.unreachable-requires
unreachable-requires c =
    let store = c.args.store in
    let keeps = c.requires.keeps in
    let ends = ready_serves c.args.now store.slots.room store.slots.slots.items store.disk c.in-Err.field-0.disk false keeps.standing.quiet keeps.holds c.requires.place store.slots.whole c.in-Err.ensures.calls in
    let failed = ends.0 in
    absurd (cc)

pub returns : goal.returns
returns c =
    let store = c.args.store in
    let after = c.in-Ok.store in
    let keeps = c.requires.keeps in
    let ends = ready_serves c.args.now store.slots.room store.slots.slots.items store.disk after.disk true keeps.standing.quiet keeps.holds c.requires.place store.slots.whole c.in-Ok.ensures.calls in
    record {
      spared = c.in-Ok.ensures.found c.requires.few;
      ready = subst (λ room. IsReadyToKeep room after.disk) (sym c.in-Ok.ensures.room) ends.1;
      long =
          same_length store.slots.room (file_size store.slots.room) _ store.disk after.disk (λ image left. (keeps.standing.images image left).long) c.in-Ok.ensures.moments
          ∙ ap file_size (sym c.in-Ok.ensures.room);
      same = c.in-Ok.ensures.same;
      same_room = c.in-Ok.ensures.room;
    }
