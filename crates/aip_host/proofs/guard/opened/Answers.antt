use Rattle.std.proofs.Common.{◌+◌, ◌∙◌, ap, refl}
use Rattle.aip_host.proofs.Filed.{is_opened, opened_entries}
use Rattle.aip_host.proofs.guard.opened.Goals as goal

pub returns-clause-entries : goal.returns-clause-entries
returns-clause-entries c = λ entries rest.
    let slots = c.in-Ok.store.slots in
    let says = c.in-Ok.ensures.says _ refl in
    opened_entries c.args.slots.room entries slots.slots.items c.args.disk rest (slots.whole ∙ ap (λ n. n + 1) says.1) says.2

pub returns-clause-keeps : goal.returns-clause-keeps
returns-clause-keeps c =
    let slots = c.in-Ok.store.slots in
    let says = c.in-Ok.ensures.says _ refl in
    let entries = c.requires.rest.0 in
    let rest = c.requires.rest.1 in
    is_opened c.args.slots.room slots.room entries _ c.args.disk c.in-Ok.store.disk _ rest says.1
    (opened_entries c.args.slots.room entries slots.slots.items c.args.disk rest (slots.whole ∙ ap (λ n. n + 1) says.1) says.2)
    c.in-Ok.ensures.calls
