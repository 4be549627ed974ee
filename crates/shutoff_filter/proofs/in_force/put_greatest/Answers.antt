use Rattle.std.proofs.Common.{◌≡◌, ◌<◌, ◌≤◌, ◌&&◌, nat_lt, true, false, List, length, sym, subst, ◌∙◌}
use Rattle.shutoff_filter.specs.Entries.{is_before, is_key}
use Rattle.shutoff_filter.specs.InForce.{IsPast, entry_in}
use Rattle.shutoff_filter.specs.declared.entries.ShutOffEntry.{ShutOffEntry}
use Rattle.shutoff_filter.proofs.Placed.{put_at, put_before}
use Rattle.shutoff_filter.proofs.in_force.put_greatest.Goals as goal

pub returns-then-stands_at : goal.returns-then-stands_at
returns-then-stands_at c =
    let old : List ShutOffEntry = c.args.kept.now.items in
    let place = c.place_of-place.result in
    let entry = c.args.entry in
    let past : IsPast entry old place = subst (λ (l : List ShutOffEntry). IsPast entry l place) c.deref.ensures.value (c.place_of-place.ensures.passed entry.until) in
    let here : (nat_lt place (length old) && is_key entry.to (entry_in old place).to) ≡ true =
    subst (λ (l : List ShutOffEntry). (nat_lt place (length l) && is_key entry.to (entry_in l place).to) ≡ true) c.deref-2.ensures.value (sym c.stands_at.ensures ∙ c.if-stands_at.true) in
    c.raise.ensures ∙ sym (put_at entry old place here past)

pub returns-in_ok-insert : goal.returns-in_ok-insert
returns-in_ok-insert c =
    let old : List ShutOffEntry = c.args.kept.now.items in
    let place = c.place_of-place.result in
    let entry = c.args.entry in
    let past : IsPast entry old place = subst (λ (l : List ShutOffEntry). IsPast entry l place) c.deref.ensures.value (c.place_of-place.ensures.passed entry.until) in
    let within : place ≤ length old = subst (λ (l : List ShutOffEntry). place ≤ length l) c.deref.ensures.value c.place_of-place.ensures.within in
    let stops : place < length old → is_before (entry_in old place).to entry.to ≡ false = subst (λ (l : List ShutOffEntry). place < length l → is_before (entry_in l place).to entry.to ≡ false) c.deref.ensures.value c.place_of-place.ensures.stops in
    let absent : (nat_lt place (length old) && is_key entry.to (entry_in old place).to) ≡ false =
    subst (λ (l : List ShutOffEntry). (nat_lt place (length l) && is_key entry.to (entry_in l place).to) ≡ false) c.deref-2.ensures.value (sym c.stands_at.ensures ∙ c.if-stands_at.false) in
    c.in_ok-insert.ensures.items ∙ sym (put_before entry old place within stops absent past)
