-- How what a crash may leave goes on over a run of calls.
use Rattle.std.proofs.Common.{inl, inr, ⊎_elim, ℕ, List, arith}
use Rattle.std.specs.Prelude.{Option}
use Rattle.lease_disk.specs.Images.{OnlyLooks, Elapses, AtEachMoment}

module _ {D : Type 0} (may_leave : D → List ℕ → Type 0) (clock : D → ℕ) (during : D → ℕ → List ℕ → Type 0) where
  -- before the first call
  pub at_start : (disk : D) (property : List ℕ → Type 0) → ((image : List ℕ) → during disk (clock disk) image → may_leave disk image) → ((image : List ℕ) → may_leave disk image → property image) → AtEachMoment clock during disk disk property
  at_start disk property only here = record { later = omega arith; each = λ image left. here image (only image left); earlier = λ t image le left. inl left }

  -- after one call more
  pub goes_on : (old mid new : D) (property : List ℕ → Type 0) → AtEachMoment clock during old mid property → Elapses may_leave clock during mid new → ((image : List ℕ) → may_leave new image → property image) → AtEachMoment clock during old new property
  goes_on old mid new property so_far time here = record {
    later = omega (arith, so_far.later, time.later);
    each = λ image left. ⊎_elim (so_far.each image) (here image) (time.nothing_else (clock old) image so_far.later left);
    earlier = λ t image le left. ⊎_elim (so_far.earlier t image le) (λ now. inr (here image now)) (time.nothing_else t image (omega (arith, le, so_far.later)) left);
  }

  -- after a call that only looks
  pub looks_on : (content : D → Option (List ℕ)) (old mid new : D) (property : List ℕ → Type 0) → AtEachMoment clock during old mid property → OnlyLooks content may_leave clock during mid new → AtEachMoment clock during old new property
  looks_on content old mid new property so_far looks = record {
    later = omega (arith, so_far.later, looks.same_clock);
    each = λ image left. so_far.each image ((looks.same_past (clock old) image).0 left);
    earlier = λ t image le left. so_far.earlier t image le ((looks.same_past t image).0 left);
  }

  -- two runs, one after the other
  pub joined : (old mid new : D) (property : List ℕ → Type 0) → AtEachMoment clock during old mid property → AtEachMoment clock during mid new property → AtEachMoment clock during old new property
  joined old mid new property first second = record {
    later = omega (arith, first.later, second.later);
    each = λ image left. ⊎_elim (first.each image) (λ has. has) (second.earlier (clock old) image first.later left);
    earlier = λ t image le left. ⊎_elim (first.earlier t image le) (λ has. inr has) (second.earlier t image (omega (arith, le, first.later)) left);
  }

  -- a property that says less
  pub weakened : (old new : D) (property less : List ℕ → Type 0) → AtEachMoment clock during old new property → ((image : List ℕ) → property image → less image) → AtEachMoment clock during old new less
  weakened old new property less moments follows = record {
    later = moments.later;
    each = λ image left. follows image (moments.each image left);
    earlier = λ t image le left. ⊎_elim (λ past. inl past) (λ has. inr (follows image has)) (moments.earlier t image le left);
  }
