-- The verdict on a shut-off, from the parts of its frame.
use Rattle.std.proofs.Common.{◌≡◌, ℕ, ◌<◌, ◌≤◌, Bool, false, List, length, Option, Some, None, sym, ap, subst, ◌∙◌, arith}
use Rattle.std.specs.Prelude.{IfSome, nat_lt}
use Rattle.std.proofs.lemmas.Bool.{cond-true, cond-false, lt-ltb}
use Rattle.std.proofs.lemmas.Bool.Decides.{nat_tests}
use Rattle.aip_addr.specs.declared.ids.Address.{Address}
use Rattle.aip_frame.specs.declared.frame.Frame.{Frame}
use Rattle.sent_log.specs.declared.log.Noted.{Noted}
use Rattle.shutoff_filter.specs.Body.{order_in}
use Rattle.shutoff_filter.specs.Judged.{body_verdict, is_full, is_in_log, shutoff_verdict}
use Rattle.shutoff_filter.specs.declared.entries.ShutOffEntry.{ShutOffEntry}
use Rattle.shutoff_filter.specs.declared.judging.Heard.{Heard}
use Rattle.shutoff_filter.specs.declared.judging.Heard.TheVariants as heard

module _ (now : ℕ) where
  -- a body that is long enough
  long_verdict : (f : Frame) (logged full : Bool) → 100 ≤ length f.body → shutoff_verdict now f logged full ≡ body_verdict now f.from f.to f.body logged full
  long_verdict f logged full long =
      let test : nat_lt (length f.body) 100 ≡ false = grind (arith, nat_tests) in
      cond-false _ _ _ test

  module _ (room : ℕ) (entries : List ShutOffEntry) (log : List Noted) where
    -- the verdict on these parts, over a filter and a log
    abbrev pub part_verdict : Address → Address → List ℕ → Heard
    part_verdict from to body = body_verdict now from to body (is_in_log log from (order_in body)) (is_full room now from entries)

    -- and on a frame
    abbrev pub frame_verdict : Frame → Heard
    frame_verdict f = shutoff_verdict now f (is_in_log log f.from (order_in f.body)) (is_full room now f.from entries)

    -- of the frame that is there, by its addresses and its long body
    pub judged : (o : Option Frame) (from to : Address) (body : List ℕ) (verdict : Heard) → 100 ≤ length body
        → IfSome o (λ f. from ≡ f.from) → IfSome o (λ f. to ≡ f.to) → IfSome o (λ f. body ≡ f.body)
        → verdict ≡ part_verdict from to body
        → IfSome o (λ f. verdict ≡ frame_verdict f)
    judged None from to body verdict long s d b v = tt
    judged (Some f) from to body verdict long s d b v =
        v
        ∙ (ap (λ (x : Address). part_verdict x to body) s
        ∙ (ap (λ (x : Address). part_verdict f.from x body) d
        ∙ (ap (λ (x : List ℕ). part_verdict f.from f.to x) b
        ∙ sym (long_verdict f (is_in_log log f.from (order_in f.body)) (is_full room now f.from entries) (subst (λ (x : List ℕ). 100 ≤ length x) b long)))))

    -- a body that is too short
    pub short : (o : Option Frame) (body : List ℕ) → length body < 100 → IfSome o (λ f. body ≡ f.body)
        → IfSome o (λ f. heard.Body ≡ frame_verdict f)
    short None body lt b = tt
    short (Some f) body lt b =
        sym (cond-true _ _ _ (lt-ltb (length f.body) 100 (subst (λ (x : List ℕ). length x < 100) b lt)))
