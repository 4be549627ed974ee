-- The verdict on a response, from its source and body.
use Rattle.std.proofs.Common.{◌≡◌, ℕ, ◌<◌, ◌≤◌, false, List, length, Option, Some, None, sym, ap, subst, ◌∙◌, arith}
use Rattle.std.specs.Prelude.{IfSome, nat_lt}
use Rattle.std.proofs.lemmas.Bool.{cond-true, cond-false, lt-ltb}
use Rattle.std.proofs.lemmas.Bool.Decides.{nat_tests}
use Rattle.aip_addr.specs.declared.ids.Address.{Address}
use Rattle.aip_frame.specs.declared.frame.Frame.{Frame}
use Rattle.verify_packet.specs.Response.{answer_verdict, challenge_in, key_in, signature_in, response_verdict}
use Rattle.verify_packet.specs.declared.challenges.RouterKey.{RouterKey}
use Rattle.verify_packet.specs.declared.responses.Checked.{Checked}
use Rattle.verify_packet.specs.declared.responses.Checked.TheVariants as checked

-- a body that is long enough
long_verdict : (router : RouterKey) (now : ℕ) (f : Frame) → 210 ≤ length f.body
    → response_verdict router now f ≡ answer_verdict router now f.from (challenge_in f.body) (key_in f.body) (signature_in f.body)
long_verdict router now f long =
    let test : nat_lt (length f.body) 210 ≡ false = grind (arith, nat_tests) in
    cond-false _ _ _ test

-- of the frame that is there, by its source and its long body
pub judged : (router : RouterKey) (now : ℕ) (o : Option Frame) (source : Address) (body : List ℕ) (verdict : Checked) → 210 ≤ length body
    → IfSome o (λ f. source ≡ f.from) → IfSome o (λ f. body ≡ f.body)
    → verdict ≡ answer_verdict router now source (challenge_in body) (key_in body) (signature_in body)
    → IfSome o (λ f. verdict ≡ response_verdict router now f)
judged router now None source body verdict long s b v = tt
judged router now (Some f) source body verdict long s b v =
    v
    ∙ (ap (λ (x : Address). answer_verdict router now x (challenge_in body) (key_in body) (signature_in body)) s
    ∙ (ap (λ (x : List ℕ). answer_verdict router now f.from (challenge_in x) (key_in x) (signature_in x)) b
    ∙ sym (long_verdict router now f (subst (λ (x : List ℕ). 210 ≤ length x) b long))))

-- a body that is too short
pub short : (router : RouterKey) (now : ℕ) (o : Option Frame) (body : List ℕ) → length body < 210 → IfSome o (λ f. body ≡ f.body)
    → IfSome o (λ f. checked.Body ≡ response_verdict router now f)
short router now None body lt b = tt
short router now (Some f) body lt b =
    sym (cond-true _ _ _ (lt-ltb (length f.body) 210 (subst (λ (x : List ℕ). length x < 210) b lt)))

-- the verdict on the parts of a body
pub by_parts : (router : RouterKey) (now : ℕ) (source : Address) (body challenge key signature : List ℕ) (verdict : Checked)
    → verdict ≡ answer_verdict router now source challenge key signature
    → challenge ≡ challenge_in body → key ≡ key_in body → signature ≡ signature_in body
    → verdict ≡ answer_verdict router now source (challenge_in body) (key_in body) (signature_in body)
by_parts router now source body challenge key signature verdict v c k s = rw (sym c, sym k, sym s) v
