-- A log that takes in one more frame.
use Rattle.std.proofs.Common.{◌≡◌, ℕ, zero, suc, List, ◌∷◌, take, refl, ap, ◌∙◌, arith}
use Rattle.std.proofs.lemmas.List.{take-take}
use Rattle.sent_log.specs.declared.log.Noted.{Noted}
use Rattle.sent_log.specs.Log.{Log, LogStandsFor, with_frame}

-- of one more and the first n, the first n are those of one more and all
take_past : (n : ℕ) (x : Noted) (xs : List Noted) → take n (x ∷ take n xs) ≡ take n (x ∷ xs)
take_past zero x xs = refl
take_past (suc n) x xs = ap (λ rest. x ∷ rest) (take-take n (suc n) xs (omega arith))

-- a log that stands for some frames stands for one more once it has noted it
pub still_stands : (put : List Noted) (log : Log) (frame : Noted) → LogStandsFor put log → LogStandsFor (frame ∷ put) (with_frame log frame)
still_stands put log frame stands =
    record { frames = ap (λ kept. take log.room (frame ∷ kept)) stands.frames ∙ take_past log.room frame put }
