-- A frame ends where its length says: no other frame begins with it.
use Rattle.std.proofs.Common.{◌≡◌, ℕ, ◌+◌, ◌*◌, ◌-◌, ◌<◌, ◌≤◌, List, ◌∷◌, ◌++◌, length, get_or, take, drop, Option, Some, None, refl, sym, ap, subst, ◌∙◌, arith}
use Rattle.std.specs.Prelude.{IsSome}
use Rattle.std.proofs.lemmas.List.{take-append-drop, length-append, length-take, get_or-drop, get_or_append_left}
use Rattle.byteorder.specs.Endian.{big_number}
use Rattle.aip_frame.specs.declared.frame.Frame.{Frame}
use Rattle.aip_frame.specs.Frame.{frame_of}
use Rattle.aip_frame.specs.Laws.{NoPrefixIsAFrame, NoLongerIsAFrame}
use Rattle.aip_frame.proofs.Frames.{form_of_frame}

-- a byte of the front stands behind it too
same_byte : (front more : List ℕ) (i : ℕ) → 88 + i < length front → get_or (drop 88 front) i 0 ≡ get_or (drop 88 (front ++ more)) i 0
same_byte front more i there =
    get_or-drop 88 front i 0 ∙ (sym (get_or_append_left front more 0 (88 + i) there) ∙ sym (get_or-drop 88 (front ++ more) i 0))

-- so the length that a front of 90 bytes says is the length that the whole says
same_length : (front more : List ℕ) → 90 ≤ length front → big_number 2 (drop 88 front) ≡ big_number 2 (drop 88 (front ++ more))
same_length front more long =
    ap (λ n. n * 256 + (get_or (drop 88 front) 1 0 * 1 + 0)) (same_byte front more 0 (omega arith))
    ∙ ap (λ n. get_or (drop 88 (front ++ more)) 0 0 * 256 + (n * 1 + 0)) (same_byte front more 1 (omega arith))

-- where a front is a frame and the whole is one too, nothing is behind the front
pub none_behind : (front more : List ℕ) → IsSome (frame_of front) → IsSome (frame_of (front ++ more)) → length more ≡ 0
none_behind front more first whole =
    let f = form_of_frame front first in
    let w = form_of_frame (front ++ more) whole in
    let says : length front - 90 ≡ length (front ++ more) - 90 = sym f.size ∙ (same_length front more f.long ∙ w.size) in
    omega (arith, says, f.long, length-append front more)

-- an option is none where it can't be some
none_unless : (o : Option Frame) → (IsSome o → ⊥) → o ≡ None
none_unless None never = refl
none_unless (Some f) never = absurd (never refl)

pub no_prefix : NoPrefixIsAFrame
no_prefix bytes n some less =
    none_unless (frame_of (take n bytes)) (λ first.
    let whole : IsSome (frame_of (take n bytes ++ drop n bytes)) = subst (λ b. IsSome (frame_of b)) (sym (take-append-drop n bytes)) some in
    let none : length (drop n bytes) ≡ 0 = none_behind (take n bytes) (drop n bytes) first whole in
    let parts : length (take n bytes ++ drop n bytes) ≡ length bytes = ap (λ (b : List ℕ). length b) (take-append-drop n bytes) in
    omega (arith, none, parts, length-append (take n bytes) (drop n bytes), length-take n bytes, less))

pub no_longer : NoLongerIsAFrame
no_longer bytes byte more some =
    none_unless (frame_of (bytes ++ byte ∷ more)) (λ whole.
    let none : length (byte ∷ more) ≡ 0 = none_behind bytes (byte ∷ more) some whole in
    omega (arith, none))
