-- What bytes are frames, and what is known of the bytes of one.
use Rattle.std.proofs.Common.{◌≡◌, ℕ, ◌<◌, ◌≤◌, Bool, true, ◌&&◌, List, [], ◌∷◌, ◌++◌, length, append_assoc, Option, Some, None, refl, sym, ap, subst, ◌∙◌, inl, inr}
use Rattle.std.specs.Prelude.{IfSome, IsSome, is_some, slice_set, ◌↔◌, IsTrue}
use Rattle.std.specs.Str.{bytes_eq}
use Rattle.std.specs.Cmp.Lexicographic.{bytes_decides}
use Rattle.std.proofs.lemmas.Bool.{and_parts, and_from, cond-true, cond_both, cases_Bool, both_ways}
use Rattle.aip_frame.specs.declared.frame.Frame.{Frame}
use Rattle.byteorder.specs.Endian.{big_bytes}
use Rattle.aip_addr.specs.Ids.{address_bytes}
use Rattle.aip_frame.specs.Frame.{kind_code, frame_bytes, fields_at, Fits, IsFrame, fits, frame_of}
use Rattle.aip_frame.specs.Form.{has_form}
use Rattle.aip_frame.proofs.Bytes.{IsBytes}
use Rattle.aip_frame.proofs.Fitting.{fits_parts, fits_from, Form, form_parts, form_from}
use Rattle.aip_frame.proofs.Spelled.{fields_back, spelled_again, fits_again, form_again}

frame_at : (bytes : List ℕ) (f : Frame) → fields_at bytes ≡ f → bytes ≡ frame_bytes f → fits f ≡ true → frame_of bytes ≡ Some f
unfolding frame_of
frame_at bytes f e =
    subst (λ (g : Frame). bytes ≡ frame_bytes g → fits g ≡ true → frame_of bytes ≡ Some g) e
    (λ s t. cond-true _ _ _ (and_from _ _ ((bytes_decides bytes (frame_bytes (fields_at bytes))).1 s) t))

-- the bytes of a frame spell it
pub frame_is : (bytes : List ℕ) (f : Frame) → IsFrame bytes f → frame_of bytes ≡ Some f
frame_is bytes f h =
    frame_at bytes f (ap fields_at h.spelled ∙ fields_back f h.fits) h.spelled (fits_from f h.fits)

-- and so they are read back
pub read_back : (f : Frame) → Fits f → frame_of (frame_bytes f) ≡ Some f
read_back f h = frame_is (frame_bytes f) f (record { spelled = refl; fits = h })

-- the frame that bytes spell is one
pub sound : (bytes : List ℕ) → IfSome (frame_of bytes) (λ f. IsFrame bytes f)
unfolding frame_of
sound bytes =
    cond_both (bytes_eq bytes (frame_bytes (fields_at bytes)) && fits (fields_at bytes)) (Some (fields_at bytes)) None (λ o. IfSome o (λ f. IsFrame bytes f))
    (λ e. let p = and_parts _ _ e in record { spelled = (bytes_decides bytes (frame_bytes (fields_at bytes))).0 p.0; fits = fits_parts (fields_at bytes) p.1 })
    (λ e. tt)

-- what holds of the fields holds of the frame
pub of_fields : (bytes : List ℕ) (P : Frame → Type 0) → P (fields_at bytes) → IfSome (frame_of bytes) P
unfolding frame_of
of_fields bytes P p =
    cond_both (bytes_eq bytes (frame_bytes (fields_at bytes)) && fits (fields_at bytes)) (Some (fields_at bytes)) None (λ o. IfSome o P) (λ e. p) (λ e. tt)

-- the frame and what is known of it, where the bytes spell one
the_frame : (o : Option Frame) (P : Frame → Type 0) → IsSome o → IfSome o P → (f : Frame) × (o ≡ Some f) × P f
the_frame (Some f) P some p = (f, refl, p)
the_frame None P some p = absurd cc

-- the bytes of a frame have the form
pub form_of_frame : (bytes : List ℕ) → IsSome (frame_of bytes) → Form bytes
form_of_frame bytes some =
    let found = the_frame (frame_of bytes) (λ f. IsFrame bytes f) some (sound bytes) in
    rw found.2.spelled (form_again found.0 found.2.fits)

-- there are at least 90
pub long : (bytes : List ℕ) → IsSome (frame_of bytes) → 90 ≤ length bytes
long bytes some = (form_of_frame bytes some).long

-- the form tells frames from other bytes
pub told : (bytes : List ℕ) → IsBytes bytes → has_form bytes ≡ is_some (frame_of bytes)
told bytes small =
    elim (cases_Bool (has_form bytes)) [
      | inl formed ↦
          let form = form_parts bytes formed in
          formed ∙ sym (ap is_some (frame_at bytes (fields_at bytes) refl (spelled_again bytes small form) (fits_again bytes small form)))
      | inr other ↦
          elim (cases_Bool (is_some (frame_of bytes))) [
            | inl some ↦ absurd (both_ways (has_form bytes) other (form_from bytes (form_of_frame bytes some)))
            | inr none ↦ other ∙ sym none
          ]
    ]

-- the bytes that spell a frame, as the fact
pub spelled : (bytes : List ℕ) (r : Bool) → r ≡ is_some (frame_of bytes) → IsTrue r ↔ ((f : Frame) × IsFrame bytes f)
spelled bytes r e = (
  λ t. let found = the_frame (frame_of bytes) (λ f. IsFrame bytes f) (sym e ∙ t) (sound bytes) in (found.0, found.2),
  λ w. e ∙ ap is_some (frame_is bytes w.0 w.1),
)

regroup : (a b c d : List ℕ) → ((a ++ b) ++ c) ++ d ≡ a ++ (b ++ (c ++ d))
regroup a b c d = simp append_assoc

-- what is written part by part
pub joined : (f : Frame) (body none head to from all : List ℕ) → body ≡ f.body → none ≡ []
    → head ≡ none ++ (1 ∷ kind_code f.kind ∷ f.hop ∷ 0 ∷ big_bytes 4 f.packet) → to ≡ head ++ address_bytes f.to → from ≡ to ++ address_bytes f.from
    → all ≡ from ++ (big_bytes 2 (length body) ++ body) → all ≡ frame_bytes f
unfolding frame_bytes
joined f body none head to from all b n h t r a =
    let first : List ℕ = 1 ∷ kind_code f.kind ∷ f.hop ∷ 0 ∷ big_bytes 4 f.packet in
    let last : List ℕ = big_bytes 2 (length f.body) ++ f.body in
    let fronts : from ≡ (first ++ address_bytes f.to) ++ address_bytes f.from =
    r ∙ ap (λ (x : List ℕ). x ++ address_bytes f.from) (t ∙ ap (λ (x : List ℕ). x ++ address_bytes f.to) (h ∙ ap (λ (x : List ℕ). x ++ first) n)) in
    let whole : all ≡ ((first ++ address_bytes f.to) ++ address_bytes f.from) ++ last =
    a ∙ (ap (λ (x : List ℕ). from ++ (big_bytes 2 (length x) ++ x)) b ∙ ap (λ (x : List ℕ). x ++ last) fronts) in
    whole ∙ regroup first (address_bytes f.to) (address_bytes f.from) last

-- the frame with another hop limit
abbrev pub with_hop : Frame → ℕ → Frame
with_hop f hop = record f { hop = hop }

hop_written : (f : Frame) (hop : ℕ) → slice_set (frame_bytes f) 2 hop ≡ frame_bytes (with_hop f hop)
unfolding frame_bytes
hop_written f hop = refl

hop_fits : (f : Frame) (hop : ℕ) → hop < 256 → Fits f → Fits (with_hop f hop)
hop_fits f hop lt h =
    record { hop = lt; packet = h.packet; to_ad = h.to_ad; to_eid = h.to_eid; from_ad = h.from_ad; from_eid = h.from_eid; body = h.body; challenge = h.challenge }

-- what follows of a frame follows where there is one
pub if_some : (o : Option Frame) (P Q : Frame → Type 0) → ((f : Frame) → P f → Q f) → IfSome o P → IfSome o Q
if_some (Some f) P Q step p = step f p
if_some None P Q step p = tt

pub set_spelled : (bytes : List ℕ) (hop : ℕ) → IfSome (frame_of bytes) (λ f. slice_set bytes 2 hop ≡ frame_bytes (with_hop f hop))
set_spelled bytes hop =
    if_some (frame_of bytes) (λ f. IsFrame bytes f) (λ f. slice_set bytes 2 hop ≡ frame_bytes (with_hop f hop))
    (λ f h. ap (λ (t : List ℕ). slice_set t 2 hop) h.spelled ∙ hop_written f hop) (sound bytes)

pub set_frame : (bytes : List ℕ) (hop : ℕ) → hop < 256 → IfSome (frame_of bytes) (λ f. frame_of (slice_set bytes 2 hop) ≡ Some (with_hop f hop))
set_frame bytes hop lt =
    if_some (frame_of bytes) (λ f. IsFrame bytes f) (λ f. frame_of (slice_set bytes 2 hop) ≡ Some (with_hop f hop))
    (λ f h. frame_is (slice_set bytes 2 hop) (with_hop f hop) (record { spelled = ap (λ (t : List ℕ). slice_set t 2 hop) h.spelled ∙ hop_written f hop; fits = hop_fits f hop lt h.fits }))
    (sound bytes)
