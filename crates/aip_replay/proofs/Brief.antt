-- Shut-offs are brief: those that hosts sign and those that inputs bring.
use Rattle.std.proofs.Common.{◌≡◌, ℕ, ◌+◌, ◌^◌, ◌<◌, ◌≤◌, List, ◌++◌, length, take, drop, Option, refl, sym, ap, ◌∙◌, subst, append_assoc, arith, lit<}
use Rattle.std.specs.Prelude.{IfSome}
use Rattle.std.proofs.lemmas.List.{drop_at, length-append}
use Rattle.byteorder.specs.Endian.{big_bytes, big_number}
use Rattle.byteorder.specs.Numbers.{big_from-lt, big_from-take, big_number-reads_back, length-bytes_high_first}
use Rattle.hex.specs.Hex.{IsBytes}
use Rattle.sha2.proofs.Facts256.{length-sha256}
use Rattle.aip_frame.specs.declared.frame.Frame.{Frame}
use Rattle.aip_frame.specs.declared.frame.Kind.{Kind}
use Rattle.aip_frame.specs.declared.frame.Kind.TheVariants.{Data, Challenge, Response, ShutOff}
use Rattle.aip_frame.specs.Frame.{Fits, fields_at, frame_bytes, frame_of, kind_at, kind_code, packet_hash_of}
use Rattle.aip_frame.proofs.Bytes.{IsBytes-drop, drop_past}
use Rattle.aip_frame.proofs.Frames.{of_fields, read_back}
use Rattle.lms_core.proofs.Accepted.{length-public_key_of}
use Rattle.lms_core.specs.Tree.{Key, public_key_of}
use Rattle.shutoff_filter.specs.Body.{order_in, shutoff_of, text_tail}
use Rattle.aip_rules.specs.Host.{shutoff_frame}
use Rattle.aip_rules.specs.Router.{one_hop_less}
use Rattle.aip_rules.specs.Standing.{Standing}
use Rattle.lms_core.specs.Parameters.{most_signature}
use Rattle.aip_rules.proofs.Sizes.{HasSizedAddress}
use Rattle.aip_replay.proofs.Short.{IsBrief}

-- what bytes spell is brief, if it is a frame
abbrev pub AreBrief : List ℕ → Type 0
AreBrief bytes = IfSome (frame_of bytes) IsBrief

kind_back : (k : Kind) → kind_at (kind_code k) ≡ k
kind_back Data = refl
kind_back Challenge = refl
kind_back Response = refl
kind_back ShutOff = refl

-- the spelling of a frame of another kind spells no shut-off
pub brief_other : (f : Frame) → (f.kind ≡ ShutOff → ⊥) → AreBrief (frame_bytes f)
unfolding frame_bytes fields_at
brief_other f other = of_fields (frame_bytes f) IsBrief (λ is. absurd (other (sym (kind_back f.kind) ∙ is)))

-- the spelling of a brief frame is brief
pub brief_again : (f : Frame) → Fits f → IsBrief f → AreBrief (frame_bytes f)
brief_again f fits is = subst (λ (o : Option Frame). IfSome o IsBrief) (sym (read_back f fits)) is

-- one hop less leaves a frame as brief as it was
pub brief_less : (f : Frame) → Fits f → IsBrief f → AreBrief (frame_bytes (one_hop_less f))
brief_less f fits is =
    let hop = fits.hop in
    brief_again (one_hop_less f) (record {
      hop = omega arith;
      packet = fits.packet;
      to_ad = fits.to_ad;
      to_eid = fits.to_eid;
      from_ad = fits.from_ad;
      from_eid = fits.from_eid;
      body = fits.body;
      challenge = fits.challenge;
    }) is

-- bytes of the grammar spell no number of four bytes that is larger
pub brief_bytes : (bytes : List ℕ) → IsBytes bytes → AreBrief bytes
unfolding fields_at order_in
brief_bytes bytes small =
    let body : List ℕ = drop 40 (drop 90 bytes) in
    let low : big_number 4 (take 4 body) < 2 ^ 32 =
    rw (big_from-take 0 4 4 body (omega arith)) (big_from-lt 0 4 body (IsBytes-drop 40 (drop 90 bytes) (IsBytes-drop 90 bytes small))) in
    of_fields bytes IsBrief (λ is. low)

-- the time that a shut-off's body tells is the one that was written there
ttl_back : (hash : List ℕ) (issue ttl : ℕ) (key signature : List ℕ) → length hash ≡ 32 → ttl < 2 ^ 32 → (order_in (shutoff_of hash issue ttl key signature)).ttl ≡ ttl
unfolding order_in
ttl_back hash issue ttl key signature sized low =
    let rest : List ℕ = key ++ signature in
    let whole : text_tail hash issue ttl ++ rest ≡ hash ++ (big_bytes 8 issue ++ (big_bytes 4 ttl ++ rest)) =
    append_assoc hash (big_bytes 8 issue ++ big_bytes 4 ttl) rest ∙ ap (λ (t : List ℕ). hash ++ t) (append_assoc (big_bytes 8 issue) (big_bytes 4 ttl) rest) in
    let part : drop 40 (text_tail hash issue ttl ++ rest) ≡ big_bytes 4 ttl ++ rest =
    ap (λ (t : List ℕ). drop 40 t) whole ∙ drop_past 32 8 hash (big_bytes 8 issue ++ (big_bytes 4 ttl ++ rest)) sized
    ∙ drop_at (big_bytes 8 issue) (big_bytes 4 ttl ++ rest) 8 (length-bytes_high_first 8 issue) in
    ap (λ (t : List ℕ). big_number 4 (take 4 t)) part
    ∙ big_from-take 0 4 4 (big_bytes 4 ttl ++ rest) (omega arith)
    ∙ big_number-reads_back 4 ttl rest (omega arith)

hash_sized : (frame : Frame) → length (packet_hash_of frame) ≡ 32
unfolding packet_hash_of
hash_sized frame = length-sha256 (frame_bytes (record frame { hop = 0 }))

tail_sized : (hash : List ℕ) (issue ttl : ℕ) → length (text_tail hash issue ttl) ≡ length hash + 12
tail_sized hash issue ttl = omega (arith, length-append {A = ℕ})

-- a shut-off that a host signs is brief
pub brief_shut : (s : Standing) (key : Key) (named : Frame) (ttl : ℕ) (signature : List ℕ) → HasSizedAddress s.seat → Fits named → ttl < 2 ^ 32 → length signature ≤ most_signature
    → AreBrief (frame_bytes (shutoff_frame s key named ttl signature))
brief_shut s key named ttl signature seat fits low short =
    let hash = packet_hash_of named in
    let tail = text_tail hash s.now ttl in
    let same = ttl_back hash s.now ttl (public_key_of key) signature (hash_sized named) low in
    brief_again (shutoff_frame s key named ttl signature) (record {
      hop = lit< tt;
      packet = lit< tt;
      to_ad = fits.from_ad;
      to_eid = fits.from_eid;
      from_ad = seat.ad;
      from_eid = seat.eid;
      body = omega (arith, length-append tail (public_key_of key ++ signature), length-append (public_key_of key) signature, length-public_key_of key, tail_sized hash s.now ttl, hash_sized named);
      challenge = λ none. cc;
    }) (λ is. subst (λ n. n < 2 ^ 32) (sym same) low)
