-- How long the frames are that hosts sign and that routers ask by.
use Rattle.std.proofs.Common.{◌≡◌, ℕ, ◌+◌, ◌≤◌, List, ◌++◌, length, take, arith, lit<, lit≤}
use Rattle.std.proofs.lemmas.List.{length-append, length-take-le, length-drop}
use Rattle.sha2.proofs.Facts256.{length-sha256}
use Rattle.aip_mac.specs.Hmac.{hmac_of}
use Rattle.aip_addr.specs.Ids.{address_bytes, address_of}
use Rattle.aip_addr.specs.declared.ids.Address.{Address}
use Rattle.aip_frame.specs.declared.frame.Frame.{Frame}
use Rattle.aip_frame.specs.Frame.{frame_bytes, packet_hash_of, Fits}
use Rattle.lmots_core.specs.declared.parameters.Width.{Width}
use Rattle.lmots_core.specs.declared.parameters.Width.TheVariants.{W1, W2, W4, W8}
use Rattle.lms_core.specs.declared.height.Height.{Height}
use Rattle.lms_core.specs.declared.height.Height.TheVariants.{H5, H10}
use Rattle.lms_core.specs.Parameters.{signature_len_of, most_signature}
use Rattle.lms_core.specs.Tree.{Key, public_key_of, signature_of}
use Rattle.lms_core.proofs.Accepted.{length-public_key_of, length-signature_of}
use Rattle.verify_packet.specs.Challenge.{Asked, asked_bytes, asked_in, challenge_of, tag_of, epoch_at}
use Rattle.verify_packet.specs.declared.challenges.RouterKey.{RouterKey}
use Rattle.shutoff_filter.specs.Body.{text_tail}
use Rattle.aip_rules.specs.Standing.{Standing}
use Rattle.aip_rules.specs.Host.{answer_frame, shutoff_frame}
use Rattle.aip_rules.specs.Router.{challenge_frame}
use Rattle.aip_rules.proofs.Sizes.{IsSizedAddress, HasSizedAddress, fitting_short}

length-signature-le : (width : Width) (height : Height) → signature_len_of width height ≤ most_signature
length-signature-le W1 H5 = lit≤ tt
length-signature-le W1 H10 = lit≤ tt
length-signature-le W2 H5 = lit≤ tt
length-signature-le W2 H10 = lit≤ tt
length-signature-le W4 H5 = lit≤ tt
length-signature-le W4 H10 = lit≤ tt
length-signature-le W8 H5 = lit≤ tt
length-signature-le W8 H10 = lit≤ tt

-- a signature has no more bytes than the longest
pub signature_short : (key : Key) (leaf : ℕ) (text : List ℕ) → length (signature_of key leaf text) ≤ most_signature
signature_short key leaf text = omega (arith, length-signature_of key leaf text, length-signature-le key.width key.height)

-- the address at the front of a body has its size
first_sized : (bytes : List ℕ) → 40 ≤ length bytes → IsSizedAddress (address_of (take 40 bytes))
first_sized bytes long =
    let front : length (take 40 bytes) ≡ 40 = length-take-le 40 bytes long in
    record {
      ad = length-take-le 20 (take 40 bytes) (omega arith);
      eid = omega (arith, length-drop 20 (take 40 bytes));
    }

-- the router that a body asks for has an address of its size
asked_sized : (body : List ℕ) → 40 ≤ length body → IsSizedAddress (asked_in body).router
unfolding asked_in
asked_sized body long = first_sized body long

-- a response to a challenge is short
pub answer_short : (s : Standing) (key : Key) (challenge : Frame) (signature : List ℕ) → HasSizedAddress s.seat → Fits challenge
    → length challenge.body ≡ 154 → length signature ≤ most_signature → length (frame_bytes (answer_frame s key challenge signature)) ≤ 9216
answer_short s key challenge signature seat fits long short =
    let to = asked_sized challenge.body (omega arith) in
    fitting_short (answer_frame s key challenge signature) (record {
      hop = lit< tt;
      packet = fits.packet;
      to_ad = to.ad;
      to_eid = to.eid;
      from_ad = seat.ad;
      from_eid = seat.eid;
      body = omega (arith, length-append challenge.body (public_key_of key ++ signature), length-append (public_key_of key) signature, length-public_key_of key);
      challenge = λ none. cc;
    })

length-packet_hash : (frame : Frame) → length (packet_hash_of frame) ≡ 32
unfolding packet_hash_of
length-packet_hash frame = length-sha256 (frame_bytes (record frame { hop = 0 }))

length-tail : (hash : List ℕ) (issue ttl : ℕ) → length (text_tail hash issue ttl) ≡ length hash + 12
length-tail hash issue ttl = omega (arith, length-append {A = ℕ})

-- a shut-off that names a frame is short
pub shutoff_short : (s : Standing) (key : Key) (named : Frame) (ttl : ℕ) (signature : List ℕ) → HasSizedAddress s.seat → Fits named
    → length signature ≤ most_signature → length (frame_bytes (shutoff_frame s key named ttl signature)) ≤ 9216
shutoff_short s key named ttl signature seat fits short =
    let hash = packet_hash_of named in
    let tail = text_tail hash s.now ttl in
    fitting_short (shutoff_frame s key named ttl signature) (record {
      hop = lit< tt;
      packet = lit< tt;
      to_ad = fits.from_ad;
      to_eid = fits.from_eid;
      from_ad = seat.ad;
      from_eid = seat.eid;
      body = omega (arith, length-append tail (public_key_of key ++ signature), length-append (public_key_of key) signature, length-public_key_of key, length-tail hash s.now ttl, length-packet_hash named);
      challenge = λ none. cc;
    })

length-address : (address : Address) → IsSizedAddress address → length (address_bytes address) ≡ 40
length-address address sized = omega (arith, sized.ad, sized.eid, length-append address.ad.bytes address.eid.bytes)

length-asked : (asked : Asked) → IsSizedAddress asked.router → IsSizedAddress asked.source → length asked.hash ≡ 32 → length (asked_bytes asked) ≡ 122
length-asked asked router source hash =
    omega (arith, length-append {A = ℕ}, router.ad, router.eid, source.ad, source.eid)

length-tag : (router : RouterKey) (epoch : ℕ) (bytes : List ℕ) → length (tag_of router epoch bytes) ≡ 32
unfolding tag_of hmac_of
length-tag router epoch bytes = length-sha256 _

length-challenge : (router : RouterKey) (asked : Asked) → IsSizedAddress asked.router → IsSizedAddress asked.source → length asked.hash ≡ 32 → length (challenge_of router asked) ≡ 154
unfolding challenge_of
length-challenge router asked to from hash =
    let body = asked_bytes asked in
    omega (arith, length-append body (tag_of router asked.epoch body), length-asked asked to from hash, length-tag router asked.epoch body)

-- a challenge that asks the source of a frame is short
pub challenge_short : (key : RouterKey) (now port : ℕ) (frame : Frame) → IsSizedAddress key.address → Fits frame
    → length (frame_bytes (challenge_frame key now port frame)) ≤ 9216
challenge_short key now port frame own fits =
    let source : IsSizedAddress frame.from = record { ad = fits.from_ad; eid = fits.from_eid } in
    let asked : Asked = record { router = key.address; source = frame.from; hash = packet_hash_of frame; port = port; epoch = epoch_at key now } in
    let long = length-challenge key asked own source (length-packet_hash frame) in
    fitting_short (challenge_frame key now port frame) (record {
      hop = lit< tt;
      packet = fits.packet;
      to_ad = fits.from_ad;
      to_eid = fits.from_eid;
      from_ad = own.ad;
      from_eid = own.eid;
      body = omega arith;
      challenge = λ is. long;
    })
