-- Responses: how a source answers a challenge, and when a router takes the answer.
use Rattle.std.specs.Prelude.{ℕ, ◌+◌, ◌==◌, ◌&&◌, ◌||◌, Bool, true, false, not, if◌then◌else◌, nat_lt, nat_le, List, ◌++◌, length, take, drop, codes}
use Rattle.std.specs.Str.{bytes_eq}
use Rattle.aip_addr.specs.Ids.{is_owner, is_same_address}
use Rattle.aip_addr.specs.declared.ids.Address.{Address}
use Rattle.aip_frame.specs.declared.frame.Frame.{Frame}
use Rattle.lms_core.specs.Verify.{is_valid_signature}
use Rattle.verify_packet.specs.Challenge.{Asked, asked_in, epoch_at, tag_of}
use Rattle.verify_packet.specs.declared.challenges.RouterKey.{RouterKey}
use Rattle.verify_packet.specs.declared.responses.Checked.{Checked}
use Rattle.verify_packet.specs.declared.responses.Checked.TheVariants as checked

-- the text that a source signs: "AIP1 response" and the body of the challenge
abbrev pub response_text_of : List ℕ → List ℕ
response_text_of asked = codes "AIP1 response" ++ asked

-- the body of a response: the body of the challenge, the source's public key, and its signature
abbrev pub response_of : List ℕ → List ℕ → List ℕ → List ℕ
response_of asked key signature = asked ++ (key ++ signature)

-- the challenge that a response answers, the first 154 bytes of its body
abbrev pub challenge_in : List ℕ → List ℕ
challenge_in body = take 154 body

-- the public key in a response, the 56 bytes behind these
abbrev pub key_in : List ℕ → List ℕ
key_in body = take 56 (drop 154 body)

-- the signature in a response, behind the key to the end of its body
abbrev pub signature_in : List ℕ → List ℕ
signature_in body = drop 56 (drop 154 body)

-- the challenge was this router's, and asked this source
unfoldable pub is_asked : RouterKey → Address → Asked → Bool
is_asked router source asked = is_same_address asked.router router.address && is_same_address asked.source source

-- the current epoch is that of the challenge, or the next
unfoldable pub is_current : ℕ → ℕ → Bool
is_current current epoch = (current == epoch) || (current == epoch + 1)

-- the tag of a challenge, behind what it asks, is the router's
unfoldable pub has_tag : RouterKey → List ℕ → ℕ → Bool
has_tag router challenge epoch = bytes_eq (take 32 (drop 122 challenge)) (tag_of router epoch (take 122 challenge))

-- how a router judges a source's answer to a challenge, by the first line that applies
abbrev pub answer_verdict : RouterKey → ℕ → Address → List ℕ → List ℕ → List ℕ → Checked
answer_verdict router now source challenge key signature =
    let asked = asked_in challenge in
    if not (is_asked router source asked) then checked.Other else
    if not (is_current (epoch_at router now) asked.epoch) then checked.Old else
    if not (has_tag router challenge asked.epoch) then checked.Tag else
    if nat_le router.ports asked.port then checked.Port else
    if not (is_owner key source.eid) then checked.Key else
    if not (is_valid_signature key (response_text_of challenge) signature) then checked.Signature else
    checked.Proved source asked.port

-- how a router judges a response at a time: too short a body, or the verdict on its source's answer
abbrev pub response_verdict : RouterKey → ℕ → Frame → Checked
response_verdict router now frame =
    if nat_lt (length frame.body) 210 then checked.Body else
    answer_verdict router now frame.from (challenge_in frame.body) (key_in frame.body) (signature_in frame.body)

-- the number of a refusal, 1 to 7 in the order of the lines; 0 for a source that is proved
abbrev pub refusal_number : Checked → ℕ
refusal_number (checked.Proved source port) = 0
refusal_number checked.Body = 1
refusal_number checked.Other = 2
refusal_number checked.Old = 3
refusal_number checked.Tag = 4
refusal_number checked.Port = 5
refusal_number checked.Key = 6
refusal_number checked.Signature = 7
