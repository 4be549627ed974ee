-- What is asked is read again from the bytes that ask it.
use Rattle.std.proofs.Common.{◌≡◌, ℕ, ◌+◌, ◌<◌, ◌^◌, List, [], ◌++◌, append_assoc, length, take, drop, refl, sym, ap, ◌∙◌, arith}
use Rattle.std.proofs.lemmas.List.{take_at, drop_at, drop-drop, length-append, append-nil}
use Rattle.byteorder.specs.Endian.{big_bytes, big_number}
use Rattle.byteorder.specs.Numbers.{big_number-reads_back}
use Rattle.aip_addr.specs.declared.ids.Address.{Address}
use Rattle.aip_addr.specs.Ids.{address_bytes, address_of}
use Rattle.verify_packet.specs.Challenge.{Asked, AskedFits, IsWhole, asked_bytes, asked_in, challenge_of, tag_of}
use Rattle.verify_packet.specs.declared.challenges.RouterKey.{RouterKey}

length_of : (a : Address) → IsWhole a → length (address_bytes a) ≡ 40
length_of a h = omega (arith, h.ad, h.eid, length-append a.ad.bytes a.eid.bytes)

back : (a : Address) → IsWhole a → address_of (address_bytes a) ≡ a
back a h = rw (take_at a.ad.bytes a.eid.bytes 20 h.ad, drop_at a.ad.bytes a.eid.bytes 20 h.ad) refl

-- the address at the front
first : (a : Address) (rest : List ℕ) → IsWhole a → address_of (take 40 (address_bytes a ++ rest)) ≡ a
first a rest h = ap address_of (take_at (address_bytes a) rest 40 (length_of a h)) ∙ back a h

-- what follows a front, and some more
past : (n m : ℕ) (xs ys : List ℕ) → length xs ≡ n → drop (n + m) (xs ++ ys) ≡ drop m ys
past n m xs ys e = sym (drop-drop m n (xs ++ ys)) ∙ ap (λ (t : List ℕ). drop m t) (drop_at xs ys n e)

regroup : (a b c d e f : List ℕ) → (a ++ (b ++ (c ++ (d ++ e)))) ++ f ≡ a ++ (b ++ (c ++ (d ++ (e ++ f))))
regroup a b c d e f = simp append_assoc

same : (asked : Asked) {r s : Address} {h : List ℕ} {p e : ℕ} → r ≡ asked.router → s ≡ asked.source → h ≡ asked.hash → p ≡ asked.port → e ≡ asked.epoch
    → record { router = r; source = s; hash = h; port = p; epoch = e } ≡ asked
same asked r s h p e i = record { router = r i; source = s i; hash = h i; port = p i; epoch = e i }

-- the number at the front
number_first : (n x : ℕ) (rest : List ℕ) → length (big_bytes n x) ≡ n → x < 256 ^ n → big_number n (take n (big_bytes n x ++ rest)) ≡ x
number_first n x rest e lt =
    ap (λ (t : List ℕ). big_number n t) (take_at (big_bytes n x) rest n e ∙ sym (append-nil (big_bytes n x))) ∙ big_number-reads_back n x [] lt

-- what is asked, read from its bytes with more behind them
read_back : (asked : Asked) (more : List ℕ) → AskedFits asked → asked_in (asked_bytes asked ++ more) ≡ asked
unfolding asked_in
read_back asked more h =
    let r : List ℕ = address_bytes asked.router in
    let s : List ℕ = address_bytes asked.source in
    let p : List ℕ = big_bytes 2 asked.port in
    let e : List ℕ = big_bytes 8 asked.epoch in
    let four : List ℕ = p ++ (e ++ more) in
    let three : List ℕ = asked.hash ++ four in
    let two : List ℕ = s ++ three in
    let lr : length r ≡ 40 = length_of asked.router h.router in
    let ls : length s ≡ 40 = length_of asked.source h.source in
    ap asked_in (regroup r s asked.hash p e more)
    ∙ same asked
    (first asked.router two h.router)
    (ap (λ (t : List ℕ). address_of (take 40 t)) (drop_at r two 40 lr) ∙ first asked.source three h.source)
    (ap (λ (t : List ℕ). take 32 t) (past 40 40 r two lr ∙ drop_at s three 40 ls) ∙ take_at asked.hash four 32 h.hash)
    (ap (λ (t : List ℕ). big_number 2 (take 2 t)) (past 40 72 r two lr ∙ (past 40 32 s three ls ∙ drop_at asked.hash four 32 h.hash))
    ∙ number_first 2 asked.port (e ++ more) refl h.port)
    (ap (λ (t : List ℕ). big_number 8 (take 8 t)) (past 40 74 r two lr ∙ (past 40 34 s three ls ∙ (past 32 2 asked.hash four h.hash ∙ drop_at p (e ++ more) 2 refl)))
    ∙ number_first 8 asked.epoch more refl h.epoch)

-- the same of its parts, as they are written
pub parts_read : (router : RouterKey) (asked : Asked) (bytes tag : List ℕ) → bytes ≡ asked_bytes asked → AskedFits asked → asked_in (bytes ++ tag) ≡ asked
parts_read router asked bytes tag b h = rw b (read_back asked tag h)

-- the parts of a challenge, as they are written
pub written : (router : RouterKey) (asked : Asked) (bytes tag : List ℕ) → bytes ≡ asked_bytes asked → tag ≡ tag_of router asked.epoch bytes
    → bytes ++ tag ≡ challenge_of router asked
unfolding challenge_of
written router asked bytes tag b t = rw (t, b) refl
