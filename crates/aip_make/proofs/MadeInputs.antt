-- What every made input is.
use Rattle.std.proofs.Common.{◌≡◌, ℕ, zero, suc, ◌+◌, ◌%◌, ◌<◌, ◌≤◌, ◌^◌, ◌==◌, Bool, true, false, not, cond, List, [], ◌∷◌, ◌++◌, length, refl, arith}
use Rattle.std.specs.Prelude.{decimal, nat_le, nat_lt}
use Rattle.std.proofs.lemmas.Bool.{and_parts, leb-true}
use Rattle.std.proofs.lemmas.Fmt.{length-decimal-le}
use Rattle.std.proofs.lemmas.List.{length-append}
use Rattle.hex.specs.Hex.{IsBytes, lower_digits}
use Rattle.hex.proofs.HexLemmas.{length-encode_with}
use Rattle.aip_addr.specs.Naming.{IsName, is_digit, is_name_byte}
use Rattle.aip_text.specs.Lines.{is_skipped}
use Rattle.aip_text.specs.Words.{bytes_word, is_lower_digit, lacks}
use Rattle.aip_text.proofs.Lacking.{lacks-append, lacks-decimal, lacks-encode_lower, lacks-name}
use Rattle.aip_event.specs.declared.input.Input.{Input}
use Rattle.aip_event.specs.declared.input.Input.TheVariants as input
use Rattle.aip_event.specs.Lines.{IsInput, input_line}
use Rattle.aip_gen.specs.Draws.{Drawn, given, word}
use Rattle.aip_gen.specs.Lines.{chosen_input, cut_input, deliver_input, host_restart, mend_input, router_restart, send_input, shutoff_input, some_flight, some_host, some_router, tick_input}
use Rattle.aip_gen.proofs.Names.{numbered_name}
use Rattle.aip_make.specs.Workload.{made_input}

-- an input of the grammar, whose line is short, isn't skipped, and has no carriage return and no line feed
pub record IsPlain (input : Input) : Type 0 where
  pub grammar : IsInput input
  pub short : length (input_line input) ≤ 20000
  pub shown : is_skipped (input_line input) ≡ false
  pub no_return : lacks 13 (input_line input) ≡ true
  pub no_feed : lacks 10 (input_line input) ≡ true

-- ## Words

number_length : (n : ℕ) → n < 10 ^ 15 → length (decimal n) ≤ 15
number_length n small = let fits : n < 2 ^ 64 = omega arith in length-decimal-le 15 n (omega arith) small fits

name_length : (name : List ℕ) → IsName name → length name ≤ 16
name_length name h = leb-true (length name) 16 (and_parts (nat_le (length name) 16) _ h).0

-- a space before a word
spaced : (byte : ℕ) (word : List ℕ) → not (32 == byte) ≡ true → lacks byte word ≡ true → lacks byte (32 ∷ word) ≡ true
spaced byte word other plain = rw other plain

-- one zero byte
zero_byte : IsBytes (0 ∷ [])
zero_byte zero = omega arith
zero_byte (suc i) = omega arith

-- ## Each kind

of_tick : (n : ℕ) → n < 10 ^ 15 → IsPlain (input.Tick n)
of_tick n small =
    let short = number_length n small in record {
      grammar = small;
      short = omega arith;
      shown = refl;
      no_return = lacks-decimal 13 n refl small;
      no_feed = lacks-decimal 10 n refl small;
    }

of_deliver : (n : ℕ) → n < 10 ^ 15 → IsPlain (input.Deliver n)
of_deliver n small =
    let short = number_length n small in record {
      grammar = small;
      short = omega arith;
      shown = refl;
      no_return = lacks-decimal 13 n refl small;
      no_feed = lacks-decimal 10 n refl small;
    }

of_cut : (n : ℕ) → n < 10 ^ 15 → IsPlain (input.Cut n)
of_cut n small =
    let short = number_length n small in record {
      grammar = small;
      short = omega arith;
      shown = refl;
      no_return = lacks-decimal 13 n refl small;
      no_feed = lacks-decimal 10 n refl small;
    }

of_mend : (n : ℕ) → n < 10 ^ 15 → IsPlain (input.Mend n)
of_mend n small =
    let short = number_length n small in record {
      grammar = small;
      short = omega arith;
      shown = refl;
      no_return = lacks-decimal 13 n refl small;
      no_feed = lacks-decimal 10 n refl small;
    }

of_restart : (name : List ℕ) → IsName name → IsPlain (input.Restart name)
of_restart name named =
    let short = name_length name named in record {
      grammar = named;
      short = omega arith;
      shown = refl;
      no_return = lacks-name 13 name refl named;
      no_feed = lacks-name 10 name refl named;
    }

-- the word of one zero byte
zero_word : length (bytes_word (0 ∷ [])) ≡ 2
zero_word = length-encode_with lower_digits (0 ∷ [])

-- the words of a packet of one zero byte
packet_length : (from to : List ℕ) (index : ℕ) → IsName from → IsName to → index < 10 ^ 15
    → length (from ++ 32 ∷ to ++ 32 ∷ decimal index ++ 32 ∷ bytes_word (0 ∷ [])) ≤ 1000
packet_length from to index from_named to_named small =
    let first = name_length from from_named in
    let second = name_length to to_named in
    let third = number_length index small in
    let last = zero_word in
    simp length-append (omega arith)

-- the words of a packet lack a byte that stands in none of them
packet_lacks : (byte : ℕ) (from to : List ℕ) (index : ℕ) → IsName from → IsName to → index < 10 ^ 15
    → is_name_byte byte ≡ false → is_digit byte ≡ false → is_lower_digit byte ≡ false → not (32 == byte) ≡ true
    → lacks byte (from ++ 32 ∷ to ++ 32 ∷ decimal index ++ 32 ∷ bytes_word (0 ∷ [])) ≡ true
packet_lacks byte from to index from_named to_named small no_name no_digit no_hex no_space =
    lacks-append byte (from ++ 32 ∷ to ++ 32 ∷ decimal index) (32 ∷ bytes_word (0 ∷ []))
    (lacks-append byte (from ++ 32 ∷ to) (32 ∷ decimal index)
    (lacks-append byte from (32 ∷ to) (lacks-name byte from no_name from_named) (spaced byte to no_space (lacks-name byte to no_name to_named)))
    (spaced byte (decimal index) no_space (lacks-decimal byte index no_digit small)))
    (spaced byte (bytes_word (0 ∷ [])) no_space (lacks-encode_lower byte (0 ∷ []) no_hex zero_byte))

of_send : (from to : List ℕ) (index : ℕ) → IsName from → IsName to → index < 10 ^ 15 → IsPlain (input.Send from to index (0 ∷ []))
of_send from to index from_named to_named small =
    let short = packet_length from to index from_named to_named small in record {
      grammar = (from_named, to_named, small, zero_byte);
      short = omega arith;
      shown = refl;
      no_return = packet_lacks 13 from to index from_named to_named small refl refl refl refl;
      no_feed = packet_lacks 10 from to index from_named to_named small refl refl refl refl;
    }

-- the words of a shut-off for 40 ticks
shut_length : (host : List ℕ) (flight : ℕ) → IsName host → flight < 10 ^ 15
    → length (host ++ 32 ∷ decimal flight ++ 32 ∷ decimal 40) ≤ 1000
shut_length host flight named small =
    let first = name_length host named in
    let second = number_length flight small in
    let third = number_length 40 (omega arith) in
    simp length-append (omega arith)

shut_lacks : (byte : ℕ) (host : List ℕ) (flight : ℕ) → IsName host → flight < 10 ^ 15 → is_name_byte byte ≡ false → is_digit byte ≡ false → not (32 == byte) ≡ true
    → lacks byte (host ++ 32 ∷ decimal flight ++ 32 ∷ decimal 40) ≡ true
shut_lacks byte host flight named small no_name no_digit no_space =
    lacks-append byte (host ++ 32 ∷ decimal flight) (32 ∷ decimal 40)
    (lacks-append byte host (32 ∷ decimal flight) (lacks-name byte host no_name named) (spaced byte (decimal flight) no_space (lacks-decimal byte flight no_digit small)))
    (spaced byte (decimal 40) no_space (lacks-decimal byte 40 no_digit (omega arith)))

of_shutoff : (host : List ℕ) (flight : ℕ) → IsName host → flight < 10 ^ 15 → IsPlain (input.Shutoff host flight 40)
of_shutoff host flight named small =
    let short = shut_length host flight named small in record {
      grammar = (named, small, omega arith);
      short = omega arith;
      shown = refl;
      no_return = shut_lacks 13 host flight named small refl refl refl;
      no_feed = shut_lacks 10 host flight named small refl refl refl;
    }

-- ## Every made input

-- one of two draws
one_of : (b : Bool) (f g : Drawn Input) (state : ℕ) → IsPlain (f state).0 → IsPlain (g state).0 → IsPlain ((cond b f g) state).0
one_of true f g state first second = first
one_of false f g state first second = second

host_named : (state : ℕ) → IsName (some_host state).0
host_named state = numbered_name 104 ((word state).0 % 24) refl (omega arith)

router_named : (state : ℕ) → IsName (some_router state).0
router_named state = numbered_name 114 ((word state).0 % 8) refl (omega arith)

flight_small : (flights state : ℕ) → flights < 10 ^ 15 → (some_flight flights state).0 < 10 ^ 15
flight_small flights state few = omega arith

module _ (index flights : ℕ) (small : index < 10 ^ 15) (few : flights < 10 ^ 15) where
  of_shutoffs : (state : ℕ) → IsPlain (shutoff_input flights state).0
  of_shutoffs state =
      one_of (flights == 0) (given (input.Tick 1)) _ state (of_tick 1 (omega arith))
      (of_shutoff (some_host state).0 (some_flight flights (some_host state).1).0 (host_named state) (flight_small flights (some_host state).1 few))

  of_deliveries : (state : ℕ) → IsPlain (deliver_input flights state).0
  of_deliveries state =
      one_of (flights == 0) (given (input.Tick 1)) _ state (of_tick 1 (omega arith))
      (of_deliver (some_flight flights state).0 (flight_small flights state few))

  of_chosen : (x state : ℕ) → IsPlain (chosen_input index flights x state).0
  of_chosen x state =
      one_of (nat_lt x 8) tick_input _ state (of_tick (1 + (word state).0 % 5) (omega arith))
      (one_of (nat_lt x 72) (send_input index) _ state
      (of_send (some_host state).0 (some_host (some_host state).1).0 index (host_named state) (host_named (some_host state).1) small)
      (one_of (nat_lt x 76) (shutoff_input flights) _ state (of_shutoffs state)
      (one_of (x == 76) router_restart _ state (of_restart (some_router state).0 (router_named state))
      (one_of (x == 77) host_restart _ state (of_restart (some_host state).0 (host_named state))
      (one_of (x == 78) cut_input _ state (of_cut ((word state).0 % 8) (omega arith))
      (one_of (x == 79) mend_input (deliver_input flights) state (of_mend ((word state).0 % 8) (omega arith)) (of_deliveries state)))))))

-- each input of a workload is so, where its number and the number of flights are of the grammar
pub made_plain : (index flights state : ℕ) → index < 10 ^ 15 → flights < 10 ^ 15 → IsPlain (made_input index flights state)
unfolding made_input
made_plain index flights state small few = of_chosen index flights small few ((word state).0 % 256) (word state).1
