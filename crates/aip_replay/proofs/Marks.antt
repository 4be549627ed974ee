-- The lines of a trace, and the inputs on them.
use Rattle.std.proofs.Common.{◌≡◌, ℕ, Bool, true, false, List, [], ◌∷◌, ◌++◌, map, Option, Some, None, refl, sym, ap, ◌∙◌, append_assoc, cond, subst}
use Rattle.std.specs.List.{AllByRecursion}
use Rattle.std.specs.Prelude.{drop}
use Rattle.std.proofs.lemmas.List.{append-nil}
use Rattle.std.proofs.lemmas.List.Concat.{flat_map-append}
use Rattle.aip_event.specs.declared.event.Event.{Event}
use Rattle.aip_event.specs.declared.input.Input.{Input}
use Rattle.aip_event.specs.Lines.{IsInput}
use Rattle.aip_event.specs.Reading.{input_of}
use Rattle.aip_event.proofs.InputLaws.{input_again, input_found}
use Rattle.aip_rules.specs.declared.Entry.{Entry}
use Rattle.aip_rules.specs.declared.Entry.TheVariants.{Taken, Happened}
use Rattle.aip_rules.specs.Texts.{entry_text, text_of}
use Rattle.aip_replay.specs.Texts.{and_inputs, inputs_at, inputs_on, is_marked, one_input, text_of_lines}
use Rattle.aip_replay.specs.Marks.{entry_mark, event_mark, shown}
use Rattle.aip_replay.proofs.Feeds.{all_append, all_first, all_rest}

-- ## The text of a trace

line_is : (entry : Entry) → entry_text entry ≡ text_of_lines (entry_mark entry ∷ [])
line_is (Taken input) = sym (append-nil (entry_text (Taken input)))
line_is (Happened event) = sym (append-nil (entry_text (Happened event)))

pub text_joined : (xs ys : List (List ℕ)) → text_of_lines (xs ++ ys) ≡ text_of_lines xs ++ text_of_lines ys
text_joined xs ys = flat_map-append (λ (line : List ℕ). line ++ 10 ∷ []) xs ys

-- the text of a trace is that of its lines
pub text_shown : (tr : List Entry) → text_of tr ≡ text_of_lines (shown tr)
text_shown [] = refl
text_shown (entry ∷ tr) =
    ap (λ (t : List ℕ). t ++ entry_text entry) (text_shown tr) ∙ ap (λ (t : List ℕ). text_of_lines (shown tr) ++ t) (line_is entry)
    ∙ sym (text_joined (shown tr) (entry_mark entry ∷ []))

-- ## Inputs on lines

and_none : (some : Option (List Input)) → and_inputs some (Some []) ≡ some
and_none None = refl
and_none (Some inputs) = ap Some (append-nil inputs)

none_and : (some : Option (List Input)) → and_inputs (Some []) some ≡ some
none_and None = refl
none_and (Some inputs) = refl

and_assoc : (a b c : Option (List Input)) → and_inputs (and_inputs a b) c ≡ and_inputs a (and_inputs b c)
and_assoc None b c = refl
and_assoc (Some a) None c = refl
and_assoc (Some a) (Some b) None = refl
and_assoc (Some a) (Some b) (Some c) = ap Some (append_assoc a b c)

-- the inputs on lines and on others behind them
pub inputs_joined : (xs ys : List (List ℕ)) → inputs_on (xs ++ ys) ≡ and_inputs (inputs_on xs) (inputs_on ys)
inputs_joined [] ys = sym (none_and (inputs_on ys))
inputs_joined (x ∷ xs) ys =
    ap (and_inputs (inputs_at x)) (inputs_joined xs ys) ∙ sym (and_assoc (inputs_at x) (inputs_on xs) (inputs_on ys))

-- what was read of lines and of others behind them
pub record ReadApart (first others : Option (List Input)) (inputs : List Input) : Type 0 where
  pub front : List Input
  pub back : List Input
  pub front_is : first ≡ Some front
  pub back_is : others ≡ Some back
  pub whole : inputs ≡ front ++ back

pub read_apart : (first others : Option (List Input)) (inputs : List Input) → and_inputs first others ≡ Some inputs → ReadApart first others inputs
read_apart None others inputs e = absurd cc
read_apart (Some front) None inputs e = absurd cc
read_apart (Some front) (Some back) inputs e =
    let same : front ++ back ≡ inputs = cc in
    record { front = front; back = back; front_is = refl; back_is = refl; whole = sym same }

one_formed : (line : List ℕ) (o : Option Input) (inputs : List Input) → input_of line ≡ o → one_input o ≡ Some inputs → AllByRecursion IsInput inputs
one_formed line None inputs read e = absurd cc
one_formed line (Some input) inputs read e =
    let same : input ∷ [] ≡ inputs = cc in
    subst (λ (l : List Input). AllByRecursion IsInput l) same ((input_found line input read).0, tt)

at_formed : (line : List ℕ) (marked : Bool) (inputs : List Input) → cond marked (one_input (input_of (drop 2 line))) (Some []) ≡ Some inputs → AllByRecursion IsInput inputs
at_formed line true inputs e = one_formed (drop 2 line) (input_of (drop 2 line)) inputs refl e
at_formed line false inputs e =
    let same : [] ≡ inputs = cc in
    subst (λ (l : List Input). AllByRecursion IsInput l) same tt

-- what is read of lines is of the grammar
pub formed_on : (lines : List (List ℕ)) (inputs : List Input) → inputs_on lines ≡ Some inputs → AllByRecursion IsInput inputs
formed_on [] inputs e =
    let same : [] ≡ inputs = cc in
    subst (λ (l : List Input). AllByRecursion IsInput l) same tt
formed_on (line ∷ lines) inputs e =
    let apart = read_apart (inputs_at line) (inputs_on lines) inputs e in
    subst (λ (l : List Input). AllByRecursion IsInput l) (sym apart.whole)
    (all_append IsInput apart.front apart.back (at_formed line (is_marked line) apart.front apart.front_is) (formed_on lines apart.back apart.back_is))

-- ## Inputs of a trace

-- the inputs of a trace, the oldest first
abbrev pub taken_of : List Entry → List Input
taken_of [] = []
taken_of (Taken input ∷ tr) = taken_of tr ++ input ∷ []
taken_of (Happened event ∷ tr) = taken_of tr

-- the line of an input of the grammar is read as that input
pub at_input : (input : Input) → IsInput input → inputs_at (entry_mark (Taken input)) ≡ Some (input ∷ [])
at_input input formed = ap one_input (input_again input formed)

-- lines of events have none
pub on_events : (events : List Event) → inputs_on (map event_mark events) ≡ Some []
on_events [] = refl
on_events (event ∷ events) = ap (and_inputs (Some [])) (on_events events)

-- the inputs on the lines of a trace are its inputs
pub on_shown : (tr : List Entry) → AllByRecursion IsInput (taken_of tr) → inputs_on (shown tr) ≡ Some (taken_of tr)
on_shown [] formed = refl
on_shown (Taken input ∷ tr) formed =
    inputs_joined (shown tr) (entry_mark (Taken input) ∷ [])
    ∙ ap (λ (o : Option (List Input)). and_inputs o (and_inputs (inputs_at (entry_mark (Taken input))) (Some []))) (on_shown tr (all_first IsInput (taken_of tr) (input ∷ []) formed))
    ∙ ap (λ (o : Option (List Input)). and_inputs (Some (taken_of tr)) (and_inputs o (Some []))) (at_input input (all_rest IsInput (taken_of tr) (input ∷ []) formed).0)
on_shown (Happened event ∷ tr) formed =
    inputs_joined (shown tr) (event_mark event ∷ [])
    ∙ ap (λ (o : Option (List Input)). and_inputs o (Some [])) (on_shown tr formed) ∙ and_none (Some (taken_of tr))

-- what is read of lines that events follow is read of the lines
pub before_events : (lines : List (List ℕ)) (events : List Event) → inputs_on (lines ++ map event_mark events) ≡ inputs_on lines
before_events lines events =
    inputs_joined lines (map event_mark events) ∙ ap (and_inputs (inputs_on lines)) (on_events events) ∙ and_none (inputs_on lines)
