-- Lines that begin a trace: a first part of them begins one.
use Rattle.std.proofs.Common.{◌≡◌, ℕ, suc, ◌+◌, List, [], ◌∷◌, ◌++◌, length, Option, Some, None, refl, sym, ap, ◌∙◌, subst, ◌⊎◌, inl, inr, append_assoc, arith}
use Rattle.std.specs.List.{AllByRecursion}
use Rattle.std.proofs.lemmas.List.{append-nil, length-append}
use Rattle.aip_event.specs.declared.input.Input.{Input}
use Rattle.aip_event.specs.Lines.{IsInput}
use Rattle.aip_topo.specs.declared.topology.Topology.{Topology}
use Rattle.aip_topo.specs.Sound.{IsSound}
use Rattle.aip_rules.specs.declared.Entry.{Entry}
use Rattle.aip_rules.specs.declared.Entry.TheVariants.{Taken}
use Rattle.aip_rules.specs.Step.{trace_of}
use Rattle.aip_replay.specs.Laws.{FirstPartsBegin, TextsHaveOneTrace}
use Rattle.aip_replay.specs.Marks.{entry_mark, shown}
use Rattle.aip_replay.specs.Texts.{Begins, IsTraceLine, and_inputs, inputs_at, inputs_on, text_of_lines}
use Rattle.aip_replay.proofs.Feeds.{AreFirst, IsLonger, IsOne, aligned, no_lines, all_first, all_rest, all_weaker, one_begins}
use Rattle.aip_replay.proofs.Marks.{at_input, formed_on, inputs_joined, read_apart, text_joined, text_shown}
use Rattle.aip_replay.proofs.Traces.{Grows, IsBehind, few, grows, halfway, one_trace, read_of}
use Rattle.aip_replay.proofs.Plain.{plain_shown}

-- lines of a trace text have no line feed
pub are_one : (lines : List (List ℕ)) → AllByRecursion IsTraceLine lines → AllByRecursion IsOne lines
are_one lines plain = all_weaker IsTraceLine IsOne lines (λ line is. is.one) plain

-- the lines of a trace over a sound topology have none
pub shown_one : (topo : Topology) → IsSound topo → (inputs : List Input) (tr : List Entry) → AllByRecursion IsInput inputs → trace_of topo inputs ≡ Some tr → AllByRecursion IsOne (shown tr)
shown_one topo sound inputs tr formed e = are_one (shown tr) (plain_shown topo sound inputs tr formed e)

-- lines that begin a trace are the first of its lines
pub begins_shown : (topo : Topology) → IsSound topo → (lines : List (List ℕ)) (b : Begins topo lines) → AreFirst lines (shown b.trace) b.more
begins_shown topo sound lines b =
    aligned lines (shown b.trace) b.more (are_one lines b.plain) (shown_one topo sound b.inputs b.trace (formed_on lines b.inputs b.read) b.given)
    (sym (text_shown b.trace) ∙ b.text)

-- lines that are the first of a trace's begin it
pub begins_by : (topo : Topology) (lines rest : List (List ℕ)) (inputs : List Input) (tr : List Entry) → AllByRecursion IsTraceLine lines → inputs_on lines ≡ Some inputs → trace_of topo inputs ≡ Some tr
    → shown tr ≡ lines ++ rest → Begins topo lines
begins_by topo lines rest inputs tr plain read given whole = record {
  plain = plain;
  inputs = inputs;
  read = read;
  few = few topo inputs tr given;
  trace = tr;
  given = given;
  more = text_of_lines rest;
  text = text_shown tr ∙ ap text_of_lines whole ∙ text_joined lines rest;
}

-- a list is no longer than itself
longer_not : (xs ys : List Input) (x : Input) → xs ≡ xs ++ x ∷ ys → ⊥
longer_not xs ys x e =
    let same : length xs ≡ length (xs ++ x ∷ ys) = ap length e in
    let more : length (xs ++ x ∷ ys) ≡ length xs + suc (length ys) = length-append xs (x ∷ ys) in
    omega arith

-- lines that go on behind those of a trace hold an input more than it
past_input : (tr : List Entry) (first : List (List ℕ)) (front : List Input) (others : List (List ℕ)) (input : Input) → IsInput input → inputs_on (shown tr) ≡ Some front → inputs_on first ≡ Some front
    → first ≡ shown tr ++ entry_mark (Taken input) ∷ others → ⊥
past_input tr first front others input formed own read whole =
    let all : and_inputs (Some front) (and_inputs (Some (input ∷ [])) (inputs_on others)) ≡ Some front =
    ap (λ (o : Option (List Input)). and_inputs (Some front) (and_inputs o (inputs_on others))) (sym (at_input input formed))
    ∙ ap (λ (o : Option (List Input)). and_inputs o (and_inputs (inputs_at (entry_mark (Taken input))) (inputs_on others))) (sym own)
    ∙ sym (inputs_joined (shown tr) (entry_mark (Taken input) ∷ others)) ∙ ap inputs_on (sym whole) ∙ read in
    by (inputs_on others) all
  where
    by : (o : Option (List Input)) → and_inputs (Some front) (and_inputs (Some (input ∷ [])) o) ≡ Some front → ⊥
    by None e = absurd cc
    by (Some more) e =
        let same : front ++ (input ∷ more) ≡ front = cc in
        longer_not front more input (sym same)

-- first lines can't go on behind the lines of the trace of the inputs on them
not_past : (mid : List Entry) (first rest other : List (List ℕ)) (front back : List Input) → AllByRecursion IsInput back → inputs_on (shown mid) ≡ Some front → inputs_on first ≡ Some front
    → IsBehind back rest → IsLonger first (shown mid) rest other → ⊥
not_past mid first rest other front [] formed own read behind longer =
    let none : [] ≡ longer.next ∷ (longer.others ++ other) = sym behind ∙ longer.behind_is in
    absurd cc
not_past mid first rest other front (input ∷ back) formed own read behind longer =
    let both : entry_mark (Taken input) ∷ behind.0 ≡ longer.next ∷ (longer.others ++ other) = sym behind.1 ∙ longer.behind_is in
    let head : entry_mark (Taken input) ≡ longer.next = cc in
    past_input mid first front longer.others input formed.0 own read (longer.longer_is ∙ ap (λ (l : List ℕ). shown mid ++ l ∷ longer.others) (sym head))

-- so the lines of that trace are these lines and more
first_of_mid : (mid after : List Entry) (first other : List (List ℕ)) (front back : List Input) → AllByRecursion IsInput back → inputs_on (shown mid) ≡ Some front → inputs_on first ≡ Some front
    → (g : Grows mid back after) → shown after ≡ first ++ other → (r : List (List ℕ)) × (shown mid ≡ first ++ r)
first_of_mid mid after first other front back formed own read g whole =
    by (one_begins first (shown mid) other g.rest (sym whole ∙ g.whole))
  where
    by : ((r : List (List ℕ)) × (shown mid ≡ first ++ r)) ⊎ IsLonger first (shown mid) g.rest other → (r : List (List ℕ)) × (shown mid ≡ first ++ r)
    by (inl found) = found
    by (inr longer) = absurd (not_past mid first g.rest other front back formed own read g.behind longer)

-- a first part of lines that begin a trace begins one
pub first_parts : FirstPartsBegin
first_parts = λ topo sound first more b.
    let formed = formed_on (first ++ more) b.inputs b.read in
    let apart = read_apart (inputs_on first) (inputs_on more) b.inputs (sym (inputs_joined first more) ∙ b.read) in
    let all : AllByRecursion IsInput (apart.front ++ apart.back) = subst (λ (l : List Input). AllByRecursion IsInput l) apart.whole formed in
    let half = halfway topo [] apart.front apart.back b.trace (ap (trace_of topo) (sym apart.whole) ∙ b.given) in
    let start = all_first IsInput apart.front apart.back all in
    let shows = begins_shown topo sound (first ++ more) b in
    let found = first_of_mid half.mid b.trace first (more ++ shows.rest) apart.front apart.back (all_rest IsInput apart.front apart.back all)
    (read_of topo apart.front half.mid start half.first) apart.front_is (grows topo half.mid b.trace apart.back half.rest) (shows.whole ∙ append_assoc first more shows.rest) in
    begins_by topo first found.0 apart.front half.mid (all_first IsTraceLine first more b.plain) apart.front_is half.first found.1

-- texts that are one are those of one list of lines
same_lines : (some others : List (List ℕ)) → AllByRecursion IsOne some → AllByRecursion IsOne others → text_of_lines some ≡ text_of_lines others → some ≡ others
same_lines some others one other e =
    let first = aligned others some [] other one (e ∙ sym (append-nil (text_of_lines others))) in
    first.whole ∙ ap (λ (l : List (List ℕ)). others ++ l) (none first.rest (sym first.left)) ∙ append-nil others
  where
    none : (lines : List (List ℕ)) → text_of_lines lines ≡ [] → lines ≡ []
    none [] e = refl
    none (line ∷ lines) e = absurd (no_lines line (text_of_lines lines) (sym e ∙ append_assoc line (10 ∷ []) (text_of_lines lines)))

-- at most one trace has a given text
pub texts_have_one : TextsHaveOneTrace
texts_have_one = λ topo sound some others one other formed formed_too is is_too text.
    let lines = same_lines (shown one) (shown other) (shown_one topo sound some one formed is) (shown_one topo sound others other formed_too is_too)
    (sym (text_shown one) ∙ text ∙ text_shown other) in
    let both : Some some ≡ Some others = sym (read_of topo some one formed is) ∙ ap inputs_on lines ∙ read_of topo others other formed_too is_too in
    let same : some ≡ others = cc in
    one_trace topo some others one other same is is_too
