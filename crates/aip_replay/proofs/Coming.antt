-- A replay on its way, and which answer is right where it has come to.
use Rattle.std.proofs.Common.{◌≡◌, ℕ, suc, ◌+◌, ◌<◌, ◌≤◌, List, [], ◌∷◌, ◌++◌, length, map, take, drop, Some, refl, sym, ap, ◌∙◌, subst, append_assoc, arith}
use Rattle.std.specs.List.{AllByRecursion}
use Rattle.std.proofs.lemmas.List.{append-nil, append_cancel_left, length-append, length_push, take-append-drop, take-append-le, take_at}
use Rattle.aip_text.specs.Lines.{lines_of}
use Rattle.aip_io.specs.Lines.{IsLast, IsLong}
use Rattle.aip_event.specs.declared.event.Event.{Event}
use Rattle.aip_event.specs.declared.input.Input.{Input}
use Rattle.aip_topo.specs.Sound.{IsSound}
use Rattle.aip_topo.specs.declared.topology.Topology.{Topology}
use Rattle.aip_rules.specs.declared.Entry.{Entry}
use Rattle.aip_rules.specs.Step.{trace_from, trace_of}
use Rattle.aip_core.specs.Kept.{Kept}
use Rattle.aip_replay.specs.Answers.{IsFirstWrong}
use Rattle.aip_replay.specs.Marks.{event_mark, shown}
use Rattle.aip_replay.specs.Texts.{Begins, FirstBegin, IsTraceLine, IsTraceText, and_inputs, inputs_at, inputs_on, text_of_lines}
use Rattle.aip_replay.specs.Turns.{HasCome}
use Rattle.aip_replay.proofs.Feeds.{IsOne, all_rest, lines_of_text}
use Rattle.aip_replay.proofs.Marks.{before_events, inputs_joined, read_apart, text_joined, text_shown}
use Rattle.aip_replay.proofs.Plain.{plain_shown}
use Rattle.aip_replay.proofs.Prefix.{are_one, begins_by, begins_shown, first_parts}
use Rattle.aip_replay.proofs.Runs.{lines_shown}
use Rattle.aip_replay.proofs.Traces.{Grows, grows, halfway, one_trace, read_of}

-- ## First lines of a file

-- lines that stand first in a file and begin a trace: so do fewer of them
front_begins : (topo : Topology) → IsSound topo → (lines : List (List ℕ)) (file left : List ℕ) (count : ℕ) → AllByRecursion IsOne lines → file ≡ text_of_lines lines ++ left → Begins topo lines
    → count ≤ length lines → FirstBegin topo file count
front_begins topo sound lines file left count one whole b le =
    let all : lines_of file ≡ lines ++ lines_of left = ap lines_of whole ∙ lines_of_text lines left one in
    let front : take count (lines_of file) ≡ take count lines = ap (take count) all ∙ take-append-le count lines (lines_of left) le in
    let split : lines ≡ take count lines ++ drop count lines = sym (take-append-drop count lines) in
    let rest : List ℕ = text_of_lines (drop count lines) ++ left in
    let long : length (lines_of file) ≡ length lines + length (lines_of left) = ap length all ∙ length-append lines (lines_of left) in
    record {
      there = omega arith;
      rest = rest;
      ended =
          whole ∙ ap (λ (ls : List (List ℕ)). text_of_lines ls ++ left) split ∙ ap (λ (t : List ℕ). t ++ left) (text_joined (take count lines) (drop count lines))
          ∙ append_assoc (text_of_lines (take count lines)) (text_of_lines (drop count lines)) left ∙ ap (λ (ls : List (List ℕ)). text_of_lines ls ++ rest) (sym front);
      begin = subst (Begins topo) (sym front) (first_parts topo sound (take count lines) (drop count lines) (subst (Begins topo) split b));
    }

-- the first lines of a trace text begin a trace
text_begins : (topo : Topology) → IsSound topo → (file : List ℕ) (count : ℕ) → IsTraceText topo file → count ≤ length (lines_of file) → FirstBegin topo file count
text_begins topo sound file count t le =
    let all : lines_of file ≡ shown t.trace = ap lines_of t.text ∙ lines_shown topo sound t.inputs t.trace t.formed t.given in
    let long : length (lines_of file) ≡ length (shown t.trace) = ap length all in
    let plain = plain_shown topo sound t.inputs t.trace t.formed t.given in
    front_begins topo sound (shown t.trace) file [] count (are_one (shown t.trace) plain) (t.text ∙ text_shown t.trace ∙ sym (append-nil (text_of_lines (shown t.trace))))
    (begins_by topo (shown t.trace) [] t.inputs t.trace plain (read_of topo t.inputs t.trace t.formed t.given) t.given (sym (append-nil (shown t.trace)))) (omega arith)

-- behind the lines that were read stand the next line and others
behind_read : (lines due rest others before after : List (List ℕ)) (line : List ℕ) → before ≡ lines ++ due → after ≡ before ++ rest → after ≡ (lines ++ line ∷ []) ++ others
    → due ++ rest ≡ line ∷ others
behind_read lines due rest others before after line read grown shows =
    append_cancel_left lines (due ++ rest) (line ∷ others)
    (sym (append_assoc lines due rest) ∙ ap (λ (ls : List (List ℕ)). ls ++ rest) (sym read) ∙ sym grown ∙ shows ∙ append_assoc lines (line ∷ []) others)

module _ (topo : Topology) (sound : IsSound topo) (core : Kept) (due : List Event) (number : ℕ) (file left : List ℕ) (came : HasCome topo core due number file left) where
  -- the lines of the file: those that were read, and those that are left
  pub lines_left : lines_of file ≡ came.lines ++ lines_of left
  lines_left = ap lines_of came.whole ∙ lines_of_text came.lines left (are_one came.lines came.plain)

  -- the inputs on what was read
  pub read_so_far : inputs_on came.lines ≡ Some came.inputs
  read_so_far = sym (before_events came.lines due) ∙ ap inputs_on (sym came.read) ∙ read_of topo came.inputs came.trace came.formed came.given

  begun : Begins topo came.lines
  begun = begins_by topo came.lines (map event_mark due) came.inputs came.trace came.plain read_so_far came.given came.read

  -- what was read begins a trace, and so does each first part of it
  pub first_begin : (count : ℕ) → count < number → FirstBegin topo file count
  first_begin count less =
      let read = came.count in
      front_begins topo sound came.lines file left count (are_one came.lines came.plain) came.whole begun (omega arith)

  -- a line that stands next and can't is the first that is wrong
  pub wrong_line : (line : List ℕ) (rest : List (List ℕ)) → lines_of left ≡ line ∷ rest → (FirstBegin topo file number → ⊥) → IsFirstWrong topo file number
  wrong_line line rest next wrong =
      let all : lines_of file ≡ came.lines ++ (line ∷ rest) = lines_left ∙ ap (λ (ls : List (List ℕ)). came.lines ++ ls) next in
      let long : length (lines_of file) ≡ length came.lines + suc (length rest) = ap length all ∙ length-append came.lines (line ∷ rest) in
      let read = came.count in
      record { before = first_begin; wrong = wrong; no_text = λ t. wrong (text_begins topo sound file number t (omega arith)) }

  -- the first lines of the file with the one that stands next
  pub with_next : (line : List ℕ) (rest : List (List ℕ)) → lines_of left ≡ line ∷ rest → take number (lines_of file) ≡ came.lines ++ line ∷ []
  with_next line rest next =
      let read = came.count in
      let long : length (came.lines ++ line ∷ []) ≡ number = length_push came.lines line ∙ sym read in
      ap (take number) (lines_left ∙ ap (λ (ls : List (List ℕ)). came.lines ++ ls) next ∙ sym (append_assoc came.lines (line ∷ []) rest))
      ∙ take_at (came.lines ++ line ∷ []) rest number long

  -- a last line that no line feed ends is wrong
  pub last_wrong : (line after : List ℕ) → IsLast left line after → IsFirstWrong topo file number
  last_wrong line after last = wrong_line line (lines_of after) last.lines (λ f.
      let e : text_of_lines came.lines ++ left ≡ (text_of_lines came.lines ++ text_of_lines (line ∷ [])) ++ f.rest =
      sym came.whole ∙ f.ended ∙ ap (λ (ls : List (List ℕ)). text_of_lines ls ++ f.rest) (with_next line (lines_of after) last.lines)
      ∙ ap (λ (t : List ℕ). t ++ f.rest) (text_joined came.lines (line ∷ [])) in
      let own : left ≡ text_of_lines (line ∷ []) ++ f.rest = append_cancel_left (text_of_lines came.lines) left (text_of_lines (line ∷ []) ++ f.rest) (e ∙ append_assoc (text_of_lines came.lines) (text_of_lines (line ∷ [])) f.rest) in
      let sizes : length left ≡ length (text_of_lines (line ∷ [])) + length f.rest = ap length own ∙ length-append (text_of_lines (line ∷ [])) f.rest in
      let feed : length (text_of_lines (line ∷ [])) ≡ length line + 1 = ap length (append-nil (line ++ 10 ∷ [])) ∙ length_push line 10 in
      let same : length left ≡ length line = ap length last.whole in
      absurd (omega arith))

  -- a line that is too long is wrong
  pub long_wrong : IsLong 20000 left → IsFirstWrong topo file number
  long_wrong is = wrong_line is.line is.rest is.lines (λ f.
      let b : Begins topo (came.lines ++ is.line ∷ []) = subst (Begins topo) (with_next is.line is.rest is.lines) f.begin in
      let last = all_rest IsTraceLine came.lines (is.line ∷ []) b.plain in
      let short = last.0.short in
      let long = is.long in
      absurd (omega arith))

  -- what follows where the lines that were read begin a trace with one more
  pub record IsNext (line : List ℕ) : Type 0 where
    pub back : List Input
    pub read : and_inputs (inputs_at line) (Some []) ≡ Some back
    pub after : List Entry
    pub lead : trace_from topo came.trace back ≡ Some after
    pub grown : Grows came.trace back after
    pub others : List (List ℕ)
    pub next : map event_mark due ++ grown.rest ≡ line ∷ others

  pub is_next : (line : List ℕ) → Begins topo (came.lines ++ line ∷ []) → IsNext line
  is_next line b =
      let apart = read_apart (inputs_on came.lines) (inputs_on (line ∷ [])) b.inputs (sym (inputs_joined came.lines (line ∷ [])) ∙ b.read) in
      let fronts : Some apart.front ≡ Some came.inputs = sym apart.front_is ∙ read_so_far in
      let front : apart.front ≡ came.inputs = cc in
      let whole : b.inputs ≡ came.inputs ++ apart.back = apart.whole ∙ ap (λ (l : List Input). l ++ apart.back) front in
      let half = halfway topo [] came.inputs apart.back b.trace (ap (trace_of topo) (sym whole) ∙ b.given) in
      let mid : half.mid ≡ came.trace = one_trace topo came.inputs came.inputs half.mid came.trace refl half.first came.given in
      let lead : trace_from topo came.trace apart.back ≡ Some b.trace = ap (λ (t : List Entry). trace_from topo t apart.back) (sym mid) ∙ half.rest in
      let grown = grows topo came.trace b.trace apart.back lead in
      let shows = begins_shown topo sound (came.lines ++ line ∷ []) b in
      record {
        back = apart.back;
        read = apart.back_is;
        after = b.trace;
        lead = lead;
        grown = grown;
        others = shows.rest;
        next = behind_read came.lines (map event_mark due) grown.rest shows.rest (shown came.trace) (shown b.trace) line came.read grown.whole shows.whole;
      }
