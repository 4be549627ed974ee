-- What a line that a line feed ends leads to, and the end of a file.
use Rattle.std.proofs.Common.{◌≡◌, ℕ, suc, ◌+◌, true, false, cond, List, [], ◌∷◌, ◌++◌, length, map, take, drop, Option, Some, None, Ok, Err, refl, sym, ap, ◌∙◌, subst, append_assoc, arith}
use Rattle.std.specs.Prelude.{codes}
use Rattle.std.specs.Cmp.Lexicographic.{bytes_decides}
use Rattle.std.proofs.lemmas.List.{append-nil, length-append, length_push, take-append-drop}
use Rattle.aip_text.specs.Lines.{lines_of}
use Rattle.aip_event.specs.declared.event.Event.{Event}
use Rattle.aip_event.specs.declared.input.Input.{Input}
use Rattle.aip_event.specs.Lines.{IsInput}
use Rattle.aip_event.specs.Reading.{input_of}
use Rattle.aip_event.proofs.InputLaws.{input_found}
use Rattle.aip_topo.specs.Sound.{IsSound}
use Rattle.aip_topo.specs.declared.topology.Topology.{Topology}
use Rattle.aip_rules.specs.declared.Entry.{Entry}
use Rattle.aip_rules.specs.declared.Entry.TheVariants.{Taken}
use Rattle.aip_rules.specs.declared.StepFault.{StepFault}
use Rattle.aip_rules.specs.Step.{after_step, step_of, trace_from}
use Rattle.aip_rules.specs.Texts.{text_of}
use Rattle.aip_core.specs.Kept.{Kept}
use Rattle.aip_core.specs.StandsFor.{IsStep, StandsFor}
use Rattle.aip_replay.specs.Answers.{IsFirstWrong}
use Rattle.aip_replay.specs.Marks.{entry_mark, event_mark, shown}
use Rattle.aip_replay.specs.Texts.{Begins, FirstBegin, IsTraceLine, IsTraceText, and_inputs, inputs_at, inputs_on, is_marked, one_input, text_of_lines}
use Rattle.aip_replay.specs.Turns.{HasCome}
use Rattle.aip_replay.proofs.Coming.{IsNext, first_begin, is_next, lines_left, read_so_far, with_next, wrong_line}
use Rattle.aip_replay.proofs.Feeds.{all_append, lines_of_first}
use Rattle.aip_replay.proofs.Marks.{text_joined, text_shown}
use Rattle.aip_replay.proofs.Runs.{lines_shown, trace_text}
use Rattle.aip_replay.proofs.Traces.{Grows, first_step, joined, leads_on, one_trace, read_of, shown_after}

-- the text of lines with one more
text_more : (lines : List (List ℕ)) (line left : List ℕ) → text_of_lines lines ++ (line ++ 10 ∷ left) ≡ text_of_lines (lines ++ line ∷ []) ++ left
text_more lines line left =
    ap (λ (t : List ℕ). text_of_lines lines ++ t) (sym (append_assoc line (10 ∷ []) left) ∙ ap (λ (t : List ℕ). t ++ left) (sym (append-nil (line ++ 10 ∷ []))))
    ∙ sym (append_assoc (text_of_lines lines) (text_of_lines (line ∷ [])) left) ∙ ap (λ (t : List ℕ). t ++ left) (sym (text_joined lines (line ∷ [])))

-- a marked line is its mark and what stands behind it
mark_whole : (line : List ℕ) (input : Input) → is_marked line ≡ true → input_of (drop 2 line) ≡ Some input → line ≡ entry_mark (Taken input)
mark_whole line input marked read =
    sym (take-append-drop 2 line) ∙ ap (λ (t : List ℕ). t ++ drop 2 line) ((bytes_decides (take 2 line) (codes "> ")).0 marked)
    ∙ ap (λ (t : List ℕ). codes "> " ++ t) (input_found (drop 2 line) input read).1

-- what isn't due isn't shown
none_due : (lines : List (List ℕ)) → lines ++ map event_mark [] ≡ lines
none_due lines = append-nil lines

module _ (topo : Topology) (sound : IsSound topo) (core : Kept) (number : ℕ) (file left line : List ℕ) (plain : IsTraceLine line) where
  -- the next line of the file
  next_line : lines_of (line ++ 10 ∷ left) ≡ line ∷ lines_of left
  next_line = lines_of_first line left plain.one

  -- ## Where an event is due

  module _ (event : Event) (due : List Event) (came : HasCome topo core (event ∷ due) number file (line ++ 10 ∷ left)) where
    -- the line of the next event leads on
    pub saw_event : line ≡ event_mark event → HasCome topo core due (number + 1) file left
    saw_event same =
        let count = came.count in
        record {
          inputs = came.inputs;
          trace = came.trace;
          lines = came.lines ++ line ∷ [];
          formed = came.formed;
          given = came.given;
          stands = came.stands;
          plain = all_append IsTraceLine came.lines (line ∷ []) came.plain (plain, tt);
          read =
              came.read ∙ sym (append_assoc came.lines (event_mark event ∷ []) (map event_mark due))
              ∙ ap (λ (l : List ℕ). (came.lines ++ l ∷ []) ++ map event_mark due) (sym same);
          count = omega (arith, length_push came.lines line);
          whole = came.whole ∙ text_more came.lines line left;
        }

    -- any other line is wrong
    pub other_line : (line ≡ event_mark event → ⊥) → IsFirstWrong topo file number
    other_line differs = wrong_line topo sound core (event ∷ due) number file (line ++ 10 ∷ left) came line (lines_of left) next_line (λ f.
        let b = subst (Begins topo) (with_next topo sound core (event ∷ due) number file (line ++ 10 ∷ left) came line (lines_of left) next_line) f.begin in
        let n = is_next topo sound core (event ∷ due) number file (line ++ 10 ∷ left) came line b in
        let next = n.next in
        let same : event_mark event ≡ line = cc in
        differs (sym same))

  -- ## Where none is due

  module _ (came : HasCome topo core [] number file (line ++ 10 ∷ left)) where
    next_of : FirstBegin topo file number → IsNext topo sound core [] number file (line ++ 10 ∷ left) came line
    next_of f =
        is_next topo sound core [] number file (line ++ 10 ∷ left) came line
        (subst (Begins topo) (with_next topo sound core [] number file (line ++ 10 ∷ left) came line (lines_of left) next_line) f.begin)

    wrong_here : (IsNext topo sound core [] number file (line ++ 10 ∷ left) came line → ⊥) → IsFirstWrong topo file number
    wrong_here never = wrong_line topo sound core [] number file (line ++ 10 ∷ left) came line (lines_of left) next_line (λ f. never (next_of f))

    -- the input that the core takes leads on
    pub took_input : (input : Input) (events : List Event) (after : Kept) → is_marked line ≡ true → input_of (drop 2 line) ≡ Some input → IsStep core input after events
        → HasCome topo after events (number + 1) file left
    took_input input events after marked read step =
        let stepped = step topo came.trace came.stands in
        let count = came.count in
        let whole = mark_whole line input marked read in
        record {
          inputs = came.inputs ++ input ∷ [];
          trace = after_step came.trace input events;
          lines = came.lines ++ line ∷ [];
          formed = all_append IsInput came.inputs (input ∷ []) came.formed ((input_found (drop 2 line) input read).0, tt);
          given =
              joined topo [] came.trace came.inputs (input ∷ []) (Some (after_step came.trace input events)) came.given
              (leads_on topo came.trace input [] events (Some (after_step came.trace input events)) stepped.0 refl);
          stands = stepped.1;
          plain = all_append IsTraceLine came.lines (line ∷ []) came.plain (plain, tt);
          read =
              shown_after came.trace input events
              ∙ ap (λ (ls : List (List ℕ)). ls ++ (entry_mark (Taken input) ∷ map event_mark events)) (came.read ∙ none_due came.lines)
              ∙ ap (λ (l : List ℕ). came.lines ++ (l ∷ map event_mark events)) (sym whole)
              ∙ sym (append_assoc came.lines (line ∷ []) (map event_mark events));
          count = omega (arith, length_push came.lines line);
          whole = came.whole ∙ text_more came.lines line left;
        }

    -- a line that isn't marked is wrong
    pub unmarked_line : is_marked line ≡ false → IsFirstWrong topo file number
    unmarked_line unmarked = wrong_here (λ n.
        let none : inputs_at line ≡ Some [] = ap (λ b. cond b (one_input (input_of (drop 2 line))) (Some [])) unmarked in
        let backs : Some n.back ≡ Some [] = sym n.read ∙ ap (λ (o : Option (List Input)). and_inputs o (Some [])) none in
        let back : n.back ≡ [] = cc in
        no_back n.back n.after n.grown back n.others n.next)
      where
        no_back : (back : List Input) (after : List Entry) (g : Grows came.trace back after) → back ≡ [] → (others : List (List ℕ)) → map event_mark [] ++ g.rest ≡ line ∷ others → ⊥
        no_back [] after g is others next =
            let none : g.rest ≡ [] = g.behind in
            let both : [] ≡ line ∷ others = sym none ∙ next in
            absurd cc
        no_back (input ∷ back) after g is others next = absurd cc

    -- so is one that is no line of an input
    pub no_input : is_marked line ≡ true → input_of (drop 2 line) ≡ None → IsFirstWrong topo file number
    no_input marked none = wrong_here (λ n.
        let is : inputs_at line ≡ None = ap (λ b. cond b (one_input (input_of (drop 2 line))) (Some [])) marked ∙ ap one_input none in
        let both : None ≡ Some n.back = ap (λ (o : Option (List Input)). and_inputs o (Some [])) (sym is) ∙ n.read in
        absurd cc)

    -- and one of an input that the rules refuse
    pub refused_input : (input : Input) (f : StepFault) → is_marked line ≡ true → input_of (drop 2 line) ≡ Some input → ((topo : Topology) (tr : List Entry) → StandsFor topo tr core → step_of topo tr input ≡ Err f)
        → IsFirstWrong topo file number
    refused_input input f marked read refused = wrong_here (λ n.
        let is : inputs_at line ≡ Some (input ∷ []) = ap (λ b. cond b (one_input (input_of (drop 2 line))) (Some [])) marked ∙ ap one_input read in
        let backs : Some n.back ≡ Some (input ∷ []) = sym n.read ∙ ap (λ (o : Option (List Input)). and_inputs o (Some [])) is in
        let back : n.back ≡ input ∷ [] = cc in
        let lead : trace_from topo came.trace (input ∷ []) ≡ Some n.after = ap (λ (l : List Input). trace_from topo came.trace l) (sym back) ∙ n.lead in
        let s = first_step topo came.trace input [] n.after lead in
        let both : Ok s.events ≡ Err f = sym s.step ∙ refused topo came.trace came.stands in
        absurd cc)

-- ## The end of a file

-- a file that ends where no event is due is a trace text
pub ended : (topo : Topology) → IsSound topo → (core : Kept) (number : ℕ) (file : List ℕ) → HasCome topo core [] number file [] → IsTraceText topo file
ended topo sound core number file came =
    let same : text_of_lines came.lines ≡ text_of came.trace =
    ap text_of_lines (sym (came.read ∙ none_due came.lines)) ∙ sym (text_shown came.trace) in
    subst (IsTraceText topo) (sym (came.whole ∙ append-nil (text_of_lines came.lines) ∙ same)) (trace_text topo sound came.inputs came.trace came.formed came.given)

-- one that ends where an event is due only stops too early
pub stopped : (topo : Topology) → IsSound topo → (core : Kept) (event : Event) (due : List Event) (number : ℕ) (file : List ℕ) → HasCome topo core (event ∷ due) number file [] → IsFirstWrong topo file number
stopped topo sound core event due number file came =
    let all : lines_of file ≡ came.lines = lines_left topo sound core (event ∷ due) number file [] came ∙ append-nil came.lines in
    let long : length (lines_of file) ≡ length came.lines = ap length all in
    let count = came.count in
    record {
      before = first_begin topo sound core (event ∷ due) number file [] came;
      wrong = λ f. let there = f.there in omega arith;
      no_text = λ t.
          let lines : shown t.trace ≡ came.lines = sym (lines_shown topo sound t.inputs t.trace t.formed t.given) ∙ ap lines_of (sym t.text) ∙ all in
          let both : Some t.inputs ≡ Some came.inputs =
          sym (read_of topo t.inputs t.trace t.formed t.given) ∙ ap inputs_on lines ∙ read_so_far topo sound core (event ∷ due) number file [] came in
          let same : t.inputs ≡ came.inputs = cc in
          let trace : t.trace ≡ came.trace = one_trace topo t.inputs came.inputs t.trace came.trace same t.given came.given in
          let more : came.lines ≡ came.lines ++ (event_mark event ∷ map event_mark due) = sym lines ∙ ap shown trace ∙ came.read in
          let sizes : length came.lines ≡ length came.lines + suc (length (map event_mark due)) = ap length more ∙ length-append came.lines (event_mark event ∷ map event_mark due) in
          omega arith;
    }
