-- Lines of one to five fields: what is read is spelled so, and what is spelled so is read.
use Rattle.std.proofs.Common.{◌≡◌, ℕ, Bool, true, false, cond, List, [], ◌∷◌, ◌++◌, Option, Some, None, refl, sym, ap, subst, ◌∙◌, append_assoc}
use Rattle.std.specs.Str.{bytes_eq}
use Rattle.std.proofs.lemmas.Option.{none-some, same_Some}
use Rattle.std.proofs.lemmas.Slice.Eq.{bytes_eq-Decides}
use Rattle.aip_text.specs.Words.{cut, lacks}
use Rattle.aip_text.proofs.Texts.{cut_at_again, cut_at_found}
use Rattle.aip_text.specs.Fields.{five_fields, five_words, four_fields, four_words, named, of_five, of_four, of_three, of_two, one_field, three_fields, three_words, two_fields, ◌>>=◌}

-- a field: how its word is read, how it is spelled, and which values have a word
pub record Field {A : Type 0} (read : List ℕ → Option A) (spell : A → List ℕ) (Fits : A → Type 0) : Type 0 where
  pub found : (word : List ℕ) (x : A) → read word ≡ Some x → Fits x × (word ≡ spell x)
  pub again : (x : A) → Fits x → read (spell x) ≡ Some x
  pub plain : (x : A) → Fits x → lacks 32 (spell x) ≡ true

-- what a value after two steps shows
pub bind_some : {A B : Type 0} (o : Option A) (f : A → Option B) (y : B) → (o >>= f) ≡ Some y → (x : A) × (o ≡ Some x) × (f x ≡ Some y)
bind_some (Some x) f y h = (x, refl, h)
bind_some None f y h = absurd (none-some y h)

-- ## Grouping

pub joined_three : (a b c : List ℕ) → a ++ 32 ∷ (b ++ 32 ∷ c) ≡ a ++ 32 ∷ b ++ 32 ∷ c
joined_three a b c = sym (append_assoc a (32 ∷ b) (32 ∷ c))

pub joined_four : (a b c d : List ℕ) → a ++ 32 ∷ (b ++ 32 ∷ (c ++ 32 ∷ d)) ≡ a ++ 32 ∷ b ++ 32 ∷ c ++ 32 ∷ d
joined_four a b c d =
    ap (λ (r : List ℕ). a ++ 32 ∷ r) (joined_three b c d) ∙ sym (append_assoc a (32 ∷ (b ++ 32 ∷ c)) (32 ∷ d))
    ∙ ap (λ (r : List ℕ). r ++ 32 ∷ d) (joined_three a b c)

joined_five : (a b c d e : List ℕ) → a ++ 32 ∷ (b ++ 32 ∷ (c ++ 32 ∷ (d ++ 32 ∷ e))) ≡ a ++ 32 ∷ b ++ 32 ∷ c ++ 32 ∷ d ++ 32 ∷ e
joined_five a b c d e =
    ap (λ (r : List ℕ). a ++ 32 ∷ r) (joined_four b c d e) ∙ sym (append_assoc a (32 ∷ (b ++ 32 ∷ c ++ 32 ∷ d)) (32 ∷ e))
    ∙ ap (λ (r : List ℕ). r ++ 32 ∷ e) (sym (append_assoc a (32 ∷ (b ++ 32 ∷ c)) (32 ∷ d)) ∙ ap (λ (r : List ℕ). r ++ 32 ∷ d) (joined_three a b c))

-- ## What is read is spelled so

pub one_found : {A X : Type 0} {read : List ℕ → Option A} {spell : A → List ℕ} {Fits : A → Type 0} → Field read spell Fits
    → (make : A → X) (P : List ℕ → X → Type 0) → ((x : A) → Fits x → P (spell x) (make x))
    → (rest : List ℕ) (i : X) → one_field read make rest ≡ Some i → P rest i
one_found {read = read} {spell = spell} field make P each rest i h =
    let p = bind_some (read rest) (λ x. Some (make x)) i h in
    let word = field.found rest p.0 p.1 in
    let made = same_Some (make p.0) i p.2 in
    subst (λ r. P r i) (sym word.1) (subst (P (spell p.0)) made (each p.0 word.0))

-- two fields, where the last may have words of its own
pub two_rest_found : {A B X : Type 0} {ra : List ℕ → Option A} {sa : A → List ℕ} {FA : A → Type 0} → Field ra sa FA → (rb : List ℕ → Option B)
    → (make : A → B → X) (P : List ℕ → X → Type 0) → ((x : A) (last : List ℕ) (y : B) → FA x → rb last ≡ Some y → P (sa x ++ 32 ∷ last) (make x y))
    → (rest : List ℕ) (i : X) → two_fields ra rb make rest ≡ Some i → P rest i
two_rest_found {ra = ra} {sa = sa} fa rb make P each rest i h =
    let c = bind_some (cut rest) (λ w. of_two make (ra w.0) (rb w.1)) i h in
    let pa = bind_some (ra c.0.0) _ i c.2 in
    let pb = bind_some (rb c.0.1) _ i pa.2 in
    let wa = fa.found c.0.0 pa.0 pa.1 in
    let made = same_Some (make pa.0 pb.0) i pb.2 in
    let whole : rest ≡ sa pa.0 ++ 32 ∷ c.0.1 = cut_at_found 32 rest c.0 c.1 ∙ ap (λ (w : List ℕ). w ++ 32 ∷ c.0.1) wa.1 in
    subst (λ r. P r i) (sym whole) (subst (P (sa pa.0 ++ 32 ∷ c.0.1)) made (each pa.0 c.0.1 pb.0 wa.0 pb.1))

pub two_found : {A B X : Type 0} {ra : List ℕ → Option A} {sa : A → List ℕ} {FA : A → Type 0} {rb : List ℕ → Option B} {sb : B → List ℕ} {FB : B → Type 0}
    → Field ra sa FA → Field rb sb FB
    → (make : A → B → X) (P : List ℕ → X → Type 0) → ((x : A) (y : B) → FA x → FB y → P (sa x ++ 32 ∷ sb y) (make x y))
    → (rest : List ℕ) (i : X) → two_fields ra rb make rest ≡ Some i → P rest i
two_found {sa = sa} {rb = rb} fa fb make P each =
    two_rest_found fa rb make P
    (λ x last y hx e. let w = fb.found last y e in subst (λ r. P (sa x ++ 32 ∷ r) (make x y)) (sym w.1) (each x y hx w.0))

pub three_found : {A B C X : Type 0} {ra : List ℕ → Option A} {sa : A → List ℕ} {FA : A → Type 0} {rb : List ℕ → Option B} {sb : B → List ℕ} {FB : B → Type 0}
    {rc : List ℕ → Option C} {sc : C → List ℕ} {FC : C → Type 0} → Field ra sa FA → Field rb sb FB → Field rc sc FC
    → (make : A → B → C → X) (P : List ℕ → X → Type 0)
    → ((x : A) (y : B) (z : C) → FA x → FB y → FC z → P (sa x ++ 32 ∷ sb y ++ 32 ∷ sc z) (make x y z))
    → (rest : List ℕ) (i : X) → three_fields ra rb rc make rest ≡ Some i → P rest i
three_found {ra = ra} {sa = sa} {rb = rb} {sb = sb} {rc = rc} {sc = sc} fa fb fc make P each rest i h =
    let w = bind_some (three_words rest) (λ w. of_three make (ra w.0) (rb w.1) (rc w.2)) i h in
    let c1 = bind_some (cut rest) _ w.0 w.1 in
    let c2 = bind_some (cut c1.0.1) _ w.0 c1.2 in
    let words : (c1.0.0, c2.0.0, c2.0.1) ≡ w.0 = same_Some (c1.0.0, c2.0.0, c2.0.1) w.0 c2.2 in
    let pa = bind_some (ra w.0.0) _ i w.2 in
    let pb = bind_some (rb w.0.1) _ i pa.2 in
    let pc = bind_some (rc w.0.2) _ i pb.2 in
    let wa = fa.found w.0.0 pa.0 pa.1 in
    let wb = fb.found w.0.1 pb.0 pb.1 in
    let wc = fc.found w.0.2 pc.0 pc.1 in
    let made = same_Some (make pa.0 pb.0 pc.0) i pc.2 in
    let whole : rest ≡ sa pa.0 ++ 32 ∷ sb pb.0 ++ 32 ∷ sc pc.0 =
    cut_at_found 32 rest c1.0 c1.1 ∙ ap (λ (r : List ℕ). c1.0.0 ++ 32 ∷ r) (cut_at_found 32 c1.0.1 c2.0 c2.1)
    ∙ joined_three c1.0.0 c2.0.0 c2.0.1 ∙ ap (λ (t : List ℕ × List ℕ × List ℕ). t.0 ++ 32 ∷ t.1 ++ 32 ∷ t.2) words
    ∙ ap (λ (r : List ℕ). r ++ 32 ∷ w.0.1 ++ 32 ∷ w.0.2) wa.1
    ∙ ap (λ (r : List ℕ). sa pa.0 ++ 32 ∷ r ++ 32 ∷ w.0.2) wb.1 ∙ ap (λ (r : List ℕ). sa pa.0 ++ 32 ∷ sb pb.0 ++ 32 ∷ r) wc.1 in
    subst (λ r. P r i) (sym whole) (subst (P (sa pa.0 ++ 32 ∷ sb pb.0 ++ 32 ∷ sc pc.0)) made (each pa.0 pb.0 pc.0 wa.0 wb.0 wc.0))

-- four fields, where the last may have words of its own
pub four_rest_found : {A B C D X : Type 0} {ra : List ℕ → Option A} {sa : A → List ℕ} {FA : A → Type 0} {rb : List ℕ → Option B} {sb : B → List ℕ} {FB : B → Type 0}
    {rc : List ℕ → Option C} {sc : C → List ℕ} {FC : C → Type 0} → Field ra sa FA → Field rb sb FB → Field rc sc FC → (rd : List ℕ → Option D)
    → (make : A → B → C → D → X) (P : List ℕ → X → Type 0)
    → ((x : A) (y : B) (z : C) (last : List ℕ) (v : D) → FA x → FB y → FC z → rd last ≡ Some v → P (sa x ++ 32 ∷ sb y ++ 32 ∷ sc z ++ 32 ∷ last) (make x y z v))
    → (rest : List ℕ) (i : X) → four_fields ra rb rc rd make rest ≡ Some i → P rest i
four_rest_found {ra = ra} {sa = sa} {rb = rb} {sb = sb} {rc = rc} {sc = sc} fa fb fc rd make P each rest i h =
    let w = bind_some (four_words rest) (λ w. of_four make (ra w.0) (rb w.1) (rc w.2) (rd w.3)) i h in
    let c1 = bind_some (cut rest) _ w.0 w.1 in
    let c2 = bind_some (cut c1.0.1) _ w.0 c1.2 in
    let c3 = bind_some (cut c2.0.1) _ w.0 c2.2 in
    let words : (c1.0.0, c2.0.0, c3.0.0, c3.0.1) ≡ w.0 = same_Some (c1.0.0, c2.0.0, c3.0.0, c3.0.1) w.0 c3.2 in
    let pa = bind_some (ra w.0.0) _ i w.2 in
    let pb = bind_some (rb w.0.1) _ i pa.2 in
    let pc = bind_some (rc w.0.2) _ i pb.2 in
    let pd = bind_some (rd w.0.3) _ i pc.2 in
    let wa = fa.found w.0.0 pa.0 pa.1 in
    let wb = fb.found w.0.1 pb.0 pb.1 in
    let wc = fc.found w.0.2 pc.0 pc.1 in
    let made = same_Some (make pa.0 pb.0 pc.0 pd.0) i pd.2 in
    let whole : rest ≡ sa pa.0 ++ 32 ∷ sb pb.0 ++ 32 ∷ sc pc.0 ++ 32 ∷ w.0.3 =
    cut_at_found 32 rest c1.0 c1.1 ∙ ap (λ (r : List ℕ). c1.0.0 ++ 32 ∷ r) (cut_at_found 32 c1.0.1 c2.0 c2.1)
    ∙ ap (λ (r : List ℕ). c1.0.0 ++ 32 ∷ (c2.0.0 ++ 32 ∷ r)) (cut_at_found 32 c2.0.1 c3.0 c3.1)
    ∙ joined_four c1.0.0 c2.0.0 c3.0.0 c3.0.1
    ∙ ap (λ (t : List ℕ × List ℕ × List ℕ × List ℕ). t.0 ++ 32 ∷ t.1 ++ 32 ∷ t.2 ++ 32 ∷ t.3) words
    ∙ ap (λ (r : List ℕ). r ++ 32 ∷ w.0.1 ++ 32 ∷ w.0.2 ++ 32 ∷ w.0.3) wa.1
    ∙ ap (λ (r : List ℕ). sa pa.0 ++ 32 ∷ r ++ 32 ∷ w.0.2 ++ 32 ∷ w.0.3) wb.1
    ∙ ap (λ (r : List ℕ). sa pa.0 ++ 32 ∷ sb pb.0 ++ 32 ∷ r ++ 32 ∷ w.0.3) wc.1 in
    subst (λ r. P r i) (sym whole) (subst (P (sa pa.0 ++ 32 ∷ sb pb.0 ++ 32 ∷ sc pc.0 ++ 32 ∷ w.0.3)) made (each pa.0 pb.0 pc.0 w.0.3 pd.0 wa.0 wb.0 wc.0 pd.1))

pub four_found : {A B C D X : Type 0} {ra : List ℕ → Option A} {sa : A → List ℕ} {FA : A → Type 0} {rb : List ℕ → Option B} {sb : B → List ℕ} {FB : B → Type 0}
    {rc : List ℕ → Option C} {sc : C → List ℕ} {FC : C → Type 0} {rd : List ℕ → Option D} {sd : D → List ℕ} {FD : D → Type 0}
    → Field ra sa FA → Field rb sb FB → Field rc sc FC → Field rd sd FD
    → (make : A → B → C → D → X) (P : List ℕ → X → Type 0)
    → ((x : A) (y : B) (z : C) (v : D) → FA x → FB y → FC z → FD v → P (sa x ++ 32 ∷ sb y ++ 32 ∷ sc z ++ 32 ∷ sd v) (make x y z v))
    → (rest : List ℕ) (i : X) → four_fields ra rb rc rd make rest ≡ Some i → P rest i
four_found {sa = sa} {sb = sb} {sc = sc} {rd = rd} fa fb fc fd make P each =
    four_rest_found fa fb fc rd make P
    (λ x y z last v hx hy hz e. let w = fd.found last v e in subst (λ r. P (sa x ++ 32 ∷ sb y ++ 32 ∷ sc z ++ 32 ∷ r) (make x y z v)) (sym w.1) (each x y z v hx hy hz w.0))

pub five_found : {A B C D E X : Type 0} {ra : List ℕ → Option A} {sa : A → List ℕ} {FA : A → Type 0} {rb : List ℕ → Option B} {sb : B → List ℕ} {FB : B → Type 0}
    {rc : List ℕ → Option C} {sc : C → List ℕ} {FC : C → Type 0} {rd : List ℕ → Option D} {sd : D → List ℕ} {FD : D → Type 0}
    {re : List ℕ → Option E} {se : E → List ℕ} {FE : E → Type 0}
    → Field ra sa FA → Field rb sb FB → Field rc sc FC → Field rd sd FD → Field re se FE
    → (make : A → B → C → D → E → X) (P : List ℕ → X → Type 0)
    → ((x : A) (y : B) (z : C) (v : D) (u : E) → FA x → FB y → FC z → FD v → FE u → P (sa x ++ 32 ∷ sb y ++ 32 ∷ sc z ++ 32 ∷ sd v ++ 32 ∷ se u) (make x y z v u))
    → (rest : List ℕ) (i : X) → five_fields ra rb rc rd re make rest ≡ Some i → P rest i
five_found {ra = ra} {sa = sa} {rb = rb} {sb = sb} {rc = rc} {sc = sc} {rd = rd} {sd = sd} {re = re} {se = se} fa fb fc fd fe make P each rest i h =
    let w = bind_some (five_words rest) (λ w. of_five make (ra w.0) (rb w.1) (rc w.2) (rd w.3) (re w.4)) i h in
    let c1 = bind_some (cut rest) _ w.0 w.1 in
    let c2 = bind_some (cut c1.0.1) _ w.0 c1.2 in
    let c3 = bind_some (cut c2.0.1) _ w.0 c2.2 in
    let c4 = bind_some (cut c3.0.1) _ w.0 c3.2 in
    let words : (c1.0.0, c2.0.0, c3.0.0, c4.0.0, c4.0.1) ≡ w.0 = same_Some (c1.0.0, c2.0.0, c3.0.0, c4.0.0, c4.0.1) w.0 c4.2 in
    let pa = bind_some (ra w.0.0) _ i w.2 in
    let pb = bind_some (rb w.0.1) _ i pa.2 in
    let pc = bind_some (rc w.0.2) _ i pb.2 in
    let pd = bind_some (rd w.0.3) _ i pc.2 in
    let pe = bind_some (re w.0.4) _ i pd.2 in
    let wa = fa.found w.0.0 pa.0 pa.1 in
    let wb = fb.found w.0.1 pb.0 pb.1 in
    let wc = fc.found w.0.2 pc.0 pc.1 in
    let wd = fd.found w.0.3 pd.0 pd.1 in
    let we = fe.found w.0.4 pe.0 pe.1 in
    let made = same_Some (make pa.0 pb.0 pc.0 pd.0 pe.0) i pe.2 in
    let whole : rest ≡ sa pa.0 ++ 32 ∷ sb pb.0 ++ 32 ∷ sc pc.0 ++ 32 ∷ sd pd.0 ++ 32 ∷ se pe.0 =
    cut_at_found 32 rest c1.0 c1.1 ∙ ap (λ (r : List ℕ). c1.0.0 ++ 32 ∷ r) (cut_at_found 32 c1.0.1 c2.0 c2.1)
    ∙ ap (λ (r : List ℕ). c1.0.0 ++ 32 ∷ (c2.0.0 ++ 32 ∷ r)) (cut_at_found 32 c2.0.1 c3.0 c3.1)
    ∙ ap (λ (r : List ℕ). c1.0.0 ++ 32 ∷ (c2.0.0 ++ 32 ∷ (c3.0.0 ++ 32 ∷ r))) (cut_at_found 32 c3.0.1 c4.0 c4.1)
    ∙ joined_five c1.0.0 c2.0.0 c3.0.0 c4.0.0 c4.0.1
    ∙ ap (λ (t : List ℕ × List ℕ × List ℕ × List ℕ × List ℕ). t.0 ++ 32 ∷ t.1 ++ 32 ∷ t.2 ++ 32 ∷ t.3 ++ 32 ∷ t.4) words
    ∙ ap (λ (r : List ℕ). r ++ 32 ∷ w.0.1 ++ 32 ∷ w.0.2 ++ 32 ∷ w.0.3 ++ 32 ∷ w.0.4) wa.1
    ∙ ap (λ (r : List ℕ). sa pa.0 ++ 32 ∷ r ++ 32 ∷ w.0.2 ++ 32 ∷ w.0.3 ++ 32 ∷ w.0.4) wb.1
    ∙ ap (λ (r : List ℕ). sa pa.0 ++ 32 ∷ sb pb.0 ++ 32 ∷ r ++ 32 ∷ w.0.3 ++ 32 ∷ w.0.4) wc.1
    ∙ ap (λ (r : List ℕ). sa pa.0 ++ 32 ∷ sb pb.0 ++ 32 ∷ sc pc.0 ++ 32 ∷ r ++ 32 ∷ w.0.4) wd.1
    ∙ ap (λ (r : List ℕ). sa pa.0 ++ 32 ∷ sb pb.0 ++ 32 ∷ sc pc.0 ++ 32 ∷ sd pd.0 ++ 32 ∷ r) we.1 in
    subst (λ r. P r i) (sym whole) (subst (P (sa pa.0 ++ 32 ∷ sb pb.0 ++ 32 ∷ sc pc.0 ++ 32 ∷ sd pd.0 ++ 32 ∷ se pe.0)) made (each pa.0 pb.0 pc.0 pd.0 pe.0 wa.0 wb.0 wc.0 wd.0 we.0))

-- ## What is spelled so is read

-- a step after what is known
pub bind_at : {A B : Type 0} {o : Option A} {x : A} (f : A → Option B) → o ≡ Some x → (o >>= f) ≡ f x
bind_at f e = ap (λ p. p >>= f) e

pub one_again : {A X : Type 0} {read : List ℕ → Option A} {spell : A → List ℕ} {Fits : A → Type 0} → Field read spell Fits
    → (make : A → X) (x : A) → Fits x → one_field read make (spell x) ≡ Some (make x)
one_again field make x fits = bind_at (λ v. Some (make v)) (field.again x fits)

-- two fields, where the last may have words of its own
pub two_rest_again : {A B X : Type 0} {ra : List ℕ → Option A} {sa : A → List ℕ} {FA : A → Type 0} → Field ra sa FA → (rb : List ℕ → Option B)
    → (make : A → B → X) (x : A) (last : List ℕ) (y : B) → FA x → rb last ≡ Some y → two_fields ra rb make (sa x ++ 32 ∷ last) ≡ Some (make x y)
two_rest_again {ra = ra} {sa = sa} fa rb make x last y hx e =
    bind_at (λ w. of_two make (ra w.0) (rb w.1)) (cut_at_again 32 (sa x) last (fa.plain x hx))
    ∙ bind_at (λ a. rb last >>= λ b. Some (make a b)) (fa.again x hx) ∙ bind_at (λ b. Some (make x b)) e

pub two_again : {A B X : Type 0} {ra : List ℕ → Option A} {sa : A → List ℕ} {FA : A → Type 0} {rb : List ℕ → Option B} {sb : B → List ℕ} {FB : B → Type 0}
    → Field ra sa FA → Field rb sb FB
    → (make : A → B → X) (x : A) (y : B) → FA x → FB y → two_fields ra rb make (sa x ++ 32 ∷ sb y) ≡ Some (make x y)
two_again {rb = rb} {sb = sb} fa fb make x y hx hy = two_rest_again fa rb make x (sb y) y hx (fb.again y hy)

three_words_again : (a b c : List ℕ) → lacks 32 a ≡ true → lacks 32 b ≡ true → three_words (a ++ 32 ∷ b ++ 32 ∷ c) ≡ Some (a, b, c)
three_words_again a b c ha hb =
    let Three : Type 0 = List ℕ × List ℕ × List ℕ in
    let last : List ℕ → (List ℕ × List ℕ) → Option Three = λ w s. Some (w, s.0, s.1) in
    let first : (List ℕ × List ℕ) → Option Three = λ f. cut f.1 >>= last f.0 in
    ap three_words (sym (joined_three a b c)) ∙ bind_at first (cut_at_again 32 a (b ++ 32 ∷ c) ha) ∙ bind_at (last a) (cut_at_again 32 b c hb)

four_words_again : (a b c d : List ℕ) → lacks 32 a ≡ true → lacks 32 b ≡ true → lacks 32 c ≡ true → four_words (a ++ 32 ∷ b ++ 32 ∷ c ++ 32 ∷ d) ≡ Some (a, b, c, d)
four_words_again a b c d ha hb hc =
    let Four : Type 0 = List ℕ × List ℕ × List ℕ × List ℕ in
    let last : List ℕ → List ℕ → (List ℕ × List ℕ) → Option Four = λ v w t. Some (v, w, t.0, t.1) in
    let second : List ℕ → (List ℕ × List ℕ) → Option Four = λ w s. cut s.1 >>= last w s.0 in
    let first : (List ℕ × List ℕ) → Option Four = λ f. cut f.1 >>= second f.0 in
    ap four_words (sym (joined_four a b c d)) ∙ bind_at first (cut_at_again 32 a (b ++ 32 ∷ (c ++ 32 ∷ d)) ha) ∙ bind_at (second a) (cut_at_again 32 b (c ++ 32 ∷ d) hb)
    ∙ bind_at (last a b) (cut_at_again 32 c d hc)

five_words_again : (a b c d e : List ℕ) → lacks 32 a ≡ true → lacks 32 b ≡ true → lacks 32 c ≡ true → lacks 32 d ≡ true
    → five_words (a ++ 32 ∷ b ++ 32 ∷ c ++ 32 ∷ d ++ 32 ∷ e) ≡ Some (a, b, c, d, e)
five_words_again a b c d e ha hb hc hd =
    let Five : Type 0 = List ℕ × List ℕ × List ℕ × List ℕ × List ℕ in
    let last : List ℕ → List ℕ → List ℕ → (List ℕ × List ℕ) → Option Five = λ u v w t. Some (u, v, w, t.0, t.1) in
    let third : List ℕ → List ℕ → (List ℕ × List ℕ) → Option Five = λ v w s. cut s.1 >>= last v w s.0 in
    let second : List ℕ → (List ℕ × List ℕ) → Option Five = λ w s. cut s.1 >>= third w s.0 in
    let first : (List ℕ × List ℕ) → Option Five = λ f. cut f.1 >>= second f.0 in
    ap five_words (sym (joined_five a b c d e)) ∙ bind_at first (cut_at_again 32 a (b ++ 32 ∷ (c ++ 32 ∷ (d ++ 32 ∷ e))) ha)
    ∙ bind_at (second a) (cut_at_again 32 b (c ++ 32 ∷ (d ++ 32 ∷ e)) hb)
    ∙ bind_at (third a b) (cut_at_again 32 c (d ++ 32 ∷ e) hc) ∙ bind_at (last a b c) (cut_at_again 32 d e hd)

pub three_again : {A B C X : Type 0} {ra : List ℕ → Option A} {sa : A → List ℕ} {FA : A → Type 0} {rb : List ℕ → Option B} {sb : B → List ℕ} {FB : B → Type 0}
    {rc : List ℕ → Option C} {sc : C → List ℕ} {FC : C → Type 0} → Field ra sa FA → Field rb sb FB → Field rc sc FC
    → (make : A → B → C → X) (x : A) (y : B) (z : C) → FA x → FB y → FC z
    → three_fields ra rb rc make (sa x ++ 32 ∷ sb y ++ 32 ∷ sc z) ≡ Some (make x y z)
three_again {ra = ra} {sa = sa} {rb = rb} {sb = sb} {rc = rc} {sc = sc} fa fb fc make x y z hx hy hz =
    let words = three_words_again (sa x) (sb y) (sc z) (fa.plain x hx) (fb.plain y hy) in
    bind_at (λ w. of_three make (ra w.0) (rb w.1) (rc w.2)) words
    ∙ bind_at (λ a. rb (sb y) >>= λ b. rc (sc z) >>= λ c. Some (make a b c)) (fa.again x hx)
    ∙ bind_at (λ b. rc (sc z) >>= λ c. Some (make x b c)) (fb.again y hy) ∙ bind_at (λ c. Some (make x y c)) (fc.again z hz)

-- four fields, where the last may have words of its own
pub four_rest_again : {A B C D X : Type 0} {ra : List ℕ → Option A} {sa : A → List ℕ} {FA : A → Type 0} {rb : List ℕ → Option B} {sb : B → List ℕ} {FB : B → Type 0}
    {rc : List ℕ → Option C} {sc : C → List ℕ} {FC : C → Type 0} → Field ra sa FA → Field rb sb FB → Field rc sc FC → (rd : List ℕ → Option D)
    → (make : A → B → C → D → X) (x : A) (y : B) (z : C) (last : List ℕ) (v : D) → FA x → FB y → FC z → rd last ≡ Some v
    → four_fields ra rb rc rd make (sa x ++ 32 ∷ sb y ++ 32 ∷ sc z ++ 32 ∷ last) ≡ Some (make x y z v)
four_rest_again {ra = ra} {sa = sa} {rb = rb} {sb = sb} {rc = rc} {sc = sc} fa fb fc rd make x y z last v hx hy hz e =
    let words = four_words_again (sa x) (sb y) (sc z) last (fa.plain x hx) (fb.plain y hy) (fc.plain z hz) in
    bind_at (λ w. of_four make (ra w.0) (rb w.1) (rc w.2) (rd w.3)) words
    ∙ bind_at (λ a. rb (sb y) >>= λ b. rc (sc z) >>= λ c. rd last >>= λ d. Some (make a b c d)) (fa.again x hx)
    ∙ bind_at (λ b. rc (sc z) >>= λ c. rd last >>= λ d. Some (make x b c d)) (fb.again y hy)
    ∙ bind_at (λ c. rd last >>= λ d. Some (make x y c d)) (fc.again z hz) ∙ bind_at (λ d. Some (make x y z d)) e

pub four_again : {A B C D X : Type 0} {ra : List ℕ → Option A} {sa : A → List ℕ} {FA : A → Type 0} {rb : List ℕ → Option B} {sb : B → List ℕ} {FB : B → Type 0}
    {rc : List ℕ → Option C} {sc : C → List ℕ} {FC : C → Type 0} {rd : List ℕ → Option D} {sd : D → List ℕ} {FD : D → Type 0}
    → Field ra sa FA → Field rb sb FB → Field rc sc FC → Field rd sd FD
    → (make : A → B → C → D → X) (x : A) (y : B) (z : C) (v : D) → FA x → FB y → FC z → FD v
    → four_fields ra rb rc rd make (sa x ++ 32 ∷ sb y ++ 32 ∷ sc z ++ 32 ∷ sd v) ≡ Some (make x y z v)
four_again {rd = rd} {sd = sd} fa fb fc fd make x y z v hx hy hz hv = four_rest_again fa fb fc rd make x y z (sd v) v hx hy hz (fd.again v hv)

pub five_again : {A B C D E X : Type 0} {ra : List ℕ → Option A} {sa : A → List ℕ} {FA : A → Type 0} {rb : List ℕ → Option B} {sb : B → List ℕ} {FB : B → Type 0}
    {rc : List ℕ → Option C} {sc : C → List ℕ} {FC : C → Type 0} {rd : List ℕ → Option D} {sd : D → List ℕ} {FD : D → Type 0}
    {re : List ℕ → Option E} {se : E → List ℕ} {FE : E → Type 0}
    → Field ra sa FA → Field rb sb FB → Field rc sc FC → Field rd sd FD → Field re se FE
    → (make : A → B → C → D → E → X) (x : A) (y : B) (z : C) (v : D) (u : E) → FA x → FB y → FC z → FD v → FE u
    → five_fields ra rb rc rd re make (sa x ++ 32 ∷ sb y ++ 32 ∷ sc z ++ 32 ∷ sd v ++ 32 ∷ se u) ≡ Some (make x y z v u)
five_again {ra = ra} {sa = sa} {rb = rb} {sb = sb} {rc = rc} {sc = sc} {rd = rd} {sd = sd} {re = re} {se = se} fa fb fc fd fe make x y z v u hx hy hz hv hu =
    let words = five_words_again (sa x) (sb y) (sc z) (sd v) (se u) (fa.plain x hx) (fb.plain y hy) (fc.plain z hz) (fd.plain v hv) in
    bind_at (λ w. of_five make (ra w.0) (rb w.1) (rc w.2) (rd w.3) (re w.4)) words
    ∙ bind_at (λ a. rb (sb y) >>= λ b. rc (sc z) >>= λ c. rd (sd v) >>= λ d. re (se u) >>= λ e. Some (make a b c d e)) (fa.again x hx)
    ∙ bind_at (λ b. rc (sc z) >>= λ c. rd (sd v) >>= λ d. re (se u) >>= λ e. Some (make x b c d e)) (fb.again y hy)
    ∙ bind_at (λ c. rd (sd v) >>= λ d. re (se u) >>= λ e. Some (make x y c d e)) (fc.again z hz)
    ∙ bind_at (λ d. re (se u) >>= λ e. Some (make x y z d e)) (fd.again v hv) ∙ bind_at (λ e. Some (make x y z v e)) (fe.again u hu)

-- ## The first word

-- what holds of the word where the test took it, and of the key where a later one did, holds of the key
pub branch : {X : Type 0} (P : List ℕ → X → Type 0) (key word : List ℕ) (this others : Option X) (i : X)
    → (this ≡ Some i → P word i) → (others ≡ Some i → P key i) → cond (bytes_eq key word) this others ≡ Some i → P key i
branch P key word this others i here there h = taken (bytes_eq key word) (bytes_eq-Decides key word).0 h
  where
    taken : (b : Bool) → (b ≡ true → key ≡ word) → cond b this others ≡ Some i → P key i
    taken true same e = subst (λ k. P k i) (sym (same refl)) (here e)
    taken false same e = there e

-- ## Tables

-- what a word names in a table is spelled so
pub named_found : {A : Type 0} (word_of : A → List ℕ) (all : List A) (word : List ℕ) (x : A) → named word_of all word ≡ Some x → word ≡ word_of x
named_found word_of [] word x h = absurd (none-some x h)
named_found word_of (y ∷ ys) word x h = first (bytes_eq (word_of y) word) (bytes_eq-Decides (word_of y) word).0 (λ e. named_found word_of ys word x e) h
  where
    first : (b : Bool) → (b ≡ true → word_of y ≡ word) → (named word_of ys word ≡ Some x → word ≡ word_of x) → cond b (Some y) (named word_of ys word) ≡ Some x → word ≡ word_of x
    first true same later e = sym (same refl) ∙ ap word_of (same_Some y x e)
    first false same later e = later e
