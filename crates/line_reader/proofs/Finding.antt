-- Where a byte first stands, and the text cut there. Assumes nothing.
use Rattle.std.proofs.Common.{◌≡◌, ℕ, suc, ◌+◌, ◌-◌, ◌≤◌, Bool, true, false, cond, not, eqb, ltb, List, [], ◌∷◌, ◌++◌, length, get_or, take, drop, Some, None, sym, refl, ap, ◌∙◌, subst, true≢false, append_assoc, take-append-drop, arith}
use Rattle.std.specs.List.{AllByRecursion, position, position_or_len}
use Rattle.std.specs.Option.{is_some, unwrap_or}
use Rattle.std.proofs.lemmas.List.{drop_more, take_rest, take_all}
use Rattle.std.proofs.lemmas.List.Quantifiers.{position-Some}
use Rattle.std.proofs.lemmas.Bool.{eqb-true, ltb-false}
use Rattle.std.proofs.lemmas.Option.{cond_some}
use Rattle.line.specs.Lines.{bare}
use Rattle.line.specs.Forms.{Unended, Begins}
use Rattle.line.proofs.Forms.{no_line}
use Rattle.line_reader.specs.Paths.{step_text, behind_step}

-- where b first stands, or how long the text is
abbrev pub first : ℕ → List ℕ → ℕ
first b text = position_or_len (λ c. eqb c b) text

one_up : (n : ℕ) → suc n ≡ 1 + n
one_up n = omega arith

none-before : (b : ℕ) (text : List ℕ) → AllByRecursion (λ c. eqb c b ≡ false) (take (first b text) text)
none-before b [] = tt
none-before b (c ∷ cs) = at (eqb c b) refl (none-before b cs)
  where
    at : (t : Bool) → eqb c b ≡ t → AllByRecursion (λ d. eqb d b ≡ false) (take (first b cs) cs) → AllByRecursion (λ d. eqb d b ≡ false) (take (cond (not t) (1 + first b cs) 0) (c ∷ cs))
    at true e k = tt
    at false e k = subst (λ n. AllByRecursion (λ d. eqb d b ≡ false) (take n (c ∷ cs))) (one_up (first b cs)) (e, k)

-- THE END OF THE FIRST LINE

pub first_end : (text : List ℕ) (i : ℕ) → Some i ≡ position (λ c. eqb c 10) text → Begins [] text (take i text) (take (length text - (i + 1)) (drop (i + 1) text))
unfolding bare
first_end text i h =
    let k = position-Some (λ c. eqb c 10) text i 0 (sym h) in
    let is = (cond_some (ltb (first 10 text) (length text)) (first 10 text) i (sym h)).1 in
    record {
      whole =
          sym (take-append-drop i text)
          ∙ ap (λ l. take i text ++ l) (drop_more text i 0 k.0 ∙ (λ j. eqb-true (get_or text i 0) 10 k.1 j ∷ sym (take_rest text (i + 1)) j))
          ∙ sym (append_assoc (take i text) (10 ∷ []) (take (length text - (i + 1)) (drop (i + 1) text)));
      one = subst (λ n. Unended (take n text)) is (none-before 10 text);
    }

pub no_end : (text : List ℕ) → None ≡ position (λ c. eqb c 10) text → (v rest : List ℕ) → Unended v → text ≡ bare v ++ rest → ⊥
no_end text h v rest u e = no_line text v rest (at (ltb (first 10 text) (length text)) refl) e
  where
    at : (t : Bool) → ltb (first 10 text) (length text) ≡ t → Unended text
    at true l = absurd (true≢false (sym (ap is_some (h ∙ ap (λ t. cond t (Some (first 10 text)) None) l))))
    at false l = subst Unended (take_all (first 10 text) text (ltb-false (first 10 text) (length text) l)) (none-before 10 text)

-- THE END OF A STEP

pub step_taken : (text : List ℕ) → step_text text ≡ take (first 47 text) text
step_taken [] = refl
step_taken (c ∷ cs) = at (eqb c 47) (step_taken cs)
  where
    at : (t : Bool) → step_text cs ≡ take (first 47 cs) cs → cond t [] (c ∷ step_text cs) ≡ take (cond (not t) (1 + first 47 cs) 0) (c ∷ cs)
    at true k = refl
    at false k = ap (λ l. c ∷ l) k ∙ ap (λ n. take n (c ∷ cs)) (one_up (first 47 cs))

pub step_left : (text : List ℕ) → behind_step text ≡ drop (first 47 text) text
step_left [] = refl
step_left (c ∷ cs) = at (eqb c 47) (step_left cs)
  where
    at : (t : Bool) → behind_step cs ≡ drop (first 47 cs) cs → cond t (c ∷ cs) (behind_step cs) ≡ drop (cond (not t) (1 + first 47 cs) 0) (c ∷ cs)
    at true k = refl
    at false k = k ∙ ap (λ n. drop n (c ∷ cs)) (one_up (first 47 cs))

first-least : (b : ℕ) (text : List ℕ) → first b text ≤ length text
first-least b [] = omega arith
first-least b (c ∷ cs) = at (eqb c b) (first-least b cs)
  where
    at : (t : Bool) → first b cs ≤ length cs → cond (not t) (1 + first b cs) 0 ≤ length (c ∷ cs)
    at true k = omega arith
    at false k = omega (arith, k)

pub first-or : (b : ℕ) (text : List ℕ) → unwrap_or (position (λ c. eqb c b) text) (length text) ≡ first b text
first-or b text = at (ltb (first b text) (length text)) refl
  where
    at : (t : Bool) → ltb (first b text) (length text) ≡ t → unwrap_or (cond t (Some (first b text)) None) (length text) ≡ first b text
    at true l = refl
    at false l = omega (arith, ltb-false (first b text) (length text) l, first-least b text)
