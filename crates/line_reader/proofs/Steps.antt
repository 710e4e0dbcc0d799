-- Steps between slashes, as a loop takes them apart. Assumes nothing.
use Rattle.std.proofs.Common.{◌≡◌, ℕ, ◌<◌, Bool, true, false, cond, eqb, List, [], ◌∷◌, ◌++◌, length, decimal, sym, refl, ap, ◌∙◌, subst, append_assoc, append-nil, arith}
use Rattle.std.specs.Str.Parse.{AllDigits}
use Rattle.std.specs.List.{AllByRecursion}
use Rattle.std.proofs.lemmas.Fmt.{decimal_is_IsNumeral, decimal_injective}
use Rattle.std.proofs.ByRecursion.{All-append}
use Rattle.std.proofs.lemmas.List.{length-append}
use Rattle.std.proofs.lemmas.Str.Parse.{digit_from_value}
use Rattle.std.proofs.lemmas.Bool.{ne_eqb}
use Rattle.model.specs.Metadata.{Steps}
use Rattle.line.specs.Lines.{steps_from}
use Rattle.line_reader.specs.Paths.{step_text, behind_step, FewSteps}

-- the text before the first slash, and from there on

pub step-parts : (bs : List ℕ) → bs ≡ step_text bs ++ behind_step bs
step-parts [] = refl
step-parts (b ∷ bs) = at (eqb b 47) (step-parts bs)
  where
    at : (t : Bool) → bs ≡ step_text bs ++ behind_step bs → b ∷ bs ≡ cond t [] (b ∷ step_text bs) ++ cond t (b ∷ bs) (behind_step bs)
    at true e = refl
    at false e = ap (λ l. b ∷ l) e

module _ (rest : List ℕ) where
  past-digits : (ds : List ℕ) → AllDigits 10 ds → (step_text (ds ++ rest) ≡ ds ++ step_text rest) × (behind_step (ds ++ rest) ≡ behind_step rest)
  past-digits [] d = (refl, refl)
  past-digits (c ∷ cs) d =
      let k = digit_from_value c d.0 in
      let no : eqb c 47 ≡ false = ne_eqb c 47 (λ e. omega arith) in
      let more = past-digits cs d.1 in
      (ap (λ t. cond t [] (c ∷ step_text (cs ++ rest))) no ∙ ap (λ l. c ∷ l) more.0, ap (λ t. cond t (c ∷ (cs ++ rest)) (behind_step (cs ++ rest))) no ∙ more.1)

at-slash : (ss : Steps) → (step_text (steps_from 47 ss) ≡ []) × (behind_step (steps_from 47 ss) ≡ steps_from 47 ss)
at-slash [] = (refl, refl)
at-slash (s ∷ ss) = (refl, refl)

step-first : (s : ℕ) (ss : Steps) → s < 65536 → (step_text (decimal s ++ steps_from 47 ss) ≡ decimal s) × (behind_step (decimal s ++ steps_from 47 ss) ≡ steps_from 47 ss)
step-first s ss h =
    let d = past-digits (steps_from 47 ss) (decimal s) (decimal_is_IsNumeral s (omega (arith, h))).0.1 in
    let a = at-slash ss in
    (d.0 ∙ ap (λ l. decimal s ++ l) a.0 ∙ append-nil (decimal s), d.1 ∙ a.1)

all_right : {X : Type 0} (P : X → Type 0) (xs ys : List X) → AllByRecursion P (xs ++ ys) → AllByRecursion P ys
all_right P [] ys a = a
all_right P (x ∷ xs) ys a = all_right P xs ys a.1

-- so far there is this path, and what is left has a mark before each step
pub record Walk (value left : List ℕ) (mark : ℕ) (path : Steps) : Type 0 where
  pub to : (ss : Steps) → steps_from mark ss ≡ left → value ≡ steps_from 32 (path ++ ss)
  pub only : (ss : Steps) → FewSteps ss → value ≡ steps_from 32 ss → (more : Steps) × (ss ≡ path ++ more) × (left ≡ steps_from mark more)
  pub small : FewSteps path

-- what one more step has to be
pub record Next (mark : ℕ) (path : Steps) (first : ℕ) (rest : List ℕ) (ss : Steps) : Type 0 where
  pub step : ℕ
  pub more : Steps
  pub all : ss ≡ path ++ (step ∷ more)
  pub marked : first ≡ mark
  pub digits : step_text rest ≡ decimal step
  pub behind : behind_step rest ≡ steps_from 47 more
  pub small : step < 65536
  pub room : length path < 8

module _ (value left : List ℕ) (mark : ℕ) (path : Steps) (w : Walk value left mark path) where
  module _ (first : ℕ) (rest : List ℕ) (e : left ≡ first ∷ rest) where
    next : (ss : Steps) → FewSteps ss → value ≡ steps_from 32 ss → Next mark path first rest ss
    next ss f h = let o = w.only ss f h in at o.0 o.1 o.2
      where
        at : (more : Steps) → ss ≡ path ++ more → left ≡ steps_from mark more → Next mark path first rest ss
        at [] a l = absurd (omega (arith, ap length (sym e ∙ l)))
        at (s ∷ more) a l =
            let both : first ∷ rest ≡ mark ∷ (decimal s ++ steps_from 47 more) = sym e ∙ l in
            let marked : first ≡ mark = cc in
            let tail : rest ≡ decimal s ++ steps_from 47 more = cc in
            let small = (all_right (λ x. x < 65536) path (s ∷ more) (subst (AllByRecursion (λ x. x < 65536)) a f.1)).0 in
            let k = step-first s more small in
            record {
              step = s;
              more = more;
              all = a;
              marked = marked;
              digits = ap step_text tail ∙ k.0;
              behind = ap behind_step tail ∙ k.1;
              small = small;
              room = omega (arith, f.0, ap length a, length-append path (s ∷ more));
            }

    pub walk-mark : (first ≡ mark → ⊥) → (ss : Steps) → FewSteps ss → value ≡ steps_from 32 ss → ⊥
    walk-mark n ss f h = n (next ss f h).marked

    pub walk-digits : ((n : ℕ) → n < 65536 → step_text rest ≡ decimal n → ⊥) → (ss : Steps) → FewSteps ss → value ≡ steps_from 32 ss → ⊥
    walk-digits none ss f h = let k = next ss f h in none k.step k.small k.digits

    pub walk_more : (n : ℕ) (longer : Steps) → first ≡ mark → step_text rest ≡ decimal n → n < 65536 → length path < 8 → longer ≡ path ++ (n ∷ []) → Walk value (behind_step rest) 47 longer
    walk_more n longer m d small room l = subst (Walk value (behind_step rest) 47) (sym l) (record {
      to = λ ss h.
          w.to (n ∷ ss) ((λ i. sym m i ∷ (sym d i ++ h i)) ∙ ap (λ r. first ∷ r) (sym (step-parts rest)) ∙ sym e) ∙ ap (steps_from 32) (sym (append_assoc path (n ∷ []) ss));
      only = λ ss f h.
          let k = next ss f h in
          let same : k.step ≡ n = decimal_injective k.step n (omega (arith, k.small)) (omega (arith, small)) (sym k.digits ∙ d) in
          (k.more, k.all ∙ (λ i. path ++ (same i ∷ k.more)) ∙ sym (append_assoc path (n ∷ []) k.more), k.behind);
      small = (omega (arith, room, length-append path (n ∷ [])), All-append (λ x. x < 65536) path (n ∷ []) w.small.1 (small, tt));
    })
