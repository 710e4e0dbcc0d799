-- The law of a line, of whatever value. Assumes nothing.
use Rattle.std.proofs.Common.{◌≡◌, ℕ, Bool, true, false, cond, ◌&&◌, T, eqb, List, [], ◌∷◌, ◌++◌, Ok, Err, Result, sym, refl, ap, ◌∙◌, subst, true≢false}
use mathlib.Core.List.{append_cancel_left}
use Rattle.std.proofs.lemmas.Bool.{and_parts, and_from}
use Rattle.std.proofs.ByRecursion.{All-append}
use Rattle.model.specs.Same.{same_list}
use Rattle.model.proofs.Same.{bytes}
use Rattle.wire.specs.Formats.{Bytes}
use Rattle.wire.specs.Formats.{FormatOf, Lawful, and_then}
use Rattle.wire.proofs.Laws.{inv-then, inv-only}
use Rattle.line.specs.Lines.{bare}
use Rattle.line.specs.Forms.{bad_at, line_in, behind_line, judged, ruled, Unended, Begins}
use Rattle.line.specs.declared.expected.Bad.{Bad}
use Rattle.line.specs.declared.expected.Expected.{Expected}

-- LISTS THAT ARE THE SAME

is_true : (b : Bool) → T b → b ≡ true
is_true true t = refl
is_true false t = absurd t

pub list_same : (a b : List ℕ) → same_list a b ≡ true → a ≡ b
list_same a b h = bytes.equal a b (subst (λ (x : Bool). T x) (sym h) tt)

pub same-list : (a b : List ℕ) → a ≡ b → same_list a b ≡ true
same-list a b e = is_true (same_list a b) (subst (λ (y : List ℕ). T (same_list a y)) e (bytes.itself a))

-- THE FIRST LINE

pub line_at : (c rest : List ℕ) → Unended c → line_in (bare c ++ rest) ≡ c
unfolding bare
line_at [] rest u = refl
line_at (b ∷ c) rest u = ap (λ t. cond t [] (b ∷ line_in ((c ++ (10 ∷ [])) ++ rest))) u.0 ∙ ap (λ l. b ∷ l) (line_at c rest u.1)

pub behind-at : (c rest : List ℕ) → Unended c → behind_line (bare c ++ rest) ≡ rest
unfolding bare
behind-at [] rest u = refl
behind-at (b ∷ c) rest u = ap (λ t. cond t ((c ++ (10 ∷ [])) ++ rest) (behind_line ((c ++ (10 ∷ [])) ++ rest))) u.0 ∙ behind-at c rest u.1

bytes-behind : (bs : List ℕ) → Bytes bs → Bytes (behind_line bs)
bytes-behind [] b = tt
bytes-behind (x ∷ bs) b = at (eqb x 10) (bytes-behind bs b.1)
  where
    at : (t : Bool) → Bytes (behind_line bs) → Bytes (cond t bs (behind_line bs))
    at true k = b.1
    at false k = k

-- a text with no end of a line does not begin with a line
pub no_line : (bs c rest : List ℕ) → Unended bs → bs ≡ bare c ++ rest → ⊥
unfolding bare
no_line [] [] rest u e = true≢false (ap (λ (l : List ℕ). empty l) e)
  where
    empty : List ℕ → Bool
    empty [] = true
    empty (x ∷ xs) = false
no_line [] (b ∷ c) rest u e = true≢false (ap (λ (l : List ℕ). empty l) e)
  where
    empty : List ℕ → Bool
    empty [] = true
    empty (x ∷ xs) = false
no_line (x ∷ bs) [] rest u e = let h : x ≡ 10 = cc in true≢false (sym (ap (λ n. eqb n 10) h) ∙ u.0)
no_line (x ∷ bs) (b ∷ c) rest u e = let h : bs ≡ (c ++ (10 ∷ [])) ++ rest = cc in no_line bs c rest u.1 h

-- a text begins with one line only
pub one_line : (c d rest more : List ℕ) → Unended c → Unended d → bare c ++ rest ≡ bare d ++ more → (c ≡ d) × (rest ≡ more)
one_line c d rest more u v e =
    (sym (line_at c rest u) ∙ ap line_in e ∙ line_at d more v, sym (behind-at c rest u) ∙ ap behind_line e ∙ behind-at d more v)

-- THE LAW

-- what stands on the line of x, from which the value is taken
pub record Content {A : Type 0} (w : List ℕ) (value : List ℕ → A) (x : A) : Type 0 where
  pub content : List ℕ
  pub ends : w ≡ bare content
  pub one : Unended content
  pub again : value content ≡ x

module _ {A : Type 0} (write : A → List ℕ) (value : List ℕ → A) (allowed : A → Bool) (e : Expected) where
  abbrev reads : List ℕ → Result (A × List ℕ) Bad
  reads bs = judged write allowed e bs (value (line_in bs))

  module _ (form : (x : A) → allowed x ≡ true → Content (write x) value x) where
    pub line-back : (x : A) (rest : List ℕ) → allowed x ≡ true → reads (write x ++ rest) ≡ Ok (x, rest)
    line-back x rest w =
        let f = form x w in
        let bs = write x ++ rest in
        let is : value (line_in bs) ≡ x = ap value (ap (λ l. line_in (l ++ rest)) f.ends ∙ line_at f.content rest f.one) ∙ f.again in
        let left : behind_line bs ≡ rest = ap (λ l. behind_line (l ++ rest)) f.ends ∙ behind-at f.content rest f.one in
        let good : (allowed x && same_list (write x ++ behind_line bs) bs) ≡ true = and_from (allowed x) (same_list (write x ++ behind_line bs) bs) w (same-list (write x ++ behind_line bs) bs (ap (λ l. write x ++ l) left)) in
        ap (λ y. judged write allowed e bs y) is
        ∙ ap (λ t. cond t (Ok (x, behind_line bs)) (Err (bad_at bs e))) good
        ∙ ap (λ l. Ok (x, l)) left

  abbrev Good : List ℕ → A → Bool
  Good bs x = allowed x && same_list (write x ++ behind_line bs) bs

  pub line-once : (bs : List ℕ) (x : A) (rest : List ℕ) → Bytes bs → reads bs ≡ Ok (x, rest) → (write x ++ rest ≡ bs) × (allowed x ≡ true) × Bytes rest
  line-once bs x rest b h =
      let v = value (line_in bs) in
      let i = inv-only (Good bs v) (bad_at bs e) (v, behind_line bs) (x, rest) h in
      let t = and_parts (allowed v) (same_list (write v ++ behind_line bs) bs) i.0 in
      subst (λ (p : A × List ℕ). (write p.0 ++ p.1 ≡ bs) × (allowed p.0 ≡ true) × Bytes p.1) i.1 (list_same (write v ++ behind_line bs) bs t.1, t.0, bytes-behind bs b)

  -- a text that begins with no line of an allowed value is bad there
  pub line-bad : (bs : List ℕ) → ((x : A) (rest : List ℕ) → allowed x ≡ true → bs ≡ write x ++ rest → ⊥) → reads bs ≡ Err (bad_at bs e)
  line-bad bs none = at (Good bs (value (line_in bs))) refl
    where
      at : (t : Bool) → Good bs (value (line_in bs)) ≡ t → cond {A = Result (A × List ℕ) Bad} t (Ok (value (line_in bs), behind_line bs)) (Err (bad_at bs e)) ≡ Err (bad_at bs e)
      at true h =
          let v = value (line_in bs) in
          let t = and_parts (allowed v) (same_list (write v ++ behind_line bs) bs) h in
          absurd (none v (behind_line bs) t.0 (sym (list_same (write v ++ behind_line bs) bs t.1)))
      at false h = refl

-- A WORD AND WHAT IS BEHIND IT

-- the line of x has a word and then this tail
pub record Tailed {A : Type 0} (write tail : A → List ℕ) (word : List ℕ) (allowed : A → Bool) : Type 0 where
  pub is : (x : A) → write x ≡ bare (word ++ tail x)
  pub one : (x : A) → allowed x ≡ true → Unended (tail x)

module _ {A : Type 0} (write : A → List ℕ) (value : List ℕ → A) (allowed : A → Bool) (e : Expected) (tail : A → List ℕ) (word : List ℕ) (word-one : Unended word) (t : Tailed write tail word allowed) (text : List ℕ) where
  abbrev answer : Result (A × List ℕ) Bad
  answer = judged write allowed e text (value (line_in text))

  pub word-bad : ((v rest : List ℕ) → Unended v → text ≡ bare (word ++ v) ++ rest → ⊥) → answer ≡ Err (bad_at text e)
  word-bad none = line-bad write value allowed e text (λ x rest a h. none (tail x) rest (t.one x a) (h ∙ ap (λ l. l ++ rest) (t.is x)))

  module _ (v rest : List ℕ) (b : Begins word text v rest) where
    pub tail-bad : ((x : A) → allowed x ≡ true → v ≡ tail x → ⊥) → answer ≡ Err (bad_at text e)
    tail-bad none =
        line-bad write value allowed e text (λ x more a h.
        let same = one_line (word ++ v) (word ++ tail x) rest more (All-append (λ c. eqb c 10 ≡ false) word v word-one b.one) (All-append (λ c. eqb c 10 ≡ false) word (tail x) word-one (t.one x a)) (sym b.whole ∙ h ∙ ap (λ l. l ++ more) (t.is x)) in
        none x a (append_cancel_left word v (tail x) same.0))

    pub tail-good : (form : (x : A) → allowed x ≡ true → Content (write x) value x) (x : A) → allowed x ≡ true → v ≡ tail x → answer ≡ Ok (x, rest)
    tail-good form x a h =
        ap (λ l. judged write allowed e l (value (line_in l))) (b.whole ∙ ap (λ l. bare (word ++ l) ++ rest) h ∙ ap (λ l. l ++ rest) (sym (t.is x)))
        ∙ line-back write value allowed e form x rest a

-- A TEST OF THE VALUE

module _ {A : Type 0} (f : FormatOf Bad A) (test : A → Bool) (e : Expected) (F : Lawful f) where
  pub lawful-ruled : Lawful (ruled f test e)
  lawful-ruled = record {
    back = λ x rest w.
        let bs = f.write x ++ rest in
        ap (λ r. and_then r (λ p. cond (test p.0) (Ok p) (Err (bad_at bs e)))) (F.back x rest w.0)
        ∙ ap (λ t. cond t (Ok (x, rest)) (Err (bad_at bs e))) w.1;
    once = λ bs x rest b h.
        let i = inv-then (f.read bs) (λ p. cond (test p.0) (Ok p) (Err (bad_at bs e))) (x, rest) h in
        let j = inv-only (test i.0.0) (bad_at bs e) i.0 (x, rest) i.2 in
        let k = F.once bs i.0.0 i.0.1 b i.1 in
        subst (λ (p : A × List ℕ). (f.write p.0 ++ p.1 ≡ bs) × (f.Wf p.0 × (test p.0 ≡ true)) × Bytes p.1) j.1 (k.0, (k.1, j.0), k.2);
  }

pub all-behind : (w v : List ℕ) → Unended (w ++ v) → Unended v
all-behind [] v u = u
all-behind (b ∷ w) v u = all-behind w v u.1
