-- Tests and what they decide. Assumes nothing.
use Rattle.std.proofs.Common.{◌≡◌, ℕ, ◌≤◌, Bool, true, false, not, ◌&&◌, ◌||◌, T, eqb, leb, ◌⊎◌, List, [], ◌∷◌, Some, None, sym, refl, subst, inl, inr, arith, le→leb, eqb→eq, leb→le, T_not}
use lib.Dec.{eqb_refl, not_T}
use Rattle.model.specs.Lists.{all}

pub and_l : (a b : Bool) → T (a && b) → T a
and_l true b t = tt
and_l false b t = t

pub and_r : (a b : Bool) → T (a && b) → T b
and_r true b t = t
and_r false b t = absurd t

pub or_case : (a b : Bool) → T (a || b) → T a ⊎ T b
or_case true b t = inl tt
or_case false b t = inr t

pub or_l : (a b : Bool) → T a → T (a || b)
or_l true b t = tt
or_l false b t = absurd t

pub or_r : (a b : Bool) → T b → T (a || b)
or_r true b t = tt
or_r false b t = t

pub both_hold : (a b : Bool) → T a → T b → T (a && b)
both_hold true b t u = u
both_hold false b t u = t

-- from a test's value
pub is_true : (b : Bool) → b ≡ true → T b
is_true b e = subst (λ (c : Bool). T c) (sym e) tt

pub is_false : (b : Bool) → b ≡ false → ¬ (T b)
is_false b e t = subst (λ (c : Bool). T c) e t

abbrev pub AllHold : List Bool → Type 0
AllHold [] = Unit {0}
AllHold (b ∷ bs) = T b × AllHold bs

-- each of a list of tests that all pass
pub each : (bs : List Bool) → T (all bs) → AllHold bs
unfolding all
each [] t = tt
each (b ∷ bs) t = (and_l b (all bs) t, each bs (and_r b (all bs) t))

pub all_of : (bs : List Bool) → AllHold bs → T (all bs)
unfolding all
all_of [] t = tt
all_of (b ∷ bs) t = both_hold b (all bs) t.0 (all_of bs t.1)

-- an option is not both
pub some-not : {A : Type 0} (a : A) → Some a ≡ None → ⊥
some-not a e = let z : ◌≡◌ {A = ℕ} 0 1 = cc in omega arith

pub none-not : {A : Type 0} (a : A) → None ≡ Some a → ⊥
none-not a e = some-not a (sym e)

pub some_same : {A : Type 0} (a b : A) → Some a ≡ Some b → a ≡ b
some_same a b e = cc

-- the test passes exactly where P holds
abbrev pub Decides : Bool → Type 0 → Type 0
Decides b P = (T b → P) × (P → T b)

pub decides_eq : (a b : ℕ) → Decides (eqb a b) (a ≡ b)
decides_eq a b = (eqb→eq a b, λ e. subst (λ (x : ℕ). T (eqb a x)) e (eqb_refl a))

-- the other way round
pub decides-eq-sym : (a b : ℕ) → Decides (eqb a b) (b ≡ a)
decides-eq-sym a b = (λ t. sym (eqb→eq a b t), λ e. subst (λ (x : ℕ). T (eqb x b)) e (eqb_refl b))

pub decides-le : (a b : ℕ) → Decides (leb a b) (a ≤ b)
decides-le a b = (leb→le a b, le→leb a b)

pub decides_not : {P : Type 0} (b : Bool) → Decides b P → Decides (not b) (¬ P)
decides_not b d = (λ t p. T_not b t (d.1 p), λ n. not_T b (λ t. n (d.0 t)))

-- a test's value is a case of P
pub by-test : {P Q : Type 0} (b : Bool) → Decides b P → (P → Q) → (¬ P → Q) → Q
by-test true d y n = y (d.0 tt)
by-test false d y n = n (λ p. d.1 p)

-- two tests of the same thing are the same
pub tests_same : {P : Type 0} (a b : Bool) → Decides a P → Decides b P → a ≡ b
tests_same true true d e = refl
tests_same true false d e = absurd (e.1 (d.0 tt))
tests_same false true d e = absurd (d.1 (e.0 tt))
tests_same false false d e = refl
