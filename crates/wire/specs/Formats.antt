-- What is read from bytes and written to them, with errors of any type. A format is a reader, a writer, and which values it is for. Assumes nothing.
use Rattle.std.specs.Prelude.{◌≡◌, ℕ, ◌<◌, Bool, true, cond, List, ◌++◌, Ok, Err, Result}
use Rattle.std.specs.Borrow.{Bor}
use Rattle.std.specs.List.{AllByRecursion}
use Rattle.model.specs.declared.fault.Fault.{Fault}

-- the first error ends the reading
abbrev pub and_then : {E A B : Type 0} → Result A E → (A → Result B E) → Result B E
and_then (Ok x) f = f x
and_then (Err e) f = Err e

-- a reader gives a value and the bytes behind it, or an error
pub record FormatOf (E A : Type 0) : Type 1 where
  pub read : List ℕ → Result (A × List ℕ) E
  pub write : A → List ℕ
  pub Wf : A → Type 0

-- bytes that are no good have a fault
abbrev pub Format : Type 0 → Type 1
Format A = FormatOf Fault A

abbrev pub Bytes : List ℕ → Type 0
Bytes bs = AllByRecursion (λ b. b < 256) bs

-- what is written is read back, and what is read is written as it was
pub record Lawful {E A : Type 0} (f : FormatOf E A) : Type 0 where
  pub back : (x : A) (rest : List ℕ) → f.Wf x → f.read (f.write x ++ rest) ≡ Ok (x, rest)
  pub once : (bs : List ℕ) (x : A) (rest : List ℕ) → Bytes bs → f.read bs ≡ Ok (x, rest) → (f.write x ++ rest ≡ bs) × f.Wf x × Bytes rest

-- one after the other, where the second may depend on what the first gave
abbrev pub pair : {E A B : Type 0} → FormatOf E A → (A → FormatOf E B) → FormatOf E (A × B)
pair f g = record {
  read = λ bs. and_then (f.read bs) (λ p. and_then ((g p.0).read p.1) (λ q. Ok ((p.0, q.0), q.1)));
  write = λ x. f.write x.0 ++ (g x.0).write x.1;
  Wf = λ x. f.Wf x.0 × (g x.0).Wf x.1;
}

-- only the values that pass a test; the others have this error
abbrev pub only : {E A : Type 0} → FormatOf E A → (A → Bool) → E → FormatOf E A
only f test e = record {
  read = λ bs. and_then (f.read bs) (λ p. cond (test p.0) (Ok p) (Err e));
  write = f.write;
  Wf = λ x. f.Wf x × (test x ≡ true);
}

-- the same bytes for another type
abbrev pub mapped : {E A B : Type 0} → FormatOf E A → (A → B) → (B → A) → FormatOf E B
mapped f to from = record {
  read = λ bs. and_then (f.read bs) (λ p. Ok (to p.0, p.1));
  write = λ y. f.write (from y);
  Wf = λ y. f.Wf (from y);
}

-- what code reads is what the format reads; model: what a value of the code stands for
abbrev pub Reads : {E V A : Type 0} → (V → A) → Result (V × Bor (List ℕ)) E → Result (A × List ℕ) E → Type 0
Reads model (Ok p) s = s ≡ Ok (model p.0, p.1.now)
Reads model (Err e) s = s ≡ Err e
