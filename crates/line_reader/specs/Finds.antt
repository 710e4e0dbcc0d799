-- What the code finds on a line. Assumes nothing.
use Rattle.std.specs.Prelude.{◌≡◌, ℕ, Bool, cond, not, List, ◌++◌, length, Some, None, Option, ◌==◌, ◌≢◌}
use Rattle.std.specs.Borrow.{Bor}
use Rattle.line.specs.Lines.{bare}
use Rattle.line.specs.Forms.{Unended, Begins}

-- the value whose writing this is, if there is one
abbrev pub Found : {V A : Type 0} → (V → A) → (A → List ℕ) → (A → Type 0) → Option V → List ℕ → Type 0
Found {A = A} model write Fits (Some v) bs = (bs ≡ write (model v)) × Fits (model v)
Found {A = A} model write Fits None bs = (x : A) → Fits x → bs ≢ write x

-- what was found behind a word on the first line, and behind that line
abbrev pub Behind : List ℕ → Option (Bor (List ℕ) × Bor (List ℕ)) → List ℕ → Type 0
Behind word (Some p) text = Begins word text p.0.now p.1.now
Behind word None text = (v rest : List ℕ) → Unended v → text ≢ bare (word ++ v) ++ rest

-- digits begin with a zero only where it is all, and never with a plus
abbrev pub well_begun : ℕ → List ℕ → Bool
well_begun first more = cond (first == 48) (length more == 0) (not (first == 43))
