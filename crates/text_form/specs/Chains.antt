-- Tables whose items are read one by one, each knowing the one before it. Assumes nothing.
use Rattle.std.specs.Prelude.{◌≡◌, ℕ, zero, suc, List, [], ◌∷◌, length, Some, None, Ok, Option, Result}
use Rattle.std.specs.List.{flat_map}
use Rattle.wire.specs.Formats.{FormatOf, and_then}
use Rattle.line.specs.declared.expected.Bad.{Bad}

module _ {A K : Type 0} (item : Option K → FormatOf Bad A) (key : A → K) where
  -- n items; the key of one is known where the next is read
  abbrev pub read_chain : Option K → ℕ → List ℕ → Result (List A × List ℕ) Bad
  read_chain last zero bs = Ok ([], bs)
  read_chain last (suc n) bs = and_then ((item last).read bs) (λ p. and_then (read_chain (Some (key p.0)) n p.1) (λ q. Ok (p.0 ∷ q.0, q.1)))

  abbrev pub Chained : Option K → List A → Type 0
  Chained last [] = Unit {0}
  Chained last (x ∷ xs) = (item last).Wf x × Chained (Some (key x)) xs

  -- a table of n items
  abbrev pub chain : ℕ → FormatOf Bad (List A)
  chain n = record {
    read = read_chain None n;
    write = λ xs. flat_map (item None).write xs;
    Wf = λ xs. (length xs ≡ n) × Chained None xs;
  }
