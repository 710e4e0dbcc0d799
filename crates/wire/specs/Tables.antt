-- Tables: so many items, each above the one before it. Assumes nothing.
use Rattle.std.specs.Prelude.{◌≡◌, ℕ, zero, suc, Bool, true, false, cond, List, [], ◌∷◌, length, Some, None, Ok, Err, Option, Result}
use Rattle.std.specs.List.{flat_map, AllByRecursion}
use Rattle.model.specs.declared.fault.Fault.{Fault}
use Rattle.model.specs.declared.fault.Fault.TheVariants.{OutOfOrder}
use Rattle.wire.specs.Formats.{Format, and_then}

-- k may follow the one before it, if there is one
abbrev pub follows : {K : Type 0} → (K → K → Bool) → Option K → K → Bool
follows below None k = true
follows below (Some j) k = below j k

module _ {A K : Type 0} (f : Format A) (key : A → K) (below : K → K → Bool) where
  -- n items, read one by one; the order of one is judged once it is read
  abbrev pub read_rising : Option K → ℕ → List ℕ → Result (List A × List ℕ) Fault
  read_rising last zero bs = Ok ([], bs)
  read_rising last (suc n) bs =
      and_then (f.read bs) (λ p. cond (follows below last (key p.0)) (and_then (read_rising (Some (key p.0)) n p.1) (λ q. Ok (p.0 ∷ q.0, q.1))) (Err OutOfOrder))

  -- each is above the one before it
  abbrev pub rises : Option K → List A → Bool
  rises last [] = true
  rises last (x ∷ xs) = cond (follows below last (key x)) (rises (Some (key x)) xs) false

  -- a table of n items in rising order
  abbrev pub rising : ℕ → Format (List A)
  rising n = record {
    read = read_rising None n;
    write = λ xs. flat_map f.write xs;
    Wf = λ xs. (length xs ≡ n) × AllByRecursion f.Wf xs × (rises None xs ≡ true);
  }

-- a table of n items in any order
abbrev pub table : {A : Type 0} → Format A → ℕ → Format (List A)
table f n = rising f (λ x. x) (λ _ _. true) n

-- the value that was read, or another where none was
abbrev pub if_read : {A B : Type 0} → B → (A × List ℕ → B) → Result (A × List ℕ) Fault → B
if_read d k (Ok p) = k p
if_read d k (Err e) = d

-- the n items that bytes begin with, or those before one that does not read
abbrev pub items : {A : Type 0} → Format A → ℕ → List ℕ → List A
items f zero bs = []
items f (suc n) bs = if_read [] (λ p. p.0 ∷ items f n p.1) (f.read bs)
