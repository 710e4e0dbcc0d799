-- From text to bytes, part by part. Assumes nothing.
use Rattle.std.specs.Prelude.{◌≡◌, ℕ, List, ◌++◌, Ok, Err, Result}
use Rattle.std.specs.Borrow.{Bor}
use Rattle.wire.specs.Formats.{FormatOf}
use Rattle.line.specs.declared.expected.Bad.{Bad}
use Rattle.draft_parts.specs.declared.stop.Stop.{Stop}
use Rattle.draft_parts.specs.declared.stop.Stop.TheVariants as stop

-- a value was read from the text, and its bytes came behind those before
pub record Copied {A : Type 0} (f : FormatOf Bad A) (write : A → List ℕ) (text rest before after : List ℕ) : Type 0 where
  pub value : A
  pub is_read : f.read text ≡ Ok (value, rest)
  pub is-written : after ≡ before ++ write value

-- that, or the text is bad; where memory ends, nothing is said
abbrev pub Copies : {A : Type 0} → FormatOf Bad A → (A → List ℕ) → Result (Bor (List ℕ)) Stop → List ℕ → List ℕ → List ℕ → Type 0
Copies f write (Ok rest) text before after = Copied f write text rest.now before after
Copies f write (Err (stop.Line b)) text before after = f.read text ≡ Err b
Copies f write (Err stop.Memory) text before after = Unit {0}

-- the same of a part that gives its key; key: what of a value it is
pub record CopiedKey {A V : Type 0} (f : FormatOf Bad A) (write : A → List ℕ) (is_key : A → V → Type 0) (text rest before after : List ℕ) (key : V) : Type 0 where
  pub value : A
  pub is_read : f.read text ≡ Ok (value, rest)
  pub is-written : after ≡ before ++ write value
  pub keyed : is_key value key

abbrev pub CopiesKey : {A V : Type 0} → FormatOf Bad A → (A → List ℕ) → (A → V → Type 0) → Result (V × Bor (List ℕ)) Stop → List ℕ → List ℕ → List ℕ → Type 0
CopiesKey f write is_key (Ok p) text before after = CopiedKey f write is_key text p.1.now before after p.0
CopiesKey f write is_key (Err (stop.Line b)) text before after = f.read text ≡ Err b
CopiesKey f write is_key (Err stop.Memory) text before after = Unit {0}
