-- From a whole text to bytes. Assumes nothing.
use Rattle.std.specs.Prelude.{◌≡◌, ℕ, List, ◌++◌, Ok, Err, Result}
use Rattle.model.specs.Metadata.{Metadata}
use Rattle.metadata.specs.Papers.{WellFormed, bytes_of_paper}
use Rattle.line.specs.declared.expected.Bad.{Bad}
use Rattle.line.specs.declared.expected.Expected.{Expected}
use Rattle.text.specs.Texts.{paper_text}
use Rattle.text_form.specs.Texts.{text_in, line_at}
use Rattle.draft_parts.specs.declared.stop.Stop.{Stop}
use Rattle.draft_parts.specs.declared.stop.Stop.TheVariants as stop
use Rattle.draft.specs.declared.paper.TextError.{TextError}
use Rattle.draft.specs.declared.paper.TextError.TheVariants as refused

-- these are the bytes of a well-formed paper, and that is its text
pub record Faithful (written bytes : List ℕ) : Type 0 where
  pub paper : Metadata
  pub formed : WellFormed paper
  pub is-text : written ≡ paper_text paper
  pub is-bytes : bytes ≡ bytes_of_paper paper

-- the bytes are those of the paper that is read from the text
pub record Drafted (text bytes : List ℕ) : Type 0 where
  pub paper : Metadata
  pub is-text : text_in text ≡ Ok paper
  pub is-bytes : bytes ≡ bytes_of_paper paper

-- a whole text gives the bytes of its paper behind those before, or its first bad line
abbrev pub Wholly : Result (Unit {0}) Stop → List ℕ → List ℕ → List ℕ → Type 0
Wholly (Ok u) text before after = (p : Metadata) × (text_in text ≡ Ok p) × (after ≡ before ++ bytes_of_paper p)
Wholly (Err (stop.Line b)) text before after = text_in text ≡ Err b
Wholly (Err stop.Memory) text before after = Unit {0}

-- the first bad line, by its number and what was expected there
pub record Refused (text : List ℕ) (n : ℕ) (e : Expected) : Type 0 where
  pub bad : Bad
  pub is-bad : text_in text ≡ Err bad
  pub is-line : n ≡ line_at text bad.left
  pub is-expected : e ≡ bad.expected

abbrev pub Answers : {V : Type 0} → (V → List ℕ) → Result V TextError → List ℕ → Type 0
Answers model (Ok v) text = Drafted text (model v)
Answers model (Err (refused.Line n e)) text = Refused text n e
Answers model (Err refused.Memory) text = Unit {0}
