-- A paper has one form in text. Assumes nothing.
use Rattle.std.specs.Prelude.{◌≡◌, ℕ, List, Ok}
use Rattle.model.specs.Metadata.{Metadata}
use Rattle.wire.specs.Formats.{Bytes}
use Rattle.metadata.specs.Papers.{WellFormed, bytes_of_paper}
use Rattle.text.specs.Texts.{paper_text}
use Rattle.text_form.specs.Texts.{text_in}

-- a text is accepted exactly if it is the text of a paper that has bytes, and of one only
pub record OneText : Type 0 where
  pub accepted : (t : List ℕ) (p : Metadata) → Bytes t → text_in t ≡ Ok p → WellFormed p × Bytes (bytes_of_paper p) × (paper_text p ≡ t)
  pub written : (p : Metadata) → WellFormed p → Bytes (bytes_of_paper p) → text_in (paper_text p) ≡ Ok p
  pub one : (p q : Metadata) → WellFormed p → WellFormed q → Bytes (bytes_of_paper p) → Bytes (bytes_of_paper q) → paper_text p ≡ paper_text q → p ≡ q
