-- An error of a paper is an error of the whole text. Assumes nothing.
use Rattle.std.proofs.Common.{◌≡◌, ℕ, List, IsErrAnd, Ok, Err, Result, sym, refl, subst}
use Rattle.line.specs.declared.expected.Bad.{Bad}
use Rattle.text_form.specs.Texts.{text_in}
use Rattle.draft.specs.Drafts.{Wholly}
use Rattle.draft_parts.specs.declared.stop.Stop.{Stop}
use Rattle.draft_parts.specs.declared.stop.Stop.TheVariants.{Memory, Line}

pub whole-stopped : (text before after : List ℕ) (r : Result (Unit {0}) Stop) (s : Stop) → IsErrAnd r (λ y. y ≡ s) → ((b : Bad) → s ≡ Line b → text_in text ≡ Err b) → Wholly r text before after
whole-stopped text before after (Ok x) s e h = absurd e
whole-stopped text before after (Err y) s e h = subst (λ (x : Stop). Wholly (Err x) text before after) (sym e) (at s h)
  where
    at : (y : Stop) → ((b : Bad) → y ≡ Line b → text_in text ≡ Err b) → Wholly (Err y) text before after
    at Memory h = tt
    at (Line b) h = h b refl
