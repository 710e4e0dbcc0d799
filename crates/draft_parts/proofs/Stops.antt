-- An error of a part is an error of the whole. Assumes nothing.
use Rattle.std.proofs.Common.{◌≡◌, ℕ, List, IsErrAnd, Ok, Err, Result, sym, refl, subst, Bor}
use Rattle.wire.specs.Formats.{FormatOf}
use Rattle.line.specs.declared.expected.Bad.{Bad}
use Rattle.draft_parts.specs.Copies.{Copies, CopiesKey}
use Rattle.draft_parts.specs.declared.stop.Stop.{Stop}
use Rattle.draft_parts.specs.declared.stop.Stop.TheVariants.{Memory, Line}

module _ {A : Type 0} (f : FormatOf Bad A) (write : A → List ℕ) (text before after : List ℕ) where
  pub part-bad : (s : Stop) → Copies f write (Err s) text before after → (b : Bad) → s ≡ Line b → f.read text ≡ Err b
  part-bad s h b e = subst (λ (x : Stop). Copies f write (Err x) text before after) e h

  pub item-bad : {V : Type 0} (is_key : A → V → Type 0) (s : Stop) → CopiesKey f write is_key (Err s) text before after → (b : Bad) → s ≡ Line b → f.read text ≡ Err b
  item-bad is_key s h b e = subst (λ (x : Stop). CopiesKey f write is_key (Err x) text before after) e h

  stopped-at : (y : Stop) → ((b : Bad) → y ≡ Line b → f.read text ≡ Err b) → Copies f write (Err y) text before after
  stopped-at Memory h = tt
  stopped-at (Line b) h = h b refl

  pub stopped : (r : Result (Bor (List ℕ)) Stop) (s : Stop) → IsErrAnd r (λ y. y ≡ s) → ((b : Bad) → s ≡ Line b → f.read text ≡ Err b) → Copies f write r text before after
  stopped (Ok x) s e h = absurd e
  stopped (Err y) s e h = subst (λ (x : Stop). Copies f write (Err x) text before after) (sym e) (stopped-at s h)
