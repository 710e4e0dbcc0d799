-- The steps of a run. Assumes nothing.
use Rattle.std.proofs.Common.{◌≡◌, ℕ, List, [], ◌∷◌, ◌++◌, Ok, Err, Result, IsErr, sym, refl, subst, true≢false, append_assoc, append-nil}
use Rattle.model.specs.Device.{Device}
use Rattle.signature.specs.Signatures.{Accepts}
use Rattle.std.specs.declared.alloc.AllocError.{AllocError}
use Rattle.device_next.specs.Stops.{MatchStop}
use Rattle.device_next.specs.declared.stop.Stop.{Stop}
use Rattle.device_next.specs.declared.stop.Stop.TheVariants.{Memory, Refused}
use Rattle.model.specs.Answers.{Answer}
use Rattle.stream.specs.Views.{item_of}
use Rattle.stream.specs.declared.Offer.{Offer as Offered}
use Rattle.stream.specs.declared.Item.{Item}
use Rattle.stream.specs.declared.Item.TheVariants.{Offer, Day, Ask, Install}
use Rattle.running.specs.Runs.{Question, Runs, SoFar}

-- what is no offer and no day is a question
pub question : (i : Item) → ((o : Offered) → i ≡ Offer o → ⊥) → ((d : ℕ) → i ≡ Day d → ⊥) → Question (item_of i)
question (Offer o) a b = absurd (a o refl)
question (Day d) a b = absurd (b d refl)
question (Ask p) a b = tt
question (Install p f) a b = tt

-- what is inside the same is the same
same : {A E : Type 0} {x y : A} → ◌≡◌ {A = Result A E} (Ok x) (Ok y) → x ≡ y
same h = cc

abbrev as_memory : Answer → Result Answer AllocError
as_memory said = Ok said

-- the answer that is told is the one that was given
pub told : (P : Answer → Type 0) (Q : Type 0) (r : Result (Unit {0}) Stop) (said : Answer) → MatchStop r (λ (a : Answer). ◌≡◌ {A = Result Answer AllocError} (Ok said) (Ok a)) (IsErr (as_memory said)) → MatchStop r P Q → P said
told P Q (Ok x) said e k = subst P (sym (same e)) k
told P Q (Err (Refused f)) said e k = subst P (sym (same e)) k
told P Q (Err (Memory m)) said e k = absurd (true≢false (sym e))

module _ (accepts : Accepts) (d : Device) (bs : List ℕ) (said : List Answer) (here : Device) (left : List ℕ) (inv : SoFar accepts d bs said here left) where
  -- one answer more
  pub so_far : (a : Answer) (new : List Answer) (there : Device) (rest : List ℕ) → ((more : List Answer) (e : Device) → Runs accepts there rest more e → Runs accepts here left (a ∷ more) e) → new ≡ said ++ a ∷ [] →
      SoFar accepts d bs new there rest
  so_far a new there rest step is more e runs =
      subst (λ (l : List Answer). Runs accepts d bs (l ++ more) e) (sym is)
      (subst (λ (l : List Answer). Runs accepts d bs l e) (sym (append_assoc said (a ∷ []) more)) (inv (a ∷ more) e (step more e runs)))

  -- the last answer
  pub at_last : (a : Answer) (new : List Answer) → Runs accepts here left (a ∷ []) here → new ≡ said ++ a ∷ [] → Runs accepts d bs new here
  at_last a new runs is = subst (λ (l : List Answer). Runs accepts d bs l here) (sym is) (inv (a ∷ []) here runs)

  -- no answer more
  pub at-end : Runs accepts here left [] here → Runs accepts d bs said here
  at-end runs = subst (λ (l : List Answer). Runs accepts d bs l here) (append-nil said) (inv [] here runs)
