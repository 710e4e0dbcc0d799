-- Results where memory may end. Assumes nothing.
use Rattle.std.proofs.Common.{◌≡◌, Ok, Err, Result, IsErr, IsErrAnd, sym, subst, true≢false}
use Rattle.model.specs.declared.fault.Fault.{Fault}
use Rattle.device_next.specs.Stops.{MatchStop}
use Rattle.device_next.specs.declared.stop.Stop.{Stop}
use Rattle.device_next.specs.declared.stop.Stop.TheVariants.{Memory, Refused}

-- what holds of each answer, and of the lack of memory, may be weakened
pub stop-weaker : {A P' : Type 0} {P Q : Result A Fault → Type 0} {Q' : Type 0} (r : Result A Stop) → MatchStop r P P' → ((a : Result A Fault) → P a → Q a) → (P' → Q') → MatchStop r Q Q'
stop-weaker (Ok x) k f g = f (Ok x) k
stop-weaker (Err (Refused e)) k f g = f (Err e) k
stop-weaker (Err (Memory e)) k f g = g k

-- a fault that is passed on is the answer
pub passed-on : {A : Type 0} (P : Result A Fault → Type 0) (Q : Type 0) (r : Result A Stop) (f : Fault) → IsErr r × IsErrAnd r (λ (s : Stop). s ≡ Refused f) → P (Err f) → MatchStop r P Q
passed-on P Q (Ok x) f w k = absurd (true≢false (sym w.0))
passed-on P Q (Err e) f w k = subst (λ (s : Stop). MatchStop (Err s) P Q) (sym w.1) k
