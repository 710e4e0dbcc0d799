-- From the checks of an offer to what comes of it. Assumes nothing.
use Rattle.std.proofs.Common.{◌≡◌, Bool, true, false, cond, T, ◌⊎◌, List, [], ◌∷◌, Some, None, Option, sym, refl, ap, subst, inl, inr}
use Rattle.model.specs.declared.fault.Fault.{Fault}
use Rattle.model.specs.Device.{Device, Answer, Taken, Gives, Refused, settle}
use Rattle.model.specs.Taking.{Check, first_fault}
use Rattle.model.proofs.Facts.{some-not}

abbrev pub AllPass : List Check → Type 0
AllPass [] = Unit {0}
AllPass (c ∷ cs) = T c.holds × AllPass cs

pub all_pass : (cs : List Check) → first_fault cs ≡ None → AllPass cs
all_pass [] e = tt
all_pass (c ∷ cs) e = at c.holds e (all_pass cs)
  where
    at : (b : Bool) → cond b (first_fault cs) (Some c.fault) ≡ None → (first_fault cs ≡ None → AllPass cs) → T b × AllPass cs
    at true u go = (tt, go u)
    at false u go = absurd (some-not c.fault u)

pub no-fault : (cs : List Check) → AllPass cs → first_fault cs ≡ None
no-fault [] h = refl
no-fault (c ∷ cs) h = at c.holds h.0 (no-fault cs h.1)
  where
    at : (b : Bool) → T b → first_fault cs ≡ None → cond b (first_fault cs) (Some c.fault) ≡ None
    at true t e = e
    at false t e = absurd t

-- what holds of the old device, and of the new one if nothing speaks against it, holds of the outcome
pub settled : (P : Device → Type 0) (m : Option Fault) (new old : Device) → P old → (m ≡ None → P new) → P (settle m new old).device
settled P None new old h k = k refl
settled P (Some f) new old h k = h

abbrev IsTaken : Answer → Type 0
IsTaken Taken = Unit {0}
IsTaken (Gives f) = ⊥
IsTaken (Refused f) = ⊥

abbrev IsRefused : Answer → Type 0
IsRefused Taken = ⊥
IsRefused (Gives f) = ⊥
IsRefused (Refused f) = Unit {0}

-- what was taken had no fault, and the new device is there
pub taken : (m : Option Fault) (new old : Device) → (settle m new old).answer ≡ Taken → (m ≡ None) × ((settle m new old).device ≡ new)
taken None new old e = (refl, refl)
taken (Some f) new old e = absurd (subst IsTaken (sym e) tt)

pub refused : (m : Option Fault) (new old : Device) (f : Fault) → (settle m new old).answer ≡ Refused f → (m ≡ Some f) × ((settle m new old).device ≡ old)
refused None new old f e = absurd (subst IsRefused (sym e) tt)
refused (Some g) new old f e = let same : g ≡ f = cc in (ap Some same, refl)

pub decided : (m : Option Fault) (new old : Device) → ((settle m new old).answer ≡ Taken) ⊎ ((f : Fault) × ((settle m new old).answer ≡ Refused f))
decided None new old = inl refl
decided (Some f) new old = inr (f, refl)
