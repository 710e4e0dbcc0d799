-- Offers of bytes lead to devices of the law that can be reached, and to what it promises of them. Assumes nothing.
use Rattle.std.proofs.Common.{◌≡◌, ℕ, Bool, T, List, [], map, Some, None, Ok, Err, Option, Result, sym, refl, ap, ◌∙◌, subst}
use Rattle.model.specs.declared.fault.Fault.{Fault}
use Rattle.model.specs.Metadata.{Key, Root, Metadata, ARoot, ATimestamp, ASnapshot, ATargets}
use Rattle.model.specs.Device.{Device, Outcome, settle}
use Rattle.model.specs.Answers.{Answer}
use Rattle.model.specs.Run.{Offers, Begins, Asks, step, day_fault}
use Rattle.model.specs.Run as law
use Rattle.model.specs.Onward.{Onwards}
use Rattle.model.specs.World.{AllSigned, Reached, made, after}
use Rattle.model.proofs.Backing.{main}
use Rattle.model.proofs.Blaming.{blames}
use Rattle.model.proofs.Bounds.{recorded}
use Rattle.model.proofs.Going.{onward}
use Rattle.wire.specs.Formats.{Bytes}
use Rattle.metadata.specs.Papers.{paper_in}
use Rattle.metadata.proofs.PaperLaws.{paper-form}
use Rattle.signature.specs.Signatures.{Accepts}
use Rattle.signature.specs.Views.{signature_of}
use Rattle.signature.proofs.Choosing.{signers-signed}
use Rattle.device_next.specs.Holding.{Held, Holding, signers_of, device_of, snapshot_digest, as_root, paper_of}
use Rattle.device_next.specs.Offers.{offer_of, offered_as, offered_bytes, outcome_of, world_of, Clean, Promised}
use Rattle.device_next.specs.Starts.{only_root, Started, StartsReached}
use Rattle.device_next.specs.declared.state.Device.{Device as Box}
use Rattle.device_next.specs.Steps.{Settled, OfferStep, DayStep, on_day}
use Rattle.device_next.specs.Stops.{MatchStop}
use Rattle.device_next.specs.declared.stop.Stop.{Stop}
use Rattle.device_next.specs.declared.stop.Stop.TheVariants.{Memory, Refused}
use Rattle.device_next.proofs.ModelledSteps.{unread-modelled, timestamp-modelled, snapshot-modelled, targets-modelled, root-modelled}

module _ (accepts : Accepts) (signed : Key → List ℕ → Bool) (sound : (k m s : List ℕ) → T (accepts k m s) → T (signed k m)) (h : Held) (b : Bytes h.paper) where
  -- the signers of a paper that was read did sign it
  signers-did : (p : Metadata) → paper_in h.paper ≡ Ok p → AllSigned (world_of signed) p (signers_of accepts h)
  signers-did p e k m = subst (λ (bs : List ℕ). T (signed k bs)) (sym (paper-form h.paper p b e).1) (signers-signed accepts signed sound h.paper (map signature_of h.signatures) k m)

  module _ (r : Root) (d new : Device) (is : (offered_bytes accepts h d).device ≡ new) where
    pub reached-on : Reached (world_of signed) r d → Reached (world_of signed) r new
    reached-on reached = at (paper_in h.paper) refl is
      where
        at : (u : Result Metadata Fault) → paper_in h.paper ≡ u → (offered_as accepts h d u).device ≡ new → Reached (world_of signed) r new
        at (Ok p) e k = after reached (Offers (offer_of accepts h p)) (signers-did p e) (sym k)
        at (Err f) e k = subst (λ (x : Device). Reached (world_of signed) r x) k reached

    onwards-on : Onwards d new
    onwards-on = at (paper_in h.paper) is
      where
        at : (u : Result Metadata Fault) → (offered_as accepts h d u).device ≡ new → Onwards d new
        at (Ok p) k = subst (λ (x : Device). Onwards d x) k (onward.step snapshot_digest (Offers (offer_of accepts h p)) d)
        at (Err f) k = subst (λ (x : Device). Onwards d x) k (onward.step snapshot_digest (Asks []) d)

    pub promised : Reached (world_of signed) r d → Promised (world_of signed) r d new
    promised reached =
        let on = reached-on reached in
        record {
          reached = on;
          rooted = (main.reached (world_of signed) r new on).rooted;
          onwards = onwards-on;
          bounded = recorded.bounded (world_of signed) r new on;
          vouched = blames.enough (world_of signed) r new on;
        }

  -- the same, of what is kept by its bytes
  pub promised-step : (r : Root) (s then : Holding) (a : Answer) → offered_bytes accepts h (device_of accepts s) ≡ outcome_of accepts a then →
      Reached (world_of signed) r (device_of accepts s) → Promised (world_of signed) r (device_of accepts s) (device_of accepts then)
  promised-step r s then a is reached = promised r (device_of accepts s) (device_of accepts then) (ap (λ o. o.device) is) reached

-- ANY OFFER

pub offer-modelled : (accepts : Accepts) (h : Held) (s : Holding) (a : Answer) (then : Holding) → Bytes h.paper → Clean s → OfferStep (paper_in h.paper) accepts h s a then → offered_bytes accepts h (device_of accepts s) ≡ outcome_of accepts a then
offer-modelled accepts h s a then b c = at (paper_in h.paper) refl
  where
    at : (u : Result Metadata Fault) → paper_in h.paper ≡ u → OfferStep u accepts h s a then → offered_bytes accepts h (device_of accepts s) ≡ outcome_of accepts a then
    at (Ok (ARoot r)) e k = root-modelled accepts h s a then b c r e k
    at (Ok (ATimestamp t)) e k = timestamp-modelled accepts h s a then b c t e k
    at (Ok (ASnapshot x)) e k = snapshot-modelled accepts h s a then b c x e k
    at (Ok (ATargets t)) e k = targets-modelled accepts h s a then b c t e k
    at (Err f) e k = unread-modelled accepts h s f e ∙ λ i. outcome_of accepts (sym k.0 i) (sym k.1 i)

-- where nothing changes, the promises stay
pub promised-same : (signed : Key → List ℕ → Bool) (r : Root) (d new : Device) → new ≡ d → Reached (world_of signed) r d → Promised (world_of signed) r d new
promised-same signed r d new e reached =
    let on = subst (λ (x : Device). Reached (world_of signed) r x) (sym e) reached in
    record {
      reached = on;
      rooted = (main.reached (world_of signed) r new on).rooted;
      onwards = subst (λ (x : Device). Onwards d x) (sym e) (onward.step snapshot_digest (Asks []) d);
      bounded = recorded.bounded (world_of signed) r new on;
      vouched = blames.enough (world_of signed) r new on;
    }

-- whether there was memory or not
pub promised-offer : (accepts : Accepts) (signed : Key → List ℕ → Bool) (sound : (k m s : List ℕ) → T (accepts k m s) → T (signed k m)) (h : Held) → Bytes h.paper → (s then : Holding) (r : Result (Unit {0}) Stop) →
    MatchStop r (λ (a : Answer). offered_bytes accepts h (device_of accepts s) ≡ outcome_of accepts a then) (device_of accepts then ≡ device_of accepts s) →
    (first : Root) → Reached (world_of signed) first (device_of accepts s) → Promised (world_of signed) first (device_of accepts s) (device_of accepts then)
promised-offer accepts signed sound h b s then (Ok x) k first = promised-step accepts signed sound h b first s then (Ok x) k
promised-offer accepts signed sound h b s then (Err (Refused f)) k first = promised-step accepts signed sound h b first s then (Err f) k
promised-offer accepts signed sound h b s then (Err (Memory e)) k first = promised-same signed first (device_of accepts s) (device_of accepts then) k

-- DAYS

pub day-modelled : (accepts : Accepts) (day : ℕ) (s : Holding) (a : Answer) (then : Holding) → DayStep day s a then → step snapshot_digest (Begins day) (device_of accepts s) ≡ outcome_of accepts a then
day-modelled accepts day s a then k = at (day_fault s.today day) k
  where
    at : (o : Option Fault) → Settled o (on_day day s) s a then → settle o (law.on_day day (device_of accepts s)) (device_of accepts s) ≡ outcome_of accepts a then
    at None u = λ i. outcome_of accepts (sym u.0 i) (sym u.1 i)
    at (Some f) u = λ i. outcome_of accepts (sym u.0 i) (sym u.1 i)

pub promised-day : (accepts : Accepts) (signed : Key → List ℕ → Bool) (day : ℕ) (r : Root) (s then : Holding) (a : Answer) → step snapshot_digest (Begins day) (device_of accepts s) ≡ outcome_of accepts a then →
    Reached (world_of signed) r (device_of accepts s) → Promised (world_of signed) r (device_of accepts s) (device_of accepts then)
promised-day accepts signed day r s then a is reached =
    let new = device_of accepts then in
    let e = ap (λ (o : Outcome). o.device) is in
    let on = after reached (Begins day) tt (sym e) in
    record {
      reached = on;
      rooted = (main.reached (world_of signed) r new on).rooted;
      onwards = subst (λ (x : Device). Onwards (device_of accepts s) x) e (onward.step snapshot_digest (Begins day) (device_of accepts s));
      bounded = recorded.bounded (world_of signed) r new on;
      vouched = blames.enough (world_of signed) r new on;
    }

-- a box that was just made
pub started : (accepts : Accepts) (signed : Key → List ℕ → Bool) (bs : List ℕ) → Reached (world_of signed) (as_root (paper_of bs)) (device_of accepts (only_root bs))
started accepts signed bs = made refl

pub started-reached : (o : Option Fault) (bs : List ℕ) (d : Result Box Fault) → Started o bs d → StartsReached bs d
started-reached None bs (Ok d) k = λ accepts signed. subst (λ (s : Holding). Reached (world_of signed) (as_root (paper_of bs)) (device_of accepts s)) (sym k) (started accepts signed bs)
started-reached None bs (Err e) k = tt
started-reached (Some f) bs (Ok d) k = absurd k
started-reached (Some f) bs (Err e) k = tt
