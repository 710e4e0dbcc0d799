-- What code shows of an offer, put together. Assumes nothing.
use Rattle.std.proofs.Common.{◌≡◌, ℕ, Bool, true, false, cond, eqb, List, [], ◌∷◌, ◌++◌, map, is_some, Some, None, Ok, Err, Option, sym, refl, ap, ◌∙◌, subst, true≢false}
use Rattle.std.specs.Option.{option_map}
use Rattle.model.specs.declared.fault.Fault.{Fault}
use Rattle.model.specs.declared.fault.Fault.TheVariants.{NotEnough, NotNamed, Regresses, Expired}
use Rattle.model.specs.Metadata.{Digest, Quorum, Root, Timestamp, Snapshot, Delegation, Targets}
use Rattle.model.specs.Lists.{first}
use Rattle.model.specs.Quorums.{enough}
use Rattle.model.specs.Taking.{Check, first_fault, must, named, covers_kept, in_time, keep_if, current}
use Rattle.signature.specs.Counting.{Chosen}
use Rattle.signature.specs.Signatures.{Accepts}
use Rattle.signature.specs.Views.{signature_of}
use Rattle.journal.specs.Notes.{Note}
use Rattle.device_next.specs.Holding.{Held, Holding, signers_of}
use Rattle.device_next.specs.Steps.{NoteBy, Settled, Stepped, root_in, root_faults, with_root, RootStep, targets_in, or_else, delegated_in}

pub settled-refused : (r : Option Fault) (f : Fault) (new s : Holding) → r ≡ Some f → Settled r new s (Err f) s
settled-refused r f new s e = subst (λ (x : Option Fault). Settled x new s (Err f) s) (sym e) (refl, refl)

pub settled-taken : (r : Option Fault) (new s after : Holding) → r ≡ None → after ≡ new → Settled r new s (Ok tt) after
settled-taken r new s after e h = subst (λ (x : Option Fault). Settled x new s (Ok tt) after) (sym e) (refl, h)

module _ (accepts : Accepts) (h : Held) where
  abbrev pub Picked : Quorum → List (List ℕ) → Type 0
  Picked q sigs = Chosen accepts h.paper q (map signature_of h.signatures) (map signature_of sigs)

  pub note-by : (q r : Quorum) (sigs : List (List ℕ)) (today : ℕ) (n : Note) → r ≡ q → Picked r sigs → n.quorum ≡ q → n.day ≡ today → n.paper ≡ h.paper → n.signatures ≡ sigs → NoteBy accepts h q today n
  note-by q r sigs today n e p nq nd np ns = record {
    quorum = nq;
    day = nd;
    paper = np;
    chosen = subst (λ (x : List (List ℕ)). Picked q x) (sym ns) (subst (λ (x : Quorum). Picked x sigs) e p);
  }

  module _ (q r : Quorum) (e : r ≡ q) (sigs : List (List ℕ)) (p : Picked r sigs) (met : Bool) (is-met : met ≡ enough r (signers_of accepts h)) (faults : Bool → List Check) (new : Note → Holding) (s : Holding) where
    judged : first_fault (faults met) ≡ first_fault (faults (enough q (signers_of accepts h)))
    judged = ap (λ (b : Bool). first_fault (faults b)) (is-met ∙ ap (λ (x : Quorum). enough x (signers_of accepts h)) e)

    pub step-refused : (f : Fault) → first_fault (faults met) ≡ Some f → Stepped accepts h q faults new s (Err f) s
    step-refused f k =
        let n : Note = record { quorum = q; day = s.today; paper = h.paper; signatures = sigs } in
        record { note = n; by = note-by q r sigs s.today n e p refl refl refl refl; settled = settled-refused _ f (new n) s (sym judged ∙ k) }

    pub step-taken : (n : Note) (after : Holding) → first_fault (faults met) ≡ None → n.quorum ≡ q → n.day ≡ s.today → n.paper ≡ h.paper → n.signatures ≡ sigs → after ≡ new n → Stepped accepts h q faults new s (Ok tt) after
    step-taken n after k nq nd np ns is = record { note = n; by = note-by q r sigs s.today n e p nq nd np ns; settled = settled-taken _ (new n) s after (sym judged ∙ k) is }

-- the same parts make the same whole
pub note-same : (q r : Quorum) (d e : ℕ) (paper : List ℕ) (ss ts : List (List ℕ)) → q ≡ r → d ≡ e → ss ≡ ts →
    ◌≡◌ {A = Note} (record { quorum = q; day = d; paper = paper; signatures = ss }) (record { quorum = r; day = e; paper = paper; signatures = ts })
note-same q r d e paper ss ts a b c = cc

pub holding-same : (r r' : Held) (t t' x x' : Option Held) (l l' : List Held) (ns ns' : List Note) (today : ℕ) → r ≡ r' → t ≡ t' → x ≡ x' → l ≡ l' → ns ≡ ns' →
    ◌≡◌ {A = Holding} (record { root = r; timestamp = t; snapshot = x; targets = l; notes = ns; today = today }) (record { root = r'; timestamp = t'; snapshot = x'; targets = l'; notes = ns'; today = today })
holding-same r r' t t' x x' l l' ns ns' today a b c d e = cc

-- a fault that was found is the first, whatever is looked at behind it
pub fault-more : (cs : List Check) (c : Check) (f : Fault) → first_fault cs ≡ Some f → first_fault (cs ++ c ∷ []) ≡ Some f
fault-more [] c f h = absurd (none-some h)
  where
    none-some : {f : Fault} → ◌≡◌ {A = Option Fault} None (Some f) → ⊥
    none-some e = true≢false (sym (ap is_some e))
fault-more (x ∷ cs) c f h = at x.holds refl (λ k. fault-more cs c f k)
  where
    at : (b : Bool) → x.holds ≡ b → (first_fault cs ≡ Some f → first_fault (cs ++ c ∷ []) ≡ Some f) → first_fault ((x ∷ cs) ++ c ∷ []) ≡ Some f
    at true e more = ap (λ (b : Bool). cond b (first_fault (cs ++ c ∷ [])) (Some x.fault)) e ∙ more (sym (ap (λ (b : Bool). cond b (first_fault cs) (Some x.fault)) e) ∙ h)
    at false e more = ap (λ (b : Bool). cond b (first_fault (cs ++ c ∷ [])) (Some x.fault)) e ∙ (sym (ap (λ (b : Bool). cond b (first_fault cs) (Some x.fault)) e) ∙ h)

-- what speaks against a snapshot is the same for the same digest, kept papers and day
pub snapshot-judged : (met : Bool) (x : Snapshot) (d d' : Digest) (t t' : Option Timestamp) (o o' : Option Snapshot) (n n' : ℕ) → d ≡ d' → t ≡ t' → o ≡ o' → n ≡ n' →
    first_fault (must met NotEnough ∷ must (named (λ _. d) x t) NotNamed ∷ must (covers_kept x o) Regresses ∷ must (in_time n x.expires) Expired ∷ [])
    ≡ first_fault (must met NotEnough ∷ must (named (λ _. d') x t') NotNamed ∷ must (covers_kept x o') Regresses ∷ must (in_time n' x.expires) Expired ∷ [])
snapshot-judged met x d d' t t' o o' n n' a b c e =
    λ i. first_fault (must met NotEnough ∷ must (named (λ _. a i) x (b i)) NotNamed ∷ must (covers_kept x (c i)) Regresses ∷ must (in_time (e i) x.expires) Expired ∷ [])

-- ROOTS

module _ (accepts : Accepts) (h : Held) (r : Root) (s : Holding) (q : Quorum) (e : q ≡ (root_in s).root) (ss ts : List (List ℕ)) (p : Picked accepts h q ss) (o : Picked accepts h r.root ts)
    (met own : Bool) (is-met : met ≡ enough q (signers_of accepts h)) (is-own : own ≡ enough r.root (signers_of accepts h)) where
  abbrev pub old_note : Note
  old_note = record { quorum = (root_in s).root; day = s.today; paper = h.paper; signatures = ss }

  abbrev pub own_note : Note
  own_note = record { quorum = r.root; day = s.today; paper = h.paper; signatures = ts }

  root-judged : first_fault (root_faults met own r s) ≡ first_fault (root_faults (enough (root_in s).root (signers_of accepts h)) (enough r.root (signers_of accepts h)) r s)
  root-judged = let a = is-met ∙ ap (λ (x : Quorum). enough x (signers_of accepts h)) e in λ i. first_fault (root_faults (a i) (is-own i) r s)

  pub root-refused : (f : Fault) → first_fault (root_faults met own r s) ≡ Some f → RootStep accepts h r s (Err f) s
  root-refused f k = record {
    old = old_note;
    own = own_note;
    by_old = note-by accepts h (root_in s).root q ss s.today old_note e p refl refl refl refl;
    by-own = note-by accepts h r.root r.root ts s.today own_note refl o refl refl refl refl;
    settled = settled-refused _ f (with_root h r old_note own_note s) s (sym root-judged ∙ k);
  }

  pub root-taken : (after : Holding) → first_fault (root_faults met own r s) ≡ None → after ≡ with_root h r old_note own_note s → RootStep accepts h r s (Ok tt) after
  root-taken after k is = record {
    old = old_note;
    own = own_note;
    by_old = note-by accepts h (root_in s).root q ss s.today old_note e p refl refl refl refl;
    by-own = note-by accepts h r.root r.root ts s.today own_note refl o refl refl refl refl;
    settled = settled-taken _ (with_root h r old_note own_note s) s after (sym root-judged ∙ k) is;
  }

pub kept_if : {A : Type 0} (b : Bool) (o : Option A) → b ≡ true → o ≡ keep_if b o
kept_if b o e = sym (ap (λ (x : Bool). keep_if x o) e)

pub not-kept : {A : Type 0} (b : Bool) (o : Option A) → b ≡ false → None ≡ keep_if b o
not-kept b o e = sym (ap (λ (x : Bool). keep_if x o) e)

-- a quorum is found in the first targets that are current and have one for the role
pub delegated-found : (x : Option Snapshot) (r : ℕ) (h : Held) (hs : List Held) (q : Quorum) (t : Targets) → t ≡ targets_in h → current x t ≡ true →
    Some q ≡ option_map (λ (b : Delegation). b.quorum) (first (λ (b : Delegation). eqb r b.role) t.delegations) → delegated_in x r (h ∷ hs) ≡ Some q
delegated-found x r h hs q t e now-current found =
    let deeper = delegated_in x r hs in
    ap (λ (v : Targets). cond (current x v) (or_else (option_map (λ (b : Delegation). b.quorum) (first (λ (b : Delegation). eqb r b.role) v.delegations)) deeper) deeper) (sym e)
    ∙ ap (λ (b : Bool). cond b (or_else (option_map (λ (b : Delegation). b.quorum) (first (λ (b : Delegation). eqb r b.role) t.delegations)) deeper) deeper) now-current
    ∙ ap (λ (o : Option Quorum). or_else o deeper) (sym found)
