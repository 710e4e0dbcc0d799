-- What passes a test of sameness is equal, and what is equal passes. Assumes nothing.
use Rattle.std.proofs.Common.{◌≡◌, Bool, true, false, T, eqb, List, [], ◌∷◌, refl, ap, subst, eqb→eq}
use mathlib.Core.Bool.{beq}
use lib.Dec.{eqb_refl}
use Rattle.model.specs.Metadata.{Metadata, ARoot, ATimestamp, ASnapshot, ATargets}
use Rattle.model.specs.Same.{same_by, same_list, same_quorums, same_root, same_timestamp, same_meta, same_snapshot, same_file, same_delegation, same_targets, same_papers}
use Rattle.model.proofs.Facts.{and_l, and_r, both_hold, each, all_of, Decides}

pub record Tells {A : Type 0} (same : A → A → Bool) : Type 0 where
  pub equal : (a b : A) → T (same a b) → a ≡ b
  pub itself : (a : A) → T (same a a)

-- a test that tells decides equality
pub tells : {A : Type 0} (same : A → A → Bool) → Tells same → (a b : A) → Decides (same a b) (a ≡ b)
tells same t a b = (t.equal a b, λ e. subst (λ y. T (same a y)) e (t.itself a))

numbers : Tells eqb
numbers = record { equal = eqb→eq; itself = eqb_refl }

flags : Tells beq
flags = record { equal = equal; itself = itself }
  where
    equal : (a b : Bool) → T (beq a b) → a ≡ b
    equal true true t = refl
    equal true false t = absurd t
    equal false true t = absurd t
    equal false false t = refl

    itself : (a : Bool) → T (beq a a)
    itself true = tt
    itself false = tt

lists-equal : {A : Type 0} (same : A → A → Bool) → Tells same → (xs ys : List A) → T (same_by same xs ys) → xs ≡ ys
lists-equal same t [] [] u = refl
lists-equal same t [] (y ∷ ys) u = absurd u
lists-equal same t (x ∷ xs) [] u = absurd u
lists-equal same t (x ∷ xs) (y ∷ ys) u = λ i. t.equal x y (and_l _ _ u) i ∷ lists-equal same t xs ys (and_r _ _ u) i

lists-itself : {A : Type 0} (same : A → A → Bool) → Tells same → (xs : List A) → T (same_by same xs xs)
lists-itself same t [] = tt
lists-itself same t (x ∷ xs) = both_hold _ _ (t.itself x) (lists-itself same t xs)

pub lists : {A : Type 0} (same : A → A → Bool) → Tells same → Tells (same_by same)
lists same t = record { equal = lists-equal same t; itself = lists-itself same t }

-- keys, digests and paths
pub bytes : Tells same_list
bytes = lists eqb numbers

pub quorums : Tells same_quorums
quorums = record {
  equal = λ a b t. let h = each _ t in λ i. record { keys = (lists same_list bytes).equal a.keys b.keys h.1.0 i; threshold = eqb→eq a.threshold b.threshold h.0 i };
  itself = λ a. all_of _ (eqb_refl a.threshold, ((lists same_list bytes).itself a.keys, tt));
}

roots : Tells same_root
roots = record {
  equal = λ a b t. let h = each _ t in λ i. record {
    version = eqb→eq a.version b.version h.0 i;
    expires = eqb→eq a.expires b.expires h.1.0 i;
    root = quorums.equal a.root b.root h.1.1.0 i;
    timestamp = quorums.equal a.timestamp b.timestamp h.1.1.1.0 i;
    snapshot = quorums.equal a.snapshot b.snapshot h.1.1.1.1.0 i;
    top = quorums.equal a.top b.top h.1.1.1.1.1.0 i;
  };
  itself = λ a. all_of _ (eqb_refl a.version, (eqb_refl a.expires, (quorums.itself a.root, (quorums.itself a.timestamp, (quorums.itself a.snapshot, (quorums.itself a.top, tt))))));
}

timestamps : Tells same_timestamp
timestamps = record {
  equal = λ a b t. let h = each _ t in λ i. record {
    version = eqb→eq a.version b.version h.0 i;
    expires = eqb→eq a.expires b.expires h.1.0 i;
    snapshot = eqb→eq a.snapshot b.snapshot h.1.1.0 i;
    digest = bytes.equal a.digest b.digest h.1.1.1.0 i;
  };
  itself = λ a. all_of _ (eqb_refl a.version, (eqb_refl a.expires, (eqb_refl a.snapshot, (bytes.itself a.digest, tt))));
}

metas : Tells same_meta
metas = record {
  equal = λ a b t. let h = each _ t in λ i. record { role = eqb→eq a.role b.role h.0 i; version = eqb→eq a.version b.version h.1.0 i };
  itself = λ a. all_of _ (eqb_refl a.role, (eqb_refl a.version, tt));
}

snapshots : Tells same_snapshot
snapshots = record {
  equal = λ a b t. let h = each _ t in λ i. record {
    version = eqb→eq a.version b.version h.0 i;
    expires = eqb→eq a.expires b.expires h.1.0 i;
    metas = (lists same_meta metas).equal a.metas b.metas h.1.1.0 i;
  };
  itself = λ a. all_of _ (eqb_refl a.version, (eqb_refl a.expires, ((lists same_meta metas).itself a.metas, tt)));
}

files : Tells same_file
files = record {
  equal = λ a b t. let h = each _ t in λ i. record { path = bytes.equal a.path b.path h.0 i; size = eqb→eq a.size b.size h.1.0 i; digest = bytes.equal a.digest b.digest h.1.1.0 i };
  itself = λ a. all_of _ (bytes.itself a.path, (eqb_refl a.size, (bytes.itself a.digest, tt)));
}

delegations : Tells same_delegation
delegations = record {
  equal = λ a b t. let h = each _ t in λ i. record {
    role = eqb→eq a.role b.role h.0 i;
    quorum = quorums.equal a.quorum b.quorum h.1.0 i;
    prefix = bytes.equal a.prefix b.prefix h.1.1.0 i;
    terminating = flags.equal a.terminating b.terminating h.1.1.1.0 i;
  };
  itself = λ a. all_of _ (eqb_refl a.role, (quorums.itself a.quorum, (bytes.itself a.prefix, (flags.itself a.terminating, tt))));
}

targets : Tells same_targets
targets = record {
  equal = λ a b t. let h = each _ t in λ i. record {
    role = eqb→eq a.role b.role h.0 i;
    version = eqb→eq a.version b.version h.1.0 i;
    expires = eqb→eq a.expires b.expires h.1.1.0 i;
    files = (lists same_file files).equal a.files b.files h.1.1.1.0 i;
    delegations = (lists same_delegation delegations).equal a.delegations b.delegations h.1.1.1.1.0 i;
  };
  itself = λ a. all_of _ (eqb_refl a.role, (eqb_refl a.version, (eqb_refl a.expires, ((lists same_file files).itself a.files, ((lists same_delegation delegations).itself a.delegations, tt)))));
}

papers-equal : (p q : Metadata) → T (same_papers p q) → p ≡ q
papers-equal (ARoot a) (ARoot b) t = ap ARoot (roots.equal a b t)
papers-equal (ARoot a) (ATimestamp b) t = absurd t
papers-equal (ARoot a) (ASnapshot b) t = absurd t
papers-equal (ARoot a) (ATargets b) t = absurd t
papers-equal (ATimestamp a) (ARoot b) t = absurd t
papers-equal (ATimestamp a) (ATimestamp b) t = ap ATimestamp (timestamps.equal a b t)
papers-equal (ATimestamp a) (ASnapshot b) t = absurd t
papers-equal (ATimestamp a) (ATargets b) t = absurd t
papers-equal (ASnapshot a) (ARoot b) t = absurd t
papers-equal (ASnapshot a) (ATimestamp b) t = absurd t
papers-equal (ASnapshot a) (ASnapshot b) t = ap ASnapshot (snapshots.equal a b t)
papers-equal (ASnapshot a) (ATargets b) t = absurd t
papers-equal (ATargets a) (ARoot b) t = absurd t
papers-equal (ATargets a) (ATimestamp b) t = absurd t
papers-equal (ATargets a) (ASnapshot b) t = absurd t
papers-equal (ATargets a) (ATargets b) t = ap ATargets (targets.equal a b t)

papers-itself : (p : Metadata) → T (same_papers p p)
papers-itself (ARoot a) = roots.itself a
papers-itself (ATimestamp a) = timestamps.itself a
papers-itself (ASnapshot a) = snapshots.itself a
papers-itself (ATargets a) = targets.itself a

pub papers : Tells same_papers
papers = record { equal = papers-equal; itself = papers-itself }
