-- The laws of papers. Assumes nothing.
use Rattle.std.proofs.Common.{◌≡◌, ℕ, ◌^◌, ◌<◌, Bool, true, false, cond, eqb, ltb, List, [], ◌++◌, length, Ok, Err, Result, sym, refl, ap, ◌∙◌, subst, append_assoc, append-nil, arith}
use Rattle.std.proofs.lemmas.List.{nil_from_length}
use Rattle.std.proofs.lemmas.Bool.{eqb-true}
use Rattle.model.specs.declared.fault.Fault.{Fault}
use Rattle.model.specs.declared.fault.Fault.TheVariants.{Malformed, OutOfRange}
use Rattle.model.specs.Metadata.{Meta, File, Delegation, Metadata, ARoot, ATimestamp, ASnapshot, ATargets}
use Rattle.wire.specs.Formats.{Format, Lawful, Bytes, and_then}
use Rattle.wire.specs.Numbers.{bytes_of, number, version}
use Rattle.wire.specs.Leaves.{below, quorum, path, prefix}
use Rattle.wire.proofs.Laws.{not-ok, same_ok, inv-then, inv-only, lawful-pair, lawful-only, lawful-mapped, lawful-block}
use Rattle.wire.proofs.Numbers.{lawful-number, lawful-version}
use Rattle.wire.proofs.Tables.{lawful-rising}
use Rattle.wire.proofs.Leaves.{lawful-quorum, lawful-stepped, lawful-flag}
use Rattle.metadata.specs.Papers.{root, timestamp, meta, snapshot, file, files, delegation, targets, wrapped, of_kind, bytes_of_paper, WellFormed, paper, paper_in}
use Rattle.metadata.specs.OneForm.{OneForm}

lawful-root : Lawful root
lawful-root =
    lawful-mapped _ _ _
    (lawful-pair version _ lawful-version (λ _. lawful-pair (number 4) _ (lawful-number 4) (λ _. lawful-pair quorum _ lawful-quorum (λ _. lawful-pair quorum _ lawful-quorum (λ _. lawful-pair quorum _ lawful-quorum (λ _. lawful-quorum))))))
    (λ x w. refl) (λ y. refl)

lawful-timestamp : Lawful timestamp
lawful-timestamp =
    lawful-mapped _ _ _
    (lawful-pair version _ lawful-version (λ _. lawful-pair (number 4) _ (lawful-number 4) (λ _. lawful-pair version _ lawful-version (λ _. lawful-block 32))))
    (λ x w. refl) (λ y. refl)

lawful-meta : Lawful meta
lawful-meta = lawful-mapped _ _ _ (lawful-pair (number 2) _ (lawful-number 2) (λ _. lawful-version)) (λ x w. refl) (λ y. refl)

lawful-snapshot : Lawful snapshot
lawful-snapshot =
    lawful-mapped _ _ _
    (lawful-pair version _ lawful-version (λ _. lawful-pair (number 4) _ (lawful-number 4) (λ _. lawful-pair _ _ (lawful-only (number 2) _ OutOfRange (lawful-number 2)) (λ n. lawful-rising meta (λ (m : Meta). m.role) ltb lawful-meta n))))
    (λ x w. ap (λ m. (x.0, (x.1.0, (m, x.1.1.1)))) w.1.1.1.0) (λ y. refl)

lawful-file : Lawful file
lawful-file =
    lawful-mapped _ _ _ (lawful-pair path _ (lawful-stepped 1) (λ _. lawful-pair _ _ (lawful-only (number 8) _ OutOfRange (lawful-number 8)) (λ _. lawful-block 32))) (λ x w. refl) (λ y. refl)

lawful-delegation : Lawful delegation
lawful-delegation =
    lawful-mapped _ _ _
    (lawful-pair (number 2) _ (lawful-number 2) (λ _. lawful-pair quorum _ lawful-quorum (λ _. lawful-pair prefix _ (lawful-stepped 0) (λ _. lawful-flag))))
    (λ x w. refl) (λ y. refl)

lawful-targets : Lawful targets
lawful-targets =
    lawful-mapped _ _ _
    (lawful-pair (number 2) _ (lawful-number 2) (λ _. lawful-pair version _ lawful-version (λ _. lawful-pair (number 4) _ (lawful-number 4) (λ _.
    lawful-pair _ _ (lawful-only (number 2) _ OutOfRange (lawful-number 2)) (λ n. lawful-pair (files n) _ (lawful-rising file (λ (f : File). f.path) below lawful-file n) (λ _.
    lawful-pair _ _ (lawful-only (number 1) _ OutOfRange (lawful-number 1)) (λ m. lawful-rising delegation (λ (x : Delegation). x) (λ _ _. true) lawful-delegation m)))))))
    (λ x w. λ i. (x.0, (x.1.0, (x.1.1.0, (w.1.1.1.1.0.0 i, (x.1.1.1.1.0, (w.1.1.1.1.1.1.0 i, x.1.1.1.1.1.1))))))) (λ y. refl)

-- A PAPER OF ANY KIND

abbrev next : ℕ × List ℕ → Result (Metadata × List ℕ) Fault
next k = of_kind k.0 k.1

abbrev Once : List ℕ → Metadata × List ℕ → Type 0
Once bs p = (bytes_of_paper p.0 ++ p.1 ≡ bs) × WellFormed p.0 × Bytes p.1

-- one kind: k is its byte
module _ {A : Type 0} (k : ℕ) (small : k < 256 ^ 1) (f : Format A) (F : Lawful f) (case : A → Metadata) where
  kind-back : ((bs : List ℕ) → of_kind k bs ≡ wrapped case (f.read bs)) → (x : A) (rest : List ℕ) → f.Wf x → paper.read ((bytes_of 1 k ++ f.write x) ++ rest) ≡ Ok (case x, rest)
  kind-back is x rest w =
      ap paper.read (append_assoc (bytes_of 1 k) (f.write x) rest)
      ∙ (ap (λ r. and_then r next) ((lawful-number 1).back k (f.write x ++ rest) small)
      ∙ (is (f.write x ++ rest) ∙ ap (wrapped case) (F.back x rest w)))

  kind-once : (bs rest : List ℕ) (p : Metadata × List ℕ) → Bytes bs → bytes_of 1 k ++ rest ≡ bs → Bytes rest → ((x : A) → bytes_of_paper (case x) ≡ bytes_of 1 k ++ f.write x) → ((x : A) → f.Wf x → WellFormed (case x)) →
      wrapped case (f.read rest) ≡ Ok p → Once bs p
  kind-once bs rest p b e c write wf h =
      let i = inv-then (f.read rest) (λ q. Ok (case q.0, q.1)) p h in
      let o = F.once rest i.0.0 i.0.1 c i.1 in
      subst (Once bs) (same_ok i.2) (
        ap (λ l. l ++ i.0.1) (write i.0.0) ∙ (append_assoc (bytes_of 1 k) (f.write i.0.0) i.0.1 ∙ (ap (λ l. bytes_of 1 k ++ l) o.0 ∙ e)),
        wf i.0.0 o.1,
        o.2,
      )

paper-back : (p : Metadata) (rest : List ℕ) → WellFormed p → paper.read (bytes_of_paper p ++ rest) ≡ Ok (p, rest)
paper-back (ARoot r) rest w = kind-back 1 (omega arith) root lawful-root ARoot (λ bs. refl) r rest w
paper-back (ATimestamp t) rest w = kind-back 2 (omega arith) timestamp lawful-timestamp ATimestamp (λ bs. refl) t rest w
paper-back (ASnapshot x) rest w = kind-back 3 (omega arith) snapshot lawful-snapshot ASnapshot (λ bs. refl) x rest w
paper-back (ATargets t) rest w = kind-back 4 (omega arith) targets lawful-targets ATargets (λ bs. refl) t rest w

paper-once : (bs : List ℕ) (p : Metadata × List ℕ) → Bytes bs → paper.read bs ≡ Ok p → Once bs p
paper-once bs p b h =
    let i = inv-then ((number 1).read bs) next p h in
    let o = (lawful-number 1).once bs i.0.0 i.0.1 b i.1 in
    at i.0.0 i.0.1 o.0 o.2 (eqb i.0.0 1) refl (eqb i.0.0 2) refl (eqb i.0.0 3) refl (eqb i.0.0 4) refl i.2
  where
    is : (k n : ℕ) (rest : List ℕ) → eqb k n ≡ true → bytes_of 1 k ++ rest ≡ bs → bytes_of 1 n ++ rest ≡ bs
    is k n rest e h = ap (λ m. bytes_of 1 m ++ rest) (sym (eqb-true k n e)) ∙ h

    at : (k : ℕ) (rest : List ℕ) → bytes_of 1 k ++ rest ≡ bs → Bytes rest → (b1 : Bool) → eqb k 1 ≡ b1 → (b2 : Bool) → eqb k 2 ≡ b2 → (b3 : Bool) → eqb k 3 ≡ b3 → (b4 : Bool) → eqb k 4 ≡ b4 →
        cond b1 (wrapped ARoot (root.read rest)) (cond b2 (wrapped ATimestamp (timestamp.read rest)) (cond b3 (wrapped ASnapshot (snapshot.read rest)) (cond b4 (wrapped ATargets (targets.read rest)) (Err Malformed)))) ≡ Ok p → Once bs p
    at k rest e c true e1 b2 e2 b3 e3 b4 e4 u = kind-once 1 (omega arith) root lawful-root ARoot bs rest p b (is k 1 rest e1 e) c (λ x. refl) (λ x w. w) u
    at k rest e c false e1 true e2 b3 e3 b4 e4 u = kind-once 2 (omega arith) timestamp lawful-timestamp ATimestamp bs rest p b (is k 2 rest e2 e) c (λ x. refl) (λ x w. w) u
    at k rest e c false e1 false e2 true e3 b4 e4 u = kind-once 3 (omega arith) snapshot lawful-snapshot ASnapshot bs rest p b (is k 3 rest e3 e) c (λ x. refl) (λ x w. w) u
    at k rest e c false e1 false e2 false e3 true e4 u = kind-once 4 (omega arith) targets lawful-targets ATargets bs rest p b (is k 4 rest e4 e) c (λ x. refl) (λ x w. w) u
    at k rest e c false e1 false e2 false e3 false e4 u = absurd (not-ok u)

-- A WHOLE PAPER

abbrev ended : Metadata × List ℕ → Result Metadata Fault
ended p = cond (eqb (length p.1) 0) (Ok p.0) (Err Malformed)

pub paper-fault : (bs : List ℕ) (e : Fault) → paper.read bs ≡ Err e → paper_in bs ≡ Err e
unfolding paper_in
paper-fault bs e h = ap (λ r. and_then r ended) h

pub paper-more : (bs rest : List ℕ) (p : Metadata) → paper.read bs ≡ Ok (p, rest) → eqb (length rest) 0 ≡ false → paper_in bs ≡ Err Malformed
unfolding paper_in
paper-more bs rest p h e = ap (λ r. and_then r ended) h ∙ ap (λ b. cond b (Ok p) (Err Malformed)) e

pub paper-whole : (bs rest : List ℕ) (p : Metadata) → paper.read bs ≡ Ok (p, rest) → eqb (length rest) 0 ≡ true → paper_in bs ≡ Ok p
unfolding paper_in
paper-whole bs rest p h e = ap (λ r. and_then r ended) h ∙ ap (λ b. cond b (Ok p) (Err Malformed)) e

-- what is accepted is the writing of what was read
pub paper-form : (bs : List ℕ) (p : Metadata) → Bytes bs → paper_in bs ≡ Ok p → WellFormed p × (bytes_of_paper p ≡ bs)
unfolding paper_in
paper-form bs p b h =
    let i = inv-then (paper.read bs) ended p h in
    let j = inv-only (eqb (length i.0.1) 0) Malformed i.0.0 p i.2 in
    let o = paper-once bs i.0 b i.1 in
    let none : i.0.1 ≡ [] = nil_from_length i.0.1 (eqb-true (length i.0.1) 0 j.0) in
    subst (λ (q : Metadata). WellFormed q × (bytes_of_paper q ≡ bs)) j.1 (o.1, sym (append-nil (bytes_of_paper i.0.0)) ∙ (ap (λ l. bytes_of_paper i.0.0 ++ l) (sym none) ∙ o.0))

pub paper-back-whole : (p : Metadata) → WellFormed p → paper_in (bytes_of_paper p) ≡ Ok p
paper-back-whole p w = paper-whole (bytes_of_paper p) [] p (ap paper.read (sym (append-nil (bytes_of_paper p))) ∙ paper-back p [] w) refl

pub one_form : OneForm
one_form = record {
  accepted = paper-form;
  written = paper-back-whole;
  one = λ p q v w e. same_ok (sym (paper-back-whole p v) ∙ (ap paper_in e ∙ paper-back-whole q w));
}
