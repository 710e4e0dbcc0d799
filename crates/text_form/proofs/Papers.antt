-- The laws of papers in text. Assumes nothing.
use Rattle.std.proofs.Common.{◌≡◌, ℕ, ◌+◌, ◌^◌, ◌<◌, ◌≤◌, Bool, true, false, cond, not, eqb, ltb, leb, List, [], ◌++◌, length, Some, None, Ok, Err, Option, Result, sym, refl, ap, ◌∙◌, subst, append_assoc, append-nil, arith}
use Rattle.std.proofs.ByRecursion.{All-append}
use Rattle.std.proofs.lemmas.List.{nil_from_length}
use Rattle.std.proofs.lemmas.Bool.{and_from, eqb-true, leb-true, le-leb}
use Rattle.std.proofs.lemmas.Bool.Decides.{nat_tests}
use Rattle.model.specs.declared.fault.Fault.TheVariants.{OutOfRange}
use Rattle.model.specs.Metadata.{Key, Steps, Meta, File, Delegation, Targets, Metadata, ARoot, ATimestamp, ASnapshot, ATargets}
use Rattle.wire.specs.Formats.{Format, Bytes, pair as pair_of_bytes, only}
use Rattle.wire.specs.Formats.{FormatOf, Lawful, and_then, pair}
use Rattle.wire.specs.Numbers as numbers
use Rattle.wire.specs.Tables.{follows}
use Rattle.wire.specs.Leaves as leaves
use Rattle.wire.specs.Leaves.{below, within}
use Rattle.wire.proofs.Laws.{same_ok, inv-then, inv-only, lawful-pair, lawful-pair-within, lawful-mapped}
use Rattle.metadata.specs.Papers as bytes
use Rattle.metadata.specs.Papers.{WellFormed, bytes_of_paper}
use Rattle.line.specs.Lines.{bare}
use Rattle.line.specs.Words.{kind_word}
use Rattle.line.specs.Forms.{bad_at, line_of_number, line_of_bytes, line_of_steps, line_of_kind, ruled}
use Rattle.line.specs.declared.expected.Bad.{Bad}
use Rattle.line.specs.declared.expected.Word.{Word}
use Rattle.line.specs.declared.expected.Word.TheVariants as word
use Rattle.line.specs.declared.expected.Expected.{Expected}
use Rattle.line.specs.declared.expected.Expected.TheVariants as expected
use Rattle.line.specs.declared.kind.Kind.{Kind}
use Rattle.line.specs.declared.kind.Kind.TheVariants as kind
use Rattle.line.proofs.Forms.{lawful-ruled}
use Rattle.line.proofs.Leaves.{from-within, lawful-number-line, lawful-bytes-line, lawful-steps-line, lawful-flag-line, lawful-kind-line}
use Rattle.text.specs.Texts.{paper_text}
use Rattle.text_form.specs.Texts.{version, last_day, key_line, keys, quorum, root, timestamp, meta, snapshot, file, files, delegation, delegations, contents, targets, wrapped, of_kind, Wf, paper, ended, text_in}
use Rattle.text_form.specs.OneText.{OneText}
use Rattle.text_form.proofs.Chains.{lawful-chain}
use Rattle.text_form.proofs.Twins.{Twin, TwinItem, twin-pair, twin-mapped, twin-number, twin-bytes, twin-steps, twin-flag, twin-chain, bytes-bytes_of, all_right}

-- EACH PART IS LAWFUL

lawful-version : (w : Word) → Lawful (version w)
lawful-version w = lawful-number-line w 1 4294967295 (omega arith)

lawful-last-day : Lawful last_day
lawful-last-day = lawful-number-line word.LastDay 0 4294967295 (omega arith)

lawful-keys : (n : ℕ) → Lawful (keys n)
lawful-keys n = lawful-chain key_line (λ (k : Key). k) (λ last. lawful-ruled (line_of_bytes word.Key) (follows below last) (expected.Rising word.Key) (lawful-bytes-line word.Key)) (λ last x. refl) n

lawful-quorum : (w : Word) → Lawful (quorum w)
lawful-quorum w =
    lawful-mapped _ _ _
    (lawful-pair-within (line_of_number w 1 16) _ (lawful-number-line w 1 16 (omega arith)) (λ n h. lawful-pair (line_of_number word.Asked 1 n) _ (lawful-number-line word.Asked 1 n (omega (arith, (from-within 1 16 n h).1))) (λ _. lawful-keys n)))
    (λ x h. ap (λ m. (m, x.1)) h.1.1.0) (λ y. refl)

lawful-root : Lawful root
lawful-root =
    lawful-mapped _ _ _
    (lawful-pair (version word.Number) _ (lawful-version word.Number) (λ _. lawful-pair last_day _ lawful-last-day (λ _. lawful-pair (quorum word.RootKeys) _ (lawful-quorum word.RootKeys) (λ _.
    lawful-pair (quorum word.ClockKeys) _ (lawful-quorum word.ClockKeys) (λ _. lawful-pair (quorum word.IndexKeys) _ (lawful-quorum word.IndexKeys) (λ _. lawful-quorum word.TopKeys))))))
    (λ x h. refl) (λ y. refl)

lawful-timestamp : Lawful timestamp
lawful-timestamp =
    lawful-mapped _ _ _
    (lawful-pair (version word.Number) _ (lawful-version word.Number) (λ _. lawful-pair last_day _ lawful-last-day (λ _. lawful-pair (version word.Index) _ (lawful-version word.Index) (λ _. lawful-bytes-line word.Digest))))
    (λ x h. refl) (λ y. refl)

lawful-meta : (last : Option ℕ) → Lawful (meta last)
lawful-meta last =
    lawful-mapped _ _ _
    (lawful-pair (ruled (line_of_number word.Role 0 65535) (follows ltb last) (expected.Rising word.Role)) _ (lawful-ruled (line_of_number word.Role 0 65535) (follows ltb last) (expected.Rising word.Role) (lawful-number-line word.Role 0 65535 (omega arith))) (λ _. lawful-version word.Number))
    (λ x h. refl) (λ y. refl)

lawful-snapshot : Lawful snapshot
lawful-snapshot =
    lawful-mapped _ _ _
    (lawful-pair (version word.Number) _ (lawful-version word.Number) (λ _. lawful-pair last_day _ lawful-last-day (λ _.
    lawful-pair (line_of_number word.Roles 0 64) _ (lawful-number-line word.Roles 0 64 (omega arith)) (λ n. lawful-chain meta (λ (m : Meta). m.role) lawful-meta (λ last x. refl) n))))
    (λ x h. ap (λ m. (x.0, (x.1.0, (m, x.1.1.1)))) h.1.1.1.0) (λ y. refl)

lawful-file : (last : Option Steps) → Lawful (file last)
lawful-file last =
    lawful-mapped _ _ _
    (lawful-pair (ruled (line_of_steps word.File 1) (follows below last) (expected.Rising word.Path)) _ (lawful-ruled (line_of_steps word.File 1) (follows below last) (expected.Rising word.Path) (lawful-steps-line word.File 1)) (λ _.
    lawful-pair (line_of_number word.Size 0 1099511627776) _ (lawful-number-line word.Size 0 1099511627776 (omega arith)) (λ _. lawful-bytes-line word.Digest)))
    (λ x h. refl) (λ y. refl)

lawful-delegation : Lawful delegation
lawful-delegation =
    lawful-mapped _ _ _
    (lawful-pair (line_of_number word.Branch 0 65535) _ (lawful-number-line word.Branch 0 65535 (omega arith)) (λ _. lawful-pair (quorum word.Keys) _ (lawful-quorum word.Keys) (λ _.
    lawful-pair (line_of_steps word.Start 0) _ (lawful-steps-line word.Start 0) (λ _. lawful-flag-line))))
    (λ x h. refl) (λ y. refl)

lawful-contents : Lawful contents
lawful-contents =
    lawful-mapped _ _ _
    (lawful-pair (line_of_number word.Files 0 256) _ (lawful-number-line word.Files 0 256 (omega arith)) (λ n. lawful-pair (files n) _ (lawful-chain file (λ (f : File). f.path) lawful-file (λ last x. refl) n) (λ _.
    lawful-pair (line_of_number word.Branches 0 32) _ (lawful-number-line word.Branches 0 32 (omega arith)) (λ m. lawful-chain (λ _. delegation) (λ (d : Delegation). d) (λ _. lawful-delegation) (λ last x. refl) m))))
    (λ x h. λ i. (h.1.0.0 i, (x.1.0, (h.1.1.1.0 i, x.1.1.1)))) (λ y. refl)

lawful-targets : Lawful targets
lawful-targets =
    lawful-mapped _ _ _
    (lawful-pair (line_of_number word.Role 0 65535) _ (lawful-number-line word.Role 0 65535 (omega arith)) (λ _. lawful-pair (version word.Number) _ (lawful-version word.Number) (λ _. lawful-pair last_day _ lawful-last-day (λ _. lawful-contents))))
    (λ x h. refl) (λ y. refl)

-- WHAT HAS A TEXT HAS BYTES

not-zero : (x : ℕ) → not (eqb x 0) ≡ true → 1 ≤ x
not-zero x h = grind (arith, nat_tests)

one_up : (x : ℕ) → 1 ≤ x → not (eqb x 0) ≡ true
one_up x h = grind (arith, nat_tests)

twin-version : (w : Word) → Twin (version w) numbers.version
twin-version w = twin-number w 1 4294967295 4 numbers.version (λ x. refl) (λ x l h. (omega arith, one_up x l)) (λ x f. (not-zero x f.1, omega (arith, f.0)))

-- any number of n bytes
twin-plain : (w : Word) (most n : ℕ) → 256 ^ n ≡ most + 1 → Twin (line_of_number w 0 most) (numbers.number n)
twin-plain w most n e = twin-number w 0 most n (numbers.number n) (λ x. refl) (λ x a b. omega arith) (λ x f. (omega arith, omega (arith, f)))

-- a number up to a limit
twin-upto : (w : Word) (most n : ℕ) → most < 256 ^ n → Twin (line_of_number w 0 most) (only (numbers.number n) (λ x. leb x most) OutOfRange)
twin-upto w most n e =
    twin-number w 0 most n (only (numbers.number n) (λ x. leb x most) OutOfRange) (λ x. refl) (λ x a b. (omega arith, le-leb x most b)) (λ x f. (omega arith, leb-true x most f.1))

-- a number in a range
twin-within : (w : Word) (low high n : ℕ) → high < 256 ^ n → Twin (line_of_number w low high) (only (numbers.number n) (within low high) OutOfRange)
twin-within w low high n e =
    twin-number w low high n (only (numbers.number n) (within low high) OutOfRange) (λ x. refl) (λ x a b. (omega arith, and_from (leb low x) (leb x high) (le-leb low x a) (le-leb x high b))) (λ x f. from-within low high x f.1)

twin-last-day : Twin last_day (numbers.number 4)
twin-last-day = twin-plain word.LastDay 4294967295 4 refl

twin-key : TwinItem key_line (numbers.block 32) (λ (k : Key). k) below
twin-key = record {
  there = λ last x h. let k = (twin-bytes word.Key).there x h.0 in (k.0, k.1, h.1);
  back = λ last x h b f. ((twin-bytes word.Key).back x h b, f);
}

twin-quorum : (w : Word) → Twin (quorum w) leaves.quorum
twin-quorum w =
    twin-mapped _ _ _ _
    (twin-pair (line_of_number w 1 16) _ _ _ (twin-within w 1 16 1 (omega arith)) (λ n h. twin-pair (line_of_number word.Asked 1 n) _ _ _ (twin-within word.Asked 1 n 1 (omega (arith, (from-within 1 16 n h).1))) (λ _ _. twin-chain key_line (numbers.block 32) (λ (k : Key). k) below twin-key n)))

twin-root : Twin root bytes.root
twin-root =
    twin-mapped _ _ _ _
    (twin-pair (version word.Number) numbers.version _ _ (twin-version word.Number) (λ _ _. twin-pair last_day (numbers.number 4) _ _ twin-last-day (λ _ _. twin-pair (quorum word.RootKeys) leaves.quorum _ _ (twin-quorum word.RootKeys) (λ _ _.
    twin-pair (quorum word.ClockKeys) leaves.quorum _ _ (twin-quorum word.ClockKeys) (λ _ _. twin-pair (quorum word.IndexKeys) leaves.quorum _ _ (twin-quorum word.IndexKeys) (λ _ _. twin-quorum word.TopKeys))))))

twin-timestamp : Twin timestamp bytes.timestamp
twin-timestamp =
    twin-mapped _ _ _ _
    (twin-pair (version word.Number) numbers.version _ _ (twin-version word.Number) (λ _ _. twin-pair last_day (numbers.number 4) _ _ twin-last-day (λ _ _. twin-pair (version word.Index) numbers.version _ _ (twin-version word.Index) (λ _ _. twin-bytes word.Digest))))

-- an item whose first line has the key
first-there : {A B : Type 0} (f : FormatOf Bad A) (f' : Format A) (g : FormatOf Bad B) (g' : Format B) (test : A → Bool) (e : Expected) → Twin f f' → Twin g g' → (x : A × B) → (pair (ruled f test e) (λ _. g)).Wf x →
    (pair_of_bytes f' (λ _. g')).Wf x × Bytes ((pair_of_bytes f' (λ _. g')).write x) × (test x.0 ≡ true)
first-there f f' g g' test e F G x h = let k = (twin-pair f f' (λ _. g) (λ _. g') F (λ _ _. G)).there x (h.0.0, h.1) in (k.0, k.1, h.0.1)

first_back : {A B : Type 0} (f : FormatOf Bad A) (f' : Format A) (g : FormatOf Bad B) (g' : Format B) (test : A → Bool) (e : Expected) → Twin f f' → Twin g g' → (x : A × B) → (pair_of_bytes f' (λ _. g')).Wf x →
    Bytes ((pair_of_bytes f' (λ _. g')).write x) → test x.0 ≡ true → (pair (ruled f test e) (λ _. g)).Wf x
first_back f f' g g' test e F G x h b t = let k = (twin-pair f f' (λ _. g) (λ _. g') F (λ _ _. G)).back x h b in ((k.0, t), k.1)

twin-meta : TwinItem meta bytes.meta (λ (m : Meta). m.role) ltb
twin-meta = record {
  there = λ last x h. first-there (line_of_number word.Role 0 65535) (numbers.number 2) (version word.Number) numbers.version (follows ltb last) (expected.Rising word.Role) (twin-plain word.Role 65535 2 refl) (twin-version word.Number) (x.role, x.version) h;
  back = λ last x h b t. first_back (line_of_number word.Role 0 65535) (numbers.number 2) (version word.Number) numbers.version (follows ltb last) (expected.Rising word.Role) (twin-plain word.Role 65535 2 refl) (twin-version word.Number) (x.role, x.version) h b t;
}

twin-snapshot : Twin snapshot bytes.snapshot
twin-snapshot =
    twin-mapped _ _ _ _
    (twin-pair (version word.Number) numbers.version _ _ (twin-version word.Number) (λ _ _. twin-pair last_day (numbers.number 4) _ _ twin-last-day (λ _ _.
    twin-pair (line_of_number word.Roles 0 64) _ _ _ (twin-upto word.Roles 64 2 (omega arith)) (λ n _. twin-chain meta bytes.meta (λ (m : Meta). m.role) ltb twin-meta n))))

abbrev sized : FormatOf Bad (ℕ × List ℕ)
sized = pair (line_of_number word.Size 0 1099511627776) (λ _. line_of_bytes word.Digest)

abbrev sized' : Format (ℕ × List ℕ)
sized' = pair_of_bytes (only (numbers.number 8) (λ n. leb n 1099511627776) OutOfRange) (λ _. numbers.block 32)

twin-sized : Twin sized sized'
twin-sized = twin-pair (line_of_number word.Size 0 1099511627776) _ _ _ (twin-upto word.Size 1099511627776 8 (omega arith)) (λ _ _. twin-bytes word.Digest)

twin-file : TwinItem file bytes.file (λ (f : File). f.path) below
twin-file = record {
  there = λ last x h. first-there (line_of_steps word.File 1) (leaves.stepped 1) sized sized' (follows below last) (expected.Rising word.Path) (twin-steps word.File 1) twin-sized (x.path, (x.size, x.digest)) h;
  back = λ last x h b t. first_back (line_of_steps word.File 1) (leaves.stepped 1) sized sized' (follows below last) (expected.Rising word.Path) (twin-steps word.File 1) twin-sized (x.path, (x.size, x.digest)) h b t;
}

twin-delegation : Twin delegation bytes.delegation
twin-delegation =
    twin-mapped _ _ _ _
    (twin-pair (line_of_number word.Branch 0 65535) (numbers.number 2) _ _ (twin-plain word.Branch 65535 2 refl) (λ _ _. twin-pair (quorum word.Keys) leaves.quorum _ _ (twin-quorum word.Keys) (λ _ _.
    twin-pair (line_of_steps word.Start 0) (leaves.stepped 0) _ _ (twin-steps word.Start 0) (λ _ _. twin-flag))))

free : {K : Type 0} (last : Option K) (k : K) → follows (λ _ _. true) last k ≡ true
free None k = refl
free (Some j) k = refl

twin-any : TwinItem (λ _. delegation) bytes.delegation (λ (d : Delegation). d) (λ _ _. true)
twin-any = record {
  there = λ last x h. let k = twin-delegation.there x h in (k.0, k.1, free last x);
  back = λ last x h b t. twin-delegation.back x h b;
}

abbrev flat : Targets → ℕ × (ℕ × (ℕ × (ℕ × (List File × (ℕ × List Delegation)))))
flat t = (t.role, (t.version, (t.expires, (length t.files, (t.files, (length t.delegations, t.delegations))))))

twin-flat : Twin
    (pair (line_of_number word.Role 0 65535) (λ _. pair (version word.Number) (λ _. pair last_day (λ _. pair (line_of_number word.Files 0 256) (λ n. pair (files n) (λ _. pair (line_of_number word.Branches 0 32) delegations))))))
    (pair_of_bytes (numbers.number 2) (λ _. pair_of_bytes numbers.version (λ _. pair_of_bytes (numbers.number 4) (λ _. pair_of_bytes (only (numbers.number 2) (λ n. leb n 256) OutOfRange) (λ n. pair_of_bytes (bytes.files n) (λ _. pair_of_bytes (only (numbers.number 1) (λ m. leb m 32) OutOfRange) bytes.delegations))))))
twin-flat =
    (twin-pair (line_of_number word.Role 0 65535) (numbers.number 2) _ _ (twin-plain word.Role 65535 2 refl) (λ _ _. twin-pair (version word.Number) numbers.version _ _ (twin-version word.Number) (λ _ _. twin-pair last_day (numbers.number 4) _ _ twin-last-day (λ _ _.
    twin-pair (line_of_number word.Files 0 256) _ _ _ (twin-upto word.Files 256 2 (omega arith)) (λ n _. twin-pair (files n) (bytes.files n) _ _ (twin-chain file bytes.file (λ (f : File). f.path) below twin-file n) (λ _ _.
    twin-pair (line_of_number word.Branches 0 32) _ _ _ (twin-upto word.Branches 32 1 (omega arith)) (λ m _. twin-chain (λ _. delegation) bytes.delegation (λ (d : Delegation). d) (λ _ _. true) twin-any m)))))))

twin-targets : Twin targets bytes.targets
twin-targets = record { there = λ t h. twin-flat.there (flat t) h; back = λ t h b. twin-flat.back (flat t) h b }

-- A PAPER OF ANY KIND

of-kind : {A : Type 0} (t : FormatOf Bad A) (w : Format A) → Twin t w → (k : ℕ) (x : A) → t.Wf x → w.Wf x × Bytes (numbers.bytes_of 1 k ++ w.write x)
of-kind t w T k x h = let a = T.there x h in (a.0, All-append (λ b. b < 256) (numbers.bytes_of 1 k) (w.write x) (bytes-bytes_of 1 k) a.1)

paper-there : (p : Metadata) → Wf p → WellFormed p × Bytes (bytes_of_paper p)
paper-there (ARoot r) h = of-kind root bytes.root twin-root 1 r h
paper-there (ATimestamp t) h = of-kind timestamp bytes.timestamp twin-timestamp 2 t h
paper-there (ASnapshot x) h = of-kind snapshot bytes.snapshot twin-snapshot 3 x h
paper-there (ATargets t) h = of-kind targets bytes.targets twin-targets 4 t h

paper-again : (p : Metadata) → WellFormed p → Bytes (bytes_of_paper p) → Wf p
paper-again (ARoot r) h b = twin-root.back r h (all_right (λ x. x < 256) (numbers.bytes_of 1 1) ((bytes.root).write r) b)
paper-again (ATimestamp t) h b = twin-timestamp.back t h (all_right (λ x. x < 256) (numbers.bytes_of 1 2) ((bytes.timestamp).write t) b)
paper-again (ASnapshot s) h b = twin-snapshot.back s h (all_right (λ x. x < 256) (numbers.bytes_of 1 3) ((bytes.snapshot).write s) b)
paper-again (ATargets t) h b = twin-targets.back t h (all_right (λ x. x < 256) (numbers.bytes_of 1 4) ((bytes.targets).write t) b)

abbrev next : Kind × List ℕ → Result (Metadata × List ℕ) Bad
next p = of_kind p.0 p.1

abbrev Once : List ℕ → Metadata × List ℕ → Type 0
Once bs p = (paper_text p.0 ++ p.1 ≡ bs) × Wf p.0 × Bytes p.1

module _ {A : Type 0} (k : Kind) (f : FormatOf Bad A) (F : Lawful f) (case : A → Metadata) where
  kind-back : ((bs : List ℕ) → of_kind k bs ≡ wrapped case (f.read bs)) → (x : A) (rest : List ℕ) → f.Wf x → paper.read ((bare (kind_word k) ++ f.write x) ++ rest) ≡ Ok (case x, rest)
  kind-back is x rest h =
      ap paper.read (append_assoc (bare (kind_word k)) (f.write x) rest)
      ∙ ap (λ r. and_then r next) (lawful-kind-line.back k (f.write x ++ rest) tt)
      ∙ is (f.write x ++ rest) ∙ ap (wrapped case) (F.back x rest h)

  kind-once : (bs rest : List ℕ) (p : Metadata × List ℕ) → bare (kind_word k) ++ rest ≡ bs → Bytes rest → ((x : A) → paper_text (case x) ≡ bare (kind_word k) ++ f.write x) → ((x : A) → f.Wf x → Wf (case x)) →
      wrapped case (f.read rest) ≡ Ok p → Once bs p
  kind-once bs rest p e c write wf h =
      let i = inv-then (f.read rest) (λ q. Ok (case q.0, q.1)) p h in
      let o = F.once rest i.0.0 i.0.1 c i.1 in
      subst (Once bs) (same_ok i.2) (
        ap (λ l. l ++ i.0.1) (write i.0.0) ∙ append_assoc (bare (kind_word k)) (f.write i.0.0) i.0.1 ∙ ap (λ l. bare (kind_word k) ++ l) o.0 ∙ e,
        wf i.0.0 o.1,
        o.2,
      )

paper-back : (p : Metadata) (rest : List ℕ) → Wf p → paper.read (paper_text p ++ rest) ≡ Ok (p, rest)
paper-back (ARoot r) rest w = kind-back kind.Root root lawful-root ARoot (λ bs. refl) r rest w
paper-back (ATimestamp t) rest w = kind-back kind.Clock timestamp lawful-timestamp ATimestamp (λ bs. refl) t rest w
paper-back (ASnapshot x) rest w = kind-back kind.Index snapshot lawful-snapshot ASnapshot (λ bs. refl) x rest w
paper-back (ATargets t) rest w = kind-back kind.List targets lawful-targets ATargets (λ bs. refl) t rest w

paper-once : (bs : List ℕ) (p : Metadata × List ℕ) → Bytes bs → paper.read bs ≡ Ok p → Once bs p
paper-once bs p b h =
    let i = inv-then (line_of_kind.read bs) next p h in
    let o = lawful-kind-line.once bs i.0.0 i.0.1 b i.1 in
    at i.0.0 i.0.1 o.0 o.2 i.2
  where
    at : (k : Kind) (rest : List ℕ) → bare (kind_word k) ++ rest ≡ bs → Bytes rest → of_kind k rest ≡ Ok p → Once bs p
    at kind.Root rest e c u = kind-once kind.Root root lawful-root ARoot bs rest p e c (λ x. refl) (λ x w. w) u
    at kind.Clock rest e c u = kind-once kind.Clock timestamp lawful-timestamp ATimestamp bs rest p e c (λ x. refl) (λ x w. w) u
    at kind.Index rest e c u = kind-once kind.Index snapshot lawful-snapshot ASnapshot bs rest p e c (λ x. refl) (λ x w. w) u
    at kind.List rest e c u = kind-once kind.List targets lawful-targets ATargets bs rest p e c (λ x. refl) (λ x w. w) u

-- A WHOLE TEXT

pub text-bad : (bs : List ℕ) (b : Bad) → paper.read bs ≡ Err b → text_in bs ≡ Err b
unfolding text_in
text-bad bs b h = ap (λ r. and_then r ended) h

pub text-more : (bs rest : List ℕ) (p : Metadata) → paper.read bs ≡ Ok (p, rest) → eqb (length rest) 0 ≡ false → text_in bs ≡ Err (bad_at rest expected.End)
unfolding text_in
text-more bs rest p h e = ap (λ r. and_then r ended) h ∙ ap (λ t. cond t (Ok p) (Err (bad_at rest expected.End))) e

pub text-whole : (bs rest : List ℕ) (p : Metadata) → paper.read bs ≡ Ok (p, rest) → eqb (length rest) 0 ≡ true → text_in bs ≡ Ok p
unfolding text_in
text-whole bs rest p h e = ap (λ r. and_then r ended) h ∙ ap (λ t. cond t (Ok p) (Err (bad_at rest expected.End))) e

text-form : (bs : List ℕ) (p : Metadata) → Bytes bs → text_in bs ≡ Ok p → Wf p × (paper_text p ≡ bs)
unfolding text_in
text-form bs p b h =
    let i = inv-then (paper.read bs) ended p h in
    let j = inv-only (eqb (length i.0.1) 0) (bad_at i.0.1 expected.End) i.0.0 p i.2 in
    let o = paper-once bs i.0 b i.1 in
    let none : i.0.1 ≡ [] = nil_from_length i.0.1 (eqb-true (length i.0.1) 0 j.0) in
    subst (λ (q : Metadata). Wf q × (paper_text q ≡ bs)) j.1 (o.1, sym (append-nil (paper_text i.0.0)) ∙ ap (λ l. paper_text i.0.0 ++ l) (sym none) ∙ o.0)

text-back : (p : Metadata) → WellFormed p → Bytes (bytes_of_paper p) → text_in (paper_text p) ≡ Ok p
text-back p w b = text-whole (paper_text p) [] p (ap paper.read (sym (append-nil (paper_text p))) ∙ paper-back p [] (paper-again p w b)) refl

pub one-text : OneText
one-text = record {
  accepted = λ t p b h. let f = text-form t p b h in let w = paper-there p f.0 in (w.0, w.1, f.1);
  written = text-back;
  one = λ p q v w b c e. same_ok (sym (text-back p v b) ∙ ap text_in e ∙ text-back q w c);
}
