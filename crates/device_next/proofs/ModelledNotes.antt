-- The notes by their bytes against the journal of the law. Assumes nothing.
use Rattle.std.proofs.Common.{◌≡◌, ℕ, suc, ◌+◌, ◌≤◌, Bool, true, false, cond, ◌||◌, T, leb, List, [], ◌∷◌, ◌++◌, map, reverse, length, take, Ok, Err, Result, sym, refl, ap, ◌∙◌, subst, arith}
use mathlib.Core.List.{Memᴰ}
use Rattle.std.proofs.lemmas.List.{reverse-append, map-append, length-map, length-reverse}
use Rattle.model.specs.declared.fault.Fault.{Fault}
use Rattle.model.specs.Lists.{all, any, count}
use Rattle.model.specs.Metadata.{Quorum, Metadata, ARoot}
use Rattle.model.specs.Same.{same_list, same_quorums, same_papers}
use Rattle.model.specs.Journal.{Entry, entry, stands, noted, noted_root, under, room, room_root}
use Rattle.model.proofs.Facts.{tests_same}
use Rattle.model.proofs.Same.{tells, bytes, quorums, papers}
use Rattle.wire.specs.Formats.{Bytes}
use Rattle.wire.proofs.Laws.{same_ok}
use Rattle.metadata.specs.Papers.{WellFormed, paper_in, bytes_of_paper}
use Rattle.metadata.specs.OneForm.{Sound}
use Rattle.metadata.proofs.PaperLaws.{paper-form}
use Rattle.metadata.proofs.Sound.{sound}
use Rattle.signature.specs.Signatures.{Signature, Accepts}
use Rattle.signature.specs.Views.{signature_of}
use Rattle.journal.specs.Notes.{Note, stands_in, under_in, room_in, of_two, room_for_root, noted_in}
use Rattle.device_next.specs.Holding.{Held, no_root, paper_or, paper_of, entry_of, journal_of}
use Rattle.device_next.specs.Offers.{offer_of, AllBytes}
use Rattle.device_next.specs.Steps.{NoteBy}

-- ONE PAPER, ONE FORM

-- no paper of bytes is the blank one: its version is 0
not-blank : (p : Metadata) → WellFormed p → p ≡ ARoot no_root → ⊥
not-blank p w e =
    let low : 1 ≤ 0 = (subst Sound e (sound p w)).0 in
    omega (arith, low)

-- papers are the same exactly if their bytes are
pub same-paper : (bs cs : List ℕ) (p : Metadata) → Bytes bs → Bytes cs → paper_in bs ≡ Ok p → same_papers p (paper_of cs) ≡ same_list bs cs
same-paper bs cs p b c e = at (paper_in cs) refl
  where
    form : WellFormed p × (bytes_of_paper p ≡ bs)
    form = paper-form bs p b e

    at : (r : Result Metadata Fault) → paper_in cs ≡ r → same_papers p (paper_or (ARoot no_root) r) ≡ same_list bs cs
    at (Ok q) h =
        tests_same (same_papers p q) (same_list bs cs) (tells same_papers papers p q) (
          (λ t. same_ok (sym e ∙ (ap paper_in (bytes.equal bs cs t) ∙ h))),
          (λ u. (tells same_list bytes bs cs).1 (sym form.1 ∙ (ap bytes_of_paper u ∙ (paper-form cs q c h).1))),
        )
    at (Err f) h =
        tests_same {P = ⊥} (same_papers p (ARoot no_root)) (same_list bs cs)
        ((λ t. not-blank p form.0 (papers.equal p (ARoot no_root) t)), (λ n. absurd n))
        ((λ t. unread (sym e ∙ (ap paper_in (bytes.equal bs cs t) ∙ h))), (λ n. absurd n))
      where
        unread : ◌≡◌ {A = Result Metadata Fault} (Ok p) (Err f) → ⊥
        unread u = let z : ◌≡◌ {A = ℕ} 0 1 = cc in omega (arith, z)

-- A TEST OVER THE LIST AND OVER ITS REVERSE

module _ {A : Type 0} (test : A → Bool) where
  any_last : (xs : List A) (x : A) → any test (xs ++ (x ∷ [])) ≡ test x || any test xs
  any_last [] x = refl
  any_last (y ∷ ys) x = ap (λ b. test y || b) (any_last ys x) ∙ swap (test y) (test x) (any test ys)
    where
      swap : (a b c : Bool) → a || (b || c) ≡ b || (a || c)
      swap true true c = refl
      swap true false c = refl
      swap false b c = refl

  count-last : (xs : List A) (x : A) → count test (xs ++ (x ∷ [])) ≡ cond (test x) 1 0 + count test xs
  count-last [] x = refl
  count-last (y ∷ ys) x = let go = count-last ys x in omega (arith, go)

  pub any-reverse : (xs : List A) → any test (reverse xs) ≡ any test xs
  any-reverse [] = refl
  any-reverse (x ∷ xs) = ap (λ l. any test l) (reverse-append (x ∷ []) xs) ∙ (any_last (reverse xs) x ∙ ap (λ b. test x || b) (any-reverse xs))

  pub count-reverse : (xs : List A) → count test (reverse xs) ≡ count test xs
  count-reverse [] = refl
  count-reverse (x ∷ xs) = ap (λ l. count test l) (reverse-append (x ∷ []) xs) ∙ (count-last (reverse xs) x ∙ ap (λ n. cond (test x) 1 0 + n) (count-reverse xs))

-- two tests that agree on each element, the one of what the element stands for
any-shown : {A B : Type 0} (f : A → B) (t : B → Bool) (u : A → Bool) (xs : List A) → ((x : A) → Memᴰ x xs → t (f x) ≡ u x) → any t (map f xs) ≡ any u xs
any-shown f t u [] h = refl
any-shown f t u (x ∷ xs) h = λ i. h x (Memᴰ.head refl) i || any-shown f t u xs (λ y m. h y (Memᴰ.tail m)) i

count-shown : {A B : Type 0} (f : A → B) (t : B → Bool) (xs : List A) → count t (map f xs) ≡ count (λ x. t (f x)) xs
count-shown f t [] = refl
count-shown f t (x ∷ xs) = ap (λ n. cond (t (f x)) 1 0 + n) (count-shown f t xs)

-- THE LIMITS

pub length-journal : (ns : List Note) → length (journal_of ns) ≡ length ns
length-journal ns = length-reverse (map entry_of ns) ∙ length-map ns entry_of

pub under-journal : (q : Quorum) (ns : List Note) → under q (journal_of ns) ≡ under_in q ns
under-journal q ns = count-reverse (λ (e : Entry). same_quorums q e.quorum) (map entry_of ns) ∙ count-shown entry_of (λ (e : Entry). same_quorums q e.quorum) ns

pub stands-journal : (q : Quorum) (bs : List ℕ) (p : Metadata) (ns : List Note) → Bytes bs → AllBytes ns → paper_in bs ≡ Ok p → stands q p (journal_of ns) ≡ stands_in q bs ns
stands-journal q bs p ns b c e =
    any-reverse (λ (x : Entry). all (same_quorums q x.quorum ∷ same_papers p x.paper ∷ [])) (map entry_of ns)
    ∙ any-shown entry_of (λ (x : Entry). all (same_quorums q x.quorum ∷ same_papers p x.paper ∷ [])) (λ (n : Note). all (same_quorums q n.quorum ∷ same_list bs n.paper ∷ [])) ns
    (λ n m. ap (λ t. all (same_quorums q n.quorum ∷ t ∷ [])) (same-paper bs n.paper p b (c n m) e))

-- the two limits, of the same numbers
limits : (a b c d : ℕ) → a ≡ c → b ≡ d → all (leb a 65536 ∷ leb b 16384 ∷ []) ≡ all (leb c 65536 ∷ leb d 16384 ∷ [])
limits a b c d e f = λ i. all (leb (e i) 65536 ∷ leb (f i) 16384 ∷ [])

-- what is counted under a quorum: itself, and another
one_more : (q : Quorum) (n m : ℕ) → n ≡ m → cond (same_quorums q q) 1 0 + n ≡ m + 1
one_more q n m e = at (same_quorums q q) (quorums.itself q)
  where
    at : (b : Bool) → T b → cond b 1 0 + n ≡ m + 1
    at true t = omega (arith, e)
    at false t = absurd t

two-more : (q r : Quorum) (n m : ℕ) → n ≡ m → cond (same_quorums q r) 1 0 + (cond (same_quorums q q) 1 0 + n) ≡ m + of_two q r
two-more q r n m e = at (same_quorums q r) (one_more q n m e)
  where
    at : (b : Bool) → cond (same_quorums q q) 1 0 + n ≡ m + 1 → cond b 1 0 + (cond (same_quorums q q) 1 0 + n) ≡ m + cond b 2 1
    at true h = omega (arith, h)
    at false h = omega (arith, h)

two-more-first : (q r : Quorum) (n m : ℕ) → n ≡ m → cond (same_quorums q q) 1 0 + (cond (same_quorums q r) 1 0 + n) ≡ m + of_two q r
two-more-first q r n m e = at (cond (same_quorums q q) 1 0) (cond (same_quorums q r) 1 0) (two-more q r n m e)
  where
    at : (a b : ℕ) → b + (a + n) ≡ m + of_two q r → a + (b + n) ≡ m + of_two q r
    at a b h = omega (arith, h)

-- the paper that bytes stand for is the one that was read
pub paper-read : (bs : List ℕ) (p : Metadata) → paper_in bs ≡ Ok p → paper_of bs ≡ p
paper-read bs p e = ap (paper_or (ARoot no_root)) e

-- the key of a signature is its first 32 bytes
keys_of : (ss : List (List ℕ)) → map (take 32) ss ≡ map (λ (s : Signature). s.key) (map signature_of ss)
keys_of [] = refl
keys_of (s ∷ ss) = ap (λ l. take 32 s ∷ l) (keys_of ss)

module _ (accepts : Accepts) (h : Held) (p : Metadata) (b : Bytes h.paper) (e : paper_in h.paper ≡ Ok p) (today : ℕ) where
  pub room-journal : (q : Quorum) (ns : List Note) → AllBytes ns → room today q (offer_of accepts h p) (journal_of ns) ≡ room_in q h.paper ns
  room-journal q ns c =
      let l : suc (length (journal_of ns)) ≡ length ns + 1 = let k = length-journal ns in omega (arith, k) in
      λ i. stands-journal q h.paper p ns b c e i || limits _ _ (length ns + 1) (under_in q ns + 1) l (one_more q _ _ (under-journal q ns)) i

  pub room-root-journal : (old own : Quorum) (ns : List Note) → room_root today old own (offer_of accepts h p) (journal_of ns) ≡ room_for_root old own ns
  room-root-journal old own ns =
      let l : suc (suc (length (journal_of ns))) ≡ length ns + 2 = let k = length-journal ns in omega (arith, k) in
      λ i. all (
      limits _ _ (length ns + 2) (under_in old ns + of_two old own) l (two-more old own _ _ (under-journal old ns)) i ∷
      limits _ _ (length ns + 2) (under_in own ns + of_two own old) l (two-more-first own old _ _ (under-journal own ns)) i ∷ [])

  -- THE NEW ENTRIES

  pub entry-of : (q : Quorum) (n : Note) → NoteBy accepts h q today n → entry_of n ≡ entry today q (offer_of accepts h p)
  entry-of q n by = λ i. record {
    quorum = by.quorum i;
    paper = (ap paper_of by.paper ∙ paper-read h.paper p e) i;
    counted = (keys_of n.signatures ∙ by.chosen.keys) i;
    day = by.day i;
  }

  pub noted-journal : (q : Quorum) (n : Note) (ns : List Note) → AllBytes ns → NoteBy accepts h q today n → journal_of (noted_in n ns) ≡ noted today q (offer_of accepts h p) (journal_of ns)
  noted-journal q n ns c by =
      ap (λ t. journal_of (cond t ns (ns ++ (n ∷ [])))) there ∙ at (stands q p (journal_of ns))
    where
      there : stands_in n.quorum n.paper ns ≡ stands q p (journal_of ns)
      there = (λ i. stands_in (by.quorum i) (by.paper i) ns) ∙ sym (stands-journal q h.paper p ns b c e)

      last : journal_of (ns ++ (n ∷ [])) ≡ entry_of n ∷ journal_of ns
      last = ap reverse (map-append entry_of ns (n ∷ [])) ∙ reverse-append (map entry_of ns) (entry_of n ∷ [])

      at : (t : Bool) → journal_of (cond t ns (ns ++ (n ∷ []))) ≡ cond t (journal_of ns) (entry today q (offer_of accepts h p) ∷ journal_of ns)
      at true = refl
      at false = last ∙ ap (λ x. x ∷ journal_of ns) (entry-of q n by)

  pub noted-root-journal : (old own : Quorum) (m n : Note) (ns : List Note) → NoteBy accepts h old today m → NoteBy accepts h own today n →
      journal_of (ns ++ (m ∷ n ∷ [])) ≡ noted_root today old own (offer_of accepts h p) (journal_of ns)
  noted-root-journal old own m n ns by_old by-own =
      ap reverse (map-append entry_of ns (m ∷ n ∷ []))
      ∙ (reverse-append (map entry_of ns) (entry_of m ∷ entry_of n ∷ [])
      ∙ (λ i. entry-of own n by-own i ∷ (entry-of old m by_old i ∷ journal_of ns)))
