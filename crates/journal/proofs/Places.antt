-- Places in the table of quorums. Assumes nothing.
use Rattle.std.proofs.Common.{◌≡◌, ℕ, suc, take, filter, Some, None, Option, unwrap_or, ◌+◌, ◌-◌, ◌<◌, ◌≤◌, Bool, true, false, cond, not, ◌&&◌, ◌||◌, T, eqb, ltb, leb, List, [], ◌∷◌, ◌++◌, map, length, get_or, vec_items, sym, refl, ap, ◌∙◌, subst, true≢false, arith}
use Rattle.std.proofs.lemmas.List.{length-take-le, take_all, length-append, get_or_append_left}
use Rattle.std.specs.Cmp.Lexicographic.{pointwise}
use Rattle.std.specs.List.{list_any, position_or_len}
use Rattle.std.specs.Prelude.{nat_eq}
use Rattle.wire.proofs.Comparing.{bytes_same}
use Rattle.std.proofs.lemmas.Bool.{ltb-false, eqb-true, ltb-true, leb-true, leb-false, eq-eqb, ne_eqb, le-leb, lt-leb, lt-ltb, and_parts, and_from}
use Rattle.model.specs.Lists.{all, any, count}
use Rattle.model.specs.Metadata.{Quorum}
use Rattle.model.specs.Same.{same_list, same_quorums}
use Rattle.model.proofs.Same.{quorums}
use Rattle.journal.specs.Notes.{Note, stands_in, under_in}
use Rattle.journal.specs.Table.{first_at, quorum_at, blank, is_first, all_first, note_of, row_of, rows_of}
use Rattle.journal.specs.declared.row.Row.{Row}
use Rattle.journal.specs.declared.entry.Entry.{Entry}

two-tests : (a b : Bool) → (a && b) ≡ all (a ∷ b ∷ [])
unfolding all
two-tests true true = refl
two-tests true false = refl
two-tests false b = refl

same-is : (q r : Quorum) → same_quorums q r ≡ true → q ≡ r
same-is q r h = quorums.equal q r (subst (λ (b : Bool). T b) (sym h) tt)

itself : (q : Quorum) → same_quorums q q ≡ true
itself q = true-is (same_quorums q q) (quorums.itself q)
  where
    true-is : (b : Bool) → T b → b ≡ true
    true-is true t = refl
    true-is false t = absurd t

-- what stands at the first place is the quorum
at_first : (q : Quorum) (rows : List Quorum) → first_at q rows < length rows → quorum_at rows (first_at q rows) ≡ q
at_first q [] h = absurd (omega (arith, h))
at_first q (r ∷ rs) h = at (same_quorums q r) refl (λ k. at_first q rs k)
  where
    at : (b : Bool) → same_quorums q r ≡ b → (first_at q rs < length rs → quorum_at rs (first_at q rs) ≡ q) → quorum_at (r ∷ rs) (first_at q (r ∷ rs)) ≡ q
    at true e more = ap (λ (b : Bool). get_or (r ∷ rs) (cond b 0 (suc (first_at q rs))) blank) e ∙ sym (same-is q r e)
    at false e more =
        ap (λ (b : Bool). get_or (r ∷ rs) (cond b 0 (suc (first_at q rs))) blank) e
        ∙ more (let k = subst (λ (b : Bool). cond b 0 (suc (first_at q rs)) < suc (length rs)) e h in omega (arith, k))

-- for an entry with a first place, the same quorum and the same place are one
pub same_place : (rows : List Quorum) (q : Quorum) (i : ℕ) → is_first rows i ≡ true → eqb (first_at q rows) i ≡ same_quorums q (quorum_at rows i)
same_place rows q i h =
    let b = and_parts (ltb i (length rows)) (eqb (first_at (quorum_at rows i) rows) i) h in
    at b (same_quorums q (quorum_at rows i)) refl (eqb (first_at q rows) i) refl
  where
    at : (ltb i (length rows) ≡ true) × (eqb (first_at (quorum_at rows i) rows) i ≡ true) → (s : Bool) → same_quorums q (quorum_at rows i) ≡ s → (e : Bool) → eqb (first_at q rows) i ≡ e → eqb (first_at q rows) i ≡ same_quorums q (quorum_at rows i)
    at b true s e u = ap (λ (r : Quorum). eqb (first_at r rows) i) (same-is q (quorum_at rows i) s) ∙ (b.1 ∙ sym s)
    at b false s false u = u ∙ sym s
    at b false s true u =
        let place = eqb-true (first_at q rows) i u in
        let inside : first_at q rows < length rows = let l = ltb-true i (length rows) b.0 in omega (arith, l, place) in
        absurd (true≢false (sym (itself q) ∙ ap (λ (r : Quorum). same_quorums q r) (sym (at_first q rows inside) ∙ ap (λ (k : ℕ). quorum_at rows k) place) ∙ s))

-- counting places is counting quorums
pub under-places : (rows : List Quorum) (q : Quorum) (es : List Entry) → all_first rows es ≡ true → count (λ (e : Entry). eqb (first_at q rows) e.at) es ≡ under_in q (map (note_of rows) es)
under-places rows q [] h = refl
under-places rows q (e ∷ es) h =
    let b = and_parts (is_first rows e.at) (all_first rows es) h in
    ap (λ (t : Bool). cond t 1 0 + count (λ (x : Entry). eqb (first_at q rows) x.at) es) (same_place rows q e.at b.0)
    ∙ ap (λ (n : ℕ). cond (same_quorums q (quorum_at rows e.at)) 1 0 + n) (under-places rows q es b.1)

-- and so for a paper under a quorum
pub stands-places : (rows : List Quorum) (q : Quorum) (paper : List ℕ) (es : List Entry) → all_first rows es ≡ true →
    any (λ (e : Entry). eqb (first_at q rows) e.at && same_list paper (vec_items e.paper)) es ≡ stands_in q paper (map (note_of rows) es)
stands-places rows q paper [] h = refl
stands-places rows q paper (e ∷ es) h =
    let b = and_parts (is_first rows e.at) (all_first rows es) h in
    ap (λ (t : Bool). (t && same_list paper (vec_items e.paper)) || any (λ (x : Entry). eqb (first_at q rows) x.at && same_list paper (vec_items x.paper)) es) (same_place rows q e.at b.0)
    ∙ ap (λ (t : Bool). t || any (λ (x : Entry). eqb (first_at q rows) x.at && same_list paper (vec_items x.paper)) es) (two-tests (same_quorums q (quorum_at rows e.at)) (same_list paper (vec_items e.paper)))
    ∙ ap (λ (t : Bool). all (same_quorums q (quorum_at rows e.at) ∷ same_list paper (vec_items e.paper) ∷ []) || t) (stands-places rows q paper es b.1)

pub first-le : (q : Quorum) (rs : List Row) → first_at q (rows_of rs) ≤ length rs
first-le q [] = omega arith
first-le q (r ∷ rs) = at (same_quorums q (row_of r)) (first-le q rs)
  where
    at : (b : Bool) → first_at q (rows_of rs) ≤ length rs → cond b 0 (suc (first_at q (rows_of rs))) ≤ suc (length rs)
    at true h = omega arith
    at false h = omega (arith, h)

-- SEARCHING AND COUNTING

pub bytes_equal : (a b : List ℕ) (r : Bool) → r ≡ pointwise nat_eq a b → r ≡ same_list a b
bytes_equal = bytes_same

-- the library's search for a quorum in the rows gives the place in the table
place-position : (q : Quorum) (rs : List Row) → position_or_len (λ (r : Row). same_quorums q (row_of r)) rs ≡ first_at q (rows_of rs)
place-position q [] = refl
place-position q (r ∷ rs) = at (same_quorums q (row_of r)) (place-position q rs)
  where
    at : (b : Bool) → position_or_len (λ (x : Row). same_quorums q (row_of x)) rs ≡ first_at q (rows_of rs) → cond (not b) (1 + position_or_len (λ (x : Row). same_quorums q (row_of x)) rs) 0 ≡ cond b 0 (suc (first_at q (rows_of rs)))
    at true e = refl
    at false e = omega (arith, e)

pub place-or-end : (q : Quorum) (rs : List Row) (o : Option ℕ) →
    o ≡ cond (ltb (position_or_len (λ (r : Row). same_quorums q (row_of r)) rs) (length rs)) (Some (position_or_len (λ (r : Row). same_quorums q (row_of r)) rs)) None →
    unwrap_or o (length rs) ≡ first_at q (rows_of rs)
place-or-end q rs o h =
    ap (λ (x : Option ℕ). unwrap_or x (length rs)) (h ∙ ap (λ (n : ℕ). cond (ltb n (length rs)) (Some n) None) (place-position q rs)) ∙ at (ltb (first_at q (rows_of rs)) (length rs)) refl
  where
    at : (b : Bool) → ltb (first_at q (rows_of rs)) (length rs) ≡ b → unwrap_or (cond b (Some (first_at q (rows_of rs))) None) (length rs) ≡ first_at q (rows_of rs)
    at true e = refl
    at false e = let most = first-le q rs in let least = ltb-false (first_at q (rows_of rs)) (length rs) e in omega (arith, most, least)

-- as many as wanted can be taken exactly if there are as many
pub taken_many : {A : Type 0} (m : ℕ) (xs : List A) → eqb (length (take m xs)) m ≡ leb m (length xs)
taken_many m xs = at (leb m (length xs)) refl
  where
    at : (b : Bool) → leb m (length xs) ≡ b → eqb (length (take m xs)) m ≡ leb m (length xs)
    at true e = eq-eqb (length (take m xs)) m (length-take-le m xs (leb-true m (length xs) e)) ∙ sym e
    at false e =
        ne_eqb (length (take m xs)) m (λ h. let few = leb-false m (length xs) e in let all-of = ap length (take_all m xs (omega (arith, few))) in omega (arith, few, all-of, h)) ∙ sym e

pub filtered : {A : Type 0} (test : A → Bool) (xs : List A) → length (filter test xs) ≡ count test xs
filtered test [] = refl
filtered test (x ∷ xs) = at (test x) ∙ ap (λ (n : ℕ). cond (test x) 1 0 + n) (filtered test xs)
  where
    at : (b : Bool) → length (cond b (x ∷ filter test xs) (filter test xs)) ≡ cond b 1 0 + length (filter test xs)
    at true = omega arith
    at false = omega arith

pub any-is : {A : Type 0} (test : A → Bool) (xs : List A) → list_any test xs ≡ any test xs
any-is test [] = refl
any-is test (x ∷ xs) = ap (λ (b : Bool). test x || b) (any-is test xs)

-- THE LIMITS

module _ (n more u same : ℕ) (few : (more ≤ 2) × (same ≤ 2)) where
  abbrev Fits : Bool
  Fits = all (leb (n + more) 65536 ∷ leb (u + same) 16384 ∷ [])

  pub fits_all : n ≤ 65536 - more → not (leb (16385 - same) u) ≡ Fits
  unfolding all
  fits_all h =
      at (leb (16385 - same) u) refl ∙ sym (ap (λ (b : Bool). b && (leb (u + same) 16384 && true)) (le-leb (n + more) 65536 (let k = few.0 in omega (arith, h, k))))
    where
      at : (b : Bool) → leb (16385 - same) u ≡ b → not (leb (16385 - same) u) ≡ (leb (u + same) 16384 && true)
      at true e = ap not e ∙ sym (ap (λ (b : Bool). b && true) (lt-leb (u + same) 16384 (let k = leb-true (16385 - same) u e in omega (arith, k))))
      at false e = ap not e ∙ sym (ap (λ (b : Bool). b && true) (le-leb (u + same) 16384 (let k = leb-false (16385 - same) u e in let l = few.1 in omega (arith, k, l))))

  pub fits-none : 65536 - more < n → false ≡ Fits
  unfolding all
  fits-none h = sym (ap (λ (b : Bool). b && (leb (u + same) 16384 && true)) (lt-leb (n + more) 65536 (omega (arith, h))))

-- MORE ROWS

-- where a quorum stands already, it stands when rows are added
first_more : (q : Quorum) (rows more : List Quorum) → first_at q rows < length rows → first_at q (rows ++ more) ≡ first_at q rows
first_more q [] more h = absurd (omega (arith, h))
first_more q (r ∷ rs) more h = at (same_quorums q r) refl (λ k. first_more q rs more k)
  where
    at : (b : Bool) → same_quorums q r ≡ b → (first_at q rs < length rs → first_at q (rs ++ more) ≡ first_at q rs) → first_at q ((r ∷ rs) ++ more) ≡ first_at q (r ∷ rs)
    at true e deeper = ap (λ (b : Bool). cond b 0 (suc (first_at q (rs ++ more)))) e ∙ sym (ap (λ (b : Bool). cond b 0 (suc (first_at q rs))) e)
    at false e deeper =
        ap (λ (b : Bool). cond b 0 (suc (first_at q (rs ++ more)))) e
        ∙ ap suc (deeper (let k = subst (λ (b : Bool). cond b 0 (suc (first_at q rs)) < suc (length rs)) e h in omega (arith, k)))
        ∙ sym (ap (λ (b : Bool). cond b 0 (suc (first_at q rs))) e)

-- where it does not, it stands in the row that is added for it
first-new : (q : Quorum) (rows : List Quorum) → first_at q rows ≡ length rows → first_at q (rows ++ q ∷ []) ≡ length rows
first-new q [] h = ap (λ (b : Bool). cond b 0 1) (itself q)
first-new q (r ∷ rs) h = at (same_quorums q r) refl (λ k. first-new q rs k)
  where
    at : (b : Bool) → same_quorums q r ≡ b → (first_at q rs ≡ length rs → first_at q (rs ++ q ∷ []) ≡ length rs) → first_at q ((r ∷ rs) ++ q ∷ []) ≡ length (r ∷ rs)
    at true e deeper = absurd (let k = sym h ∙ ap (λ (b : Bool). cond b 0 (suc (first_at q rs))) e in omega (arith, k))
    at false e deeper =
        ap (λ (b : Bool). cond b 0 (suc (first_at q (rs ++ q ∷ [])))) e
        ∙ ap suc (deeper (let k = sym (ap (λ (b : Bool). cond b 0 (suc (first_at q rs))) e) ∙ h in omega (arith, k)))

is-first : (rows : List Quorum) (i : ℕ) → i < length rows → first_at (quorum_at rows i) rows ≡ i → is_first rows i ≡ true
is-first rows i lt e = and_from (ltb i (length rows)) (eqb (first_at (quorum_at rows i) rows) i) (lt-ltb i (length rows) lt) (eq-eqb (first_at (quorum_at rows i) rows) i e)

pub still-at : (rows more : List Quorum) (i : ℕ) → is_first rows i ≡ true → quorum_at (rows ++ more) i ≡ quorum_at rows i
still-at rows more i h = get_or_append_left rows more blank i (ltb-true i (length rows) (and_parts (ltb i (length rows)) (eqb (first_at (quorum_at rows i) rows) i) h).0)

pub still-first : (rows more : List Quorum) (i : ℕ) → is_first rows i ≡ true → is_first (rows ++ more) i ≡ true
still-first rows more i h =
    let b = and_parts (ltb i (length rows)) (eqb (first_at (quorum_at rows i) rows) i) h in
    let lt = ltb-true i (length rows) b.0 in
    let e = eqb-true (first_at (quorum_at rows i) rows) i b.1 in
    let n = length-append rows more in
    is-first (rows ++ more) i (omega (arith, lt, n))
    (ap (λ (q : Quorum). first_at q (rows ++ more)) (still-at rows more i h) ∙ first_more (quorum_at rows i) rows more (omega (arith, lt, e)) ∙ e)

pub still-all : (rows more : List Quorum) (es : List Entry) → all_first rows es ≡ true → all_first (rows ++ more) es ≡ true
still-all rows more [] h = refl
still-all rows more (e ∷ es) h =
    let b = and_parts (is_first rows e.at) (all_first rows es) h in
    and_from (is_first (rows ++ more) e.at) (all_first (rows ++ more) es) (still-first rows more e.at b.0) (still-all rows more es b.1)

pub still-notes : (rows more : List Quorum) (es : List Entry) → all_first rows es ≡ true → map (note_of (rows ++ more)) es ≡ map (note_of rows) es
still-notes rows more [] h = refl
still-notes rows more (e ∷ es) h =
    let b = and_parts (is_first rows e.at) (all_first rows es) h in
    let one : note_of (rows ++ more) e ≡ note_of rows e = ap (λ (q : Quorum). record { quorum = q; day = e.day; paper = vec_items e.paper; signatures = vec_items e.signatures }) (still-at rows more e.at b.0) in
    ap (λ (n : Note). n ∷ map (note_of (rows ++ more)) es) one ∙ ap (λ (l : List Note). note_of rows e ∷ l) (still-notes rows more es b.1)

-- one entry more
pub all_push : (rows : List Quorum) (es : List Entry) (e : Entry) → all_first rows es ≡ true → is_first rows e.at ≡ true → all_first rows (es ++ e ∷ []) ≡ true
all_push rows [] e h k = and_from (is_first rows e.at) true k refl
all_push rows (x ∷ es) e h k =
    let b = and_parts (is_first rows x.at) (all_first rows es) h in
    and_from (is_first rows x.at) (all_first rows (es ++ e ∷ [])) b.0 (all_push rows es e b.1 k)

-- the place of a quorum that stands in the table
pub old-place : (q : Quorum) (rows : List Quorum) → first_at q rows < length rows → (is_first rows (first_at q rows) ≡ true) × (quorum_at rows (first_at q rows) ≡ q)
old-place q rows lt =
    let e = at_first q rows lt in
    (is-first rows (first_at q rows) lt (ap (λ (r : Quorum). first_at r rows) e), e)

-- and of one that was added
pub new-place : (q : Quorum) (rows : List Quorum) → first_at q rows ≡ length rows → (is_first (rows ++ q ∷ []) (first_at q rows) ≡ true) × (quorum_at (rows ++ q ∷ []) (first_at q rows) ≡ q)
new-place q rows e =
    let n = length-append rows (q ∷ []) in
    let f = first-new q rows e in
    let same : first_at q rows ≡ first_at q (rows ++ q ∷ []) = e ∙ sym f in
    subst (λ (i : ℕ). (is_first (rows ++ q ∷ []) i ≡ true) × (quorum_at (rows ++ q ∷ []) i ≡ q)) (sym same) (old-place q (rows ++ q ∷ []) (omega (arith, f, n)))
