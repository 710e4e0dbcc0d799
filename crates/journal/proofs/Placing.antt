-- What an entry and its row change. Assumes nothing.
use Rattle.std.proofs.Common.{◌≡◌, ℕ, ◌<◌, ◌≤◌, Bool, true, false, cond, List, [], ◌∷◌, ◌++◌, map, length, vec_items, sym, refl, ap, ◌∙◌, subst, arith}
use Rattle.std.proofs.lemmas.List.{append-nil, append_assoc, map-append, length-map}
use Rattle.model.specs.Metadata.{Quorum}
use Rattle.journal.specs.Notes.{Note}
use Rattle.journal.specs.Prepared.{Placed, Copied}
use Rattle.journal.specs.Table.{row_of, rows_of, first_at, quorum_at, is_first, all_first, note_of}
use Rattle.journal.specs.Views.{notes_of}
use Rattle.journal.specs.declared.entry.Entry.{Entry}
use Rattle.journal.specs.declared.journal.Journal.{Journal}
use Rattle.journal.specs.declared.row.Row.{Row}
use Rattle.journal.proofs.Places.{first-le, still-at, still-first, still-all, still-notes, all_push, old-place, new-place}

pub placed-old : (j : Journal) (q : Quorum) (at : ℕ) → at ≡ first_at q (rows_of (vec_items j.rows)) → at < length (vec_items j.rows) → Placed j j q at
placed-old j q at is lt =
    let rows = rows_of (vec_items j.rows) in
    let n = length-map (vec_items j.rows) row_of in
    let old = subst (λ (i : ℕ). (is_first rows i ≡ true) × (quorum_at rows i ≡ q)) (sym is) (old-place q rows (omega (arith, is, lt, n))) in
    record { more = []; rows = sym (append-nil rows); entries = refl; placed = old.0; is-quorum = old.1 }

rows-push : (rs : List Row) (r : Row) → rows_of (rs ++ r ∷ []) ≡ rows_of rs ++ row_of r ∷ []
rows-push rs r = map-append row_of rs (r ∷ [])

pub placed-new : (j k : Journal) (q : Quorum) (at : ℕ) (row : Row) → at ≡ first_at q (rows_of (vec_items j.rows)) → length (vec_items j.rows) ≤ at → row_of row ≡ q →
    vec_items k.rows ≡ vec_items j.rows ++ row ∷ [] → vec_items k.entries ≡ vec_items j.entries → Placed j k q at
placed-new j k q at row is le r e same =
    let rows = rows_of (vec_items j.rows) in
    let n = length-map (vec_items j.rows) row_of in
    let most = first-le q (vec_items j.rows) in
    let grown : rows_of (vec_items k.rows) ≡ rows ++ q ∷ [] = ap rows_of e ∙ rows-push (vec_items j.rows) row ∙ ap (λ (x : Quorum). rows ++ x ∷ []) r in
    let new = subst (λ (i : ℕ). (is_first (rows ++ q ∷ []) i ≡ true) × (quorum_at (rows ++ q ∷ []) i ≡ q)) (sym is) (new-place q rows (omega (arith, is, le, n, most))) in
    let moved = subst (λ (l : List Quorum). (is_first l at ≡ true) × (quorum_at l at ≡ q)) (sym grown) new in
    record { more = q ∷ []; rows = grown; entries = same; placed = moved.0; is-quorum = moved.1 }

-- whether there was memory for the row or not
pub grown-first : (b : Bool) (rs : List Row) (r : Row) (es : List Entry) → all_first (rows_of rs) es ≡ true → all_first (rows_of (cond b (rs ++ r ∷ []) rs)) es ≡ true
grown-first true rs r es h = subst (λ (l : List Quorum). all_first l es ≡ true) (sym (rows-push rs r)) (still-all (rows_of rs) (row_of r ∷ []) es h)
grown-first false rs r es h = h

-- a place alone changes no note
pub notes-kept : (j k : Journal) (q : Quorum) (at : ℕ) → Placed j k q at → notes_of k ≡ notes_of j
notes-kept j k q at p =
    ap (λ (l : List Entry). map (note_of (rows_of (vec_items k.rows))) l) p.entries
    ∙ ap (λ (l : List Quorum). map (note_of l) (vec_items j.entries)) p.rows
    ∙ still-notes (rows_of (vec_items j.rows)) p.more (vec_items j.entries) j.placed

-- whether there was memory for the entry or not
pub pushed-first : (b : Bool) (rows : List Quorum) (es : List Entry) (e : Entry) (at : ℕ) → all_first rows es ≡ true → is_first rows at ≡ true → e.at ≡ at → all_first rows (cond b (es ++ e ∷ []) es) ≡ true
pushed-first true rows es e at h k is = all_push rows es e h (subst (λ (i : ℕ). is_first rows i ≡ true) (sym is) k)
pushed-first false rows es e at h k is = h

-- the entry is one note more
pub notes-push : (j k : Journal) (q : Quorum) (at day : ℕ) (paper : List ℕ) (signatures : List (List ℕ)) (e : Entry) (es : List Entry) → Placed j k q at → Copied at day paper signatures e → es ≡ vec_items k.entries ++ e ∷ [] →
    map (note_of (rows_of (vec_items k.rows))) es ≡ notes_of j ++ record { quorum = q; day = day; paper = paper; signatures = signatures } ∷ []
notes-push j k q at day paper signatures e es p c is =
    let rows = rows_of (vec_items k.rows) in
    let note : note_of rows e ≡ record { quorum = q; day = day; paper = paper; signatures = signatures } =
    c.is-note rows ∙ ap (λ (x : Quorum). record { quorum = x; day = day; paper = paper; signatures = signatures }) p.is-quorum in
    ap (λ (l : List Entry). map (note_of rows) l) is
    ∙ map-append (note_of rows) (vec_items k.entries) (e ∷ [])
    ∙ ap (λ (l : List Note). l ++ note_of rows e ∷ []) (notes-kept j k q at p)
    ∙ ap (λ (n : Note). notes_of j ++ n ∷ []) note

-- a place stays where another quorum gets one
pub placed-both : (j k l : Journal) (q r : Quorum) (at by : ℕ) → Placed j k q at → Placed k l r by → Placed j l q at
placed-both j k l q r at by p o =
    let kept = rows_of (vec_items k.rows) in
    let grown = o.rows in
    record {
      more = p.more ++ o.more;
      rows = grown ∙ ap (λ (x : List Quorum). x ++ o.more) p.rows ∙ append_assoc (rows_of (vec_items j.rows)) p.more o.more;
      entries = o.entries ∙ p.entries;
      placed = subst (λ (x : List Quorum). is_first x at ≡ true) (sym grown) (still-first kept o.more at p.placed);
      is-quorum = ap (λ (x : List Quorum). quorum_at x at) grown ∙ still-at kept o.more at p.placed ∙ p.is-quorum;
    }

-- two notes more
pub notes-two : (j l : Journal) (q r : Quorum) (at by day : ℕ) (paper : List ℕ) (ss ts : List (List ℕ)) (e f : Entry) (es : List Entry) → Placed j l q at → quorum_at (rows_of (vec_items l.rows)) by ≡ r → Copied at day paper ss e → Copied by day paper ts f →
    es ≡ (vec_items l.entries ++ e ∷ []) ++ f ∷ [] →
    map (note_of (rows_of (vec_items l.rows))) es ≡ notes_of j ++ record { quorum = q; day = day; paper = paper; signatures = ss } ∷ record { quorum = r; day = day; paper = paper; signatures = ts } ∷ []
notes-two j l q r at by day paper ss ts e f es p o c d is =
    let rows = rows_of (vec_items l.rows) in
    let note : note_of rows f ≡ record { quorum = r; day = day; paper = paper; signatures = ts } =
    d.is-note rows ∙ ap (λ (x : Quorum). record { quorum = x; day = day; paper = paper; signatures = ts }) o in
    ap (λ (x : List Entry). map (note_of rows) x) is
    ∙ map-append (note_of rows) (vec_items l.entries ++ e ∷ []) (f ∷ [])
    ∙ ap (λ (x : List Note). x ++ note_of rows f ∷ []) (notes-push j l q at day paper ss e (vec_items l.entries ++ e ∷ []) p c refl)
    ∙ append_assoc (notes_of j) (record { quorum = q; day = day; paper = paper; signatures = ss } ∷ []) (note_of rows f ∷ [])
    ∙ ap (λ (n : Note). notes_of j ++ record { quorum = q; day = day; paper = paper; signatures = ss } ∷ n ∷ []) note

-- two entries with places
pub two-first : (rows : List Quorum) (es xs : List Entry) (e f : Entry) (at by : ℕ) → all_first rows es ≡ true → is_first rows at ≡ true → is_first rows by ≡ true → e.at ≡ at → f.at ≡ by → xs ≡ (es ++ e ∷ []) ++ f ∷ [] → all_first rows xs ≡ true
two-first rows es xs e f at by h k l is js x =
    subst (λ (y : List Entry). all_first rows y ≡ true) (sym x)
    (all_push rows (es ++ e ∷ []) f (all_push rows es e h (subst (λ (i : ℕ). is_first rows i ≡ true) (sym is) k)) (subst (λ (i : ℕ). is_first rows i ≡ true) (sym js) l))
