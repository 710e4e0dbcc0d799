-- Each quorum stands once in a table, and entries name its place. Assumes nothing.
use Rattle.std.specs.Prelude.{ℕ, suc, Bool, true, cond, ◌&&◌, List, [], ◌∷◌, map, length, vec_items, ◌==◌, nat_lt, slice_index_or}
use Rattle.model.specs.Metadata.{Quorum}
use Rattle.model.specs.Same.{same_quorums}
use Rattle.journal.specs.Notes.{Note}
use Rattle.journal.specs.declared.row.Row.{Row}
use Rattle.journal.specs.declared.entry.Entry.{Entry}

abbrev pub row_of : Row → Quorum
row_of r = record { keys = vec_items r.keys; threshold = r.threshold }

-- the first place at which a quorum stands, or the end of the table
abbrev pub first_at : Quorum → List Quorum → ℕ
first_at q [] = 0
first_at q (r ∷ rs) = cond (same_quorums q r) 0 (suc (first_at q rs))

abbrev pub blank : Quorum
blank = record { keys = []; threshold = 0 }

abbrev pub quorum_at : List Quorum → ℕ → Quorum
quorum_at rows i = slice_index_or rows i blank

-- a place within the table, and the first for what stands there
abbrev pub is_first : List Quorum → ℕ → Bool
is_first rows i = nat_lt i (length rows) && first_at (quorum_at rows i) rows == i

abbrev pub all_first : List Quorum → List Entry → Bool
all_first rows [] = true
all_first rows (e ∷ es) = is_first rows e.at && all_first rows es

abbrev pub rows_of : List Row → List Quorum
rows_of rs = map row_of rs

abbrev pub note_of : List Quorum → Entry → Note
note_of rows e = record { quorum = quorum_at rows e.at; day = e.day; paper = vec_items e.paper; signatures = vec_items e.signatures }
