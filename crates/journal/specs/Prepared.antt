-- A quorum gets a place in the table before an entry names it. Assumes nothing.
use Rattle.std.specs.Prelude.{◌≡◌, ℕ, true, List, ◌++◌, vec_items}
use Rattle.model.specs.Metadata.{Quorum}
use Rattle.journal.specs.Table.{rows_of, is_first, quorum_at, note_of}
use Rattle.journal.specs.declared.entry.Entry.{Entry}
use Rattle.journal.specs.declared.journal.Journal.{Journal}

-- the quorum has this place; nothing was changed but that rows may have been added
pub record Placed (old new : Journal) (q : Quorum) (at : ℕ) : Type 0 where
  pub more : List Quorum
  pub rows : rows_of (vec_items new.rows) ≡ rows_of (vec_items old.rows) ++ more
  pub entries : vec_items new.entries ≡ vec_items old.entries
  pub placed : is_first (rows_of (vec_items new.rows)) at ≡ true
  pub is-quorum : quorum_at (rows_of (vec_items new.rows)) at ≡ q

-- the entry stands for this, under the quorum at the place, whatever the table
pub record Copied (at day : ℕ) (paper : List ℕ) (signatures : List (List ℕ)) (e : Entry) : Type 0 where
  pub place : e.at ≡ at
  pub is-note : (rows : List Quorum) → note_of rows e ≡ record { quorum = quorum_at rows at; day = day; paper = paper; signatures = signatures }
