-- What a journal stands for. Assumes nothing.
use Rattle.std.specs.Prelude.{ℕ, List, map, vec_items}
use Rattle.journal.specs.Notes.{Note}
use Rattle.journal.specs.Table.{rows_of, note_of}
use Rattle.wire.specs.Views.{quorum_of}
use Rattle.journal.specs.declared.notes.Backing.{Backing}
use Rattle.journal.specs.declared.journal.Journal.{Journal}

-- its notes, the oldest first
abbrev pub notes_of : Journal → List Note
notes_of j = map (note_of (rows_of (vec_items j.rows))) (vec_items j.entries)

-- the note of a paper that was taken
abbrev pub note_for : Backing → ℕ → List ℕ → Note
note_for b day paper = record { quorum = quorum_of b.quorum; day = day; paper = paper; signatures = b.signatures.now }
