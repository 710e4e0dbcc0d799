-- AllByRecursion that the journal holds of papers is bytes. Assumes nothing.
use Rattle.std.proofs.Common.{◌≡◌, ℕ, true, ltb, List, [], ◌∷◌, map, vec_items, refl}
use mathlib.Core.List.{Memᴰ}
use Rattle.std.proofs.lemmas.Bool.{ltb-true, lt-ltb, and_parts, and_from}
use Rattle.model.specs.Metadata.{Quorum}
use Rattle.model.proofs.ListFacts.{cons-all}
use Rattle.wire.specs.Formats.{Bytes}
use Rattle.journal.specs.Marks.{is_bytes}
use Rattle.journal.specs.Notes.{Note}
use Rattle.journal.specs.Table.{note_of}
use Rattle.journal.specs.declared.entry.Entry.{Entry}

pub tested : (bs : List ℕ) → Bytes bs → is_bytes bs ≡ true
tested [] h = refl
tested (b ∷ bs) h = and_from (ltb b 256) (is_bytes bs) (lt-ltb b 256 h.0) (tested bs h.1)

pub bytes-from : (bs : List ℕ) → is_bytes bs ≡ true → Bytes bs
bytes-from [] h = tt
bytes-from (b ∷ bs) h = let p = and_parts (ltb b 256) (is_bytes bs) h in (ltb-true b 256 p.0, bytes-from bs p.1)

-- each note's paper
pub clean : (rows : List Quorum) (es : List Entry) (n : Note) → Memᴰ n (map (note_of rows) es) → Bytes n.paper
clean rows [] n m = elim m [ ]
clean rows (e ∷ es) n m = cons-all (λ (x : Note). Bytes x.paper) (note_of rows e) (map (note_of rows) es) (bytes-from (vec_items e.paper) e.bytes) (clean rows es) n m
