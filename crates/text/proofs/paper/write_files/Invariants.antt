use Rattle.std.proofs.Common.{◌≡◌, ◌++◌, vec_items}
use Rattle.std.specs.List.{flat_map}
use Rattle.metadata.specs.Views.{files_of}
use Rattle.text.specs.Texts.{file_text}
use Rattle.text.proofs.paper.write_files.Given as goal

-- what is written and what is left make up the whole
abbrev pub invariant-loop-file : goal.invariant-loop-file
invariant-loop-file l = vec_items l.out ++ flat_map file_text (files_of l.file-iterator) ≡ vec_items l.initial.out ++ flat_map file_text (files_of l.files)
