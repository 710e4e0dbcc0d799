use Rattle.std.proofs.Common.{◌≡◌, ◌++◌, vec_items}
use Rattle.std.specs.List.{flat_map}
use Rattle.metadata.specs.Views.{metas_of}
use Rattle.text.specs.Texts.{meta_text}
use Rattle.text.proofs.paper.write_metas.Given as goal

-- what is written and what is left make up the whole
abbrev pub invariant-loop-meta : goal.invariant-loop-meta
invariant-loop-meta l = vec_items l.out ++ flat_map meta_text (metas_of l.meta-iterator) ≡ vec_items l.initial.out ++ flat_map meta_text (metas_of l.metas)
