use Rattle.std.proofs.Common.{◌≡◌, ◌++◌, vec_items}
use Rattle.std.specs.List.{flat_map}
use Rattle.metadata.specs.Views.{delegations_of}
use Rattle.text.specs.Texts.{delegation_text}
use Rattle.text.proofs.paper.write_delegations.Given as goal

-- what is written and what is left make up the whole
abbrev pub invariant-loop-delegation : goal.invariant-loop-delegation
invariant-loop-delegation l = vec_items l.out ++ flat_map delegation_text (delegations_of l.delegation-iterator) ≡ vec_items l.initial.out ++ flat_map delegation_text (delegations_of l.delegations)
