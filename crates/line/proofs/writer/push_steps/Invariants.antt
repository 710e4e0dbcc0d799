use Rattle.std.proofs.Common.{◌≡◌, ◌++◌, drop, vec_items}
use Rattle.wire.specs.Leaves.{steps_of}
use Rattle.line.specs.Lines.{steps_from}
use Rattle.line.proofs.writer.push_steps.Given as goal

-- what is written and what is left make up the whole
abbrev pub invariant-loop-step : goal.invariant-loop-step
invariant-loop-step l = vec_items l.out ++ steps_from l.mark (steps_of (drop l.step-index l.steps)) ≡ vec_items l.initial.out ++ steps_from 32 (steps_of l.steps)
