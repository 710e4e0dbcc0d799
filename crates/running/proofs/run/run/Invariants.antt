use Rattle.std.proofs.Common.{length, vec_items}
use Rattle.device_next.specs.Holding.{device_of}
use Rattle.device_next.specs.Views.{holding_of}
use Rattle.running.specs.Runs.{SoFar}
use Rattle.running.proofs.run.run.Given as goal

-- what was answered, and what is left, make up the whole
abbrev pub invariant-loop-left : goal.invariant-loop-left
invariant-loop-left g l =
    SoFar g.V.Verifier.accepts (device_of g.V.Verifier.accepts (holding_of l.initial.device)) l.bytes (vec_items l.answers) (device_of g.V.Verifier.accepts (holding_of l.device)) l.left

abbrev pub decreases-loop-left : goal.decreases-loop-left
decreases-loop-left g l = length l.left
