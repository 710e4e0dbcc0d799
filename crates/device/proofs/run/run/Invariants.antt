use Rattle.std.proofs.Common.{length, vec_items}
use Rattle.device.proofs.Ran.{Ran}
use Rattle.device.proofs.run.run.Given as goal

abbrev pub invariant-loop-left : goal.invariant-loop-left
invariant-loop-left l = Ran l.bytes l.left (vec_items l.answers) l.calendar.today

abbrev pub decreases-loop-left : goal.decreases-loop-left
decreases-loop-left l = length l.left
