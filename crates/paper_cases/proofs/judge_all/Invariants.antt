use Rattle.std.proofs.Common.{length}
use Rattle.paper_cases.proofs.judge_all.Given as goal

abbrev pub decreases-loop-paper : goal.decreases-loop-paper
decreases-loop-paper l = length l.left
