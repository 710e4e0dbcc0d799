use Rattle.std.proofs.Common.{length}
use Rattle.line_reader.specs.Paths.{path_of}
use Rattle.line_reader.proofs.Steps.{Walk}
use Rattle.line_reader.proofs.path.path_in.Given as goal

abbrev pub invariant-loop-first : goal.invariant-loop-first
invariant-loop-first l = Walk l.value l.left l.mark (path_of l.path)

abbrev pub decreases-loop-first : goal.decreases-loop-first
decreases-loop-first l = length l.left
