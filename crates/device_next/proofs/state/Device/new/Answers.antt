use Rattle.metadata.specs.Papers.{paper_in}
use Rattle.device_next.specs.Starts.{first_fault_of}
use Rattle.device_next.proofs.Stopping.{stop-weaker}
use Rattle.device_next.proofs.ModelledReach.{started-reached}
use Rattle.device_next.proofs.state.Device.new.Goals as goal

pub returns : goal.returns
returns c =
    let bs = c.args.root.now in
    record {
      bytes = c.make.ensures;
      reached = stop-weaker c.make.result c.make.ensures (λ d k. started-reached (first_fault_of (paper_in bs)) bs d k) (λ k. k);
    }
