use Rattle.std.proofs.Common.{◌≡◌, map, drop, vec_items}
use Rattle.device_next.specs.Steps.{snapshot_in, delegated_in}
use Rattle.device_next.specs.Views.{held_of, holding_of}
use Rattle.device_next.proofs.state.Device.delegated_quorum.Given as goal

-- what is left gives the answer
abbrev pub invariant-loop-kept : goal.invariant-loop-kept
invariant-loop-kept l =
    delegated_in (snapshot_in (holding_of l.self)) l.role (map held_of (drop l.kept-index (vec_items l.self.targets))) ≡ delegated_in (snapshot_in (holding_of l.self)) l.role (holding_of l.self).targets
