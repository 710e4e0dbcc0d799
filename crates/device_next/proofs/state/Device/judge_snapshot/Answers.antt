use Rattle.std.proofs.Common.{[], ◌∷◌, sym, ◌∙◌, rules}
use Rattle.model.specs.declared.fault.Fault.TheVariants.{NotEnough, NotNamed, Regresses, Expired, Full}
use Rattle.model.specs.Taking.{must, named, covers_kept, in_time}
use Rattle.digest.specs.Sha256.{sha256}
use Rattle.metadata.specs.Views.{snapshot_of}
use Rattle.journal.specs.Notes.{room_in}
use Rattle.device_next.specs.Steps.{root_in, timestamp_in, snapshot_in}
use Rattle.device_next.specs.Views.{holding_of}
use Rattle.device_next.proofs.Stepping.{fault-more, snapshot-judged}
use Rattle.device_next.proofs.state.Device.judge_snapshot.Goals as goal

pub returns-in_err-check_snapshot : goal.returns-in_err-check_snapshot
returns-in_err-check_snapshot c =
    let x = snapshot_of c.args.offered in
    let s = holding_of c.args.self.now in
    let met = c.args.enough in
    let paper = c.args.paper.now in
    let same = snapshot-judged met x _ (sha256 paper) _ (timestamp_in s) _ (snapshot_in s) _ s.today c.sha256-digest.ensures c.timestamp.ensures c.snapshot.ensures c.today-today.ensures in
    let found =
    fault-more (must met NotEnough ∷ must (named (λ _. sha256 paper) x (timestamp_in s)) NotNamed ∷ must (covers_kept x (snapshot_in s)) Regresses ∷ must (in_time s.today x.expires) Expired ∷ [])
    (must (room_in (root_in s).snapshot paper s.notes) Full) c.in_err-check_snapshot.field-0.0 (sym same ∙ c.in_err-check_snapshot.ensures) in
    search rules
