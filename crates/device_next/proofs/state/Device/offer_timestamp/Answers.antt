use Rattle.std.proofs.Common.{Some, vec_items, refl, ap, ◌∙◌}
use Rattle.model.specs.Metadata.{Root}
use Rattle.journal.specs.Notes.{Note, noted_in}
use Rattle.wire.specs.Views.{quorum_of}
use Rattle.metadata.specs.Views.{timestamp_of}
use Rattle.device_next.specs.Holding.{Held}
use Rattle.device_next.specs.Steps.{root_in, timestamp_faults, with_timestamp}
use Rattle.device_next.specs.Views.{holding_of}
use Rattle.device_next.proofs.Stopping.{passed-on}
use Rattle.device_next.proofs.Stepping.{step-refused, step-taken, note-same, holding-same}
use Rattle.device_next.proofs.state.Device.offer_timestamp.Goals as goal

pub returns-in_err-judge_timestamp : goal.returns-in_err-judge_timestamp
returns-in_err-judge_timestamp g c =
    let h : Held = record { paper = c.args.signed.message.now; signatures = c.args.signed.signatures.items.now } in
    let s = holding_of c.args.self.now in
    let t = timestamp_of c.args.offered in
    passed-on _ _ c.from_residual-in_err-judge_timestamp.result c.in_err-judge_timestamp.field-0.0 c.from_residual-in_err-judge_timestamp.ensures
    (step-refused g.V.Verifier.accepts h (root_in s).timestamp (quorum_of c.root.result.timestamp) (ap (λ (r : Root). r.timestamp) c.root.ensures) (vec_items c.in_ok-counted.counted.signatures)
    c.in_ok-counted.ensures.chosen c.is_enough.result (c.is_enough.ensures ∙ c.in_ok-counted.ensures.answer) (λ met. timestamp_faults met t h.paper s) (λ n. with_timestamp h n s) s
    c.in_err-judge_timestamp.field-0.0 c.in_err-judge_timestamp.ensures)

pub returns : goal.returns
returns g c =
    let h : Held = record { paper = c.args.signed.message.now; signatures = c.args.signed.signatures.items.now } in
    let s = holding_of c.args.self.now in
    let t = timestamp_of c.args.offered in
    step-taken g.V.Verifier.accepts h (root_in s).timestamp (quorum_of c.root.result.timestamp) (ap (λ (r : Root). r.timestamp) c.root.ensures) (vec_items c.in_ok-counted.counted.signatures)
    c.in_ok-counted.ensures.chosen c.is_enough.result (c.is_enough.ensures ∙ c.in_ok-counted.ensures.answer) (λ met. timestamp_faults met t h.paper s) (λ n. with_timestamp h n s) s
    (record { quorum = (root_in s).timestamp; day = s.today; paper = h.paper; signatures = vec_items c.in_ok-counted.counted.signatures }) _ c.in_ok-judge_timestamp.ensures refl refl refl refl
    (holding-same _ _ _ _ _ _ _ _ _ _ _ refl (ap Some c.in_ok-kept.ensures) refl refl
    (c.in_ok-note.ensures ∙ ap (λ (n : Note). noted_in n s.notes) (note-same _ _ _ _ _ _ _ (ap (λ (r : Root). r.timestamp) c.of.ensures) c.today.ensures c.deref.ensures.value)))
