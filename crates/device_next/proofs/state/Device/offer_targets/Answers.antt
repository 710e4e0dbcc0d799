use Rattle.std.proofs.Common.{◌≡◌, List, ◌∷◌, map, Some, Ok, Err, vec_items, filter, Option, sym, refl, ap, ◌∙◌, subst}
use Rattle.std.specs.Option.{option_map}
use Rattle.model.specs.Metadata.{Quorum}
use Rattle.wire.specs.Views.{quorum_of}
use Rattle.metadata.specs.Views.{targets_of}
use Rattle.journal.specs.Notes.{Note, noted_in}
use Rattle.journal.specs.Table.{row_of}
use Rattle.device_next.specs.Holding.{Held, Holding}
use Rattle.device_next.specs.Steps.{asked_for, targets_faults, with_targets, others, StepUnder}
use Rattle.device_next.specs.Views.{held_of, holding_of}
use Rattle.device_next.specs.declared.kept.Kept.{Kept}
use Rattle.device_next.proofs.Sifting.{map-kept}
use Rattle.device_next.proofs.Stopping.{passed-on}
use Rattle.device_next.proofs.Stepping.{step-refused, step-taken, note-same, holding-same}
use Rattle.device_next.proofs.state.Device.offer_targets.Goals as goal

pub returns-in_err-judge_targets : goal.returns-in_err-judge_targets
returns-in_err-judge_targets g c =
    let h : Held = record { paper = c.args.signed.message.now; signatures = c.args.signed.signatures.items.now } in
    let s = holding_of c.args.self.now in
    let t = targets_of c.args.offered in
    let q = row_of c.in-Some.asked in
    let asked : asked_for s t.role ≡ Some q = sym c.in_ok-asked.ensures ∙ ap (option_map row_of) c.in-Some.is in
    passed-on _ _ c.from_residual-in_err-judge_targets.result c.in_err-judge_targets.field-0.0 c.from_residual-in_err-judge_targets.ensures
    (subst (λ (o : Option Quorum). StepUnder o g.V.Verifier.accepts h t s (Err c.in_err-judge_targets.field-0.0) s) (sym asked)
    (step-refused g.V.Verifier.accepts h q (quorum_of c.quorum.result) c.quorum.ensures (vec_items c.in_ok-counted.counted.signatures)
    c.in_ok-counted.ensures.chosen c.is_enough.result (c.is_enough.ensures ∙ c.in_ok-counted.ensures.answer) (λ met. targets_faults (Some met) t h.paper s) (λ n. with_targets h t n s) s
    c.in_err-judge_targets.field-0.0 (c.in_err-judge_targets.ensures (asked ∙ ap Some (sym c.quorum-2.ensures)))))

pub returns : goal.returns
returns g c =
    let h : Held = record { paper = c.args.signed.message.now; signatures = c.args.signed.signatures.items.now } in
    let s = holding_of c.args.self.now in
    let t = targets_of c.args.offered in
    let q = row_of c.in-Some.asked in
    let asked : asked_for s t.role ≡ Some q = sym c.in_ok-asked.ensures ∙ ap (option_map row_of) c.in-Some.is in
    let after : Holding = holding_of (record { root = c.args.self.now.root; timestamp = c.args.self.now.timestamp; snapshot = c.args.self.now.snapshot; targets = c.insert.new.self; journal = c.note.new.self; calendar = c.args.self.now.calendar }) in
    subst (λ (o : Option Quorum). StepUnder o g.V.Verifier.accepts h t s (Ok tt) after) (sym asked)
    (step-taken g.V.Verifier.accepts h q (quorum_of c.quorum.result) c.quorum.ensures (vec_items c.in_ok-counted.counted.signatures)
    c.in_ok-counted.ensures.chosen c.is_enough.result (c.is_enough.ensures ∙ c.in_ok-counted.ensures.answer) (λ met. targets_faults (Some met) t h.paper s) (λ n. with_targets h t n s) s
    (record { quorum = q; day = s.today; paper = h.paper; signatures = vec_items c.in_ok-counted.counted.signatures }) after (c.in_ok-judge_targets.ensures (asked ∙ ap Some (sym c.quorum-2.ensures))) refl refl refl refl
    (holding-same _ _ _ _ _ _ _ _ _ _ _ refl refl refl
    (ap (map held_of) (rw c.unwrap.ensures at c.insert.ensures.items)
    ∙ ap (λ (l : List (Kept 4)). held_of c.in_ok-kept.kept ∷ map held_of l) (c.drop_role.ensures.items ∙ ap (filter (λ (k : Kept 4). others t.role (held_of k))) c.reserve.ensures.items)
    ∙ ap (λ (x : Held). x ∷ map held_of (filter (λ (k : Kept 4). others t.role (held_of k)) (vec_items c.args.self.now.targets))) c.in_ok-kept.ensures
    ∙ ap (λ (l : List Held). h ∷ l) (map-kept held_of (others t.role) (vec_items c.args.self.now.targets)))
    (c.in_ok-note.ensures ∙ ap (λ (n : Note). noted_in n s.notes) (note-same _ _ _ _ _ _ _ c.quorum-quorum.ensures c.today.ensures c.deref.ensures.value))))
