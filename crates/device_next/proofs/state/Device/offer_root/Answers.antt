use Rattle.std.proofs.Common.{[], ◌∷◌, ◌++◌, vec_items, sym, refl, ap, ◌∙◌}
use Rattle.model.specs.Metadata.{Root}
use Rattle.model.specs.Taking.{stays}
use Rattle.wire.specs.Views.{quorum_of}
use Rattle.metadata.specs.Views.{root_of}
use Rattle.journal.specs.Notes.{Note}
use Rattle.journal.specs.Views.{note_for}
use Rattle.device_next.specs.Holding.{Held}
use Rattle.device_next.specs.Steps.{root_in}
use Rattle.device_next.specs.Views.{holding_of}
use Rattle.device_next.proofs.Stopping.{passed-on}
use Rattle.device_next.proofs.Stepping.{root-refused, root-taken, note-same, holding-same, kept_if, not-kept}
use Rattle.device_next.proofs.state.Device.offer_root.Goals as goal

pub returns-in_err-judge_root : goal.returns-in_err-judge_root
returns-in_err-judge_root g c =
    let h : Held = record { paper = c.args.signed.message.now; signatures = c.args.signed.signatures.items.now } in
    let s = holding_of c.args.self.now in
    let r = root_of c.args.offered in
    passed-on _ _ c.from_residual-in_err-judge_root.result c.in_err-judge_root.field-0.0 c.from_residual-in_err-judge_root.ensures
    (root-refused g.V.Verifier.accepts h r s (quorum_of c.root.result.root) (ap (λ (x : Root). x.root) c.root.ensures) (vec_items c.in_ok-old.old.signatures) (vec_items c.in_ok-own.own.signatures)
    c.in_ok-old.ensures.chosen c.in_ok-own.ensures.chosen c.is_enough.result c.is_enough-2.result (c.is_enough.ensures ∙ c.in_ok-old.ensures.answer) (c.is_enough-2.ensures ∙ c.in_ok-own.ensures.answer)
    c.in_err-judge_root.field-0.0 c.in_err-judge_root.ensures)

pub returns-then-keeps : goal.returns-then-keeps
returns-then-keeps g c =
    let h : Held = record { paper = c.args.signed.message.now; signatures = c.args.signed.signatures.items.now } in
    let s = holding_of c.args.self.now in
    let r = root_of c.args.offered in
    let same = sym (ap (λ (x : Root). stays x r) c.root-2.ensures) ∙ (sym c.stays-keeps.ensures ∙ c.if-keeps.true) in
    root-taken g.V.Verifier.accepts h r s (quorum_of c.root.result.root) (ap (λ (x : Root). x.root) c.root.ensures) (vec_items c.in_ok-old.old.signatures) (vec_items c.in_ok-own.own.signatures)
    c.in_ok-old.ensures.chosen c.in_ok-own.ensures.chosen c.is_enough.result c.is_enough-2.result (c.is_enough.ensures ∙ c.in_ok-old.ensures.answer) (c.is_enough-2.ensures ∙ c.in_ok-own.ensures.answer)
    _ c.in_ok-judge_root.ensures
    (holding-same _ _ _ _ _ _ _ _ _ _ _ c.in_ok-kept.ensures (kept_if (stays (root_in s) r) s.timestamp same) (kept_if (stays (root_in s) r) s.snapshot same) refl
    (c.in_ok-note_root.ensures
    ∙ ap (λ (n : Note). s.notes ++ n ∷ note_for (record { quorum = c.args.offered.root; signatures = c.deref-2.result }) c.today.result h.paper ∷ []) (note-same _ _ _ _ _ _ _ (ap (λ (x : Root). x.root) c.of.ensures) c.today.ensures c.deref.ensures.value)
    ∙ ap (λ (n : Note). s.notes ++ record { quorum = (root_in s).root; day = s.today; paper = h.paper; signatures = vec_items c.in_ok-old.old.signatures } ∷ n ∷ []) (note-same _ _ _ _ _ _ _ refl c.today.ensures c.deref-2.ensures.value)))

pub returns : goal.returns
returns g c =
    let h : Held = record { paper = c.args.signed.message.now; signatures = c.args.signed.signatures.items.now } in
    let s = holding_of c.args.self.now in
    let r = root_of c.args.offered in
    let same = sym (ap (λ (x : Root). stays x r) c.root-2.ensures) ∙ (sym c.stays-keeps.ensures ∙ c.if-keeps.false) in
    root-taken g.V.Verifier.accepts h r s (quorum_of c.root.result.root) (ap (λ (x : Root). x.root) c.root.ensures) (vec_items c.in_ok-old.old.signatures) (vec_items c.in_ok-own.own.signatures)
    c.in_ok-old.ensures.chosen c.in_ok-own.ensures.chosen c.is_enough.result c.is_enough-2.result (c.is_enough.ensures ∙ c.in_ok-old.ensures.answer) (c.is_enough-2.ensures ∙ c.in_ok-own.ensures.answer)
    _ c.in_ok-judge_root.ensures
    (holding-same _ _ _ _ _ _ _ _ _ _ _ c.in_ok-kept.ensures (not-kept (stays (root_in s) r) s.timestamp same) (not-kept (stays (root_in s) r) s.snapshot same) refl
    (c.in_ok-note_root.ensures
    ∙ ap (λ (n : Note). s.notes ++ n ∷ note_for (record { quorum = c.args.offered.root; signatures = c.deref-2.result }) c.today.result h.paper ∷ []) (note-same _ _ _ _ _ _ _ (ap (λ (x : Root). x.root) c.of.ensures) c.today.ensures c.deref.ensures.value)
    ∙ ap (λ (n : Note). s.notes ++ record { quorum = (root_in s).root; day = s.today; paper = h.paper; signatures = vec_items c.in_ok-old.old.signatures } ∷ n ∷ []) (note-same _ _ _ _ _ _ _ refl c.today.ensures c.deref-2.ensures.value)))
