use Rattle.std.proofs.Common.{◌+◌, ◌<◌, List, ◌∷◌, map, length, get_or, drop, Option, vec_items, sym, ap, ◌∙◌, subst}
use Rattle.std.proofs.lemmas.List.{at_drop_more}
use Rattle.model.specs.Metadata.{Quorum, Snapshot}
use Rattle.model.specs.Taking.{current}
use Rattle.wire.specs.Views.{quorum_of}
use Rattle.metadata.specs.Views.{targets_of}
use Rattle.device_next.specs.Steps.{snapshot_in, delegated_in}
use Rattle.device_next.specs.Views.{held_of, holding_of}
use Rattle.device_next.specs.declared.kept.Kept.{Kept}
use Rattle.device_next.proofs.Stepping.{delegated-found}
use Rattle.device_next.proofs.state.Device.delegated_quorum.Goals as goal

pub returns-in-Some : goal.returns-in-Some
returns-in-Some c =
    let x = snapshot_in (holding_of c.args.self.now) in
    let t = targets_of c.of-targets.result in
    let all = vec_items c.args.self.now.targets in
    let i = c.loop-kept.kept-index in
    let k = c.kept-item.result in
    let same = c.deref-kept-items.ensures.value in
    let answer : List (Kept 4) → Option Quorum = λ l. delegated_in x c.args.role (map held_of l) in
    let found = delegated-found x c.args.role (held_of k) (map held_of (drop (i + 1) all)) (quorum_of c.in-Some.quorum) t c.of-targets.ensures
    (sym (c.is_current.ensures ∙ ap (λ (o : Option Snapshot). current o t) c.snapshot.ensures) ∙ c.if-is_current.true) c.in-Some.ensures in
    sym (sym c.loop-kept.invariant ∙ at_drop_more answer all i k (subst (λ (l : List (Kept 4)). i < length l) same c.loop-kept-test.true)
    ∙ ap (λ (y : Kept 4). answer (y ∷ drop (i + 1) all)) (sym (c.kept-item.is ∙ ap (λ (l : List (Kept 4)). get_or l i k) same)) ∙ found)
