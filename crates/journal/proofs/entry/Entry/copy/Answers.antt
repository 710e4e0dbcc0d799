use Rattle.std.proofs.Common.{◌≡◌, ℕ, ◌<◌, true, List, vec_items, sym, ap, ◌∙◌, subst, arith}
use Rattle.std.proofs.ByRecursion.{All-from_get_or}
use Rattle.std.proofs.lemmas.Bool.{eq-eqb}
use Rattle.journal.specs.Marks.{is_bytes, mark_of}
use Rattle.journal.proofs.Clean.{tested}
use Rattle.journal.proofs.entry.Entry.copy.Goals as goal

pub invariant_of-result : goal.invariant_of-result
invariant_of-result c =
    let bs = c.args.paper.now in
    let same = c.in_ok-paper.ensures.items in record {
      marked = eq-eqb c.mark_of-mark.result (mark_of (vec_items c.in_ok-paper.paper)) (c.mark_of-mark.ensures ∙ sym (ap mark_of same));
      bytes = subst (λ (l : List ℕ). is_bytes l ≡ true) (sym same) (tested bs (All-from_get_or (λ (b : ℕ). b < 256) bs 0 (λ i _. omega (arith, c.type_inv.paper i))));
    }
