use Rattle.std.proofs.Common.{◌≡◌, ℕ, List, length, ap, ◌∙◌, arith, rules}
use Rattle.digest.specs.Running.{hash_of}
use Rattle.digest.specs.Sha256.{added, compressed, constants, extended, rounds}
use Rattle.digest.proofs.Windows.{to_end-first, to_end-more, row_of}
use Rattle.digest.proofs.block.compress.Goals as goal

pub loop-k-init : goal.loop-k-init
loop-k-init c =
    let v = hash_of c.args.s in
    let l : length c.load-words.result ≡ 16 = search rules in
    record {
      sixteen = l;
      leads =
          to_end-first v (hash_of c.first-t.result) c.load-words.result l c.first-t.ensures
          ∙ ap (λ (ws : List ℕ). rounds v constants (extended 48 ws)) c.load-words.ensures;
    }

pub loop-k-preserved : goal.loop-k-preserved
loop-k-preserved c =
    let h = c.loop-k.invariant in
    let i = c.loop-k.k-index in
    let l : length c.turn-t.new.words ≡ 16 = search rules in
    record {
      sixteen = l;
      leads =
          to_end-more i (hash_of c.loop-k.t) (hash_of c.turn-t.result) c.loop-k.words c.turn-t.new.words h.sixteen l c.loop-k-test.true
          (row_of i c.loop-k-test.true) c.turn-t.ensures.next c.turn-t.ensures.rounds
          ∙ h.leads;
    }

pub returns : goal.returns
unfolding compressed
returns c =
    let e : c.loop-k.k-index ≡ 3 = omega arith in
    c.plus.ensures ∙ ap (added (hash_of c.args.s)) (rw e at c.loop-k.invariant.leads)
