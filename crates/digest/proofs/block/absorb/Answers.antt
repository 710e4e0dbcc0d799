use Rattle.std.proofs.Common.{◌+◌, [], drop, sym, ap, ◌∙◌}
use Rattle.std.proofs.lemmas.List.{at_drop_more, at_drop_all}
use Rattle.digest.specs.Running.{hash_of}
use Rattle.digest.specs.Sha256.{Hash, absorbed}
use Rattle.digest.proofs.block.absorb.Goals as goal

pub loop-block-preserved : goal.loop-block-preserved
loop-block-preserved c =
    let bs = c.args.blocks.now in
    let i = c.loop-block.block-index in
    ap (λ (v : Hash). absorbed v (drop (i + 1) bs)) c.compress-s.ensures
    ∙ sym (at_drop_more (absorbed (hash_of c.loop-block.s)) bs i [] c.loop-block-test.true)
    ∙ c.loop-block.invariant

pub returns : goal.returns
returns c =
    sym (at_drop_all (absorbed (hash_of c.loop-block.s)) c.args.blocks.now c.loop-block.block-index c.loop-block-test.false)
    ∙ c.loop-block.invariant
