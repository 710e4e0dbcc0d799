use Rattle.std.proofs.Common.{◌≡◌, [], length, ◌∙◌, arith, rules}
use Rattle.digest.specs.Sha256.{word}
use Rattle.digest.proofs.Arrays.{word_in, from_fn-is, words-in_chunks}
use Rattle.digest.proofs.block.load.Goals as goal

pub returns : goal.returns
unfolding word
returns c =
    let l : length c.args.block.now ≡ 64 = search rules in
    let n : length c.as_chunks.result.0.now ≡ 16 = c.as_chunks.ensures.front_len ∙ omega (arith, l) in
    from_fn-is _ _ word_in [] c.as_chunks.result.0.now c.from_fn.result 16 n c.from_fn.ensures.items
    (λ i y q k. (search rules, search rules))
    ∙ rw (c.as_chunks.ensures.front, l) (words-in_chunks 16 c.args.block.now)
