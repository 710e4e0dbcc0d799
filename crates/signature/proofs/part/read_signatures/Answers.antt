use Rattle.std.proofs.Common.{map, Ok, sym, ◌∙◌}
use Rattle.signature.specs.Views.{signature_of}
use Rattle.signature.proofs.Cutting.{part-short, part-long, chunks-whole}
use Rattle.signature.proofs.part.read_signatures.Goals as goal

pub returns-then-rest-size : goal.returns-then-rest-size
returns-then-rest-size c = part-short c.args.bytes.now c.in_ok-count.rest.now c.in_ok-count.count c.in_ok-count.ensures c.if-rest-size.true

pub returns : goal.returns
returns c =
    let items = c.as_chunks.ensures.front ∙ chunks-whole c.in_ok-count.rest.now c.split_at.result.0.now c.in_ok-count.count c.split_at.ensures.front c.split_at.ensures.front_len in
    part-long c.args.bytes.now c.in_ok-count.rest.now c.in_ok-count.count c.in_ok-count.ensures c.if-rest-size.false
    ∙ (λ i. Ok (map signature_of (sym items i), sym c.split_at.ensures.back i))
