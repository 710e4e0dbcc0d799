use Rattle.std.proofs.Common.{◌≡◌, ◌+◌, ◌-◌, ◌%◌, length, ◌∙◌, rules}
use Rattle.digest.proofs.Parts.{held-short, held-full}
use Rattle.digest.proofs.running.Sha256.update.Goals as goal

pub returns-then-part-filled : goal.returns-then-part-filled
returns-then-part-filled c so_far h =
    let s = c.args.self.now in
    let part = c.args.part.now in
    let l : length s.tail ≡ 64 = search rules in
    held-short s so_far part h l (s.count % 64 + length part - s.count % 64) c.if-part-filled.true c.copy_from_slice.ensures.after

pub returns : goal.returns
returns c so_far h =
    let s = c.args.self.now in
    let l : length s.tail ≡ 64 = search rules in
    held-full s so_far c.args.part.now h l
    c.split_at.result.0.now c.split_at.result.1.now c.split_at.ensures.by_index.0 c.split_at.ensures.front_len
    c.copy_from_slice-2.ensures.after c.absorb-self.ensures
    c.as_chunks.ensures.front c.absorb-self-2.result c.absorb-self-2.ensures
    (c.copy_from_slice-3.ensures.after ∙ c.as_chunks.ensures.back) _
