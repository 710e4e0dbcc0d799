use Rattle.std.proofs.Common.{◌≡◌, ℕ, ◌*◌, ◌/◌, List, length, take, None, Ok, sym, refl, ap, ◌∙◌, arith}
use Rattle.std.specs.Simd.{first_chunks}
use Rattle.std.proofs.lemmas.List.{length-take-le}
use Rattle.wire.specs.Leaves.{below}
use Rattle.wire.proofs.Chunks.{chunked-take}
use Rattle.wire.proofs.Tables.{blocks-read}
use Rattle.wire.proofs.quorum.read_keys.Goals as goal

pub slice_bounds-as_chunks-end : goal.slice_bounds-as_chunks-end
slice_bounds-as_chunks-end c = let r = blocks-read 32 (λ (k : List ℕ). k) below c.args.count None c.args.bytes.now _ c.in_ok-rest.ensures.read in sym (length-take-le (c.args.count * 32) c.args.bytes.now r.0)

whole : (bs body : List ℕ) (n : ℕ) → body ≡ take (n * 32) bs → length body ≡ n * 32 → first_chunks 32 (length body / 32) body ≡ first_chunks 32 n bs
whole bs body n e l =
    let many : length body / 32 ≡ n = omega arith in
    (λ i. first_chunks 32 (many i) (e i)) ∙ chunked-take 32 n bs

pub returns : goal.returns
returns c =
    let n = c.args.count in
    let bs = c.args.bytes.now in
    let r = blocks-read 32 (λ (k : List ℕ). k) below n None bs _ c.in_ok-rest.ensures.read in
    let keys = c.as_chunks.ensures.front ∙ whole bs (take (n * 32) bs) n refl (length-take-le (n * 32) bs r.0) in
    c.in_ok-rest.ensures.read ∙ ap (λ (l : List (List ℕ)). Ok (l, c.in_ok-rest.rest.now)) (r.1 ∙ sym keys)
