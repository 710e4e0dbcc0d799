use Rattle.std.proofs.Common.{◌≡◌, ℕ, ◌*◌, ◌%◌, ◌^◌, List, ap, ◌∙◌, div-one}
use Rattle.digest.specs.Sha256.{absorbed, blocks, bytes_of, digest, initial, sha256}
use Rattle.digest.proofs.Written.{padded-in-parts}
use Rattle.digest.proofs.running.Sha256.finish.Goals as goal

pub returns : goal.returns
unfolding sha256
returns c so_far h =
    let e : c.to_be_bytes.result ≡ bytes_of 8 ((c.args.self.count * 8) % 2 ^ 64) = simp div-one c.to_be_bytes.ensures in
    let whole = c.update-3.ensures _ (c.update-2.ensures _ (c.update.ensures so_far h)) in
    c.to_bytes.ensures
    ∙ ap digest (whole.hash ∙ ap (λ (v : List ℕ). absorbed initial (blocks v)) (padded-in-parts so_far c.args.self.count h.count e))
