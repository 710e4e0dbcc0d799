use Rattle.std.proofs.Common.{ℕ, List, refl, ap, ◌∙◌, div-one, rules}
use Rattle.std.specs.List.{flat_map}
use Rattle.std.proofs.lemmas.List.Folds.{flat_map-map}
use Rattle.digest.specs.Running.{hash_of}
use Rattle.digest.specs.Sha256.{digest, bytes_of, words_in}
use Rattle.digest.proofs.Arrays.{map-is}
use Rattle.digest.proofs.block.State.to_bytes.Goals as goal

pub returns : goal.returns
unfolding digest hash_of
returns c =
    let ws = words_in (hash_of c.args.self) in
    c.copy_from_slice.ensures.after
    ∙ c.as_flattened.ensures.value
    ∙ ap (flat_map (λ (v : List ℕ). v)) (map-is _ (bytes_of 4) ws refl c.map.ensures.items (λ p q x y k. search (rules, div-one)))
    ∙ flat_map-map (λ (v : List ℕ). v) (bytes_of 4) ws
