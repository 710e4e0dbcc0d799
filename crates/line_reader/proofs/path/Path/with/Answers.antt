use Rattle.std.proofs.Common.{◌≡◌, ℕ, ◌+◌, ◌/◌, ◌%◌, ◌<◌, ◌≤◌, List, [], ◌∷◌, ◌++◌, length, take, set, refl, ap, ◌∙◌, arith}
use lib.ListN.{length-map}
use Rattle.std.proofs.lemmas.List.{map_push, take_more_set, length-take-le, take_all}
use Rattle.wire.specs.Leaves.{steps_of}
use Rattle.wire.specs.Numbers.{big_endian}
use Rattle.wire.proofs.Numbers.{two}
use Rattle.line_reader.proofs.path.Path.with.Goals as goal

long : (xs : List (List ℕ)) (n : ℕ) → length xs ≡ 8 → 8 ≤ n → length (steps_of (take n xs)) ≡ 8
long xs n l h = length-map (take n xs) big_endian ∙ ap length (take_all n xs (omega arith)) ∙ l

short : (xs : List (List ℕ)) (n : ℕ) → length xs ≡ 8 → n < 8 → length (steps_of (take n xs)) ≡ n
short xs n l h = length-map (take n xs) big_endian ∙ length-take-le n xs (omega arith)

of-bytes : (s : ℕ) (b : List ℕ) → s < 65536 → b ≡ (s / 256 % 256) ∷ (s % 256) ∷ [] → big_endian b ≡ s
of-bytes s b h e = ap big_endian e ∙ two ((s / 256 % 256) ∷ (s % 256) ∷ []) refl ∙ omega arith

more : (xs : List (List ℕ)) (n s : ℕ) (b : List ℕ) → n < length xs → big_endian b ≡ s → steps_of (take (n + 1) (set xs n b)) ≡ steps_of (take n xs) ++ (s ∷ [])
more xs n s b h e = ap steps_of (take_more_set xs n b h) ∙ map_push big_endian (take n xs) b ∙ ap (λ k. steps_of (take n xs) ++ (k ∷ [])) e

pub returns-then-self-ge8 : goal.returns-then-self-ge8
returns-then-self-ge8 c = omega (arith, long c.args.self.steps c.args.self.count (omega arith) c.if-self-ge8.true)

pub returns : goal.returns
returns c = (
  more c.args.self.steps c.args.self.count c.args.step c.to_be_bytes.result (omega (arith, c.if-self-ge8.false)) (of-bytes c.args.step c.to_be_bytes.result c.ranges.step.fits c.to_be_bytes.ensures),
  omega (arith, short c.args.self.steps c.args.self.count (omega arith) c.if-self-ge8.false, c.if-self-ge8.false),
)
