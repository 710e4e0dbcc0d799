-- Paths in the code, and steps as the code takes them apart. Assumes nothing.
use Rattle.std.specs.Prelude.{ℕ, ◌<◌, ◌≤◌, cond, List, [], ◌∷◌, length, take, ◌==◌}
use Rattle.std.specs.List.{AllByRecursion}
use Rattle.model.specs.Metadata.{Steps}
use Rattle.wire.specs.Leaves.{steps_of}
use Rattle.line_reader.specs.declared.path.Path.{Path}

abbrev pub path_of : Path → Steps
path_of p = steps_of (take p.count p.steps)

-- the text before the first slash
abbrev pub step_text : List ℕ → List ℕ
step_text [] = []
step_text (b ∷ bs) = cond (b == 47) [] (b ∷ step_text bs)

-- what is left from there on
abbrev pub behind_step : List ℕ → List ℕ
behind_step [] = []
behind_step (b ∷ bs) = cond (b == 47) (b ∷ bs) (behind_step bs)

-- up to 8 steps of two bytes
abbrev pub FewSteps : Steps → Type 0
FewSteps ss = (length ss ≤ 8) × AllByRecursion (λ s. s < 65536) ss
