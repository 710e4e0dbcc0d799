-- Whether a quorum was met, if one is asked for. Assumes nothing.
use Rattle.std.specs.Prelude.{Bool, true, Some, None, Option}

abbrev pub if_asked : Option Bool → Bool
if_asked None = true
if_asked (Some met) = met
