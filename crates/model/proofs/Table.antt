-- The worked cases, by computation. Assumes nothing.
use Rattle.std.proofs.Common.{refl}
use Rattle.model.specs.Lists.{all}
use Rattle.model.specs.Cases.{Cases}

pub cases : Cases
unfolding all
cases = (
  record { one = refl; other = refl; signed-both = refl },
  (
    record { one = refl; other = refl; signed-both = refl },
    (
      record { one = refl; other = refl; signed-both = refl },
      (
        record { one = refl; other = refl; signed-both = refl },
        (
          record { one = refl; other = refl; signed-both = refl },
          (
            record { one = refl; other = refl; signed-both = refl },
            (
              record { one = refl; other = refl; signed-both = refl },
              (
                record { one = refl; other = refl; signed-both = refl },
                (
                  record { one = refl; other = refl; signed-both = refl },
                  (
                    record { one = refl; other = refl; signed-both = refl },
                    (
                      record { one = refl; other = refl; signed-both = refl },
                      (
                        record { one = refl; other = refl; signed-both = refl },
                        (record { one = refl; other = refl; signed-both = refl }, tt),
                      ),
                    ),
                  ),
                ),
              ),
            ),
          ),
        ),
      ),
    ),
  ),
)
