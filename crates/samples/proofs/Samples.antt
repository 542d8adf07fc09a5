-- P1 to P13 hold: by computation, row by row, so that a wrong row is refused at its own place.
use mathlib.Core.Path.{refl}
use Rattle.samples.specs.SampleTable.{table, Holds}
use Rattle.samples.proofs.Computing.{computing}

pub samples : Holds table
unfolding computing
samples = (
  refl,  -- P1
  (
    refl,  -- P2
    (
      refl,  -- P2, S
      (
        refl,  -- P3
        (
          refl,  -- P4
          (
            refl,  -- P5
            (
              refl,  -- P6
              (
                refl,  -- P7
                (
                  refl,  -- P8
                  (
                    refl,  -- P9
                    (
                      refl,  -- P10
                      (
                        refl,  -- P11
                        (
                          refl,  -- P12
                          (
                            refl,  -- P13
                            tt,
                          ),
                        ),
                      ),
                    ),
                  ),
                ),
              ),
            ),
          ),
        ),
      ),
    ),
  ),
)
