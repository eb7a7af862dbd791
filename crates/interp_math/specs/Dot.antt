-- One step of the reduction (clause 5.3): (w1v1 + w0v0) + (w3v3 + w2v2), every product and sum rounded.
use Rattle.std.specs.Prelude.{List, ℕ, get_or, Float}
use Rattle.std.specs.Float.{nan, Format}
use Rattle.std.specs.Float.Ieee.{add, mul}

unfoldable pub dot4 : Format → List Float → List Float → Float
dot4 f w v = add f (add f (wv 1) (wv 0)) (add f (wv 3) (wv 2))
  where
    wv : ℕ → Float
    wv k = mul f (get_or w k nan) (get_or v k nan)
