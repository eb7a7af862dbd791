-- Clauses 5.1 and 5.3: where a value is stored, and the reduction of a block.
use Rattle.std.specs.Prelude.{ℕ, ◌+◌, ◌*◌, List, [], ◌∷◌, get_or, Float}
use Rattle.std.specs.Float.{nan, Format}
use Rattle.interp_math.specs.Dot.{dot4}
use Rattle.multicubic.specs.Grid.{product}

-- the last axis fastest: an axis's stride is the product of the counts after it
abbrev pub strides_of : List ℕ → List ℕ
strides_of [] = []
strides_of (c ∷ cs) = product cs ∷ strides_of cs

-- the sum of index × stride
abbrev pub offset : List ℕ → List ℕ → ℕ
offset [] ss = 0
offset (i ∷ is) [] = 0
offset (i ∷ is) (s ∷ ss) = i * s + offset is ss

-- the value at one index per axis
abbrev pub value_at : List Float → List ℕ → List ℕ → Float
value_at vals strides is = get_or vals (offset is strides) nan

-- origin + j on each axis
abbrev pub shifted : List ℕ → List ℕ → List ℕ
shifted [] js = []
shifted (o ∷ os) [] = []
shifted (o ∷ os) (j ∷ js) = (o + j) ∷ shifted os js

-- the value of a block at one j per axis, each from 0 to 3
abbrev pub block : List Float → List ℕ → List ℕ → List ℕ → Float
block vals strides origins js = value_at vals strides (shifted origins js)

-- what stands at 0, 1, 2 and 3 on one axis
abbrev pub four : (ℕ → Float) → List Float
four g = g 0 ∷ g 1 ∷ g 2 ∷ g 3 ∷ []

-- over axis 0 first, the last axis at the end: one row of four weights per axis, v the block
unfoldable pub reduce_of : Format → List (List Float) → (List ℕ → Float) → Float
reduce_of f [] v = v []
reduce_of f (w ∷ ws) v = reduce_of f ws (λ js. dot4 f w (four (λ j. v (j ∷ js))))
