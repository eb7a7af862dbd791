-- Clause 8.5: the places of a block.
use Rattle.std.specs.Prelude.{ℕ, zero, suc, ◌<◌, List, [], ◌∷◌}

-- one j per axis, n in all, each from 0 to 3
abbrev pub InBlock : ℕ → List ℕ → Type 0
InBlock zero [] = Unit
InBlock (suc n) (j ∷ js) = (j < 4) × InBlock n js
InBlock zero (j ∷ js) = ⊥
InBlock (suc n) [] = ⊥
