-- Check 7 by the tests that decide it.
use mathlib.Core.Path.{◌≡◌, refl}
use Prim.Native.Nat.{ℕ, ◌*◌, ◌≤◌, ◌<◌}
use borrow.Author.Tests.{lt-ltb, le-ltb, eq-eqb, ne_eqb}
use Rattle.multicubic.specs.declared.Check.TheVariants.{BatchLength}
use Rattle.multicubic.specs.Types.{accepted, refusal}
use Rattle.std.specs.Prelude.{Err}
use Rattle.grid.specs.Batch.{check_batch}

module _ (n c queries entries buffer : ℕ) where
  pub over-cap : 1048576 < c → Err (refusal BatchLength 0 0) ≡ check_batch n c queries entries buffer
  over-cap h = rw (lt-ltb 1048576 c h) refl

  module _ (few : c ≤ 1048576) where
    pub other-queries : (queries ≡ n * c → ⊥) → Err (refusal BatchLength 0 0) ≡ check_batch n c queries entries buffer
    other-queries h = rw (le-ltb 1048576 c few, ne_eqb queries (n * c) h) refl

    module _ (all : queries ≡ n * c) where
      pub other-buffer : (buffer ≡ entries → ⊥) → Err (refusal BatchLength 0 0) ≡ check_batch n c queries entries buffer
      other-buffer h = rw (le-ltb 1048576 c few, eq-eqb queries (n * c) all, ne_eqb buffer entries h) refl

      pub batch-passes : buffer ≡ entries → accepted ≡ check_batch n c queries entries buffer
      batch-passes h = rw (le-ltb 1048576 c few, eq-eqb queries (n * c) all, eq-eqb buffer entries h) refl
