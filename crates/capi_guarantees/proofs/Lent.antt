-- A grid that is accepted as it is lent is accepted, and its slices are long enough; so it has what its kind supplies.
use mathlib.Core.Path.{◌≡◌, refl}
use mathlib.Core.Bool.{Bool, true, false, cond}
use Prim.Native.Nat.{ℕ, ◌≤◌, min}
use lib.Dec.{ltb}
use lib.Ieee.{Format}
use borrow.Author.Tests.{ltb-false}
use Rattle.std.specs.Prelude.{Err, Ok}
use Rattle.multicubic.specs.declared.Check.TheVariants.{WrongLength, BatchLength}
use Rattle.multicubic.specs.Types.{Outcome, accepted as taken}
use Rattle.multicubic.specs.Grid.{refuse}
use Rattle.multicubic.proofs.Passed.{not-accepted, then_accepted, refuse-accepted}
use Rattle.grid.specs.Query.{Grid}
use Rattle.slices.specs.Slices.{slices_of, query_slices_of, grid_first, earlier}
use Rattle.slices.specs.Lent.{Gathered, lent, lent_to, lent_to_query}
use Rattle.slices.proofs.Lent.{whole}
use Rattle.guarantees.specs.Statements.{IsAccepted}
use Rattle.guarantees.proofs.Nodes.{Supplied}
use Rattle.guarantees.proofs.Blocks.{Counted}

earlier-accepted : (slices checked : Outcome) → earlier slices checked ≡ taken → (slices ≡ taken) × (checked ≡ taken)
earlier-accepted (Ok _) checked e = (refl, e)
earlier-accepted (Err short) (Ok _) e = absurd (not-accepted short e)
earlier-accepted (Err short) (Err own) e = absurd (go (grid_first own.check short.check) e)
  where
    go : (b : Bool) → ◌≡◌ {A = Outcome} (cond b (Err own) (Err short)) taken → ⊥
    go true e = not-accepted own e
    go false e = not-accepted short e

module _ (slices : Outcome) (g : Grid) where
  pub accepted : IsAccepted (lent slices g) → IsAccepted g
  accepted e = (earlier-accepted slices g.checked e).1

  pub lent-supplied : {f : Format} {premises : Type 0} → Supplied f premises g → Supplied f premises (lent slices g)
  lent-supplied kind = record {
    sized = λ e. let z = kind.sized (accepted e) in record { long = z.long; size = z.size };
    laws = λ e. kind.laws (accepted e);
    held = kind.held;
  }

  pub lent-counted : Counted g → Counted (lent slices g)
  lent-counted counted e = counted (accepted e)

-- as it is lent to a call without a single query: `refusal` holds a query and an axis
module _ (s : Gathered) (refusal : ℕ) where
  abbrev slices : Outcome
  slices = slices_of s.grid.axis-count s.shortest refusal

  pub accepted-to : IsAccepted (lent_to s refusal) → IsAccepted s.grid
  accepted-to = accepted slices s.grid

  pub supplied-to : {f : Format} {premises : Type 0} → Supplied f premises s.grid → Supplied f premises (lent_to s refusal)
  supplied-to = lent-supplied slices s.grid

  pub counted-to : Counted s.grid → Counted (lent_to s refusal)
  counted-to = lent-counted slices s.grid

  pub refusal-holds : IsAccepted (lent_to s refusal) → 2 ≤ refusal
  unfolding slices_of
  refusal-holds e = ltb-false refusal 2 (refuse-accepted _ BatchLength (then_accepted (refuse (ltb s.shortest s.grid.axis-count) WrongLength) _ (earlier-accepted slices s.grid.checked e).0).1)

-- to a single query: what is to be written has room, and so have the marks
module _ (s : Gathered) (query refusal room need marks : ℕ) where
  abbrev query-slices : Outcome
  query-slices = query_slices_of s.grid.axis-count s.shortest query refusal room need marks

  pub accepted-query : IsAccepted (lent_to_query s query refusal room need marks) → IsAccepted s.grid
  accepted-query = accepted query-slices s.grid

  pub supplied-to-query : {f : Format} {premises : Type 0} → Supplied f premises s.grid → Supplied f premises (lent_to_query s query refusal room need marks)
  supplied-to-query = lent-supplied query-slices s.grid

  pub counted-to-query : Counted s.grid → Counted (lent_to_query s query refusal room need marks)
  counted-to-query = lent-counted query-slices s.grid

  roomy : IsAccepted (lent_to_query s query refusal room need marks) → (refuse (ltb room need) BatchLength ≡ taken) × (refuse (ltb marks s.grid.axis-count) BatchLength ≡ taken)
  unfolding query_slices_of
  roomy e =
      then_accepted (refuse (ltb room need) BatchLength) _
      (then_accepted (slices_of s.grid.axis-count (min s.shortest query) refusal) _ (earlier-accepted query-slices s.grid.checked e).0).1

  pub has_room : IsAccepted (lent_to_query s query refusal room need marks) → need ≤ room
  has_room e = ltb-false room need (refuse-accepted _ BatchLength (roomy e).0)

  pub has-marks : IsAccepted (lent_to_query s query refusal room need marks) → s.grid.axis-count ≤ marks
  has-marks e = ltb-false marks s.grid.axis-count (refuse-accepted _ BatchLength (roomy e).1)

  -- the grid as it is lent is the grid itself
  pub whole-query : IsAccepted (lent_to_query s query refusal room need marks) → s.grid ≡ lent_to_query s query refusal room need marks
  whole-query e = whole s.grid (earlier-accepted query-slices s.grid.checked e).0
