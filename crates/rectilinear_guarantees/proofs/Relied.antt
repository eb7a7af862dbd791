-- Clause 2.6, of the checks of a whole grid: those that pass leave axes that rise strictly, without a gap that is zero; and where the sizes are right,
-- such axes pass.
use mathlib.Core.Path.{◌≡◌, sym, ap, ◌∙◌, subst}
use mathlib.Core.List.{List, [], ◌∷◌}
use Prim.Native.Nat.{ℕ, zero, suc, ◌+◌, ◌≤◌, ◌<◌}
use native.Mathlib.Omega.{arith}
use lib.Dec.{T}
use lib.ListN.{length, get_or, take, drop, length-take}
use lib.Seq.{get_or-take, get_or-drop}
use lib.Ieee.{Float, nan, Format, fits}
use borrow.Author.Tests.{eqb-true, not-false}
use Rattle.std.specs.Prelude.{Some}
use Rattle.multicubic.specs.Types.{accepted}
use Rattle.multicubic.specs.Grid.{◌then◌, sum, size_checks}
use Rattle.multicubic.proofs.Passed.{Passed, accepted as passed_by, then_accepted}
use Rattle.grid.specs.Query.{at}
use Rattle.guarantees.proofs.Typing.{Typed}
use Rattle.rectilinear_order.specs.Grid.{axes_of, order_checks, Rising, GapsAbove}
use Rattle.rectilinear_order.proofs.Strict.{AllFit, rises-strictly, no-gap-zero, rising-taken}
use Rattle.rectilinear_query.specs.Grid.{checks_of}
use Rattle.rectilinear_query.proofs.Sizes.{part_length, rest-length}

-- every entry of an axis is one of the joined entries
parts_fit : (f : Format) (cs : List ℕ) (joined : List Float) → Typed f (at joined) → AllFit f (axes_of cs joined)
parts_fit f [] joined typed j h k l = absurd (omega arith)
parts_fit f (c ∷ cs) joined typed zero h k l =
    let m : k < c = omega (arith, length-take c joined) in
    subst (λ (x : Float). T (fits f x)) (sym (get_or-take c joined k nan m)) (typed k)
parts_fit f (c ∷ cs) joined typed (suc j) h k l =
    parts_fit f cs (drop c joined) (λ i. subst (λ (x : Float). T (fits f x)) (sym (get_or-drop c joined i nan)) (typed (c + i))) j (omega arith) k l

-- an axis has as many entries as its count says
parts_long : (cs : List ℕ) (joined : List Float) → length joined ≡ sum cs → ((j : ℕ) → j < length cs → 4 ≤ get_or cs j 0)
    → (j : ℕ) → j < length (axes_of cs joined) → 2 ≤ length (get_or (axes_of cs joined) j [])
parts_long [] joined e four j h = absurd (omega arith)
parts_long (c ∷ cs) joined e four zero h = omega (arith, part_length c cs joined e, four 0 (omega arith))
parts_long (c ∷ cs) joined e four (suc j) h = parts_long cs (drop c joined) (rest-length c cs joined e) (λ i l. four (suc i) (omega arith)) j (omega arith)

module _ (n : ℕ) (counts : List ℕ) (joined : List Float) (values : ℕ) where
  abbrev parts : List (List Float)
  parts = axes_of (take n counts) joined

  in_order : checks_of n counts joined values ≡ accepted → order_checks parts ≡ accepted
  in_order taken = (then_accepted (size_checks n counts values (Some (length joined))) (order_checks parts) taken).1

  pub rising : checks_of n counts joined values ≡ accepted → Rising parts
  rising taken = rises-strictly parts (in_order taken)

  pub gaps : checks_of n counts joined values ≡ accepted → (f : Format) → Typed f (at joined) → GapsAbove f parts
  gaps taken f typed = no-gap-zero parts (in_order taken) f (parts_fit f (take n counts) joined typed)

  pub taken_back : size_checks n counts values (Some (length joined)) ≡ accepted → Rising parts → checks_of n counts joined values ≡ accepted
  taken_back sizes rise =
      let p : Passed n counts values (Some (length joined)) = passed_by n counts values (Some (length joined)) sizes in
      let whole : length joined ≡ sum (take n counts) = eqb-true _ _ (not-false _ p.joined) in
      ap (λ o. o then order_checks parts) sizes ∙ rising-taken parts (parts_long (take n counts) joined whole p.long) rise
