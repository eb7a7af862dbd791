-- Value and gradient in one pass over the axes: the pass for the value, with a second list of rows beside it, those of the derivative weights. After
-- the last axis the shared reduction gives both.
use mathlib.Core.Path.{◌≡◌, refl, sym, ap, ◌∙◌}
use mathlib.Core.List.{List, [], ◌∷◌, ◌++◌, map}
use Prim.Native.Nat.{ℕ, ◌+◌, ◌*◌, ◌≤◌, ◌<◌}
use native.Mathlib.Numerals.{add-one}
use native.Mathlib.Omega.{arith}
use lib.Dec.{lit<}
use lib.ListN.{length, get_or, take, set, length-map, length-set, get_or-map}
use lib.Seq.{take-suc-set, get_or-take}
use lib.Ieee.{Float, nan, Format}
use Rattle.ieee.specs.Numbers.{zero as nought}
use Rattle.multicubic.specs.Types.{Answer, Loc, accepted, refusal}
use Rattle.std.specs.Prelude.{Err, Ok}
use Rattle.multicubic.specs.declared.LocError.{LocError}
use Rattle.multicubic.specs.declared.Marks.{Marks}
use Rattle.multicubic.specs.declared.Place.{Place}
use Rattle.multicubic.specs.declared.Refusal.{Refusal}
use Rattle.multicubic.specs.Answers.{check_of}
use Rattle.multicubic.specs.Place.{Placed}
use Rattle.reduction.specs.Value.{strides_of, offset, shifted, block, reduce_of}
use Rattle.reduction.specs.Gradient.{component_of}
use Rattle.reduction.specs.Internal.{reach, from, Reads}
use Rattle.reduction.proofs.Reduction.{read_at, from_block}
use Rattle.grid.specs.declared.Quantity.TheVariants.{Value}
use Rattle.grid.specs.Query.{GridAxis, counts_of, places, find, origins_of, rows_of, component_at, components_of, marks_beside}
use Rattle.grid.specs.Internal.{no_axis}
use Rattle.grid.proofs.Answering.{Pass, pass_none, pass-small, pass-turn, pass-places, pass-room, pass-value, rows-value, no_placed, component-of}
use Rattle.grid.proofs.Batches.{components-length}
use Rattle.grid.proofs.Fit.{Fit}
use Rattle.grid.proofs.Locating.{placed_on, so-far-refused, so-far-all, unplaced_on, map-one}
use Rattle.shared_sums.specs.Sums.{steps_of}
use Rattle.shared_sums.specs.Internal.{Reduced, RefusedBy, BothTo}

abbrev slopes_of : List Placed → List (List Float)
slopes_of ps = map (λ (p : Placed). p.derivatives) ps

pub record Both (gs : List GridAxis) (n : ℕ) (query : ℕ → Float) (strides : List ℕ) (axis : ℕ) (rows slopes : List (List Float)) (base : ℕ) : Type 0 where
  pub within : axis ≤ n
  pub four : length strides ≡ 4
  pub spaced : take n strides ≡ strides_of (counts_of gs)
  pub pass : Pass gs query Value strides axis rows base
  pub slopes-four : length slopes ≡ 4
  pub slopes-are : take axis slopes ≡ slopes_of pass.so_far.ps

pub both-none : (gs : List GridAxis) (n : ℕ) (query : ℕ → Float) (strides : List ℕ) (rows slopes : List (List Float)) → length strides ≡ 4
    → take n strides ≡ strides_of (counts_of gs) → length rows ≡ 4 → length slopes ≡ 4 → Both gs n query strides 0 rows slopes 0
both-none gs n query strides rows slopes four spaced e h = record {
  within = omega arith;
  four = four;
  spaced = spaced;
  pass = pass_none gs query Value strides rows e;
  slopes-four = h;
  slopes-are = refl;
}

-- a list of four that begins with ys and goes on with +0
four_are : (xs ys : List Float) → length xs ≡ 4 → length ys ≤ 4 → ((d : ℕ) → d < length ys → get_or xs d nan ≡ get_or ys d nought) → ((d : ℕ) → length ys ≤ d → d < 4 → get_or xs d nan ≡ nought)
    → xs ≡ take 4 (ys ++ (nought ∷ nought ∷ nought ∷ nought ∷ []))
four_are [] ys e h own past = absurd (omega arith)
four_are (a ∷ []) ys e h own past = absurd (omega arith)
four_are (a ∷ b ∷ []) ys e h own past = absurd (omega arith)
four_are (a ∷ b ∷ c ∷ []) ys e h own past = absurd (omega arith)
four_are (a ∷ b ∷ c ∷ d ∷ x ∷ rest) ys e h own past = absurd (omega arith)
four_are (a ∷ b ∷ c ∷ d ∷ []) [] e h own past =
    let e0 = past 0 (omega arith) (lit< tt) in
    let e1 = past 1 (omega arith) (lit< tt) in
    let e2 = past 2 (omega arith) (lit< tt) in
    let e3 = past 3 (omega arith) (lit< tt) in
    cc
four_are (a ∷ b ∷ c ∷ d ∷ []) (p ∷ []) e h own past =
    let e0 = own 0 (omega arith) in
    let e1 = past 1 (omega arith) (lit< tt) in
    let e2 = past 2 (omega arith) (lit< tt) in
    let e3 = past 3 (omega arith) (lit< tt) in
    cc
four_are (a ∷ b ∷ c ∷ d ∷ []) (p ∷ q ∷ []) e h own past =
    let e0 = own 0 (omega arith) in
    let e1 = own 1 (omega arith) in
    let e2 = past 2 (omega arith) (lit< tt) in
    let e3 = past 3 (omega arith) (lit< tt) in
    cc
four_are (a ∷ b ∷ c ∷ d ∷ []) (p ∷ q ∷ r ∷ []) e h own past =
    let e0 = own 0 (omega arith) in
    let e1 = own 1 (omega arith) in
    let e2 = own 2 (omega arith) in
    let e3 = past 3 (omega arith) (lit< tt) in
    cc
four_are (a ∷ b ∷ c ∷ d ∷ []) (p ∷ q ∷ r ∷ s ∷ []) e h own past =
    let e0 = own 0 (omega arith) in
    let e1 = own 1 (omega arith) in
    let e2 = own 2 (omega arith) in
    let e3 = own 3 (omega arith) in
    cc
four_are (a ∷ b ∷ c ∷ d ∷ []) (p ∷ q ∷ r ∷ s ∷ t ∷ rest) e h own past = absurd (omega arith)

module _ {n : ℕ} {gs : List GridAxis} {values : ℕ} (fit : Fit n gs values) {query : ℕ → Float} {strides : List ℕ} {axis : ℕ} {rows slopes : List (List Float)}
    {base : ℕ} (s : Both gs n query strides axis rows slopes base) where
  -- one axis more, as the code has it
  module _ (h : axis < n) (g : GridAxis) (same : g ≡ get_or gs axis no_axis) where
    here : {l : Loc} → l ≡ g.loc (query axis) → l ≡ (get_or gs axis no_axis).loc (query axis)
    here e = e ∙ ap (λ (k : GridAxis). k.loc (query axis)) same

    pub both-refused : (f : Format) (vals : List Float) (error : LocError) → Err error ≡ g.loc (query axis)
        → {by : Refusal} {answer : Answer} {gradient : List Float} {marks : List Marks} {taken : ℕ} → by ≡ refusal (check_of error) 0 axis → RefusedBy (Err by) answer gradient marks taken
        → BothTo f n gs vals query answer gradient marks taken
    both-refused f vals error e p r =
        let inside : axis < length gs = let c = fit.counted in omega arith in
        let z = so-far-refused gs query axis s.pass.so_far inside _ (unplaced_on (get_or gs axis no_axis) (query axis) error (here e)) in
        (r.0 ∙ ap Err p ∙ rw z refl, r.1 ∙ rw z refl, r.2 ∙ rw z refl, r.3 ∙ rw z refl)

    module _ (p : Place) (e : Ok p ≡ g.loc (query axis)) where
      -- the index stays small
      pub both_small : base + p.origin * get_or strides axis 0 < 1048576
      both_small = let m = fit.most in let l = pass-small fit s.four s.spaced s.pass h p (here e) in omega arith

      pub both-turn : (row slope : List Float) → row ≡ g.weights (query axis) p → slope ≡ g.derivatives (query axis) p
          → Both gs n query strides (axis + 1) (set rows axis row) (set slopes axis slope) (base + p.origin * get_or strides axis 0)
      both-turn row slope r t =
          let few = fit.few in
          let k = s.slopes-four in
          let q = placed_on (get_or gs axis no_axis) (query axis) p in
          let own : slope ≡ q.derivatives = t ∙ ap (λ (k : GridAxis). k.derivatives (query axis) p) same in
          let weighed = r ∙ ap (λ (k : GridAxis). k.weights (query axis) p) same in
          record {
            within = omega arith;
            four = s.four;
            spaced = s.spaced;
            pass = pass-turn fit s.four s.spaced s.pass h p (here e) row weighed;
            slopes-four = length-set slopes axis slope ∙ s.slopes-four;
            slopes-are = rw (add-one, take-suc-set slopes axis slope (omega arith), s.slopes-are)
                (ap (λ (w : List Float). slopes_of s.pass.so_far.ps ++ (w ∷ [])) own ∙ sym (map-one (λ (x : Placed). x.derivatives) s.pass.so_far.ps q)
                ∙ ap slopes_of (sym (pass-places fit s.four s.spaced s.pass h p (here e) row weighed)));
          }

  -- no axis is left
  module _ (l : n ≤ axis) where
    done : axis ≡ n
    done = let w = s.within in omega arith

    pub both-room : (1 ≤ n) × (n ≤ 4) × (base + reach (take n strides) < values)
    both-room = (fit.some, fit.few, pass-room fit s.four s.spaced s.pass done)

    abbrev ps : List Placed
    ps = s.pass.so_far.ps

    all : find 0 gs query ≡ places ps
    all = so-far-all gs query axis s.pass.so_far (done ∙ sym fit.counted)

    many : length ps ≡ n
    many = s.pass.so_far.many ∙ done

    -- clause 5.5: qs are the query's places. Where the way of the reduction ends for js stands the value at origin + j on each axis
    pub both_read : (qs : List Placed) → find 0 gs query ≡ places qs → (js : List ℕ) (read : ℕ) → Reads n base strides js read
        → read ≡ offset (shifted (origins_of qs) js) (strides_of (counts_of gs))
    both_read qs found js read r =
        let few = fit.few in
        let same : ps ≡ qs = let y = all in cc in
        let counted = length-map qs (λ (p : Placed). p.place.origin) ∙ ap length (sym same) ∙ many in
        let base-is = s.pass.base-is ∙ ap (λ (l : List Placed). offset (origins_of l) strides) same in
        read_at n base (origins_of qs) js strides read counted (omega (arith, s.four)) base-is r ∙ ap (offset (shifted (origins_of qs) js)) s.spaced

    module _ (f : Format) (vals : List Float) {value : Float} {gradient : List Float} (long : length gradient ≡ 4) (reduced : Reduced f n rows slopes (from vals strides base) value gradient) where
      rows-n : take n rows ≡ rows_of ps
      rows-n = ap (λ (k : ℕ). take k rows) (sym done) ∙ s.pass.rows_are ∙ rows-value 0 ps

      slope-at : (d : ℕ) → d < n → get_or slopes d [] ≡ (get_or ps d no_placed).derivatives
      slope-at d h =
          sym (get_or-take n slopes d [] h)
          ∙ ap (λ (k : ℕ). get_or (take k slopes) d []) (sym done)
          ∙ ap (λ (w : List (List Float)). get_or w d []) s.slopes-are
          ∙ get_or-map (λ (p : Placed). p.derivatives) ps d no_placed

      component : (d : ℕ) → d < n → get_or gradient d nan ≡ get_or (components_of f (counts_of gs) vals ps) d nought
      unfolding component_at
      component d h =
          let few = fit.few in
          let z : 0 + d ≡ d = omega arith in
          let os = origins_of ps in
          let row = (get_or ps d no_placed).derivatives in
          let lw : length (set (rows_of ps) d row) ≡ n = length-set (rows_of ps) d row ∙ length-map ps (λ (p : Placed). p.weights) ∙ many in
          let lo : length os ≡ n = length-map ps (λ (p : Placed). p.place.origin) ∙ many in
          reduced.component-is d h
          ∙ ap (λ (ws : List (List Float)). component_of f ws d (get_or slopes d []) (from vals strides base)) rows-n
          ∙ ap (λ (r : List Float). component_of f (rows_of ps) d r (from vals strides base)) (slope-at d h)
          ∙ from_block f vals (set (rows_of ps) d row) strides os n base lw lo (omega (arith, s.four)) s.pass.base-is
          ∙ ap (λ (ss : List ℕ). reduce_of f (set (rows_of ps) d row) (block vals ss os)) s.spaced
          ∙ ap (λ (k : ℕ). component_at f (counts_of gs) vals ps k (get_or ps d no_placed)) (sym z)
          ∙ sym (component-of f (counts_of gs) vals 0 d ps ps (omega (arith, many)))

      pub both-done : {marks : List Marks} {taken : ℕ} → marks ≡ marks_beside accepted gs query → taken ≡ steps_of n → BothTo f n gs vals query (Ok value) gradient marks taken
      both-done m t =
          let few = fit.few in
          let cl : length (components_of f (counts_of gs) vals ps) ≡ n = components-length f (counts_of gs) vals ps 0 ps ∙ many in
          let g = four_are gradient (components_of f (counts_of gs) vals ps) long (omega arith) (λ d h. component d (omega arith)) (λ d h k. reduced.past d (omega arith) k) in
          (pass-value fit s.four s.spaced s.pass done f vals 0 value tt reduced.value-is, g ∙ rw all refl, m ∙ rw all refl, t ∙ rw all refl)
