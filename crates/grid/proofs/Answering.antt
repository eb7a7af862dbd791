-- A query's answer in one pass over the axes: after the first few of them the rows and the index of the block's first value are those of
-- the places found so far; after the last, the reduction gives what is asked.
use mathlib.Core.Path.{◌≡◌, refl, sym, ap, ◌∙◌}
use mathlib.Core.Bool.{cond}
use mathlib.Core.List.{List, [], ◌∷◌, ◌++◌}
use Prim.Native.Nat.{ℕ, zero, suc, ◌+◌, ◌*◌, ◌≤◌, ◌<◌}
use native.Mathlib.Nat.{mul-le-mul_right, suc-mul}
use native.Mathlib.Numerals.{add-one}
use native.Mathlib.Omega.{arith}
use lib.ListN.{length, get_or, take, set, length-map, length-set}
use lib.Seq.{take-suc-set}
use lib.Ieee.{Float, nan, Format}
use borrow.Author.Tests.{eq-eqb, ne_eqb}
use Rattle.multicubic.specs.declared.LocError.{LocError}
use Rattle.multicubic.specs.declared.Refusal.{Refusal}
use Rattle.multicubic.specs.declared.Check.{Check}
use Rattle.ieee.specs.Numbers.{zero as nought}
use Rattle.multicubic.specs.Types.{Loc, Outcome, refusal}
use Rattle.std.specs.Prelude.{Err, Ok}
use Rattle.multicubic.specs.declared.Place.{Place}
use Rattle.multicubic.specs.Answers.{check_of}
use Rattle.multicubic.specs.Place.{nowhere, Placed, refused}
use Rattle.reduction.specs.Value.{strides_of, offset, shifted, block, reduce_of}
use Rattle.reduction.specs.Internal.{reach, from, Reads}
use Rattle.reduction.proofs.Reduction.{offset_last, offset-take, read_at, from_block, reaches}
use Rattle.grid.specs.declared.Quantity.{Quantity}
use Rattle.grid.specs.declared.Quantity.TheVariants.{Value, Component}
use Rattle.grid.specs.Query.{GridAxis, outcome, counts_of, Found, refused_at, places, find, origins_of, rows_of, block_of, value_of, component_at, components_from}
use Rattle.grid.specs.Batch.{query_at, found_at}
use Rattle.grid.specs.Internal.{is_component, row_at, Asked, quantity_at, answer_to, no_axis}
use Rattle.grid.proofs.Fit.{Fit, RoomTo, room-one, room_at, base_below, reached}
use Rattle.grid.proofs.Locating.{SoFar, placed_on, so-far-none, so-far-placed, so-far-refused, so-far-all, unplaced_on, length-one, map-one}

-- ---- the rows that are put: the derivative weights of the axis whose component is asked, the weights of all others
abbrev row_of : Quantity → ℕ → Placed → List Float
row_of quantity axis p = cond (is_component quantity axis) p.derivatives p.weights

abbrev rows_for : Quantity → ℕ → List Placed → List (List Float)
rows_for quantity axis [] = []
rows_for quantity axis (p ∷ ps) = row_of quantity axis p ∷ rows_for quantity (suc axis) ps

rows-length : (quantity : Quantity) (axis : ℕ) (ps : List Placed) → length (rows_for quantity axis ps) ≡ length ps
rows-length quantity axis [] = refl
rows-length quantity axis (p ∷ ps) = ap suc (rows-length quantity (suc axis) ps)

rows-one : (quantity : Quantity) (axis : ℕ) (ps : List Placed) (p : Placed) → rows_for quantity axis (ps ++ (p ∷ [])) ≡ rows_for quantity axis ps ++ (row_of quantity (axis + length ps) p ∷ [])
rows-one quantity axis [] p = let z : axis ≡ axis + 0 = omega arith in ap (λ (k : ℕ). row_of quantity k p ∷ []) z
rows-one quantity axis (q ∷ ps) p =
    let z : suc axis + length ps ≡ axis + suc (length ps) = omega arith in
    ap (λ (l : List (List Float)). row_of quantity axis q ∷ l) (rows-one quantity (suc axis) ps p ∙ ap (λ (k : ℕ). rows_for quantity (suc axis) ps ++ (row_of quantity k p ∷ [])) z)

pub rows-value : (axis : ℕ) (ps : List Placed) → rows_for Value axis ps ≡ rows_of ps
rows-value axis [] = refl
rows-value axis (p ∷ ps) = ap (λ (l : List (List Float)). p.weights ∷ l) (rows-value (suc axis) ps)

rows-past : (d axis : ℕ) (ps : List Placed) → d < axis → rows_for (Component d) axis ps ≡ rows_of ps
rows-past d axis [] h = refl
rows-past d axis (p ∷ ps) h = rw (ne_eqb axis d (λ z. omega arith)) (ap (λ (l : List (List Float)). p.weights ∷ l) (rows-past d (suc axis) ps (omega arith)))

-- past the places; nothing is said of it
abbrev pub no_placed : Placed
no_placed = record { place = nowhere; weights = []; derivatives = [] }

rows_component : (axis k : ℕ) (ps : List Placed) → k < length ps → rows_for (Component (axis + k)) axis ps ≡ set (rows_of ps) k (get_or ps k no_placed).derivatives
rows_component axis k [] h = absurd (omega arith)
rows_component axis zero (p ∷ ps) h =
    rw (eq-eqb axis (axis + 0) (omega arith)) (ap (λ (l : List (List Float)). p.derivatives ∷ l) (rows-past (axis + 0) (suc axis) ps (omega arith)))
rows_component axis (suc k) (p ∷ ps) h =
    let z : axis + suc k ≡ suc axis + k = omega arith in
    rw (ne_eqb axis (axis + suc k) (λ e. omega arith)) (ap (λ (l : List (List Float)). p.weights ∷ l) (ap (λ (d : ℕ). rows_for (Component d) (suc axis) ps) z ∙ rows_component (suc axis) k ps (omega arith)))

-- reduced, they give what is asked
module _ (f : Format) (counts : List ℕ) (vals : List Float) where
  pub component-of : (d k : ℕ) (ps later : List Placed) → k < length later → get_or (components_from f counts vals ps d later) k nought ≡ component_at f counts vals ps (d + k) (get_or later k no_placed)
  component-of d k ps [] h = absurd (omega arith)
  component-of d zero ps (p ∷ later) h = let z : d ≡ d + 0 = omega arith in ap (λ (m : ℕ). component_at f counts vals ps m p) z
  component-of d (suc k) ps (p ∷ later) h = let z : suc d + k ≡ d + suc k = omega arith in component-of (suc d) k ps later (omega arith) ∙ ap (λ (m : ℕ). component_at f counts vals ps m (get_or later k no_placed)) z

  reduced-rows : (quantity : Quantity) (ps : List Placed) → Asked (length ps) quantity → reduce_of f (rows_for quantity 0 ps) (block_of counts vals ps) ≡ quantity_at f counts vals quantity ps
  unfolding value_of component_at
  reduced-rows Value ps h = ap (λ (ws : List (List Float)). reduce_of f ws (block_of counts vals ps)) (rows-value 0 ps)
  reduced-rows (Component d) ps h =
      let z : d ≡ 0 + d = omega arith in
      ap (λ (ws : List (List Float)). reduce_of f ws (block_of counts vals ps)) (ap (λ (k : ℕ). rows_for (Component k) 0 ps) z ∙ rows_component 0 d ps h)
      ∙ ap (λ (k : ℕ). component_at f counts vals ps k (get_or ps d no_placed)) z
      ∙ sym (component-of 0 d ps ps h)

-- ---- the pass
pub record Pass (gs : List GridAxis) (query : ℕ → Float) (quantity : Quantity) (strides : List ℕ) (axis : ℕ) (rows : List (List Float)) (base : ℕ) : Type 0 where
  pub so_far : SoFar gs query axis
  pub room : RoomTo (origins_of so_far.ps) (counts_of gs)
  pub rows_four : length rows ≡ 4
  pub rows_are : take axis rows ≡ rows_for quantity 0 so_far.ps
  pub base-is : base ≡ offset (origins_of so_far.ps) strides

abbrev pub pass_none : (gs : List GridAxis) (query : ℕ → Float) (quantity : Quantity) (strides : List ℕ) (rows : List (List Float)) → length rows ≡ 4 → Pass gs query quantity strides 0 rows 0
pass_none gs query quantity strides rows e = record { so_far = so-far-none gs query; room = tt; rows_four = e; rows_are = refl; base-is = refl }

module _ {n : ℕ} {gs : List GridAxis} {values : ℕ} (fit : Fit n gs values) {query : ℕ → Float} {quantity : Quantity} {strides : List ℕ} (four : length strides ≡ 4) (spaced : take n strides ≡ strides_of (counts_of gs)) {axis : ℕ} {rows : List (List Float)} {base : ℕ} (s : Pass gs query quantity strides axis rows base) where
  abbrev os : List ℕ
  os = origins_of s.so_far.ps

  origins-many : length os ≡ axis
  origins-many = length-map s.so_far.ps (λ (p : Placed). p.place.origin) ∙ s.so_far.many

  -- the strides that the origins meet are the grid's
  strides-are : (is : List ℕ) → length is ≤ n → offset is strides ≡ offset is (strides_of (counts_of gs))
  strides-are is h = sym (offset-take is strides n h) ∙ ap (offset is) spaced

  -- one axis more
  module _ (h : axis < n) where
    inside : axis < length gs
    inside = let c = fit.counted in omega arith

    pub pass-refused : (f : Format) (vals : List Float) (i : ℕ) (check : Check) → outcome (get_or gs axis no_axis) (query axis) ≡ refused check
        → Err (refusal check i axis) ≡ answer_to f gs vals quantity i (find 0 gs query)
    pass-refused f vals i check e = ap (answer_to f gs vals quantity i) (sym (so-far-refused gs query axis s.so_far inside check e))

    module _ (p : Place) (e : Ok p ≡ (get_or gs axis no_axis).loc (query axis)) where
      abbrev more : List ℕ
      more = os ++ (p.origin ∷ [])

      room-more : RoomTo more (counts_of gs)
      room-more =
          let l : length (counts_of gs) ≡ length gs = length-map gs (λ (g : GridAxis). g.count) in
          room-one os (counts_of gs) p.origin s.room (omega (arith, origins-many, inside, l))
          (rw origins-many (room_at gs axis fit.roomy inside (query axis) p e))

      base_more : base + p.origin * get_or strides axis 0 ≡ offset more strides
      base_more =
          let few = fit.few in
          let last = offset_last os p.origin strides (omega (arith, origins-many)) in
          ap (λ (b : ℕ). b + p.origin * get_or strides axis 0) s.base-is ∙ ap (λ (k : ℕ). offset os strides + p.origin * get_or strides k 0) (sym origins-many) ∙ sym last

      -- the index stays within the values
      pub pass-small : base + p.origin * get_or strides axis 0 < values
      pass-small =
          let few : length more ≤ n = rw (length-one os p.origin) (omega (arith, origins-many)) in
          rw (base_more, strides-are more few, fit.size) (base_below more (counts_of gs) room-more fit.long)

      pub pass-turn : (row : List Float) → row ≡ row_at (get_or gs axis no_axis) (query axis) p (is_component quantity axis) → Pass gs query quantity strides (axis + 1) (set rows axis row) (base + p.origin * get_or strides axis 0)
      pass-turn row r =
          let few = fit.few in
          let q = placed_on (get_or gs axis no_axis) (query axis) p in
          let origins = map-one (λ (x : Placed). x.place.origin) s.so_far.ps q in
          let m = s.so_far.many in
          let k : axis ≡ 0 + length s.so_far.ps = omega arith in
          let here : row_of quantity axis q ≡ row_of quantity (0 + length s.so_far.ps) q = ap (λ (j : ℕ). row_of quantity j q) k in
          record {
            so_far = so-far-placed gs query axis s.so_far inside p e;
            room = rw origins room-more;
            rows_four = length-set rows axis row ∙ s.rows_four;
            rows_are = rw (add-one, take-suc-set rows axis row (let m = s.rows_four in omega arith), s.rows_are) (ap (λ (w : List Float). rows_for quantity 0 s.so_far.ps ++ (w ∷ [])) (r ∙ here) ∙ sym (rows-one quantity 0 s.so_far.ps q));
            base-is = base_more ∙ ap (λ (l : List ℕ). offset l strides) (sym origins);
          }

      -- the places so far, with this one
      pub pass-places : (row : List Float) (r : row ≡ row_at (get_or gs axis no_axis) (query axis) p (is_component quantity axis))
          → (pass-turn row r).so_far.ps ≡ s.so_far.ps ++ (placed_on (get_or gs axis no_axis) (query axis) p ∷ [])
      unfolding pass-turn
      pass-places row r = refl

  -- no axis is left
  module _ (done : axis ≡ n) where
    many : length os ≡ length (counts_of gs)
    many = origins-many ∙ done ∙ sym fit.counted ∙ sym (length-map gs (λ (g : GridAxis). g.count))

    pub pass-room : base + reach (take n strides) < values
    pass-room =
        let o : length os ≤ n = omega (arith, origins-many) in
        rw (s.base-is, strides-are os o, spaced, fit.size) (reached os (counts_of gs) s.room many)

    pub pass-value : (f : Format) (vals : List Float) (i : ℕ) (r : Float) → Asked n quantity → r ≡ reduce_of f (take n rows) (from vals strides base) → Ok r ≡ answer_to f gs vals quantity i (find 0 gs query)
    pass-value f vals i r asked e =
        let few = fit.few in
        let ps = s.so_far.ps in
        let rows-n : take n rows ≡ rows_for quantity 0 ps = ap (λ (k : ℕ). take k rows) (sym done) ∙ s.rows_are in
        let lw : length (rows_for quantity 0 ps) ≡ n = rows-length quantity 0 ps ∙ s.so_far.many ∙ done in
        let ask : Asked (length ps) quantity = rw (s.so_far.many, done) asked in
        let value : r ≡ quantity_at f (counts_of gs) vals quantity ps =
        e
        ∙ ap (λ (ws : List (List Float)). reduce_of f ws (from vals strides base)) rows-n
        ∙ from_block f vals (rows_for quantity 0 ps) strides os n base lw (origins-many ∙ done) (omega arith) s.base-is
        ∙ ap (λ (ss : List ℕ). reduce_of f (rows_for quantity 0 ps) (block vals ss os)) spaced
        ∙ reduced-rows f (counts_of gs) vals quantity ps ask in
        ap Ok value ∙ ap (answer_to f gs vals quantity i) (sym (so-far-all gs query axis s.so_far (done ∙ sym fit.counted)))

-- ---- the pass over query i of a batch: its coordinates stand in the joined columns, and are read by a running index
pub record Turn (gs : List GridAxis) (n : ℕ) (queries : List Float) (count i : ℕ) (quantity : Quantity) (strides : List ℕ) (axis at : ℕ) (rows : List (List Float)) (base : ℕ) : Type 0 where
  pub within : axis ≤ n
  pub own : i < count
  pub lent : n * count ≤ length queries
  pub asked : Asked n quantity
  pub four : length strides ≡ 4
  pub spaced : take n strides ≡ strides_of (counts_of gs)
  pub at-is : at ≡ axis * count + i
  pub pass : Pass gs (query_at count queries i) quantity strides axis rows base

module _ {n : ℕ} {gs : List GridAxis} {values : ℕ} (fit : Fit n gs values) {queries : List Float} {count i : ℕ} {quantity : Quantity} {strides : List ℕ} {axis at : ℕ} {rows : List (List Float)} {base : ℕ} (t : Turn gs n queries count i quantity strides axis at rows base) where
  -- one axis more
  module _ (h : axis < n) where
    -- its coordinate is there
    pub turn-room : (i ≤ at) × (at < length queries) × (at + count < 2 * length queries)
    turn-room =
        let own = t.own in
        let lent = t.lent in
        let e = t.at-is in
        let m : suc axis * count ≤ n * count = mul-le-mul_right count h in
        (omega arith, omega (arith, m, suc-mul axis count), omega (arith, m, suc-mul axis count))

    turn-x : get_or queries at nan ≡ query_at count queries i axis
    turn-x = ap (λ (k : ℕ). get_or queries k nan) t.at-is

    -- the same axis, as the code has it
    module _ (g : GridAxis) (same : g ≡ get_or gs axis no_axis) where
      turn-loc : (l : Loc) → l ≡ g.loc (get_or queries at nan) → l ≡ (get_or gs axis no_axis).loc (query_at count queries i axis)
      turn-loc l e = e ∙ ap (λ (k : GridAxis). k.loc (get_or queries at nan)) same ∙ ap (get_or gs axis no_axis).loc turn-x

      pub turn-refused : (f : Format) (vals : List Float) (error : LocError) → Err error ≡ g.loc (get_or queries at nan)
          → Err (refusal (check_of error) i axis) ≡ answer_to f gs vals quantity i (found_at gs count queries i)
      turn-refused f vals error e =
          pass-refused fit t.four t.spaced t.pass h f vals i _ (unplaced_on (get_or gs axis no_axis) (query_at count queries i axis) error (turn-loc (Err error) e))

      module _ (p : Place) (e : Ok p ≡ g.loc (get_or queries at nan)) where
        -- the index stays small
        pub turn_small : base + p.origin * get_or strides axis 0 < 1048576
        turn_small = let m = fit.most in let l = pass-small fit t.four t.spaced t.pass h p (turn-loc (Ok p) e) in omega arith

        pub turn-next : (row : List Float) → row ≡ row_at g (get_or queries at nan) p (is_component quantity axis) → Turn gs n queries count i quantity strides (axis + 1) (at + count) (set rows axis row) (base + p.origin * get_or strides axis 0)
        turn-next row r = record {
          within = omega arith;
          own = t.own;
          lent = t.lent;
          asked = t.asked;
          four = t.four;
          spaced = t.spaced;
          at-is = let z = t.at-is in omega (arith, suc-mul axis count, add-one axis);
          pass = pass-turn fit t.four t.spaced t.pass h p (turn-loc (Ok p) e) row
              (r ∙ ap (λ (k : GridAxis). row_at k (get_or queries at nan) p (is_component quantity axis)) same ∙ ap (λ (x : Float). row_at (get_or gs axis no_axis) x p (is_component quantity axis)) turn-x);
        }

  -- no axis is left
  module _ (l : n ≤ axis) where
    done : axis ≡ n
    done = let w = t.within in omega arith

    reached-by : (k : ℕ) → n ≡ k → base + reach (take k strides) < values
    reached-by k z = rw (← z) (pass-room fit t.four t.spaced t.pass done)

    -- clause 5.5: ps are the query's places. Where the way of the reduction ends for js stands the value at origin + j on each axis
    pub turn-read : (ps : List Placed) → found_at gs count queries i ≡ places ps → (js : List ℕ) (read : ℕ) → Reads n base strides js read
        → read ≡ offset (shifted (origins_of ps) js) (strides_of (counts_of gs))
    turn-read ps found js read r =
        let few = fit.few in
        let own = t.pass.so_far in
        let all = so-far-all gs (query_at count queries i) axis own (done ∙ sym fit.counted) in
        let same : own.ps ≡ ps = cc in
        let counted = length-map ps (λ (p : Placed). p.place.origin) ∙ ap length (sym same) ∙ own.many ∙ done in
        let base-is = t.pass.base-is ∙ ap (λ (l : List Placed). offset (origins_of l) strides) same in
        read_at n base (origins_of ps) js strides read counted (omega (arith, t.four)) base-is r ∙ ap (offset (shifted (origins_of ps) js)) t.spaced

    -- what the reductions over one to four axes ask
    abbrev pub reach_of : ℕ → ℕ
    reach_of j = 3 * get_or strides j 0

    pub turn-reach : (n ≡ 1 → base + reach_of 0 < values) × (n ≡ 2 → base + reach_of 0 + reach_of 1 < values) × (n ≡ 3 → base + reach_of 0 + reach_of 1 + reach_of 2 < values) × (n ≡ 4 → base + reach_of 0 + reach_of 1 + reach_of 2 + reach_of 3 < values)
    turn-reach =
        let r = reaches strides t.four in (
          (λ z. let m = reached-by 1 z in let e = r.0 in omega arith),
          (λ z. let m = reached-by 2 z in let e = r.1 in omega arith),
          (λ z. let m = reached-by 3 z in let e = r.2 in omega arith),
          (λ z. let m = reached-by 4 z in let e = r.3 in omega arith),
        )

    pub turn-value : (f : Format) (vals : List Float) (k : ℕ) → n ≡ k → (r : Float) → r ≡ reduce_of f (take k rows) (from vals strides base) → Ok r ≡ answer_to f gs vals quantity i (found_at gs count queries i)
    turn-value f vals k z r e = pass-value fit t.four t.spaced t.pass done f vals i r t.asked (e ∙ ap (λ (m : ℕ). reduce_of f (take m rows) (from vals strides base)) (sym z))

pub turn_none : (gs : List GridAxis) (n : ℕ) (queries : List Float) (count i : ℕ) (quantity : Quantity) (strides : List ℕ) (rows : List (List Float)) → i < count → n * count ≤ length queries → Asked n quantity → length strides ≡ 4 → take n strides ≡ strides_of (counts_of gs) → length rows ≡ 4 → Turn gs n queries count i quantity strides 0 i rows 0
turn_none gs n queries count i quantity strides rows own lent asked four spaced e = record {
  within = omega arith;
  own = own;
  lent = lent;
  asked = asked;
  four = four;
  spaced = spaced;
  at-is = omega arith;
  pass = pass_none gs (query_at count queries i) quantity strides rows e;
}

-- ---- what one query's answer tells of its places
module _ (f : Format) (gs : List GridAxis) (vals : List Float) (quantity : Quantity) (i : ℕ) where
  pub answer-refused : (r : Found) (by : Refusal) → Err by ≡ answer_to f gs vals quantity i r → (r ≡ refused_at by.check by.axis) × (by ≡ refusal by.check i by.axis)
  answer-refused (refused_at m b) by e = let z : by ≡ refusal m i b = cc in rw z (refl, refl)
  answer-refused (places ps) by e = absurd (let y : ◌≡◌ {A = ℕ} 0 1 = cc in omega arith)

  pub answer-value : (r : Found) (v : Float) → Ok v ≡ answer_to f gs vals quantity i r → (ps : List Placed) × (r ≡ places ps) × (v ≡ quantity_at f (counts_of gs) vals quantity ps)
  answer-value (refused_at m b) v e = absurd (let y : ◌≡◌ {A = ℕ} 0 1 = cc in omega arith)
  answer-value (places ps) v e = (ps, refl, cc)
