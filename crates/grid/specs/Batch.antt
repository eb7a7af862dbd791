-- Section 7, batches: from the caller's buffer on, each query in turn puts its answer into what the ones before it left.
use Rattle.std.specs.Prelude.{ℕ, zero, suc, ◌+◌, ◌*◌, ◌/◌, not, ◌||◌, List, [], ◌∷◌, ltb, eqb, length, get_or, set, Float}
use Rattle.std.specs.Float.{nan, Format}
use Rattle.multicubic.specs.declared.Check.TheVariants.{BatchLength}
use Rattle.multicubic.specs.Types.{Outcome, accepted, refusal}
use Rattle.std.specs.Prelude.{Err, Ok}
use Rattle.multicubic.specs.Grid.{refuse, ◌then◌}
use Rattle.multicubic.specs.Place.{Placed}
use Rattle.grid.specs.Query.{GridAxis, Grid, Found, cases, grid_counts, find, value_of, components_of}

-- query i of c: the columns are joined, all of axis 0, then axis 1
abbrev pub query_at : ℕ → List Float → ℕ → ℕ → Float
query_at c queries i axis = get_or queries (axis * c + i) nan

-- what the axes give for query i of c
abbrev pub found_at : List GridAxis → ℕ → List Float → ℕ → Found
found_at gs c queries i = find 0 gs (query_at c queries i)

-- check 7: more than 1,048,576 queries, or a wrong buffer length
abbrev pub check_batch : ℕ → ℕ → ℕ → ℕ → ℕ → Outcome
check_batch n c queries entries buffer = refuse (ltb 1048576 c || not (eqb queries (n * c)) || not (eqb buffer entries)) BatchLength

-- the outcome of `left` queries from i on: the refusal of the lowest that is refused, at its lowest such axis
abbrev pub outcome_from : (ℕ → Found) → ℕ → ℕ → Outcome
outcome_from found i zero = accepted
outcome_from found i (suc left) = cases (found i) (λ check axis. Err (refusal check i axis)) (λ ps. outcome_from found (suc i) left)

-- the buffer after them: write puts a query's answer into it
abbrev pub run_from : (ℕ → Found) → (ℕ → List Placed → List Float → List Float) → ℕ → ℕ → List Float → List Float
run_from found write i zero buffer = buffer
run_from found write i (suc left) buffer = cases (found i) (λ check axis. buffer) (λ ps. run_from found write (suc i) left (write i ps buffer))

-- refused by a check of the grid, or by 7, nothing is written
abbrev pub buffer_of : Outcome → List Float → List Float → List Float
buffer_of (Err r) before after = before
buffer_of (Ok _) before after = after

-- `interp`: c is the value buffer's length, and query i's entry is i
abbrev pub put_value : Format → List ℕ → List Float → ℕ → List Placed → List Float → List Float
put_value f counts vals i ps buffer = set buffer i (value_of f counts vals ps)

-- `interp_grad`: c is the gradient buffer's length over the axis count, and query i's entries are at i in each column of c
abbrev pub put_columns : ℕ → ℕ → List Float → List Float → List Float
put_columns c at [] buffer = buffer
put_columns c at (x ∷ xs) buffer = put_columns c (at + c) xs (set buffer at x)

abbrev pub put_gradient : Format → List ℕ → List Float → ℕ → ℕ → List Placed → List Float → List Float
put_gradient f counts vals c i ps buffer = put_columns c i (components_of f counts vals ps) buffer

module _ (f : Format) (g : Grid) (queries buffer : List Float) where
  abbrev value_count : ℕ
  value_count = length buffer

  abbrev gradient_count : ℕ
  gradient_count = length buffer / g.axis-count

  abbrev pub value_checks : Outcome
  value_checks = g.checked then check_batch g.axis-count value_count (length queries) value_count (length buffer)

  abbrev pub gradient_checks : Outcome
  gradient_checks = g.checked then check_batch g.axis-count gradient_count (length queries) (g.axis-count * gradient_count) (length buffer)

  abbrev pub interp_outcome : Outcome
  interp_outcome = value_checks then outcome_from (found_at g.axes value_count queries) 0 value_count

  abbrev pub interp_buffer : List Float
  interp_buffer = buffer_of value_checks buffer (run_from (found_at g.axes value_count queries) (put_value f (grid_counts g) g.vals) 0 value_count buffer)

  abbrev pub grad_outcome : Outcome
  grad_outcome = gradient_checks then outcome_from (found_at g.axes gradient_count queries) 0 gradient_count

  abbrev pub grad_buffer : List Float
  grad_buffer = buffer_of gradient_checks buffer (run_from (found_at g.axes gradient_count queries) (put_gradient f (grid_counts g) g.vals gradient_count) 0 gradient_count buffer)
