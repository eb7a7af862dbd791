-- The steps of the search, where c entries are below the query. Internal functions say it; no entry point's contract mentions it.
use Rattle.std.specs.Prelude.{◌≡◌, ◌⊎◌, ℕ, ◌+◌, ◌*◌, ◌≤◌, ◌<◌}

-- r tells whether place k is before c
abbrev pub Test : ℕ → ℕ → ℕ → Type 0
Test r k c = ((r ≡ 1) × (k < c)) ⊎ ((r ≡ 0) × (c ≤ k))

-- r is not past c, and c is within a quarter of r, unless r is the last
abbrev pub Forward : ℕ → ℕ → ℕ → ℕ → Type 0
Forward r lo q c = (r ≤ c) × (r ≤ lo + 3 * q) × ((c ≤ r + q) ⊎ (r ≡ lo + 3 * q))
