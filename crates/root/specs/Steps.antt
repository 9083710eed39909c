-- What the functions below `root` promise, each an equation or an order of whole numbers.
use Rattle.std.specs.Prelude.{◌≡◌, ℕ, ◌+◌, ◌*◌, ◌^◌, ◌≤◌, ◌<◌}

-- q is the whole number nearest to the root of n. The squares of the midpoints q - 1 / 2 and q + 1 / 2 are q * q - q and q * q + q, and a quarter more each.
pub record Rounds (n q : ℕ) : Type 0 where
  pub lower : q * q < n + q
  pub upper : n ≤ q * q + q

-- n is m * 2 ^ e, and m has 53 digits. The bounds of e keep every later sum within a u64.
pub record Scales (n m e : ℕ) : Type 0 where
  pub same : m * 2 ^ e ≡ n
  pub least : 2 ^ 52 ≤ m
  pub most : m < 2 ^ 53
  pub low : 52 ≤ e
  pub high : e ≤ 3200
