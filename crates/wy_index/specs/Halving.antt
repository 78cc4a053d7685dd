-- How often a number can be halved.
use Rattle.std.specs.Prelude.{ℕ, suc, ◌+◌, ◌*◌, ◌^◌, ◌<◌, ◌≤◌}

-- the greatest exponent with which a power of 2 is at most 2 n + 1
pub record IsHalvings (n exponent : ℕ) : Type 0 where
  pub within : 2 ^ exponent ≤ 2 * n + 1
  pub greatest : 2 * n + 1 < 2 ^ suc exponent
