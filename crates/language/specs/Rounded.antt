-- What dropping and rounding come to, in magnitudes: which whole number of units stands for n without its last k digits.
use Rattle.std.specs.Prelude.{◌≡◌, ℕ, ◌+◌, ◌*◌, ◌^◌, ◌<◌, ◌≤◌, ℤ, unsigned_abs}
use Rattle.language.specs.declared.Rounding.{Rounding}
use Rattle.language.specs.declared.Rounding.TheVariants.{Dropped, Nearest}
use Rattle.language.specs.Arithmetic.{with_sign, shortened}

-- the sign is n's, and zero has none
abbrev pub SignKept : Rounding → ℤ → ℕ → Type 0
SignKept r n k = shortened r n k ≡ with_sign n (unsigned_abs (shortened r n k))

-- dropping: the most whole units that are no more than n
pub record Drops (n : ℤ) (k : ℕ) : Type 0 where
  pub sign : SignKept Dropped n k
  pub no_more : unsigned_abs (shortened Dropped n k) * 10 ^ k ≤ unsigned_abs n
  pub most : unsigned_abs n < (unsigned_abs (shortened Dropped n k) + 1) * 10 ^ k

-- rounding: at most half a unit too much, and less than half a unit too little; so it is the nearest, halves away from zero
pub record Rounds (n : ℤ) (k : ℕ) : Type 0 where
  pub sign : SignKept Nearest n k
  pub half_more : 2 * (unsigned_abs (shortened Nearest n k) * 10 ^ k) ≤ 2 * unsigned_abs n + 10 ^ k
  pub less_than_half : 2 * unsigned_abs n < 2 * (unsigned_abs (shortened Nearest n k) * 10 ^ k) + 10 ^ k

pub record RoundsRight : Type 0 where
  pub drops : (n : ℤ) (k : ℕ) → Drops n k
  pub rounds : (n : ℤ) (k : ℕ) → Rounds n k
