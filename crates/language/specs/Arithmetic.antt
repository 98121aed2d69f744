-- Numbers as whole units of their last place: appending zeros, dropping digits, rounding, comparing.
use Rattle.std.specs.Prelude.{ℕ, ◌+◌, ◌-◌, ◌/◌, ◌^◌, Bool, cond, ◌&&◌, ℤ, pos, ◌*ℤ◌, neg_ℤ, int_le, int_lt, nat_le, unsigned_abs}
use Rattle.std.specs.Int.Signed.{non_neg}
use Rattle.language.specs.declared.Rounding.{Rounding}
use Rattle.language.specs.declared.Rounding.TheVariants.{Dropped, Nearest}
use Rattle.language.specs.declared.Relation.{Relation}
use Rattle.language.specs.declared.Relation.TheVariants.{Less, Equal, Greater}

-- numbers are kept below 10^18 in magnitude
abbrev pub too_long : ℤ → Bool
too_long n = nat_le (10 ^ 18) (unsigned_abs n)

-- n with k zeros appended
abbrev pub padded : ℤ → ℕ → ℤ
padded n k = n *ℤ pos (10 ^ k)

-- magnitude m with the sign of n
abbrev pub with_sign : ℤ → ℕ → ℤ
with_sign n m = cond (non_neg n) (pos m) (neg_ℤ (pos m))

-- n without its last k digits: dropped toward zero, or to the nearest, halves away from zero
abbrev pub shortened : Rounding → ℤ → ℕ → ℤ
shortened Dropped n k = with_sign n (unsigned_abs n / 10 ^ k)
shortened Nearest n k = with_sign n ((unsigned_abs n + 10 ^ k / 2) / 10 ^ k)

-- n, which has `from` places, brought to `to` places
abbrev pub fitted : Rounding → ℤ → ℕ → ℕ → ℤ
fitted r n from to = cond (nat_le from to) (padded n (to - from)) (shortened r n (from - to))

abbrev pub holds : Relation → ℤ → ℤ → Bool
holds Less x y = int_lt x y
holds Equal x y = int_le x y && int_le y x
holds Greater x y = int_lt y x
