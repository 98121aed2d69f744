-- The binary forms: the highest byte first, and two's complement where there is a sign.
use Rattle.std.specs.Prelude.{ℕ, suc, ◌-◌, ◌/◌, ◌^◌, cond, ℤ, pos, negsuc, Some, nat_lt, unsigned_abs}
use Rattle.std.specs.Int.Digits.{number_from_digits}
use Rattle.bank.specs.Model.{Form}
use Rattle.encodings.specs.Digits.{digits}

-- a number as two's complement at k bytes, and back
abbrev pub complement : ℕ → ℤ → ℕ
complement k (pos n) = n
complement k (negsuc n) = 256 ^ k - suc n

abbrev pub from_complement : ℕ → ℕ → ℤ
from_complement k n = cond (nat_lt n (256 ^ k / 2)) (pos n) (negsuc (256 ^ k - suc n))

abbrev pub signed : ℕ → Form
signed k = record { width = k; low = negsuc (256 ^ k / 2 - 1); high = pos (256 ^ k / 2 - 1); value = λ bs. Some (from_complement k (number_from_digits 256 bs)); image = λ n. digits 256 k (complement k n) }

abbrev pub unsigned : ℕ → Form
unsigned k = record { width = k; low = pos 0; high = pos (256 ^ k - 1); value = λ bs. Some (pos (number_from_digits 256 bs)); image = λ n. digits 256 k (unsigned_abs n) }
