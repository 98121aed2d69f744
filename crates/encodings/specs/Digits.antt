-- A number's digits in a base, at a fixed count: for decimal digits, and for bytes as digits of base 256.
use Rattle.std.specs.Prelude.{ℕ, zero, suc, ◌/◌, ◌%◌, ◌^◌, List, [], ◌∷◌}

-- the lowest k digits of n in base b, the highest first
abbrev pub digits : ℕ → ℕ → ℕ → List ℕ
digits b zero n = []
digits b (suc k) n = (n / b ^ k % b) ∷ digits b k n
