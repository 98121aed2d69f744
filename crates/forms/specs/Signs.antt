-- A sign by its half byte and over a magnitude.
use Rattle.std.specs.Prelude.{◌≡◌, ℕ, ℤ, pos, neg_ℤ, Some, None, Result, MatchResult}
use Rattle.encodings.specs.Decimal.{with_sign}
use Rattle.forms.specs.declared.decimal.Sign.{Sign}
use Rattle.forms.specs.declared.decimal.Sign.TheVariants.{Plus, Minus}

-- the half that is written
abbrev pub half_of : Sign → ℕ
half_of Plus = 12
half_of Minus = 13

abbrev pub signed : Sign → ℕ → ℤ
signed Plus n = pos n
signed Minus n = neg_ℤ (pos n)

-- the half is that sign, for every magnitude, or no sign
abbrev pub SignOf : {E : Type 0} → ℕ → Result Sign E → Type 0
SignOf half r = MatchResult r (λ sign. (n : ℕ) → with_sign half n ≡ Some (signed sign n)) (λ _. (n : ℕ) → with_sign half n ≡ None)
