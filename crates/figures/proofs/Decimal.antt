-- What `decimal` writes: as few digits as do, at least one.
use Rattle.std.proofs.Common.{◌≡◌, ℕ, zero, suc, ◌^◌, ◌<◌, ◌≤◌, List, [], ◌∷◌, length, get_or, decimal, refl, arith}
use Rattle.std.specs.Int.Digits.{AllBelowBase, number_from_digits, digits_of}
use Rattle.std.proofs.lemmas.Fmt.{decimal_digit, decimal-digits_of}
use Rattle.std.proofs.lemmas.Int.Digits.{all_below_base_digits_of, first_digits_of, length-digits_of-le, length-digits_of_step, number_digits_of}
use Rattle.figures.specs.Line.{digit_text}

-- those digits
abbrev pub wholes : ℕ → List ℕ
wholes zero = 0 ∷ []
wholes (suc n) = digits_of 10 (suc n)

pub decimal_wholes : (n : ℕ) → n < 2 ^ 64 → decimal n ≡ digit_text (wholes n)
decimal_wholes zero fits = decimal_digit 0 (omega arith)
decimal_wholes (suc n) fits = decimal-digits_of (suc n) (omega arith) fits

pub under_wholes : (n : ℕ) → AllBelowBase 10 (wholes n)
under_wholes zero = (omega arith, tt)
under_wholes (suc n) = all_below_base_digits_of 10 (suc n) (omega arith)

pub number_wholes : (n : ℕ) → number_from_digits 10 (wholes n) ≡ n
number_wholes zero = refl
number_wholes (suc n) = number_digits_of 10 (suc n) (omega arith)

pub few_wholes : (k n : ℕ) → 0 < k → n < 10 ^ k → length (wholes n) ≤ k
few_wholes k zero some below = some
few_wholes k (suc n) some below = length-digits_of-le 10 k (suc n) (omega arith) below

pub some_wholes : (n : ℕ) → 0 < length (wholes n)
some_wholes zero = omega arith
some_wholes (suc n) = omega (arith, length-digits_of_step 10 (suc n) (omega arith) (omega arith))

pub first_wholes : (n : ℕ) → 1 < length (wholes n) → 0 < get_or (wholes n) 0 0
first_wholes zero h = absurd (omega arith)
first_wholes (suc n) h = first_digits_of 10 (suc n) (omega arith) (omega arith)
