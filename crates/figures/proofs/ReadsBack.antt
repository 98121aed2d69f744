-- The text of a number reads back as that number.
use Rattle.std.proofs.Common.{◌≡◌, ℕ, zero, suc, ◌/◌, ◌^◌, ◌<◌, List, ◌++◌, ℤ, pos, negsuc, nat_abs, Some, None, Option, IfSome, codes, refl, ap, ◌∙◌, append-nil, div-le_self, div-one, arith, w64, SFits}
use lib.Signed.{nat_abs-le}
use Rattle.std.specs.Int.Digits.{number_from_digits, number_from_digits_after}
use Rattle.std.proofs.lemmas.Nat.{div-add-mod'}
use Rattle.std.proofs.lemmas.Int.Digits.{number_after_append}
use Rattle.encodings.specs.Digits.{digits}
use Rattle.encodings.proofs.Digits.{length_digits, under_digits, after_digits}
use Rattle.figures.specs.Line.{digit_text, magnitude_text, number_text, line_bytes}
use Rattle.figures.specs.Reading.{Reading, LineShows, minus, point}
use Rattle.figures.proofs.Decimal.{wholes, decimal_wholes, under_wholes, number_wholes, some_wholes, first_wholes}

magnitude_spelt : (k n : ℕ) → n < 2 ^ 64 → magnitude_text k n ≡ digit_text (wholes (n / 10 ^ k)) ++ (point k ++ digit_text (digits 10 k n))
magnitude_spelt zero n fits = rw (div-one, append-nil (digit_text (wholes n))) (decimal_wholes n fits)
magnitude_spelt (suc k) n fits =
    let part : n / 10 ^ suc k < 2 ^ 64 = omega (arith, div-le_self n (10 ^ suc k)) in
    ap (λ t. t ++ (point (suc k) ++ digit_text (digits 10 (suc k) n))) (decimal_wholes (n / 10 ^ suc k) part)

magnitude_given : (k n : ℕ) → number_from_digits 10 (wholes (n / 10 ^ k) ++ digits 10 k n) ≡ n
magnitude_given k n =
    number_after_append 10 0 (wholes (n / 10 ^ k)) (digits 10 k n) ∙ ap (λ q. number_from_digits_after 10 q (digits 10 k n)) (number_wholes (n / 10 ^ k)) ∙ after_digits 10 k (n / 10 ^ k) n (omega arith) ∙ div-add-mod' n (10 ^ k)

number_spelt : (k : ℕ) (z : ℤ) → nat_abs z < 2 ^ 64 → number_text k z ≡ minus z ++ (digit_text (wholes (nat_abs z / 10 ^ k)) ++ (point k ++ digit_text (digits 10 k (nat_abs z))))
number_spelt k (pos n) fits = magnitude_spelt k n fits
number_spelt k (negsuc n) fits = ap (λ t. codes "-" ++ t) (magnitude_spelt k (suc n) fits)

pub reads_back : (k : ℕ) (z : ℤ) → nat_abs z < 2 ^ 64 → Reading k z (number_text k z)
reads_back k z fits =
    let high = nat_abs z / 10 ^ k in
    record {
      whole = wholes high;
      fraction = digits 10 k (nat_abs z);
      spelt = number_spelt k z fits;
      whole_digits = under_wholes high;
      fraction_digits = under_digits 10 k (nat_abs z) (omega arith);
      gives = magnitude_given k (nat_abs z);
      all_places = length_digits 10 k (nat_abs z);
      some = some_wholes high;
      no_more = first_wholes high;
    }

pub line_shows : (field : ℕ) (row : Option ℕ) (number : Option ℤ) (places : ℕ) (bytes : List ℕ) → IfSome number (λ z. SFits w64 z) → bytes ≡ line_bytes field row number places → LineShows field row number places bytes
line_shows field row None places bytes fits e = (codes "?", e, refl)
line_shows field row (Some z) places bytes fits e = (number_text places z, e, reads_back places z (omega (arith, nat_abs-le z fits.sfits)))
