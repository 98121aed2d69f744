-- A number padded with zeros to k places shows its lowest k digits.
use Rattle.std.proofs.Common.{◌≡◌, ℕ, zero, suc, ◌+◌, ◌-◌, ◌*◌, ◌/◌, ◌%◌, ◌^◌, ◌<◌, ◌≢◌, List, [], ◌∷◌, ◌++◌, length, replicate, false, codes, decimal, refl, sym, ap, ◌∙◌, mod-lt, append-nil, arith, length-append}
use native.Mathlib.Nat.{one-le-pow}
use Rattle.std.specs.Fmt.{padded_integral, char_count, format_spec}
use Rattle.std.specs.Int.Digits.{AllBelowBase, number_from_digits, number_from_digits_after}
use Rattle.std.proofs.lemmas.List.{length-map, length-replicate}
use Rattle.std.proofs.Math.Nat.{mod-le, mod-eq_of_lt, sub-zero}
use Rattle.std.proofs.lemmas.Nat.{same_from_place}
use Rattle.encodings.specs.Digits.{digits}
use Rattle.encodings.proofs.Digits.{length_digits, under_digits, after_digits}
use Rattle.figures.specs.Line.{digit_text, magnitude_text}
use Rattle.figures.proofs.Decimal.{wholes, decimal_wholes, under_wholes, number_wholes, few_wholes}

pub power_positive : (k : ℕ) → 0 < 10 ^ k
power_positive k = one-le-pow k 10 (omega arith)

pub below_power : (n p : ℕ) → n < p → n % p ≡ n
below_power n p h = mod-eq_of_lt h

-- as many digits that give the same number are the same digits
same_digits : (b m n : ℕ) (xs ys : List ℕ) → AllBelowBase b xs → AllBelowBase b ys → length xs ≡ length ys → number_from_digits_after b m xs ≡ number_from_digits_after b n ys → (m ≡ n) × (xs ≡ ys)
same_digits b m n [] [] u v l e = (e, refl)
same_digits b m n [] (y ∷ ys) u v l e = absurd (omega arith)
same_digits b m n (x ∷ xs) [] u v l e = absurd (omega arith)
same_digits b m n (x ∷ xs) (y ∷ ys) u v l e =
    let (before, after) = same_digits b (m * b + x) (n * b + y) xs ys u.1 v.1 (omega arith) e in
    let (head, digit) = same_from_place m x n y b u.0 v.0 before in
    (head, cc)

abbrev zeros : ℕ → List ℕ → List ℕ
zeros j ds = replicate j 0 ++ ds

under_zeros : (j : ℕ) (ds : List ℕ) → AllBelowBase 10 ds → AllBelowBase 10 (zeros j ds)
under_zeros zero ds u = u
under_zeros (suc j) ds u = (omega arith, under_zeros j ds u)

number_zeros : (j : ℕ) (ds : List ℕ) → number_from_digits 10 (zeros j ds) ≡ number_from_digits 10 ds
number_zeros zero ds = refl
number_zeros (suc j) ds = number_zeros j ds

text_zeros : (j : ℕ) (ds : List ℕ) → digit_text (zeros j ds) ≡ replicate j 48 ++ digit_text ds
text_zeros zero ds = refl
text_zeros (suc j) ds = ap (λ t. 48 ∷ t) (text_zeros j ds)

-- zeros up to k places, and the number made of the lowest k digits
lowest_digits : (k n : ℕ) → 0 < k →
    let low = wholes (n % 10 ^ k) in
    zeros (k - length low) low ≡ digits 10 k n
lowest_digits k n some =
    let low = wholes (n % 10 ^ k) in
    let j = k - length low in
    let few = few_wholes k (n % 10 ^ k) some (mod-lt n (power_positive k)) in
    let long : length (zeros j low) ≡ length (digits 10 k n) = rw (length-append, length-replicate, length_digits) (omega arith) in
    let gives : number_from_digits 10 (zeros j low) ≡ number_from_digits 10 (digits 10 k n) = omega (arith, number_zeros j low, number_wholes (n % 10 ^ k), after_digits 10 k 0 n (omega arith)) in
    (same_digits 10 0 0 (zeros j low) (digits 10 k n) (under_zeros j low (under_wholes (n % 10 ^ k))) (under_digits 10 k n (omega arith)) long gives).1

-- what a hole writes that is padded with zeros to k places
abbrev padded : ℕ → ℕ → List ℕ
padded k n = padded_integral (format_spec 32 0 4 k (2 ^ 64 - 1)) false [] (decimal n)

padded_digits : (k n : ℕ) → 0 < k → n < 2 ^ 64 → padded k (n % 10 ^ k) ≡ digit_text (digits 10 k n)
unfolding padded_integral char_count
padded_digits k n some fits =
    let low = wholes (n % 10 ^ k) in
    let small : n % 10 ^ k < 2 ^ 64 = omega (arith, mod-le n (10 ^ k)) in
    rw (decimal_wholes (n % 10 ^ k) small, length-map, append-nil) (simp sub-zero (sym (text_zeros (k - length low) low) ∙ ap digit_text (lowest_digits k n some)))

pub magnitude_padded : (k n : ℕ) → k ≢ 0 → n < 2 ^ 64 → decimal (n / 10 ^ k) ++ (codes "." ++ padded k (n % 10 ^ k)) ≡ magnitude_text k n
magnitude_padded zero n some fits = absurd (some refl)
magnitude_padded (suc k) n some fits = ap (λ t. decimal (n / 10 ^ suc k) ++ (codes "." ++ t)) (padded_digits (suc k) n (omega arith) fits)
