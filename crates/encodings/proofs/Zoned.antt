-- Laws of the zoned form: a step of reading, and what it owes as a form.
use Rattle.std.proofs.Common.{◌≡◌, ℕ, suc, ◌+◌, ◌*◌, ◌/◌, ◌%◌, ◌^◌, ◌<◌, ◌≤◌, List, [], ◌∷◌, ◌++◌, length, ℤ, nat_abs, Some, None, refl, ap, ◌∙◌, arith}
use Rattle.std.specs.Int.Digits.{AllBelowBase}
use Rattle.bank.specs.Model.{LawfulForm, Bytes}
use Rattle.encodings.specs.Digits.{digits}
use Rattle.encodings.specs.Decimal.{digits_then_sign, sign_of, zoned, zoned_halves, zoned_bytes, zoned_image, zoned_value}
use Rattle.encodings.proofs.Digits.{length_digits, under_digits, number_digits}
use Rattle.encodings.proofs.Decimal.{digit_on, digit_bad, digits_on, with_sign_of, digits_size, decimal_lawful, sign_small}

halves_some : (b : ℕ) (bs : List ℕ) → 0 < length (zoned_halves (b ∷ bs))
halves_some b [] = omega arith
halves_some b (c ∷ bs) = omega arith

-- ---- reading: a byte before the last

pub zoned_on : (n b : ℕ) (bs : List ℕ) → 0 < length bs → b % 16 ≤ 9 → digits_then_sign n (zoned_halves (b ∷ bs)) ≡ digits_then_sign (n * 10 + b % 16) (zoned_halves bs)
zoned_on n b [] l h = absurd (omega arith)
zoned_on n b (c ∷ bs) l h = digit_on n (b % 16) (zoned_halves (c ∷ bs)) (halves_some c bs) h

pub zoned_bad : (n b : ℕ) (bs : List ℕ) → 9 < b % 16 → digits_then_sign n (zoned_halves (b ∷ bs)) ≡ None
zoned_bad n b [] h = digit_bad n (b % 16) (b / 16 ∷ []) (omega arith) h
zoned_bad n b (c ∷ bs) h = digit_bad n (b % 16) (zoned_halves (c ∷ bs)) (halves_some c bs) h

-- ---- what the form owes

length_halves : (bs : List ℕ) → 0 < length bs → length (zoned_halves bs) ≡ suc (length bs)
length_halves [] l = absurd (omega arith)
length_halves (b ∷ []) l = refl
length_halves (b ∷ c ∷ bs) l = ap suc (length_halves (c ∷ bs) (omega arith))

length_bytes : (s : ℕ) (ds : List ℕ) → length (zoned_bytes s ds) ≡ length ds
length_bytes s [] = refl
length_bytes s (d ∷ []) = refl
length_bytes s (d ∷ e ∷ ds) = ap suc (length_bytes s (e ∷ ds))

are_bytes : (s : ℕ) (ds : List ℕ) → s < 16 → AllBelowBase 10 ds → Bytes (zoned_bytes s ds)
are_bytes s [] h u = tt
are_bytes s (d ∷ []) h u = (omega arith, tt)
are_bytes s (d ∷ e ∷ ds) h u = (omega arith, are_bytes s (e ∷ ds) h u.1)

halves_bytes : (s : ℕ) (ds : List ℕ) → s < 16 → AllBelowBase 10 ds → 0 < length ds → zoned_halves (zoned_bytes s ds) ≡ ds ++ s ∷ []
halves_bytes s [] h u l = absurd (omega arith)
halves_bytes s (d ∷ []) h u l =
    let a : (s * 16 + d) % 16 ≡ d = omega arith in
    let b : (s * 16 + d) / 16 ≡ s = omega arith in
    cc
halves_bytes s (d ∷ e ∷ []) h u l =
    let a : (240 + d) % 16 ≡ d = omega arith in
    let r = halves_bytes s (e ∷ []) h u.1 (omega arith) in
    cc
halves_bytes s (d ∷ e ∷ f ∷ ds) h u l =
    let a : (240 + d) % 16 ≡ d = omega arith in
    let r = halves_bytes s (e ∷ f ∷ ds) h u.1 (omega arith) in
    cc

module _ (size : ℕ) (some : 1 ≤ size) (few : size ≤ 15) where
  image_back : (z : ℤ) → nat_abs z < 10 ^ size → zoned_value (zoned_image size z) ≡ Some z
  image_back z h =
      let u = under_digits 10 size (nat_abs z) (omega arith) in
      let l : 0 < length (digits 10 size (nat_abs z)) = omega (arith, length_digits 10 size (nat_abs z)) in
      let e = halves_bytes (sign_of z) (digits 10 size (nat_abs z)) (sign_small z) u l in
      let d = digits_on 0 (sign_of z) (digits 10 size (nat_abs z)) u in
      let n = number_digits 10 size (nat_abs z) (omega arith) h in
      let w = with_sign_of z in
      rw (e, d, n) w

  pub zoned_lawful : LawfulForm (zoned size)
  zoned_lawful =
      decimal_lawful size size zoned_value (zoned_image size) some few some (omega arith)
      (λ bs l. digits_size size 0 (zoned_halves bs) (length_halves bs (omega arith) ∙ ap suc l))
      (λ z. length_bytes (sign_of z) (digits 10 size (nat_abs z)) ∙ length_digits 10 size (nat_abs z))
      (λ z. are_bytes (sign_of z) (digits 10 size (nat_abs z)) (sign_small z) (under_digits 10 size (nat_abs z) (omega arith)))
      image_back
