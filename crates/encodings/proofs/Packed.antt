-- Laws of the packed form: a step of reading, its image at its width, and what it owes as a form.
use Rattle.std.proofs.Common.{◌≡◌, ℕ, suc, ◌+◌, ◌-◌, ◌*◌, ◌/◌, ◌%◌, ◌^◌, ◌<◌, ◌≤◌, Bool, true, false, cond, ◌&&◌, eqb, ltb, ◌⊎◌, List, [], ◌∷◌, ◌++◌, length, get_or, ℤ, nat_abs, IfSome, Some, None, sym, refl, ap, ◌∙◌, inl, inr, arith, length-append, ltb-false, eqb-true}
use native.Mathlib.Nat.{div-div-eq-div-mul, div-eq_of_lt}
use borrow.Author.Tests.{eqb-false}
use Rattle.std.specs.Int.Digits.{AllBelowBase}
use Rattle.std.proofs.ByRecursion.{All-append, All-weaker}
use Rattle.std.proofs.lemmas.Bool.{and_parts}
use Rattle.std.proofs.lemmas.Bool.Decides.{nat_tests}
use Rattle.bank.specs.Model.{LawfulForm, Bytes}
use Rattle.encodings.specs.Digits.{digits}
use Rattle.encodings.specs.Decimal.{with_sign, digits_then_sign, sign_of, even, halves, joined, spare, packed, packed_image, packed_value, past_spare}
use Rattle.encodings.specs.Layouts.{packed_layout}
use Rattle.encodings.proofs.Digits.{length_digits, under_digits, number_digits}
use Rattle.encodings.proofs.Backward.{quotient_more}
use Rattle.encodings.proofs.Decimal.{digit_on, digit_bad, digits_on, with_sign_of, sign_small, digits_size, decimal_lawful}

-- ---- reading: the spare half, and a byte before the last

pub packed_spare : (size : ℕ) (xs : List ℕ) → 0 < length xs → (even size && ltb 0 (get_or xs 0 0 / 16)) ≡ true → packed_value size xs ≡ None
packed_spare size [] l e = absurd (omega arith)
packed_spare size (b ∷ bs) l e = let p = and_parts (even size) (ltb 0 (b / 16)) e in rw p.0 (grind (arith, nat_tests, p.1))

pub packed_start : (size : ℕ) (xs : List ℕ) → 0 < length xs → (even size && ltb 0 (get_or xs 0 0 / 16)) ≡ false → packed_value size xs ≡ digits_then_sign 0 (halves xs)
packed_start size [] l e = absurd (omega arith)
packed_start size (b ∷ bs) l e = go (even size) e
  where
    go : (t : Bool) → (t && ltb 0 (b / 16)) ≡ false → past_spare t (halves (b ∷ bs)) ≡ digits_then_sign 0 (halves (b ∷ bs))
    go true e = let z : 0 + b / 16 ≡ 0 = omega (arith, ltb-false 0 (b / 16) e) in grind (arith, nat_tests)
    go false e = refl

pub packed_on : (n b : ℕ) (bs : List ℕ) → 0 < length bs → b / 16 ≤ 9 → b % 16 ≤ 9 → digits_then_sign n (halves (b ∷ bs)) ≡ digits_then_sign (n * 100 + (b / 16 * 10 + b % 16)) (halves bs)
packed_on n b [] l h k = absurd (omega arith)
packed_on n b (c ∷ bs) l h k =
    let e : (n * 10 + b / 16) * 10 + b % 16 ≡ n * 100 + (b / 16 * 10 + b % 16) = omega arith in
    digit_on n (b / 16) (b % 16 ∷ halves (c ∷ bs)) (omega arith) h ∙ digit_on (n * 10 + b / 16) (b % 16) (halves (c ∷ bs)) (omega arith) k
    ∙ ap (λ m. digits_then_sign m (halves (c ∷ bs))) e

pub packed_bad : (n b : ℕ) (bs : List ℕ) → 0 < length bs → (9 < b / 16) ⊎ (9 < b % 16) → digits_then_sign n (halves (b ∷ bs)) ≡ None
packed_bad n b [] l h = absurd (omega arith)
packed_bad n b (c ∷ bs) l (inl h) = digit_bad n (b / 16) (b % 16 ∷ halves (c ∷ bs)) (omega arith) h
packed_bad n b (c ∷ bs) l (inr h) = grind (arith, nat_tests)

-- ---- writing

-- what is left of m with w bytes written: its next byte, and what is left after that
module _ (w m r : ℕ) (h : 0 < w) (e : r ≡ m / 10 ^ (w * 2 - 1)) where
  rest_half : r / 10 ≡ m / 10 ^ (w * 2)
  rest_half = let k : suc (w * 2 - 1) ≡ w * 2 = omega arith in quotient_more 10 m (w * 2 - 1) r e ∙ ap (λ k. m / 10 ^ k) k

  pub rest_byte : r / 10 % 10 * 16 + r % 10 ≡ m / 10 ^ (w * 2) % 10 * 16 + m / 10 ^ (w * 2 - 1) % 10
  rest_byte = cc (rest_half, e)

  pub rest_more : r / 100 ≡ m / 10 ^ (suc w * 2 - 1)
  rest_more =
      let k : suc (w * 2) ≡ suc w * 2 - 1 = omega arith in
      sym (div-div-eq-div-mul r 10 10) ∙ quotient_more 10 m (w * 2) (r / 10) rest_half ∙ ap (λ k. m / 10 ^ k) k

-- an image written as the last bytes of a number of many digits: the spare half, if any, is a digit 0
top_zero : (size n : ℕ) → n < 10 ^ size → digits 10 (suc size) n ≡ 0 ∷ digits 10 size n
top_zero size n l = ap (λ q. (q % 10) ∷ digits 10 size n) (div-eq_of_lt l)

pub image_at_width : (size : ℕ) (z : ℤ) → nat_abs z < 10 ^ size → packed_image size z ≡ packed_layout.image (sign_of z) (size / 2 + 1) (nat_abs z)
image_at_width size z h = go (even size) refl (sign_of z) (nat_abs z) h
  where
    go : (t : Bool) → even size ≡ t → (s n : ℕ) → n < 10 ^ size → joined (cond t (0 ∷ []) [] ++ digits 10 size n ++ s ∷ []) ≡ packed_layout.image s (size / 2 + 1) n
    go true e s n l =
        let c : (size / 2 + 1) * 2 - 1 ≡ suc size = omega (arith, eqb-true (size % 2) 0 e) in
        rw c (ap (λ (ds : List ℕ). joined (ds ++ s ∷ [])) (sym (top_zero size n l)))
    go false e s n l =
        let c : (size / 2 + 1) * 2 - 1 ≡ size = omega (arith, eqb-false (size % 2) 0 e) in
        rw c

-- ---- what the form owes

length_halves : (bs : List ℕ) → length (halves bs) ≡ length bs * 2
length_halves [] = refl
length_halves (b ∷ bs) = omega (arith, length_halves bs)

length_joined : (hs : List ℕ) → length hs % 2 ≡ 0 → length (joined hs) ≡ length hs / 2
length_joined [] e = refl
length_joined (h ∷ []) e = absurd (omega arith)
length_joined (h ∷ l ∷ hs) e = omega (arith, length_joined hs (omega arith))

are_bytes : (hs : List ℕ) → AllBelowBase 16 hs → Bytes (joined hs)
are_bytes [] u = tt
are_bytes (h ∷ []) u = (omega arith, tt)
are_bytes (h ∷ l ∷ hs) u = (omega arith, are_bytes hs u.1.1)

halves_joined : (hs : List ℕ) → AllBelowBase 16 hs → length hs % 2 ≡ 0 → halves (joined hs) ≡ hs
halves_joined [] u e = refl
halves_joined (h ∷ []) u e = absurd (omega arith)
halves_joined (h ∷ l ∷ hs) u e =
    let a : (h * 16 + l) / 16 ≡ h = omega arith in
    let b : (h * 16 + l) % 16 ≡ l = omega arith in
    let r = halves_joined hs u.1.1 (omega arith) in
    cc

packed_size : (size : ℕ) (bs : List ℕ) → length bs ≡ size / 2 + 1 → IfSome (packed_value size bs) (λ z. nat_abs z < (0 + 1) * 10 ^ size)
packed_size size [] l = absurd (omega arith)
packed_size size (b ∷ bs) l = go (even size) refl
  where
    spared : (u : Bool) → even size ≡ true → IfSome (cond u (digits_then_sign 0 (b % 16 ∷ halves bs)) None) (λ z. nat_abs z < (0 + 1) * 10 ^ size)
    spared true e = digits_size size 0 (b % 16 ∷ halves bs) (omega (arith, length_halves bs, eqb-true (size % 2) 0 e))
    spared false e = tt

    go : (t : Bool) → even size ≡ t → IfSome (past_spare t (halves (b ∷ bs))) (λ z. nat_abs z < (0 + 1) * 10 ^ size)
    go true e = spared (eqb (b / 16) 0) e
    go false e = digits_size size 0 (halves (b ∷ bs)) (omega (arith, length_halves bs, eqb-false (size % 2) 0 e))

module _ (size : ℕ) (some : 1 ≤ size) (few : size ≤ 15) where
  -- the halves of an image
  written : ℤ → List ℕ
  written z = spare size ++ digits 10 size (nat_abs z) ++ sign_of z ∷ []

  length_written : (z : ℤ) → length (written z) ≡ (size / 2 + 1) * 2
  unfolding written
  length_written z = go (even size) refl
    where
      go : (t : Bool) → even size ≡ t → length (cond t (0 ∷ []) [] ++ digits 10 size (nat_abs z) ++ sign_of z ∷ []) ≡ (size / 2 + 1) * 2
      go true e = simp (length-append, length_digits) (omega (arith, eqb-true (size % 2) 0 e))
      go false e = simp (length-append, length_digits) (omega (arith, eqb-false (size % 2) 0 e))

  under_written : (z : ℤ) → AllBelowBase 16 (written z)
  unfolding written
  under_written z =
      All-append (λ d. d < 16) (spare size ++ digits 10 size (nat_abs z)) (sign_of z ∷ [])
      (All-append (λ d. d < 16) (spare size) (digits 10 size (nat_abs z)) (go (even size)) (All-weaker (λ d. d < 10) (λ d. d < 16) (λ d h. omega arith) (digits 10 size (nat_abs z)) (under_digits 10 size (nat_abs z) (omega arith))))
      (sign_small z, tt)
    where
      go : (t : Bool) → AllBelowBase 16 (cond t (0 ∷ []) [])
      go true = (omega arith, tt)
      go false = tt

  image_back : (z : ℤ) → nat_abs z < 10 ^ size → packed_value size (packed_image size z) ≡ Some z
  unfolding written
  image_back z h = ap (past_spare (even size)) (halves_joined (written z) (under_written z) (omega (arith, length_written z))) ∙ go (even size)
    where
      value : digits_then_sign 0 (digits 10 size (nat_abs z) ++ sign_of z ∷ []) ≡ Some z
      value =
          digits_on 0 (sign_of z) (digits 10 size (nat_abs z)) (under_digits 10 size (nat_abs z) (omega arith))
          ∙ ap (with_sign (sign_of z)) (number_digits 10 size (nat_abs z) (omega arith) h) ∙ with_sign_of z

      go : (t : Bool) → past_spare t (cond t (0 ∷ []) [] ++ digits 10 size (nat_abs z) ++ sign_of z ∷ []) ≡ Some z
      go true = value
      go false = value

  pub packed_lawful : LawfulForm (packed size)
  unfolding written
  packed_lawful =
      decimal_lawful size (size / 2 + 1) (packed_value size) (packed_image size) some few (omega arith) (omega arith) (packed_size size)
      (λ z. length_joined (written z) (omega (arith, length_written z)) ∙ omega (arith, length_written z))
      (λ z. are_bytes (written z) (under_written z)) image_back
