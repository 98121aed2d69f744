-- Zoned and packed are lawful layouts, and what is written by such a layout is its image.
use Rattle.std.proofs.Common.{◌≡◌, ℕ, zero, suc, ◌+◌, ◌-◌, ◌*◌, ◌/◌, ◌%◌, ◌^◌, ◌<◌, ◌≤◌, Bool, true, false, cond, ◌&&◌, leb, List, [], map, drop, set, ◌∷◌, ◌++◌, length, ℤ, nat_abs, IfSome, Some, None, sym, refl, ap, ◌∙◌, inl, inr, pow-suc, div-one, arith, leb-true, leb-false}
use native.Mathlib.Nat.{div-div-eq-div-mul}
use Rattle.std.proofs.lemmas.List.{drop-set, drop_all}
use Rattle.bank.specs.Model.{Within}
use Rattle.encodings.specs.Digits.{digits}
use Rattle.encodings.specs.Decimal.{digits_then_sign, halves, joined, zoned_halves, zoned_bytes, packed, sign_of}
use Rattle.encodings.specs.Layouts.{DigitLayout, LawfulDigitLayout, zoned_layout, packed_layout}
use Rattle.encodings.proofs.Decimal.{decimal_limits, size_in_range}
use Rattle.encodings.proofs.Zoned.{zoned_on, zoned_bad}
use Rattle.encodings.proofs.Packed.{packed_on, packed_bad, rest_byte, image_at_width}

-- an image that grows by a byte in front
by_steps : (l : DigitLayout) → ((s n : ℕ) → l.image s 1 n ≡ l.last (n % 10) s ∷ []) → ((s k n : ℕ) → l.image s (suc (suc k)) n ≡ l.byte (n / 10 / l.base ^ k % l.base) ∷ l.image s (suc k) n) → (s k n : ℕ) → l.image s (suc k) n ≡ map l.byte (digits l.base k (n / 10)) ++ l.last (n % 10) s ∷ []
by_steps l one more s zero n = one s n
by_steps l one more s (suc k) n = more s k n ∙ ap (λ bs. l.byte (n / 10 / l.base ^ k % l.base) ∷ bs) (by_steps l one more s k n)

-- ---- zoned

zoned_front : (n b : ℕ) (bs : List ℕ) → 0 < length bs → digits_then_sign n (zoned_halves (b ∷ bs)) ≡ elim (zoned_layout.digit b) [ None ↦ None | Some d ↦ digits_then_sign (n * 10 + d) (zoned_halves bs) ]
zoned_front n b bs l = go (leb (b % 16) 9) refl
  where
    go : (t : Bool) → leb (b % 16) 9 ≡ t → digits_then_sign n (zoned_halves (b ∷ bs)) ≡ elim (cond t (Some (b % 16)) None) [ None ↦ None | Some d ↦ digits_then_sign (n * 10 + d) (zoned_halves bs) ]
    go true e = zoned_on n b bs l (leb-true (b % 16) 9 e)
    go false e = zoned_bad n b bs (leb-false (b % 16) 9 e)

zoned_small : (b : ℕ) → IfSome (zoned_layout.digit b) (λ d. d < 10)
zoned_small b = go (leb (b % 16) 9) refl
  where
    go : (t : Bool) → leb (b % 16) 9 ≡ t → IfSome (cond t (Some (b % 16)) None) (λ d. d < 10)
    go true e = let h = leb-true (b % 16) 9 e in omega arith
    go false e = tt

pub zoned_laid : LawfulDigitLayout zoned_layout
zoned_laid = record {
  base_reach = omega arith;
  small = zoned_small;
  empty = refl;
  front = zoned_front;
  end = λ b. refl;
  written = by_steps zoned_layout (λ s n. ap (λ q. (s * 16 + q % 10) ∷ []) (div-one n))
      (λ s k n. ap (λ q. (240 + q % 10) ∷ zoned_bytes s (digits 10 (suc k) n)) (sym (div-div-eq-div-mul n 10 (10 ^ k) ∙ ap (λ p. n / p) (omega (arith, pow-suc 10 k)))));
}

-- ---- packed

packed_front : (n b : ℕ) (bs : List ℕ) → 0 < length bs → digits_then_sign n (halves (b ∷ bs)) ≡ elim (packed_layout.digit b) [ None ↦ None | Some d ↦ digits_then_sign (n * 100 + d) (halves bs) ]
packed_front n b bs l = go (leb (b / 16) 9) (leb (b % 16) 9) refl refl
  where
    go : (t u : Bool) → leb (b / 16) 9 ≡ t → leb (b % 16) 9 ≡ u → digits_then_sign n (halves (b ∷ bs)) ≡ elim (cond (t && u) (Some (b / 16 * 10 + b % 16)) None) [ None ↦ None | Some d ↦ digits_then_sign (n * 100 + d) (halves bs) ]
    go true true e f = packed_on n b bs l (leb-true (b / 16) 9 e) (leb-true (b % 16) 9 f)
    go true false e f = packed_bad n b bs l (inr (leb-false (b % 16) 9 f))
    go false u e f = packed_bad n b bs l (inl (leb-false (b / 16) 9 e))

packed_small : (b : ℕ) → IfSome (packed_layout.digit b) (λ d. d < 100)
packed_small b = go (leb (b / 16) 9) (leb (b % 16) 9) refl refl
  where
    go : (t u : Bool) → leb (b / 16) 9 ≡ t → leb (b % 16) 9 ≡ u → IfSome (cond (t && u) (Some (b / 16 * 10 + b % 16)) None) (λ d. d < 100)
    go true true e f =
        let h = leb-true (b / 16) 9 e in
        let k = leb-true (b % 16) 9 f in
        omega arith
    go true false e f = tt
    go false u e f = tt

hundreds : (k : ℕ) → 10 ^ (suc k * 2 - 1) ≡ 10 * 100 ^ k
hundreds zero = omega arith
hundreds (suc k) =
    let e : suc (suc k) * 2 - 1 ≡ suc (suc (suc k * 2 - 1)) = omega arith in
    rw e (omega (arith, pow-suc 10 (suc (suc k * 2 - 1)), pow-suc 10 (suc k * 2 - 1), pow-suc 100 k, hundreds k))

-- two digits of a quotient by 10 and hundreds
two_digits : (k n : ℕ) → n / 10 / 100 ^ k % 100 / 10 * 16 + n / 10 / 100 ^ k % 100 % 10 ≡ n / 10 ^ (suc k * 2) % 10 * 16 + n / 10 ^ (suc k * 2 - 1) % 10
two_digits k n =
    let low : n / 10 / 100 ^ k ≡ n / 10 ^ (suc k * 2 - 1) = div-div-eq-div-mul n 10 (100 ^ k) ∙ ap (λ p. n / p) (sym (hundreds k)) in
    omega (arith, rest_byte (suc k) n (n / 10 / 100 ^ k) (omega arith) low)

packed_more : (s k n : ℕ) → packed_layout.image s (suc (suc k)) n ≡ packed_layout.byte (n / 10 / 100 ^ k % 100) ∷ packed_layout.image s (suc k) n
packed_more s k n =
    step (suc k * 2 - 1) (suc (suc k) * 2 - 1) (suc k * 2) (omega arith) (omega arith)
    ∙ ap (λ b. b ∷ joined (digits 10 (suc k * 2 - 1) n ++ s ∷ [])) (sym (two_digits k n))
  where
    step : (j a b : ℕ) → a ≡ suc (suc j) → b ≡ suc j → joined (digits 10 a n ++ s ∷ []) ≡ (n / 10 ^ b % 10 * 16 + n / 10 ^ j % 10) ∷ joined (digits 10 j n ++ s ∷ [])
    step j a b e f = rw (e, f)

pub packed_laid : LawfulDigitLayout packed_layout
packed_laid = record {
  base_reach = omega arith;
  small = packed_small;
  empty = refl;
  front = packed_front;
  end = λ b. refl;
  written = by_steps packed_layout (λ s n. ap (λ q. (q % 10 * 16 + s) ∷ []) (div-one n)) packed_more;
}

-- ---- writing

module _ {l : DigitLayout} (laid : LawfulDigitLayout l) where
  -- the digits before the last byte, and that byte, as they are written into a string
  pub image_written : (s n y : ℕ) (xs front : List ℕ) → 0 < length xs → y ≡ l.last (n % 10) s → front ≡ map l.byte (digits l.base (length xs - 1) (n / 10)) → front ++ drop (length xs - 1) (set xs (length xs - 1) y) ≡ l.image s (length xs) n
  image_written s n y xs front some last digits_are =
      let i = length xs - 1 in
      let e : suc i ≡ length xs = omega arith in
      let end : drop i (set xs i y) ≡ l.last (n % 10) s ∷ [] = drop-set xs i y (omega arith) ∙ ap (λ ys. y ∷ ys) (drop_all (i + 1) xs (omega arith)) ∙ ap (λ x. x ∷ []) last in
      ap (λ ys. front ++ ys) end ∙ ap (λ ys. ys ++ l.last (n % 10) s ∷ []) digits_are ∙ sym (laid.written s i n) ∙ ap (λ k. l.image s k n) e

-- what is written for a number that the packed form holds is its image
pub packed_written : (size len : ℕ) (z : ℤ) → 1 ≤ size → size ≤ 15 → len ≡ size / 2 + 1 → Within (packed size) z → packed_layout.image (sign_of z) len (nat_abs z) ≡ (packed size).image z
packed_written size len z some few wide w =
    let lim = decimal_limits size some few in
    let small : nat_abs z < 10 ^ size = size_in_range (10 ^ size) z (omega arith) w.above w.below in
    ap (λ k. packed_layout.image (sign_of z) k (nat_abs z)) wide ∙ sym (image_at_width size z small)
