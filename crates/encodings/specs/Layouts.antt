-- How a decimal form's digits stand in its bytes, said once for zoned and packed:
-- a byte before the last is one digit in a base, and the last byte holds a decimal digit and the sign.
use Rattle.std.specs.Prelude.{◌≡◌, ℕ, suc, ◌+◌, ◌-◌, ◌*◌, ◌/◌, ◌%◌, ◌<◌, ◌≤◌, cond, ◌&&◌, List, [], ◌∷◌, ◌++◌, length, map, IfSome, Some, None, Option, nat_le}
use Rattle.encodings.specs.Digits.{digits}
use Rattle.encodings.specs.Decimal.{high, low, digits_then_sign, halves, joined, zoned_halves, zoned_bytes}

-- the base, and the digit that a byte before the last stands for, if any, with the byte of a digit;
-- the digit half and the sign half of the last byte, and the byte of two such halves;
-- all halves of a string, the sign last; and the image at so many bytes, by sign half and magnitude
pub record DigitLayout : Type 0 where
  pub base : ℕ
  pub digit : ℕ → Option ℕ
  pub byte : ℕ → ℕ
  pub digit_half : ℕ → ℕ
  pub sign_half : ℕ → ℕ
  pub last : ℕ → ℕ → ℕ
  pub halves : List ℕ → List ℕ
  pub image : ℕ → ℕ → ℕ → List ℕ

-- what a layout owes: strings are read from the first byte on, and an image is the digits of the base before a last byte
pub record LawfulDigitLayout (l : DigitLayout) : Type 0 where
  pub base_reach : 10 ≤ l.base
  pub small : (b : ℕ) → IfSome (l.digit b) (λ d. d < l.base)
  pub empty : l.halves [] ≡ []
  pub front : (n b : ℕ) (bs : List ℕ) → 0 < length bs → digits_then_sign n (l.halves (b ∷ bs)) ≡ elim (l.digit b) [ None ↦ None | Some d ↦ digits_then_sign (n * l.base + d) (l.halves bs) ]
  pub end : (b : ℕ) → l.halves (b ∷ []) ≡ l.digit_half b ∷ l.sign_half b ∷ []
  pub written : (s k n : ℕ) → l.image s (suc k) n ≡ map l.byte (digits l.base k (n / 10)) ++ l.last (n % 10) s ∷ []

-- zoned: one digit a byte, in the low half; F over it, and over the last the sign
abbrev pub zoned_layout : DigitLayout
zoned_layout = record {
  base = 10;
  digit = λ b. cond (nat_le (low b) 9) (Some (low b)) None;
  byte = λ d. 240 + d;
  digit_half = low;
  sign_half = high;
  last = λ d s. s * 16 + d;
  halves = zoned_halves;
  image = λ s k n. zoned_bytes s (digits 10 k n);
}

-- packed: two digits a byte, and in the last byte one before the sign
abbrev pub packed_layout : DigitLayout
packed_layout = record {
  base = 100;
  digit = λ b. cond (nat_le (high b) 9 && nat_le (low b) 9) (Some (high b * 10 + low b)) None;
  byte = λ d. d / 10 * 16 + d % 10;
  digit_half = high;
  sign_half = low;
  last = λ d s. d * 16 + s;
  halves = halves;
  image = λ s k n. joined (digits 10 (k * 2 - 1) n ++ s ∷ []);
}
