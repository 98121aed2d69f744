-- Laws of a number's digits at a fixed count.
use Rattle.std.proofs.Common.{◌≡◌, ℕ, zero, suc, ◌+◌, ◌*◌, ◌/◌, ◌%◌, ◌^◌, ◌<◌, ◌≤◌, length, refl, ap, mod-lt, mod-eq_of_lt, mul_assoc, add-mul, pow-suc, mul-one, add-one, arith}
use native.Mathlib.Nat.{pow-zero, pow-succ', one-le-pow, mod-one, pow-le-pow_right}
use lib.Arith.{mod-mul, digits_lt}
use Rattle.std.specs.Int.Digits.{number_from_digits_after, number_from_digits, AllBelowBase}
use Rattle.encodings.specs.Digits.{digits}

pub length_digits : (b k n : ℕ) → length (digits b k n) ≡ k
length_digits b zero n = refl
length_digits b (suc k) n = ap suc (length_digits b k n)

pub under_digits : (b k n : ℕ) → 0 < b → AllBelowBase b (digits b k n)
under_digits b zero n h = tt
under_digits b (suc k) n h = (mod-lt (n / b ^ k) h, under_digits b k n h)

-- the digits of n after m: m moved up, and n cut to k digits
pub after_digits : (b k m n : ℕ) → 0 < b → number_from_digits_after b m (digits b k n) ≡ m * b ^ k + n % b ^ k
after_digits b zero m n h = rw (pow-zero b, mul-one m, mod-one n) (omega arith)
after_digits b (suc k) m n h =
    let p : 0 < b ^ k = one-le-pow k b h in
    let e = after_digits b k (m * b + n / b ^ k % b) n h in
    let x = mod-mul n {m = b} {c = b ^ k} h p in
    rw (pow-succ' b k) (omega (arith, e, x, add-mul (m * b) (n / b ^ k % b) (b ^ k), mul_assoc m b (b ^ k)))

pub number_digits : (b k n : ℕ) → 0 < b → n < b ^ k → number_from_digits b (digits b k n) ≡ n
number_digits b k n h l = omega (arith, after_digits b k 0 n h, mod-eq_of_lt l)

-- ---- how far a number of i digits reaches

pub digits_within : (b i k n : ℕ) → 0 < b → n < b ^ i → i ≤ k → n < b ^ k
digits_within b i k n h l m = omega (arith, pow-le-pow_right h m)

pub digits_more : (b i n d : ℕ) → n < b ^ i → d < b → n * b + d < b ^ (i + 1)
digits_more b i n d l h = rw (add-one i, pow-suc b i) (digits_lt l h)

-- k digits that fit have room for one more after i of them
pub room : (b i k n d : ℕ) → 0 < b → n < b ^ i → d < b → i + 1 ≤ k → b ^ k ≤ 10 ^ 16 → n * b + d < 2 ^ 64
room b i k n d h l m j r = omega (arith, digits_within b (i + 1) k (n * b + d) h (digits_more b i n d l m) j, r)

-- as many bytes as a zoned and a packed number have
pub zoned_room : (k : ℕ) → k ≤ 15 → 10 ^ k ≤ 10 ^ 16
zoned_room k h = pow-le-pow_right {n = 10} (omega arith) {i = k} {j = 16} (omega arith)

pub packed_room : (k : ℕ) → k ≤ 8 → 100 ^ k ≤ 10 ^ 16
packed_room k h = pow-le-pow_right {n = 100} (omega arith) h
