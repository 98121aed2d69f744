-- What the binary forms owe, at 2 and at 4 bytes.
use Rattle.std.proofs.Common.{◌≡◌, ℕ, zero, suc, ◌+◌, ◌-◌, ◌/◌, ◌%◌, ◌^◌, ◌<◌, ◌≤◌, Bool, true, false, cond, ltb, List, [], ◌∷◌, length, drop, take, ℤ, pos, negsuc, nat_abs, Some, refl, sym, ap, ◌∙◌, pow-suc, div-one, arith, ltb-false, ltb-true, le-ltb, lt-ltb}
use native.Mathlib.Nat.{pow-le-pow_right}
use Rattle.std.specs.Int.{bytes_high_first}
use Rattle.std.specs.Int.Digits.{number_from_digits}
use Rattle.std.proofs.lemmas.Int.Digits.{number_lt}
use Rattle.std.proofs.lemmas.List.{take_all}
use Rattle.std.proofs.lemmas.Int.{ints}
use Rattle.bank.specs.Model.{Within, LawfulForm, Bytes}
use Rattle.encodings.specs.Digits.{digits}
use Rattle.encodings.specs.Binary.{signed, unsigned, complement, from_complement}
use Rattle.encodings.proofs.Digits.{length_digits, under_digits, number_digits}

-- bytes of a string, read as one number
number_bytes : (k : ℕ) (bs : List ℕ) → Bytes bs → length bs ≡ k → number_from_digits 256 bs < 256 ^ k
number_bytes k bs u l = rw l at (number_lt 256 bs u)

byte_limits : (k : ℕ) → 1 ≤ k → k ≤ 6 → (256 ≤ 256 ^ k) × (256 ^ k ≤ 256 ^ 6) × (256 ^ k % 2 ≡ 0)
byte_limits zero h l = absurd (omega arith)
byte_limits (suc k) h l =
    (pow-le-pow_right {n = 256} (omega arith) {i = 1} {j = suc k} h, pow-le-pow_right {n = 256} (omega arith) l, omega (arith, pow-suc 256 k))

unsigned_back : (k : ℕ) (z : ℤ) → Within (unsigned k) z → 0 < 256 ^ k → (unsigned k).value ((unsigned k).image z) ≡ Some z
unsigned_back k (pos n) w h = ap (λ m. Some (pos m)) (number_digits 256 k n (omega arith) (omega (arith, ints, w.below)))
unsigned_back k (negsuc n) w h = absurd w.above.le

pub unsigned_lawful : (k : ℕ) → 1 ≤ k → k ≤ 6 → LawfulForm (unsigned k)
unsigned_lawful k some few =
    let lim = byte_limits k some few in
    record {
      some_bytes = some;
      few_bytes = omega arith;
      low_reach = omega (arith, ints);
      high_reach = omega (arith, ints);
      low_bound = omega (arith, ints);
      high_bound = omega (arith, ints);
      held = λ bs u l. let b = number_bytes k bs u l in record { above = omega (arith, ints); below = omega (arith, ints) };
      long = λ z w. length_digits 256 k (nat_abs z);
      bytes = λ z w. under_digits 256 k (nat_abs z) (omega arith);
      back = λ z w. unsigned_back k z w (omega arith);
    }

-- ---- two's complement, p being 256 to the width

module _ (k : ℕ) (some : 1 ≤ k) (few : k ≤ 6) where
  complement_small : (z : ℤ) → Within (signed k) z → complement k z < 256 ^ k
  complement_small (pos n) w = let lim = byte_limits k some few in omega (arith, ints, w.below)
  complement_small (negsuc n) w = let lim = byte_limits k some few in omega (arith, ints, w.above)

  from_to : (z : ℤ) → Within (signed k) z → from_complement k (complement k z) ≡ z
  from_to (pos n) w =
      let lim = byte_limits k some few in
      let e : n < 256 ^ k / 2 = omega (arith, ints, w.below) in
      rw (lt-ltb n (256 ^ k / 2) e)
  from_to (negsuc n) w =
      let lim = byte_limits k some few in
      let e : n < 256 ^ k / 2 = omega (arith, ints, w.above) in
      let b : 256 ^ k / 2 ≤ 256 ^ k - suc n = omega arith in
      let c : 256 ^ k - suc (256 ^ k - suc n) ≡ n = omega arith in
      rw (le-ltb (256 ^ k - suc n) (256 ^ k / 2) b) (ap negsuc c)

  from_held : (m : ℕ) → m < 256 ^ k → Within (signed k) (from_complement k m)
  from_held m h = go (ltb m (256 ^ k / 2)) refl
    where
      go : (t : Bool) → ltb m (256 ^ k / 2) ≡ t → Within (signed k) (cond t (pos m) (negsuc (256 ^ k - suc m)))
      go true e =
          let lim = byte_limits k some few in
          let l = ltb-true m (256 ^ k / 2) e in
          record { above = omega (arith, ints); below = omega (arith, ints) }
      go false e =
          let lim = byte_limits k some few in
          let l = ltb-false m (256 ^ k / 2) e in
          record { above = omega (arith, ints); below = omega (arith, ints) }

  pub signed_lawful : LawfulForm (signed k)
  signed_lawful =
      let lim = byte_limits k some few in
      record {
        some_bytes = some;
        few_bytes = omega arith;
        low_reach = omega (arith, ints);
        high_reach = omega (arith, ints);
        low_bound = omega (arith, ints);
        high_bound = omega (arith, ints);
        held = λ bs u l. from_held (number_from_digits 256 bs) (number_bytes k bs u l);
        long = λ z w. length_digits 256 k (complement k z);
        bytes = λ z w. under_digits 256 k (complement k z) (omega arith);
        back = λ z w. ap (λ m. Some (from_complement k m)) (number_digits 256 k (complement k z) (omega arith) (complement_small z w)) ∙ ap Some (from_to z w);
      }

-- ---- bytes as the library writes them, the highest first

pub high_first : (k n : ℕ) → bytes_high_first k n ≡ digits 256 k n
high_first zero n = refl
high_first (suc zero) n = ap (λ q. (q % 256) ∷ []) (sym (div-one n))
high_first (suc (suc k)) n = ap (λ bs. (n / 256 ^ suc k % 256) ∷ bs) (high_first (suc k) n)

pub drop_digits : (j k n : ℕ) → drop j (digits 256 (j + k) n) ≡ digits 256 k n
drop_digits zero k n = let e : 0 + k ≡ k = omega arith in ap (λ i. digits 256 i n) e
drop_digits (suc j) k n = let e : suc j + k ≡ suc (j + k) = omega arith in rw e (drop_digits j k n)

-- the last k of the 8 bytes of a number, as a slice of them
pub last_bytes : (k n : ℕ) → k ≤ 8 → take (8 - (8 - k)) (drop (8 - k) (bytes_high_first 8 n)) ≡ digits 256 k n
last_bytes k n l =
    let e : 8 ≡ 8 - k + k = omega arith in
    let d : drop (8 - k) (bytes_high_first 8 n) ≡ digits 256 k n = ap (λ i. drop (8 - k) (bytes_high_first i n)) e ∙ ap (drop (8 - k)) (high_first (8 - k + k) n) ∙ drop_digits (8 - k) k n in
    ap (take (8 - (8 - k))) d ∙ take_all (8 - (8 - k)) (digits 256 k n) (omega (arith, length_digits 256 k n))
