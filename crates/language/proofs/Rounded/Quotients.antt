-- Dropping takes the quotient, and rounding the quotient of half a unit more.
use Rattle.std.proofs.Common.{◌≡◌, ℕ, zero, suc, ◌+◌, ◌*◌, ◌/◌, ◌^◌, ◌<◌, ◌≤◌, ◌⊎◌, ℤ, pos, negsuc, nat_abs, sym, refl, ap, inl, inr, ⊎_elim, suc-mul, pow-suc, div-mul-le_self, arith}
use Rattle.std.proofs.Math.Nat.{one-le-pow, lt-div-mul-add}
use Rattle.language.specs.Arithmetic.{with_sign}
use Rattle.language.specs.Rounded.{Drops, Rounds, RoundsRight}

magnitude : (n : ℤ) (m : ℕ) → nat_abs (with_sign n m) ≡ m
magnitude (pos n) m = refl
magnitude (negsuc n) zero = refl
magnitude (negsuc n) (suc m) = refl

-- what a quotient leaves is less than the divisor
quotient : (x k : ℕ) → (x / 10 ^ k * 10 ^ k ≤ x) × (x < x / 10 ^ k * 10 ^ k + 10 ^ k)
quotient x k = (div-mul-le_self x (10 ^ k), lt-div-mul-add (one-le-pow k 10 (omega arith)))

-- half a unit, twice, is a unit; where no digit is dropped the unit is 1, and its half 0
half_twice : (k : ℕ) → (10 ^ k / 2 + 10 ^ k / 2 ≡ 10 ^ k) ⊎ ((10 ^ k ≡ 1) × (10 ^ k / 2 ≡ 0))
half_twice zero = inr (refl, refl)
half_twice (suc k) = inl (let e = pow-suc 10 k in omega arith)

drops : (n : ℤ) (k : ℕ) → Drops n k
drops n k =
    let m = nat_abs n / 10 ^ k in
    let e = magnitude n m in
    let (low, high) = quotient (nat_abs n) k in
    record { sign = ap (with_sign n) (sym e); no_more = rw e low; most = rw e (omega (arith, high, suc-mul m (10 ^ k))) }

rounds : (n : ℤ) (k : ℕ) → Rounds n k
rounds n k =
    let half = 10 ^ k / 2 in
    let m = (nat_abs n + half) / 10 ^ k in
    let e = magnitude n m in
    let (low, high) = quotient (nat_abs n + half) k in
    record {
      sign = ap (with_sign n) (sym e);
      half_more = rw e (⊎_elim (λ h. omega (arith, low)) (λ h. omega (arith, low)) (half_twice k));
      less_than_half = rw e (⊎_elim (λ h. omega (arith, high)) (λ h. omega (arith, high)) (half_twice k));
    }

pub rounds_right : RoundsRight
rounds_right = record { drops = drops; rounds = rounds }
