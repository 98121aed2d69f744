-- Digits written from the lowest on, into bytes from the last on.
use Rattle.std.proofs.Common.{◌≡◌, ℕ, zero, suc, ◌+◌, ◌/◌, ◌%◌, ◌^◌, [], ◌∷◌, ◌++◌, map, sym, ap, ◌∙◌, pow-suc, div-one, add-one}
use Rattle.std.proofs.Math.Nat.{pow-succ'}
use native.Mathlib.Nat.{div-div-eq-div-mul, pow-zero}
use Rattle.std.proofs.lemmas.List.{map-append}
use Rattle.encodings.specs.Digits.{digits}

-- the lowest digit stands last, after the digits of what is left
pub digits_last : (b k n : ℕ) → digits b (suc k) n ≡ digits b k (n / b) ++ (n % b) ∷ []
digits_last b zero n = rw (pow-zero b) (ap (λ q. (q % b) ∷ []) (div-one n))
digits_last b (suc k) n =
    let e : n / b ^ suc k ≡ n / b / b ^ k = ap (λ p. n / p) (pow-succ' b k) ∙ sym (div-div-eq-div-mul n b (b ^ k)) in
    ap (λ q. (q % b) ∷ digits b (suc k) n) e ∙ ap (λ ds. (n / b / b ^ k % b) ∷ ds) (digits_last b k n)

-- the same as the bytes of a layout
pub bytes_last : (byte : ℕ → ℕ) (b k n : ℕ) → map byte (digits b (k + 1) n) ≡ map byte (digits b k (n / b)) ++ byte (n % b) ∷ []
bytes_last byte b k n = rw (add-one k) (ap (map byte) (digits_last b k n) ∙ map-append byte (digits b k (n / b)) ((n % b) ∷ []))

-- one digit fewer to write
pub quotient_more : (b m k r : ℕ) → r ≡ m / b ^ k → r / b ≡ m / b ^ suc k
quotient_more b m k r e = ap (λ q. q / b) e ∙ div-div-eq-div-mul m (b ^ k) b ∙ ap (λ p. m / p) (sym (pow-suc b k))
