-- Laws of digits before a sign, for both decimal forms.
use Rattle.std.proofs.Common.{◌≡◌, ℕ, zero, suc, ◌+◌, ◌-◌, ◌*◌, ◌^◌, ◌<◌, ◌≤◌, Bool, true, false, cond, ◌||◌, eqb, ltb, leb, List, [], ◌∷◌, ◌++◌, length, ℤ, pos, negsuc, neg_ℤ, nat_abs, ◌≤ℤ◌, IfSome, Some, None, Option, refl, ◌∙◌, mul_assoc, mul_comm, one-mul, pow-suc, mul-one, arith, length-append, leb-true}
use native.Mathlib.Nat.{pow-zero, pow-le-pow_right}
use Rattle.std.specs.Int.Digits.{number_from_digits_after, AllBelowBase}
use Rattle.std.proofs.lemmas.Nat.{mul-le}
use Rattle.std.proofs.lemmas.Int.{ints}
use Rattle.std.proofs.lemmas.Option.{IfSome_then}
use Rattle.bank.specs.Model.{Within, LawfulForm, Bytes}
use Rattle.encodings.specs.Decimal.{with_sign, digits_then_sign, sign_of, decimal}

-- ---- one digit more

pub digit_on : (n d : ℕ) (hs : List ℕ) → 0 < length hs → d ≤ 9 → digits_then_sign n (d ∷ hs) ≡ digits_then_sign (n * 10 + d) hs
digit_on n d [] l h = absurd (omega arith)
digit_on n d (x ∷ hs) l h = grind arith

pub digit_bad : (n d : ℕ) (hs : List ℕ) → 0 < length hs → 9 < d → digits_then_sign n (d ∷ hs) ≡ None
digit_bad n d [] l h = absurd (omega arith)
digit_bad n d (x ∷ hs) l h = grind arith

-- ---- all digits, and then the sign

pub digits_on : (n s : ℕ) (ds : List ℕ) → AllBelowBase 10 ds → digits_then_sign n (ds ++ s ∷ []) ≡ with_sign s (number_from_digits_after 10 n ds)
digits_on n s [] u = refl
digits_on n s (d ∷ ds) u =
    let l : 0 < length (ds ++ s ∷ []) = simp length-append (omega arith) in
    digit_on n d (ds ++ s ∷ []) l (omega arith) ∙ digits_on (n * 10 + d) s ds u.1

pub with_sign_of : (z : ℤ) → with_sign (sign_of z) (nat_abs z) ≡ Some z
with_sign_of (pos n) = refl
with_sign_of (negsuc n) = refl

pub sign_small : (z : ℤ) → sign_of z < 16
sign_small (pos n) = omega arith
sign_small (negsuc n) = omega arith

-- ---- how large the number can be

signed_size : (s n : ℕ) → IfSome (with_sign s n) (λ z. nat_abs z ≡ n)
signed_size s n = go (ltb s 10) (eqb s 11 || eqb s 13) n
  where
    go : (a b : Bool) (n : ℕ) → IfSome (cond a None (Some (cond b (neg_ℤ (pos n)) (pos n)))) (λ z. nat_abs z ≡ n)
    go true b n = tt
    go false true zero = refl
    go false true (suc n) = refl
    go false false n = refl

grow : (n d p : ℕ) → d ≤ 9 → (n * 10 + d + 1) * p ≤ (n + 1) * (p * 10)
grow n d p h = omega (arith, mul-le (n * 10 + d + 1) p ((n + 1) * 10) p (omega arith) (omega arith), mul_assoc (n + 1) 10 p, mul_comm 10 p)

pub digits_size : (k n : ℕ) (hs : List ℕ) → length hs ≡ suc k → IfSome (digits_then_sign n hs) (λ z. nat_abs z < (n + 1) * 10 ^ k)
digits_size k n [] l = tt
digits_size zero n (s ∷ []) l = IfSome_then (with_sign s n) (signed_size s n) (λ z e. rw (pow-zero 10, mul-one (n + 1)) (omega arith))
digits_size (suc k) n (s ∷ []) l = absurd (omega arith)
digits_size zero n (d ∷ h ∷ hs) l = absurd (omega arith)
digits_size (suc k) n (d ∷ h ∷ hs) l = go (leb d 9) refl (digits_size k (n * 10 + d) (h ∷ hs) (omega arith))
  where
    go : (t : Bool) → leb d 9 ≡ t → IfSome (digits_then_sign (n * 10 + d) (h ∷ hs)) (λ z. nat_abs z < (n * 10 + d + 1) * 10 ^ k) → IfSome (cond t (digits_then_sign (n * 10 + d) (h ∷ hs)) None) (λ z. nat_abs z < (n + 1) * 10 ^ suc k)
    go false e b = tt
    go true e b =
        IfSome_then (digits_then_sign (n * 10 + d) (h ∷ hs)) b (λ z c. rw (pow-suc 10 k) (omega (arith, c, grow n d (10 ^ k) (leb-true d 9 e))))

-- ---- the range of a decimal form, p being 10 to its size

pub in_range : (p : ℕ) (z : ℤ) → 2 ≤ p → nat_abs z < p → (negsuc (p - 2) ≤ℤ z) × (z ≤ℤ pos (p - 1))
in_range p (pos n) h l = (omega (arith, ints), omega (arith, ints))
in_range p (negsuc n) h l = (omega (arith, ints), omega (arith, ints))

pub size_in_range : (p : ℕ) (z : ℤ) → 2 ≤ p → negsuc (p - 2) ≤ℤ z → z ≤ℤ pos (p - 1) → nat_abs z < p
size_in_range p (pos n) h a b = omega (arith, ints)
size_in_range p (negsuc n) h a b = omega (arith, ints)

pub decimal_limits : (size : ℕ) → 1 ≤ size → size ≤ 15 → (10 ≤ 10 ^ size) × (10 ^ size ≤ 10 ^ 15)
decimal_limits size h k = (pow-le-pow_right {n = 10} (omega arith) {i = 1} {j = size} h, pow-le-pow_right {n = 10} (omega arith) k)

-- what a decimal form owes: the range once, and the rest by what its strings and images are
module _ (size width : ℕ) (value : List ℕ → Option ℤ) (image : ℤ → List ℕ) (some : 1 ≤ size) (few : size ≤ 15) where
  within_size : (z : ℤ) → Within (decimal size width value image) z → nat_abs z < 10 ^ size
  within_size z w = let lim = decimal_limits size some few in size_in_range (10 ^ size) z (omega arith) w.above w.below

  size_within : (z : ℤ) → nat_abs z < (0 + 1) * 10 ^ size → Within (decimal size width value image) z
  size_within z h =
      let lim = decimal_limits size some few in
      let r = in_range (10 ^ size) z (omega arith) (rw (one-mul (10 ^ size)) at h) in
      record { above = r.0; below = r.1 }

  pub decimal_lawful : 1 ≤ width → width ≤ 16 → ((bs : List ℕ) → length bs ≡ width → IfSome (value bs) (λ z. nat_abs z < (0 + 1) * 10 ^ size)) → ((z : ℤ) → length (image z) ≡ width) → ((z : ℤ) → Bytes (image z)) → ((z : ℤ) → nat_abs z < 10 ^ size → value (image z) ≡ Some z) → LawfulForm (decimal size width value image)
  decimal_lawful wide narrow held long bytes back =
      let lim = decimal_limits size some few in
      record {
        some_bytes = wide;
        few_bytes = narrow;
        low_reach = omega (arith, ints);
        high_reach = omega (arith, ints);
        low_bound = omega (arith, ints);
        high_bound = omega (arith, ints);
        held = λ bs _ l. IfSome_then (value bs) (held bs l) size_within;
        long = λ z _. long z;
        bytes = λ z _. bytes z;
        back = λ z w. back z (within_size z w);
      }
