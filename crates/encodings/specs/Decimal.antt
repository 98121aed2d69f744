-- The decimal forms, zoned and packed: which number a string of bytes stands for, and how a number is written.
use Rattle.std.specs.Prelude.{ℕ, ◌+◌, ◌-◌, ◌*◌, ◌/◌, ◌%◌, ◌^◌, Bool, true, false, cond, ◌||◌, List, [], ◌∷◌, ◌++◌, ℤ, pos, negsuc, neg_ℤ, Some, None, Option, ◌==◌, nat_le, nat_lt, unsigned_abs}
use Rattle.std.specs.Int.Signed.{non_neg}
use Rattle.bank.specs.Model.{Form}
use Rattle.encodings.specs.Digits.{digits}

-- the two halves of a byte
abbrev pub high : ℕ → ℕ
high b = b / 16

abbrev pub low : ℕ → ℕ
low b = b % 16

-- a number by its sign half: plus for A, C, E, F, minus for B and D, none below A
abbrev pub with_sign : ℕ → ℕ → Option ℤ
with_sign s n = cond (nat_lt s 10) None (Some (cond (s == 11 || s == 13) (neg_ℤ (pos n)) (pos n)))

-- halves that are decimal digits, the highest first, and then a sign; n is the number before them
abbrev pub digits_then_sign : ℕ → List ℕ → Option ℤ
digits_then_sign n [] = None
digits_then_sign n (s ∷ []) = with_sign s n
digits_then_sign n (d ∷ h ∷ hs) = cond (nat_le d 9) (digits_then_sign (n * 10 + d) (h ∷ hs)) None

-- the sign half that is written: C for zero and above, D below
abbrev pub sign_of : ℤ → ℕ
sign_of n = cond (non_neg n) 12 13

-- a form of so many digits: below 10^size in magnitude
abbrev pub decimal : ℕ → ℕ → (List ℕ → Option ℤ) → (ℤ → List ℕ) → Form
decimal size width value image = record { width = width; low = negsuc (10 ^ size - 2); high = pos (10 ^ size - 1); value = value; image = image }

-- ---- packed: two digits a byte, the sign in the last half

abbrev pub halves : List ℕ → List ℕ
halves [] = []
halves (b ∷ bs) = high b ∷ low b ∷ halves bs

abbrev pub even : ℕ → Bool
even size = size % 2 == 0

-- with a spare half, the first, it has to be 0
abbrev pub past_spare : Bool → List ℕ → Option ℤ
past_spare false hs = digits_then_sign 0 hs
past_spare true [] = None
past_spare true (h ∷ hs) = cond (h == 0) (digits_then_sign 0 hs) None

-- with an even size the first half is spare
abbrev pub packed_value : ℕ → List ℕ → Option ℤ
packed_value size bs = past_spare (even size) (halves bs)

-- halves as bytes, two to a byte
abbrev pub joined : List ℕ → List ℕ
joined [] = []
joined (h ∷ []) = (h * 16) ∷ []
joined (h ∷ l ∷ hs) = (h * 16 + l) ∷ joined hs

abbrev pub spare : ℕ → List ℕ
spare size = cond (even size) (0 ∷ []) []

abbrev pub packed_image : ℕ → ℤ → List ℕ
packed_image size n = joined (spare size ++ digits 10 size (unsigned_abs n) ++ sign_of n ∷ [])

abbrev pub packed : ℕ → Form
packed size = decimal size (size / 2 + 1) (packed_value size) (packed_image size)

-- ---- zoned: a digit in each low half, the sign in the last byte's high half

-- the digit halves, and then the sign half; the other high halves are not looked at
abbrev pub zoned_halves : List ℕ → List ℕ
zoned_halves [] = []
zoned_halves (b ∷ []) = low b ∷ high b ∷ []
zoned_halves (b ∷ c ∷ bs) = low b ∷ zoned_halves (c ∷ bs)

abbrev pub zoned_value : List ℕ → Option ℤ
zoned_value bs = digits_then_sign 0 (zoned_halves bs)

-- digits as bytes: the sign s over the last one, F over the others
abbrev pub zoned_bytes : ℕ → List ℕ → List ℕ
zoned_bytes s [] = []
zoned_bytes s (d ∷ []) = (s * 16 + d) ∷ []
zoned_bytes s (d ∷ e ∷ ds) = (240 + d) ∷ zoned_bytes s (e ∷ ds)

abbrev pub zoned_image : ℕ → ℤ → List ℕ
zoned_image size n = zoned_bytes (sign_of n) (digits 10 size (unsigned_abs n))

abbrev pub zoned : ℕ → Form
zoned size = decimal size size zoned_value (zoned_image size)
