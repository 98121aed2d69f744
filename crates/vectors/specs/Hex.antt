-- Bytes written in hex: two large hex digits for each, and a space between one byte and the next.
use Rattle.std.specs.Prelude.{◌≡◌, ℕ, ◌+◌, ◌-◌, ◌*◌, ◌<◌, cond, ◌&&◌, List, length, Some, None, Option, nat_le, slice_index, ⊤}
use Rattle.vectors.specs.declared.fault.Fault.{Fault}
use Rattle.vectors.specs.declared.fault.Fault.TheVariants.{Malformed, Letter, Number, NoMemory}

-- 0 to 9 are the codes 48 to 57, A to F the codes 65 to 70
abbrev pub digit_value : ℕ → Option ℕ
digit_value c = cond (nat_le 48 c && nat_le c 57) (Some (c - 48)) (cond (nat_le 65 c && nat_le c 70) (Some (c - 55)) None)

abbrev pub both_digits : Option ℕ → Option ℕ → Option ℕ
both_digits None l = None
both_digits (Some h) None = None
both_digits (Some h) (Some l) = Some (16 * h + l)

abbrev pub byte_value : ℕ → ℕ → Option ℕ
byte_value high low = both_digits (digit_value high) (digit_value low)

-- the text is the hex of the bytes, of which there is at least one; 32 is the space
pub record HexOf (text bs : List ℕ) : Type 0 where
  pub long : length text + 1 ≡ 3 * length bs
  pub digits : (i : ℕ) → i < length bs → byte_value (slice_index text (3 * i)) (slice_index text (3 * i + 1)) ≡ Some (slice_index bs i)
  pub spaces : (i : ℕ) → i < length bs → 0 < i → slice_index text (3 * i - 1) ≡ 32

-- why a text gave no bytes: it is the hex of none, or there was no memory
abbrev pub HexFault : List ℕ → Fault → Type 0
HexFault text Malformed = (bs : List ℕ) → HexOf text bs → ⊥
HexFault text (NoMemory e) = ⊤
HexFault text (Letter e) = ⊥
HexFault text (Number e) = ⊥
