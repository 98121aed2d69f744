-- The bank that comes with the reckoner: z and p at 1 to 15 digits, b and n at 2 or 4 bytes.
use Rattle.std.specs.Prelude.{ℕ, Bool, cond, ◌&&◌, ◌||◌, Some, None, Option, ◌==◌, nat_le}
use Rattle.bank.specs.Model.{Form, Forms}
use Rattle.encodings.specs.declared.Kind.{Kind}
use Rattle.encodings.specs.declared.Kind.TheVariants.{Zoned, Packed, Signed, Unsigned}
use Rattle.encodings.specs.Decimal.{zoned, packed}
use Rattle.encodings.specs.Binary.{signed, unsigned}

-- the kind for a letter's code: z is 122, p 112, b 98 and n 110
abbrev pub kind_of : ℕ → Option Kind
kind_of letter =
    cond (letter == 122) (Some Zoned)
    (cond (letter == 112) (Some Packed)
    (cond (letter == 98) (Some Signed)
    (cond (letter == 110) (Some Unsigned) None)))

-- the sizes of a kind: digits for the decimal kinds, bytes for the binary ones
abbrev pub has_size : Kind → ℕ → Bool
has_size Zoned size = nat_le 1 size && nat_le size 15
has_size Packed size = nat_le 1 size && nat_le size 15
has_size Signed size = size == 2 || size == 4
has_size Unsigned size = size == 2 || size == 4

abbrev pub form_of : Kind → ℕ → Form
form_of Zoned size = zoned size
form_of Packed size = packed size
form_of Signed size = signed size
form_of Unsigned size = unsigned size

abbrev pub at_size : Option Kind → ℕ → Option Form
at_size None size = None
at_size (Some kind) size = cond (has_size kind size) (Some (form_of kind size)) None

abbrev pub shipped : Forms
shipped letter size = at_size (kind_of letter) size
