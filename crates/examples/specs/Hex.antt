-- Bytes as the documents write them: two hex digits each, with a blank between.
use Rattle.std.specs.Prelude.{ℕ, ◌+◌, ◌-◌, ◌*◌, cond, List, [], ◌∷◌, codes, nat_le}
use Prim.Native.String.{String}

-- 0 to 9 are the codes 48 to 57, A to F the codes 65 to 70
abbrev pub hex_digit : ℕ → ℕ
hex_digit c = cond (nat_le c 57) (c - 48) (c - 55)

abbrev pub hex_bytes : List ℕ → List ℕ
hex_bytes [] = []
hex_bytes (high ∷ []) = []
hex_bytes (high ∷ low ∷ []) = (16 * hex_digit high + hex_digit low) ∷ []
hex_bytes (high ∷ low ∷ blank ∷ rest) = (16 * hex_digit high + hex_digit low) ∷ hex_bytes rest

abbrev pub hex : String → List ℕ
hex text = hex_bytes (codes text)
