-- What a line of the table says: its columns, parted by a tab (code 9), and the row that they stand for.
use Rattle.std.specs.Prelude.{◌≡◌, ℕ, List, ◌∷◌, ◌++◌, ℤ, Some, None, vec_items, codes, Option}
use Rattle.std.proofs.Math.Utf8.{encode}
use Rattle.std.specs.Option.{option_map}
use Rattle.std.specs.Str.Parse.{IsNumeral, digits_value, without_leading_plus, without_leading_sign, signed_digits_value}
use Rattle.bank.specs.Answers.{form_by}
use Rattle.bank.specs.Model.{Forms}
use Rattle.judge.specs.Claims.{Agrees}
use Rattle.judge.specs.declared.Claim.{Claim}
use Rattle.judge.specs.declared.Claim.TheVariants.{Both, Read, Write}
use Rattle.judge.specs.declared.Row.{Row}
use Rattle.vectors.specs.Hex.{HexOf}

abbrev pub SizeOf : List ℕ → ℕ → Type 0
SizeOf text n = IsNumeral 10 (without_leading_plus text) × (n ≡ digits_value 10 (without_leading_plus text))

abbrev pub BytesOf : List ℕ → Option (List ℕ) → Type 0
BytesOf text None = text ≡ codes "none"
BytesOf text (Some bs) = HexOf text bs

abbrev pub NumberOf : List ℕ → Option ℤ → Type 0
NumberOf text None = text ≡ codes "none"
NumberOf text (Some n) = IsNumeral 10 (without_leading_sign text) × (n ≡ signed_digits_value 10 text)

-- the claim that a direction makes of bytes and a number
abbrev pub ClaimOf : List ℕ → Option (List ℕ) → Option ℤ → Claim → Type 0
ClaimOf direction bytes number (Both b n) = (direction ≡ codes "both") × (bytes ≡ Some (vec_items b)) × (number ≡ Some n)
ClaimOf direction bytes number (Read b n) = (direction ≡ codes "read") × (bytes ≡ Some (vec_items b)) × (number ≡ n)
ClaimOf direction bytes number (Write b n) = (direction ≡ codes "write") × (bytes ≡ option_map vec_items b) × (number ≡ Some n)

-- the line has the columns letter, size, bytes, number, direction and a note, and they stand for the row
pub record RowOf (line : List ℕ) (row : Row) : Type 0 where
  pub letter : List ℕ
  pub size : List ℕ
  pub bytes : List ℕ
  pub number : List ℕ
  pub direction : List ℕ
  pub note : List ℕ
  pub columns : line ≡ letter ++ (9 ∷ (size ++ (9 ∷ (bytes ++ (9 ∷ (number ++ (9 ∷ (direction ++ (9 ∷ note)))))))))
  pub letter_is : letter ≡ encode row.form.letter
  pub size_is : SizeOf size row.form.size
  pub some_bytes : Option (List ℕ)
  pub bytes_are : BytesOf bytes some_bytes
  pub some_number : Option ℤ
  pub number_is : NumberOf number some_number
  pub claim_is : ClaimOf direction some_bytes some_number row.claim

-- the line is a row that agrees with the form that the bank has for its letter and size
abbrev pub Upheld : Forms → List ℕ → Type 0
Upheld forms line = (row : Row) × RowOf line row × Agrees (form_by forms row.form) row.claim
