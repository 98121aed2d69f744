-- Worked examples of the number forms, as the shipped bank reads and writes them. A letter stands by its code: b 98, p 112, z 122.
use Rattle.std.specs.Prelude.{◌≡◌, ℕ, List, [], ◌∷◌, ℤ, pos, negsuc, Ok, Err, Result}
use Rattle.bank.specs.Answers.{read_by, written}
use Rattle.bank.specs.declared.BankRefusal.{BankRefusal}
use Rattle.bank.specs.declared.BankRefusal.TheVariants.{NoValue, OutOfRange}
use Rattle.encodings.specs.Shipped.{shipped}

abbrev pub value : ℕ → ℕ → List ℕ → Result ℤ BankRefusal
value letter size part = read_by (shipped letter size) part

abbrev pub image : ℕ → ℕ → ℤ → List ℕ → Result (List ℕ) BankRefusal
image letter size n part = written (shipped letter size) n part

-- -123 is negsuc 122
pub record FormExamples : Type 0 where
  pub plus_c : value 112 3 (0x12 ∷ 0x3C ∷ []) ≡ Ok (pos 123)
  pub plus_f : value 112 3 (0x12 ∷ 0x3F ∷ []) ≡ Ok (pos 123)
  pub minus_d : value 112 3 (0x12 ∷ 0x3D ∷ []) ≡ Ok (negsuc 122)
  pub minus_zero : value 112 3 (0x00 ∷ 0x0D ∷ []) ≡ Ok (pos 0)
  pub no_sign : value 112 3 (0x12 ∷ 0x39 ∷ []) ≡ Err NoValue
  pub even_size : value 112 4 (0x01 ∷ 0x23 ∷ 0x4C ∷ []) ≡ Ok (pos 1234)
  pub spare_used : value 112 4 (0x51 ∷ 0x23 ∷ 0x4C ∷ []) ≡ Err NoValue
  pub other_zones : value 122 3 (0x71 ∷ 0xF2 ∷ 0xC3 ∷ []) ≡ Ok (pos 123)
  pub zoned_minus : image 122 3 (negsuc 122) (0 ∷ 0 ∷ 0 ∷ []) ≡ Ok (0xF1 ∷ 0xF2 ∷ 0xD3 ∷ [])
  pub binary_highest : image 98 2 (pos 32767) (0 ∷ 0 ∷ []) ≡ Ok (0x7F ∷ 0xFF ∷ [])
  pub binary_over : image 98 2 (pos 32768) (0 ∷ 0 ∷ []) ≡ Err OutOfRange
