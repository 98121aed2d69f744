-- The numbers of a text's refusals and of faults.
use Rattle.std.specs.Prelude.{ℕ}
use Rattle.language.specs.declared.Check.{Check}
use Rattle.language.specs.declared.Check.TheVariants.{TextTooLong, NoToken, Misplaced, DeclaredBefore, NotDeclared, RowMisused, FormLacking, OutOfBounds, TooMany, TooFine}
use Rattle.language.specs.declared.Fault.{Fault}
use Rattle.language.specs.declared.Fault.TheVariants.{NoValue, TooLong, NotHeld}

abbrev pub check_number : Check → ℕ
check_number TextTooLong = 10
check_number NoToken = 11
check_number Misplaced = 12
check_number DeclaredBefore = 13
check_number NotDeclared = 14
check_number RowMisused = 15
check_number FormLacking = 16
check_number OutOfBounds = 17
check_number TooMany = 18
check_number TooFine = 19

abbrev pub fault_number : Fault → ℕ
fault_number (NoValue e) = 30
fault_number TooLong = 31
fault_number (NotHeld e) = 32
