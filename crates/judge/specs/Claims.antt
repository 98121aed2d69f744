-- What an example says of the form that a bank has for its letter and size.
use Rattle.std.specs.Prelude.{◌≡◌, ℕ, List, ℤ, Some, None, Ok, Err, vec_items, Option}
use Rattle.bank.specs.Model.{Form}
use Rattle.bank.specs.Answers.{valued, read_by, written}
use Rattle.bank.specs.declared.BankRefusal.TheVariants.{OutOfRange}
use Rattle.judge.specs.declared.Claim.{Claim}
use Rattle.judge.specs.declared.Claim.TheVariants.{Both, Read, Write}

-- the bytes read as the number or, where there is none, have no value
abbrev pub ReadsAs : Option Form → List ℕ → Option ℤ → Type 0
ReadsAs f bytes number = read_by f bytes ≡ valued number

-- the number is written as that image
abbrev pub WritesAs : Option Form → ℤ → List ℕ → Type 0
WritesAs f number image = written f number image ≡ Ok image

-- there is a part over which the number is refused as out of range: one of the form's width
abbrev pub Refuses : Option Form → ℤ → Type 0
Refuses f number = (part : List ℕ) × (written f number part ≡ Err OutOfRange)

abbrev pub Agrees : Option Form → Claim → Type 0
Agrees f (Both bytes number) = ReadsAs f (vec_items bytes) (Some number) × WritesAs f number (vec_items bytes)
Agrees f (Read bytes number) = ReadsAs f (vec_items bytes) number
Agrees f (Write (Some bytes) number) = WritesAs f number (vec_items bytes)
Agrees f (Write None number) = Refuses f number
