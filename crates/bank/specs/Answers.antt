-- What the calls of a bank answer, by the form that it has for a letter and a size.
-- The refusals come in this order: form lacking, part not of its width, then number outside its range or bytes without value.
use Rattle.std.specs.Prelude.{◌≡◌, ℕ, cond, ◌&&◌, List, length, ℤ, Some, None, Ok, Err, Option, Result, ◌==◌, int_le}
use Rattle.bank.specs.Model.{Form, Forms}
use Rattle.bank.specs.declared.BankRefusal.{BankRefusal}
use Rattle.bank.specs.declared.BankRefusal.TheVariants.{Lacking, WrongWidth, OutOfRange, NoValue}
use Rattle.bank.specs.declared.FormName.{FormName}
use Rattle.bank.specs.declared.Shape.{Shape}

-- a bank's form by its name
abbrev pub form_by : Forms → FormName → Option Form
form_by forms name = forms name.letter name.size

-- the number of each refusal
abbrev pub refusal_number : BankRefusal → ℕ
refusal_number Lacking = 1
refusal_number WrongWidth = 2
refusal_number OutOfRange = 3
refusal_number NoValue = 4

-- width and range
abbrev pub shape_of : Option Form → Option Shape
shape_of None = None
shape_of (Some f) = Some (record { width = f.width; low = f.low; high = f.high })

abbrev pub valued : Option ℤ → Result ℤ BankRefusal
valued None = Err NoValue
valued (Some n) = Ok n

-- reading a part
abbrev pub read_by : Option Form → List ℕ → Result ℤ BankRefusal
read_by None part = Err Lacking
read_by (Some f) part = cond (length part == f.width) (valued (f.value part)) (Err WrongWidth)

-- writing a number over a part: the part's new bytes, or the refusal
abbrev pub written : Option Form → ℤ → List ℕ → Result (List ℕ) BankRefusal
written None n part = Err Lacking
written (Some f) n part = cond (length part == f.width) (cond (int_le f.low n && int_le n f.high) (Ok (f.image n)) (Err OutOfRange)) (Err WrongWidth)

-- the part before and after, and the answer: a refusal leaves the part as it was
abbrev pub WriteCase : Result (List ℕ) BankRefusal → List ℕ → List ℕ → Result (Unit {0}) BankRefusal → Type 0
WriteCase (Ok image) before after r = (r ≡ Ok tt) × (after ≡ image)
WriteCase (Err e) before after r = (r ≡ Err e) × (after ≡ before)

abbrev pub Writes : Option Form → ℤ → List ℕ → List ℕ → Result (Unit {0}) BankRefusal → Type 0
Writes f n before after r = WriteCase (written f n before) before after r
