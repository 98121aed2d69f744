-- The number of each refusal of a call.
use Rattle.std.specs.Prelude.{ℕ}
use Rattle.language.specs.Numbers.{check_number}
use Rattle.ledger.specs.declared.CallRefusal.{CallRefusal}
use Rattle.ledger.specs.declared.CallRefusal.TheVariants.{Text, NoSheet, RunOpen, WrongLength, NoTicket, NoField, NotHeld, NoValue, NoRun, BadBudget}

abbrev pub refusal_number : CallRefusal → ℕ
refusal_number (Text t) = check_number t.check
refusal_number NoSheet = 20
refusal_number RunOpen = 21
refusal_number WrongLength = 22
refusal_number NoTicket = 23
refusal_number NoField = 24
refusal_number (NotHeld e) = 25
refusal_number (NoValue e) = 26
refusal_number NoRun = 27
refusal_number BadBudget = 28
