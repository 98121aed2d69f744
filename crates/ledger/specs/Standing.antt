-- What stands together after every list of calls, by a bank that keeps its laws.
use Rattle.std.specs.Prelude.{◌≡◌, ℕ, ◌<◌, List, length, ℤ, Some, None, Ok}
use Rattle.bank.specs.Model.{Forms, Lawful, Bytes}
use Rattle.bank.specs.declared.BankRefusal.{BankRefusal}
use Rattle.bank.specs.declared.BankRefusal.TheVariants as B
use Rattle.language.specs.Syntax.{Sheet}
use Rattle.language.specs.Layout.{ticket_length}
use Rattle.language.specs.Meaning.{course}
use Rattle.language.specs.Reading.{sheet_read}
use Rattle.ledger.specs.declared.Call.{Call}
use Rattle.ledger.specs.declared.Call.TheVariants.{Enter, Read}
use Rattle.ledger.specs.declared.CallRefusal.TheVariants.{NotHeld, NoValue}
use Rattle.ledger.specs.declared.Answer.TheVariants.{Refused}
use Rattle.ledger.specs.Ledger.{Ledger, fresh}
use Rattle.ledger.specs.Laws.{ledger, answer_to}

-- the ticket has the sheet's length, and is of bytes where the lent ones are
pub record Fits (forms : Forms) (lent : List ℕ) (s : Sheet) (ticket : List ℕ) : Type 0 where
  pub long : length ticket ≡ ticket_length forms s
  pub bytes : Bytes lent → Bytes ticket

-- nothing; a sheet that was read from a text; a ticket that fits it; a run on that ticket, which has begun and is not at its end
pub data Standing (forms : Forms) (lent : List ℕ) : Ledger → Type 0 where
  nothing : Standing forms lent fresh
  a_sheet : (text : List ℕ) (s : Sheet) → sheet_read forms text ≡ Ok s → Standing forms lent (record { sheet = Some s; ticket = None; run = None })
  a_ticket : (text : List ℕ) (s : Sheet) (t : List ℕ) → sheet_read forms text ≡ Ok s → Fits forms lent s t
      → Standing forms lent (record { sheet = Some s; ticket = Some t; run = None })
  a_run : (text : List ℕ) (s : Sheet) (t : List ℕ) (sum : ℕ) → sheet_read forms text ≡ Ok s → Fits forms lent s t
      → 0 < sum → sum < length (course forms s t).entries
      → Standing forms lent (record { sheet = Some s; ticket = Some t; run = Some (record { opening = t; sum = sum }) })

abbrev pub StandsAlways : Type 0
StandsAlways = (forms : Forms) → Lawful forms → (lent : List ℕ) (cs : List Call) → Standing forms lent (ledger forms lent cs)

-- what a refused enter or read bears of the bank: a number out of range, bytes without value, and nothing else
pub record Bears (forms : Forms) (lent : List ℕ) : Type 0 where
  pub enters : (cs : List Call) (f row : ℕ) (n : ℤ) (e : BankRefusal) → answer_to forms lent cs (Enter f row n) ≡ Refused (NotHeld e) → e ≡ B.OutOfRange
  pub reads : (cs : List Call) (f row : ℕ) (e : BankRefusal) → answer_to forms lent cs (Read f row) ≡ Refused (NoValue e) → e ≡ B.NoValue

abbrev pub BearAlways : Type 0
BearAlways = (forms : Forms) → Lawful forms → (lent : List ℕ) → Bears forms lent
