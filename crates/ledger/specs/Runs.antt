-- The run that is open after a list of calls, told from the calls and their answers alone.
use Rattle.std.specs.Prelude.{ℕ, ◌+◌, List, [], ◌∷◌, ◌++◌, Some, None, Option}
use Rattle.ledger.specs.declared.Call.{Call}
use Rattle.ledger.specs.declared.Call.TheVariants.{Load, Lay, Enter, Work, Drop, Read}
use Rattle.ledger.specs.declared.CallRefusal.{CallRefusal}
use Rattle.ledger.specs.declared.CallRefusal.TheVariants.{Text, NoSheet, RunOpen, WrongLength, NoTicket, NoField, NotHeld, NoValue, NoRun, BadBudget}
use Rattle.ledger.specs.declared.Answer.{Answer}
use Rattle.ledger.specs.declared.Answer.TheVariants.{Loaded, Laid, Entered, Finished, Stopped, Faulted, Dropped, Number, Refused}

-- the calls made before the run opened, and its accepted budgets, added up
pub record OpenRun : Type 0 where
  pub before : List Call
  pub spent : ℕ

abbrev pub budget_of : Call → ℕ
budget_of (Load p) = 0
budget_of (Lay p) = 0
budget_of (Enter f row n) = 0
budget_of (Work budget) = budget
budget_of Drop = 0
budget_of (Read f row) = 0

-- where the open run began, or, where none is open, one that opens after the calls made
abbrev pub begun : List Call → Option OpenRun → List Call
begun made None = made
begun made (Some o) = o.before

abbrev pub spent_in : Option OpenRun → ℕ
spent_in None = 0
spent_in (Some o) = o.spent

-- a refused text ends the run; any other refusal leaves it
abbrev pub unless_text : CallRefusal → Option OpenRun → Option OpenRun
unless_text (Text r) o = None
unless_text NoSheet o = o
unless_text RunOpen o = o
unless_text WrongLength o = o
unless_text NoTicket o = o
unless_text NoField o = o
unless_text (NotHeld e) o = o
unless_text (NoValue e) o = o
unless_text NoRun o = o
unless_text BadBudget o = o

-- the run that is open after one more call with its answer; `made` are the calls before it
abbrev pub noted : List Call → Option OpenRun → Call → Answer → Option OpenRun
noted made o c Loaded = None
noted made o c Laid = None
noted made o c Entered = None
noted made o c (Finished n) = None
noted made o c (Stopped n e) = Some (record { before = begun made o; spent = spent_in o + budget_of c })
noted made o c (Faulted n e b) = None
noted made o c Dropped = None
noted made o c (Number n) = o
noted made o c (Refused why) = unless_text why o

-- the run that is open after further calls with their answers
abbrev pub run_from : List Call → Option OpenRun → List Call → List Answer → Option OpenRun
run_from made o [] told = o
run_from made o (c ∷ cs) [] = o
run_from made o (c ∷ cs) (a ∷ told) = run_from (made ++ c ∷ []) (noted made o c a) cs told

abbrev pub run_of : List Call → List Answer → Option OpenRun
run_of cs told = run_from [] None cs told
