-- The list of calls that docs/CALLS.md works: each call with its answer, by the shipped bank.
use Rattle.std.specs.Prelude.{◌≡◌, ℕ, List, [], ◌∷◌, ◌++◌, map, ℤ, pos}
use Rattle.bank.specs.declared.BankRefusal.TheVariants.{OutOfRange}
use Rattle.encodings.specs.Shipped.{shipped}
use Rattle.language.specs.declared.Check.TheVariants.{Misplaced}
use Rattle.language.specs.declared.Entry.{Entry}
use Rattle.language.specs.declared.Fault.TheVariants.{NotHeld}
use Rattle.ledger.specs.declared.Place.{Place}
use Rattle.ledger.specs.declared.Call.{Call}
use Rattle.ledger.specs.declared.Call.TheVariants.{Load, Lay, Enter, Work, Drop, Read}
use Rattle.ledger.specs.declared.CallRefusal.TheVariants as C
use Rattle.ledger.specs.declared.CallRefusal.TheVariants.{Text, NoSheet, RunOpen, WrongLength, NoTicket, NoField, NoRun, BadBudget}
use Rattle.ledger.specs.declared.Answer.{Answer}
use Rattle.ledger.specs.declared.Answer.TheVariants.{Loaded, Laid, Entered, Finished, Stopped, Faulted, Dropped, Number, Refused}
use Rattle.ledger.specs.Ledger.{fresh, answers, after_all}
use Rattle.examples.specs.Lines.{weighing}
use Rattle.examples.specs.Weighbridge.{sheet_text}

abbrev pub place : ℕ → ℕ → Place
place start length = record { start = start; length = length }

abbrev pub entry : ℕ → ℕ → ℤ → Entry
entry statement row figure = record { statement = statement; row = row; figure = figure }

-- a call and what it is answered
pub record Turn : Type 0 where
  pub call : Call
  pub answer : Answer

abbrev pub turn : Call → Answer → Turn
turn c a = record { call = c; answer = a }

-- the sheet from place 0, and the ticket from place 116
abbrev pub lent : List ℕ
lent = sheet_text ++ weighing

abbrev pub turns : List Turn
turns =
    turn (Read 0 255) (Refused NoSheet)
    ∷ turn (Load (place 0 116)) Loaded
    ∷ turn (Work 3) (Refused NoTicket)
    ∷ turn (Lay (place 116 15)) (Refused WrongLength)
    ∷ turn (Lay (place 116 99)) Laid
    ∷ turn (Work 3) (Stopped 3 (entry 1 255 (pos 505)))
    ∷ turn (Read 3 255) (Number (pos 0))
    ∷ turn (Enter 3 255 (pos 5)) (Refused RunOpen)
    ∷ turn (Load (place 0 116)) (Refused RunOpen)
    ∷ turn (Work 0) (Refused BadBudget)
    ∷ turn (Work 4) (Finished 7)
    ∷ turn (Read 3 255) (Number (pos 34593))
    ∷ turn Drop (Refused NoRun)
    ∷ turn (Read 3 0) (Refused NoField)
    ∷ turn (Read 4 255) (Refused NoField)
    ∷ turn (Enter 0 255 (pos 10000000)) (Refused (C.NotHeld OutOfRange))
    ∷ turn (Enter 0 255 (pos 12600)) Entered
    ∷ turn (Work 65535) (Finished 7)
    ∷ turn (Read 3 255) (Number (pos 41100))
    ∷ turn (Enter 0 255 (pos 9999999)) Entered
    ∷ turn (Enter 2 255 (pos 99999)) Entered
    ∷ turn (Work 2) (Stopped 2 (entry 1 255 (pos 12000)))
    ∷ turn Drop Dropped
    ∷ turn (Work 100) (Faulted 6 (entry 1 255 (pos 0)) (record { fault = NotHeld OutOfRange; field = 3 }))
    ∷ turn (Read 3 255) (Number (pos 41100))
    ∷ turn (Load (place 200 10)) (Refused (Text (record { check = Misplaced; place = 0 })))
    ∷ turn (Read 3 255) (Refused NoSheet)
    ∷ []

pub record CallExamples : Type 0 where
  pub answered : answers shipped lent fresh (map (λ t. t.call) turns) ≡ map (λ t. t.answer) turns
  pub nothing_left : after_all shipped lent fresh (map (λ t. t.call) turns) ≡ fresh
