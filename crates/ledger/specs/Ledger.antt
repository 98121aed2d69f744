-- The ledger: what each call answers and leaves, from the bank's forms and the calls alone.
use Rattle.std.specs.Prelude.{ℕ, ◌+◌, Bool, true, false, cond, not, ◌&&◌, ◌||◌, List, [], ◌∷◌, length, take, drop, ℤ, is_some, Some, None, Ok, Err, Option, ◌==◌, nat_lt}
use Rattle.bank.specs.Model.{Forms}
use Rattle.bank.specs.Answers.{read_by, written}
use Rattle.language.specs.Syntax.{Sheet, fields}
use Rattle.language.specs.Layout.{ticket_length, field_at, form_of, part, stored}
use Rattle.language.specs.Trace.{entry_of}
use Rattle.language.specs.Meaning.{course}
use Rattle.language.specs.Reading.{sheet_read}
use Rattle.ledger.specs.declared.Place.{Place}
use Rattle.ledger.specs.declared.Call.{Call}
use Rattle.ledger.specs.declared.Call.TheVariants.{Load, Lay, Enter, Work, Drop, Read}
use Rattle.ledger.specs.declared.CallRefusal.{CallRefusal}
use Rattle.ledger.specs.declared.CallRefusal.TheVariants.{Text, NoSheet, RunOpen, WrongLength, NoTicket, NoField, NotHeld, NoValue, NoRun, BadBudget}
use Rattle.ledger.specs.declared.Answer.{Answer}
use Rattle.ledger.specs.declared.Answer.TheVariants.{Loaded, Laid, Entered, Finished, Stopped, Faulted, Dropped, Number, Refused}

-- a run that is open: the ticket that it began on, and the budgets accepted so far, added up
pub record Run : Type 0 where
  pub opening : List ℕ
  pub sum : ℕ

-- what stands between two calls: the sheet, the ticket and the open run, each if there is one
pub record Ledger : Type 0 where
  pub sheet : Option Sheet
  pub ticket : Option (List ℕ)
  pub run : Option Run

abbrev pub fresh : Ledger
fresh = record { sheet = None; ticket = None; run = None }

-- an answer, and the ledger after it
pub record Answered : Type 0 where
  pub answer : Answer
  pub after : Ledger

abbrev pub refuse : Ledger → CallRefusal → Answered
refuse l why = record { answer = Refused why; after = l }

-- a check: refused where the test holds, with all left as before, else what follows
abbrev pub refuse_if : Ledger → Bool → CallRefusal → Answered → Answered
refuse_if l test why rest = cond test (refuse l why) rest

abbrev pub with_sheet : Ledger → (Sheet → Answered) → Answered
with_sheet l k = elim l.sheet [ None ↦ refuse l NoSheet | Some s ↦ k s ]

abbrev pub with_ticket : Ledger → (List ℕ → Answered) → Answered
with_ticket l k = elim l.ticket [ None ↦ refuse l NoTicket | Some t ↦ k t ]

-- the run that goes on, or one that opens on the ticket
abbrev pub open_or : Option Run → List ℕ → Run
open_or None t = record { opening = t; sum = 0 }
open_or (Some r) t = r

-- ---- what calls name

-- the lent bytes at a place, cut where they end
abbrev pub at : List ℕ → Place → List ℕ
at lent p = take p.length (drop p.start lent)

-- a field before `rows` goes by row 255, a row's field by its row
abbrev pub known : Sheet → ℕ → ℕ → Bool
known s f row =
    cond (nat_lt f (length s.head)) (row == 255)
    (nat_lt f (length (fields s)) && nat_lt row s.rows)

module _ (forms : Forms) where
  abbrev pub loads : Ledger → List ℕ → Answered
  loads l text = refuse_if l (is_some l.run) RunOpen (elim (sheet_read forms text) [
    | Ok s ↦ record { answer = Loaded; after = record { sheet = Some s; ticket = None; run = None } }
    | Err r ↦ record { answer = Refused (Text r); after = fresh }
  ])

  abbrev pub lays : Ledger → List ℕ → Answered
  lays l bytes = with_sheet l λ s.
      refuse_if l (is_some l.run) RunOpen
      (refuse_if l (not (length bytes == ticket_length forms s)) WrongLength
      (record { answer = Laid; after = record { sheet = Some s; ticket = Some bytes; run = None } }))

  abbrev pub enters : Ledger → ℕ → ℕ → ℤ → Answered
  enters l f row n = with_sheet l λ s.
      refuse_if l (is_some l.run) RunOpen
      (with_ticket l λ t. refuse_if l (not (known s f row)) NoField
      (elim (written (form_of forms (field_at s f)) n (part forms s f row t)) [
        | Ok image ↦ record {
          answer = Entered;
          after = record { sheet = Some s; ticket = Some (stored forms s f row image t); run = None };
        }
        | Err e ↦ refuse l (NotHeld e)
      ]))

  abbrev pub reads : Ledger → ℕ → ℕ → Answered
  reads l f row = with_sheet l λ s. with_ticket l λ t. refuse_if l (not (known s f row)) NoField
      (elim (read_by (form_of forms (field_at s f)) (part forms s f row t)) [
        | Ok n ↦ record { answer = Number n; after = l }
        | Err e ↦ refuse l (NoValue e)
      ])

  abbrev pub drops : Ledger → Answered
  drops l = with_sheet l λ s. elim l.run [
    | None ↦ refuse l NoRun
    | Some r ↦ record { answer = Dropped; after = record { sheet = l.sheet; ticket = l.ticket; run = None } }
  ]

  abbrev pub works : Ledger → ℕ → Answered
  works l budget = with_sheet l λ s. with_ticket l λ t. refuse_if l (budget == 0 || nat_lt 65535 budget) BadBudget
      (let r = open_or l.run t in
      let sum = r.sum + budget in
      let c = course forms s r.opening in
      let n = length c.entries in
      elim (nat_lt sum n) [
        | true ↦ record {
          answer = Stopped sum (entry_of c.entries sum);
          after = record { sheet = Some s; ticket = Some t; run = Some (record { opening = r.opening; sum = sum }) };
        }
        | false ↦ elim c.outcome [
          | Ok u ↦ record { answer = Finished n; after = record { sheet = Some s; ticket = Some u; run = None } }
          | Err b ↦ record {
            answer = Faulted n (entry_of c.entries n) b;
            after = record { sheet = Some s; ticket = Some t; run = None };
          }
        ]
      ])

  -- ---- calls

  -- what a call answers, and the ledger after it
  abbrev pub answered : List ℕ → Ledger → Call → Answered
  answered lent l (Load p) = loads l (at lent p)
  answered lent l (Lay p) = lays l (at lent p)
  answered lent l (Enter f row n) = enters l f row n
  answered lent l (Work budget) = works l budget
  answered lent l Drop = drops l
  answered lent l (Read f row) = reads l f row

  -- the answers to a list of calls
  abbrev pub answers : List ℕ → Ledger → List Call → List Answer
  answers lent l [] = []
  answers lent l (c ∷ cs) = (answered lent l c).answer ∷ answers lent (answered lent l c).after cs

  -- the ledger after a list of calls
  abbrev pub after_all : List ℕ → Ledger → List Call → Ledger
  after_all lent l [] = l
  after_all lent l (c ∷ cs) = after_all lent (answered lent l c).after cs
