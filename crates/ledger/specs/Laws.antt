-- Laws of every list of calls, from a fresh ledger, whatever the bank's forms and the lent bytes.
use Rattle.std.specs.Prelude.{◌≡◌, ℕ, ◌+◌, ◌<◌, List, [], ◌∷◌, ◌++◌, length, ℤ, Some, None, Ok, Err, ◌≢◌}
use Rattle.bank.specs.Model.{Forms}
use Rattle.bank.specs.Answers.{written}
use Rattle.language.specs.declared.Entry.{Entry}
use Rattle.language.specs.declared.FieldFault.{FieldFault}
use Rattle.language.specs.declared.TextRefusal.{TextRefusal}
use Rattle.language.specs.Syntax.{Sheet}
use Rattle.language.specs.Layout.{field_at, form_of, part, stored}
use Rattle.language.specs.Trace.{Worked, entry_of}
use Rattle.language.specs.Meaning.{course}
use Rattle.ledger.specs.declared.Place.{Place}
use Rattle.ledger.specs.declared.Call.{Call}
use Rattle.ledger.specs.declared.Call.TheVariants.{Load, Lay, Enter, Work, Drop, Read}
use Rattle.ledger.specs.declared.CallRefusal.{CallRefusal}
use Rattle.ledger.specs.declared.CallRefusal.TheVariants.{Text, RunOpen}
use Rattle.ledger.specs.declared.Answer.{Answer}
use Rattle.ledger.specs.declared.Answer.TheVariants.{Laid, Entered, Finished, Stopped, Faulted, Refused}
use Rattle.ledger.specs.Ledger.{Ledger, fresh, at, answered, answers, after_all}
use Rattle.ledger.specs.Runs.{OpenRun, run_of, begun, spent_in}

-- by what it is answered a call may change the ticket: a load unless a run is open, a lay that is laid, an enter that is
-- entered, a work that finishes, and no other
abbrev pub MayChange : Call → Answer → Type 0
MayChange (Load p) a = a ≢ Refused RunOpen
MayChange (Lay p) a = a ≡ Laid
MayChange (Enter f row n) a = a ≡ Entered
MayChange (Work budget) a = (n : ℕ) × (a ≡ Finished n)
MayChange Drop a = ⊥
MayChange (Read f row) a = ⊥

-- an answer is no refusal
abbrev pub IsAccepted : Answer → Type 0
IsAccepted a = (why : CallRefusal) → a ≢ Refused why

module _ (forms : Forms) (lent : List ℕ) where
  -- the ledger after a list of calls
  abbrev pub ledger : List Call → Ledger
  ledger cs = after_all forms lent fresh cs

  -- what one more call is answered: the last of the answers to the list with that call
  abbrev pub answer_to : List Call → Call → Answer
  answer_to cs c = (answered forms lent (ledger cs) c).answer

  -- ---- changes of the ticket

  -- an enter stored the number's image in the field's part of the ticket
  pub record Stored (f row : ℕ) (n : ℤ) (before after : Ledger) : Type 0 where
    pub sheet : Sheet
    pub ticket : List ℕ
    pub image : List ℕ
    pub sheet_was : before.sheet ≡ Some sheet
    pub ticket_was : before.ticket ≡ Some ticket
    pub image_is : written (form_of forms (field_at sheet f)) n (part forms sheet f row ticket) ≡ Ok image
    pub ticket_is : after.ticket ≡ Some (stored forms sheet f row image ticket)

  -- a call that changes the ticket is one that may, and what the ticket then is (after a work that finishes: `Ends`)
  pub record Changes : Type 0 where
    pub only : (cs : List Call) (c : Call)
        → ((ledger (cs ++ c ∷ [])).ticket ≢ (ledger cs).ticket) → MayChange c (answer_to cs c)
    pub loads : (cs : List Call) (p : Place)
        → (answer_to cs (Load p) ≢ Refused RunOpen) → (ledger (cs ++ Load p ∷ [])).ticket ≡ None
    pub lays : (cs : List Call) (p : Place)
        → answer_to cs (Lay p) ≡ Laid → (ledger (cs ++ Lay p ∷ [])).ticket ≡ Some (at lent p)
    pub enters : (cs : List Call) (f row : ℕ) (n : ℤ)
        → answer_to cs (Enter f row n) ≡ Entered → Stored f row n (ledger cs) (ledger (cs ++ Enter f row n ∷ []))

  -- ---- runs

  -- the calls before the run of a work after the list: the run that is open, or one that this work opens
  abbrev pub run_before : List Call → List Call
  run_before cs = begun cs (run_of cs (answers forms lent fresh cs))

  -- that run's budgets that the list has accepted, added up
  abbrev pub run_spent : List Call → ℕ
  run_spent cs = spent_in (run_of cs (answers forms lent fresh cs))

  -- the same with the work's own budget
  abbrev pub run_sum : List Call → ℕ → ℕ
  run_sum cs budget = run_spent cs + budget

  -- the ledger's run is the run that is told: none, or on the ticket that stood before it opened, with its accepted budgets
  pub record Tells (cs : List Call) : Type 0 where
    pub none_open : run_of cs (answers forms lent fresh cs) ≡ None → (ledger cs).run ≡ None
    pub one_open : (o : OpenRun) → run_of cs (answers forms lent fresh cs) ≡ Some o
        → (ticket : List ℕ) × ((ledger o.before).ticket ≡ Some ticket) × ((ledger cs).run ≡ Some (record { opening = ticket; sum = o.spent }))

  abbrev pub Telling : Type 0
  Telling = (cs : List Call) → Tells cs

  -- the sheet, which has stood since that run opened, and the ticket that it opened on
  pub record Opened (cs : List Call) : Type 0 where
    pub sheet : Sheet
    pub ticket : List ℕ
    pub sheet_is : (ledger cs).sheet ≡ Some sheet
    pub sheet_was : (ledger (run_before cs)).sheet ≡ Some sheet
    pub ticket_was : (ledger (run_before cs)).ticket ≡ Some ticket

  -- the course of the ticket that the run opened on
  abbrev pub course_of : {cs : List Call} → Opened cs → Worked (List ℕ)
  course_of o = course forms o.sheet o.ticket

  -- an accepted work stops exactly when its run's budgets with its own add up to less than the course's length; its count is
  -- that sum, and it carries the course's entry of that number
  pub record Stops (cs : List Call) (budget : ℕ) : Type 0 where
    pub opened : Opened cs
    pub stops : run_sum cs budget < length (course_of opened).entries
        → answer_to cs (Work budget) ≡ Stopped (run_sum cs budget) (entry_of (course_of opened).entries (run_sum cs budget))
    pub only : (n : ℕ) (e : Entry)
        → answer_to cs (Work budget) ≡ Stopped n e → run_sum cs budget < length (course_of opened).entries

  abbrev pub Stopping : Type 0
  Stopping = (cs : List Call) (budget : ℕ) → IsAccepted (answer_to cs (Work budget)) → Stops cs budget

  -- a course that finished: its length is the count, its ticket stands, and the run is closed
  pub record Finishes (cs : List Call) (budget : ℕ) (entries : List Entry) (ticket : List ℕ) : Type 0 where
    pub answer_is : answer_to cs (Work budget) ≡ Finished (length entries)
    pub ticket_is : (ledger (cs ++ Work budget ∷ [])).ticket ≡ Some ticket
    pub run_is : (ledger (cs ++ Work budget ∷ [])).run ≡ None

  -- a course that faulted: its length is the count, with its last entry, the ticket of before the run stands, and the run is closed
  pub record Faults (cs : List Call) (budget : ℕ) (entries : List Entry) (b : FieldFault) (ticket : List ℕ) : Type 0 where
    pub answer_is : answer_to cs (Work budget) ≡ Faulted (length entries) (entry_of entries (length entries)) b
    pub ticket_is : (ledger (cs ++ Work budget ∷ [])).ticket ≡ Some ticket
    pub run_is : (ledger (cs ++ Work budget ∷ [])).run ≡ None

  -- an accepted work that does not stop is answered as the course of the ticket that its run opened on ends
  pub record Ends (cs : List Call) (budget : ℕ) : Type 0 where
    pub opened : Opened cs
    pub finishes : (u : List ℕ) → (course_of opened).outcome ≡ Ok u
        → Finishes cs budget (course_of opened).entries u
    pub faults : (b : FieldFault) → (course_of opened).outcome ≡ Err b
        → Faults cs budget (course_of opened).entries b opened.ticket

  abbrev pub Ending : Type 0
  Ending = (cs : List Call) (budget : ℕ) → IsAccepted (answer_to cs (Work budget))
      → ((n : ℕ) (e : Entry) → answer_to cs (Work budget) ≢ Stopped n e) → Ends cs budget

  -- ---- refusals

  -- a refused call leaves the ledger as it was; a refused text leaves no sheet, no ticket and no run
  pub record Refusals : Type 0 where
    pub leave : (cs : List Call) (c : Call) (why : CallRefusal) → answer_to cs c ≡ Refused why
        → ((r : TextRefusal) → why ≢ Text r) → ledger (cs ++ c ∷ []) ≡ ledger cs
    pub clear : (cs : List Call) (c : Call) (r : TextRefusal) → answer_to cs c ≡ Refused (Text r)
        → ledger (cs ++ c ∷ []) ≡ fresh

  -- ---- lists

  -- one list after another, from any ledger; and a list has as many answers as calls
  pub record Joins : Type 0 where
    pub join_answers : (l : Ledger) (cs ds : List Call)
        → answers forms lent l (cs ++ ds) ≡ answers forms lent l cs ++ answers forms lent (after_all forms lent l cs) ds
    pub join_ledgers : (l : Ledger) (cs ds : List Call)
        → after_all forms lent l (cs ++ ds) ≡ after_all forms lent (after_all forms lent l cs) ds
    pub as_many : (l : Ledger) (cs : List Call) → length (answers forms lent l cs) ≡ length cs
