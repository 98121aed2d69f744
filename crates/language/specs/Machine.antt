-- The machine that works the lines of a sheet step by step. One move makes one entry.
use Rattle.std.specs.Prelude.{ℕ, zero, suc, ◌+◌, cond, List, [], ◌∷◌, ℤ, pos, neg_ℤ, Some, None, Ok, Err, Result, nat_lt}
use Rattle.std.specs.List.{slice_get}
use Rattle.bank.specs.Model.{Forms}
use Rattle.language.specs.declared.Entry.{Entry}
use Rattle.language.specs.declared.FieldFault.{FieldFault}
use Rattle.language.specs.declared.Step.{Step}
use Rattle.language.specs.declared.Step.TheVariants as S
use Rattle.language.specs.declared.Line.{Line}
use Rattle.language.specs.Syntax.{Sheet, adds, takes}
use Rattle.language.specs.Trace.{Site, Action, yields, fails, entry, figured, passed}
use Rattle.language.specs.Meaning.{summed, multiplied, compared, read_field, assigned}

-- where a run stands: the next step, the values that wait (the last one first), the row (255 outside `each`), the ticket
pub record Config : Type 0 where
  pub step : ℕ
  pub stack : List ℤ
  pub row : ℕ
  pub ticket : List ℕ

-- a run goes on, or it is over: with a ticket, or with a fault
pub data State : Type 0 where
  running : Config → State
  over : Result (List ℕ) FieldFault → State

-- the entries that some moves make, and where they lead
pub record Made : Type 0 where
  pub entries : List Entry
  pub state : State

-- a move makes an entry and leads on. It is stuck where a value or a step is lacking, which never happens (`Follows`)
pub data Move : Type 0 where
  makes : Entry → State → Move
  stuck : Move

-- the move that does an action, and goes where its value leads
unfoldable pub making : {A : Type 0} → Site → Action A → (A → State) → Move
making at (yields figure a) leads = makes (entry at figure) (leads a)
making at (fails b) leads = makes (entry at (pos 0)) (over (Err b))

-- with the last value
abbrev pub with_one : List ℤ → (ℤ → List ℤ → Move) → Move
with_one [] f = stuck
with_one (x ∷ under) f = f x under

-- with the last value but one, and the last
abbrev pub with_two : List ℤ → (ℤ → ℤ → List ℤ → Move) → Move
with_two stack f = with_one stack λ y rest. with_one rest λ x under. f x y under

abbrev pub at_step : ℕ → List ℤ → ℕ → List ℕ → State
at_step step stack row ticket = running (record { step = step; stack = stack; row = row; ticket = ticket })

-- to the step that follows
abbrev pub onward : Config → List ℤ → State
onward c stack = at_step (c.step + 1) stack c.row c.ticket

module _ (forms : Forms) (sheet : Sheet) where
  -- what a step does, where its entry belongs to `here`
  unfoldable pub act : Site → Step → Config → Move
  act here (S.Constant units) c = making here (figured (pos units)) λ x. onward c (x ∷ c.stack)
  act here (S.Field f) c = making here (read_field forms sheet c.row f c.ticket) λ x. onward c (x ∷ c.stack)
  act here (S.Add a b) c = with_two c.stack λ x y under. making here (summed adds x a y b) λ z. onward c (z ∷ under)
  act here (S.Subtract a b) c = with_two c.stack λ x y under. making here (summed takes x a y b) λ z. onward c (z ∷ under)
  act here S.Multiply c = with_two c.stack λ x y under. making here (multiplied x y) λ z. onward c (z ∷ under)
  act here S.Negate c = with_one c.stack λ x under. making here (figured (neg_ℤ x)) λ z. onward c (z ∷ under)
  act here (S.Store f r places) c = with_one c.stack λ x under.
      making here (assigned forms sheet c.row f r places c.ticket x) λ ticket. at_step (c.step + 1) under c.row ticket
  act here (S.Test a b o t) c = with_two c.stack λ x y under.
      making here (compared o x a y b) λ h. at_step (cond h (c.step + 1) t) under c.row c.ticket
  act here (S.Go t) c = making here (passed c.ticket) λ ticket. at_step t c.stack c.row ticket
  act here S.Open c = making (record { statement = here.statement; row = 255 }) (passed c.ticket) λ ticket. at_step (c.step + 1) c.stack 0 ticket
  act here (S.Next t) c = making here (passed c.ticket) λ ticket.
      cond (nat_lt (c.row + 1) sheet.rows) (at_step t c.stack (c.row + 1) ticket) (at_step (c.step + 1) c.stack 255 ticket)
  act here S.End c = making here (passed c.ticket) λ ticket. over (Ok ticket)

  module _ (lines : List Line) where
    unfoldable pub move : Config → Move
    move c = elim (slice_get lines c.step) [ None ↦ stuck | Some l ↦ act (record { statement = l.statement; row = c.row }) l.step c ]

    -- the entries that n moves make, and where they lead. A run that is over makes no more
    unfoldable pub moves : ℕ → State → Made
    moves zero s = record { entries = []; state = s }
    moves (suc n) (over o) = record { entries = []; state = over o }
    moves (suc n) (running c) = elim (move c) [
      | stuck ↦ record { entries = []; state = running c }
      | makes e s ↦ record { entries = e ∷ (moves n s).entries; state = (moves n s).state }
    ]

-- a run starts at step 0 with no value waiting
abbrev pub opening : List ℕ → State
opening ticket = at_step 0 [] 255 ticket
