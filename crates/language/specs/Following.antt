-- The machine over a sheet's steps follows the course: what holds of a run wherever it stands, and how it ends.
use Rattle.std.specs.Prelude.{◌≡◌, ℕ, ◌+◌, ◌<◌, ◌≤◌, true, ◌⊎◌, List, length, take, Some}
use Rattle.std.specs.List.{slice_get}
use Rattle.bank.specs.Model.{Forms}
use Rattle.language.specs.declared.Entry.{Entry}
use Rattle.language.specs.declared.Step.{Step}
use Rattle.language.specs.declared.Step.TheVariants as S
use Rattle.language.specs.declared.Line.{Line}
use Rattle.language.specs.Syntax.{Sheet, fields}
use Rattle.language.specs.Trace.{entry_of}
use Rattle.language.specs.Meaning.{course}
use Rattle.language.specs.Admitted.{admitted}
use Rattle.language.specs.Steps.{steps}
use Rattle.language.specs.Machine.{Config, State, running, over, makes, Made, move, moves, opening}

-- field f may be read and assigned in this row: a row's field only in a row
pub record Named (sheet : Sheet) (row f : ℕ) : Type 0 where
  pub declared : f < length (fields sheet)
  pub in_row : length sheet.head ≤ f → row < sheet.rows

-- what a step rests on: a field that may be named, a row that is open
abbrev pub Rests : Sheet → ℕ → Step → Type 0
Rests sheet row (S.Constant units) = Unit {0}
Rests sheet row (S.Field f) = Named sheet row f
Rests sheet row (S.Add a b) = Unit {0}
Rests sheet row (S.Subtract a b) = Unit {0}
Rests sheet row S.Multiply = Unit {0}
Rests sheet row S.Negate = Unit {0}
Rests sheet row (S.Store f r places) = Named sheet row f
Rests sheet row (S.Test a b o t) = Unit {0}
Rests sheet row (S.Go t) = Unit {0}
Rests sheet row S.Open = Unit {0}
Rests sheet row (S.Next t) = row < sheet.rows
Rests sheet row S.End = Unit {0}

-- what holds of a run wherever it stands: few values wait, it is outside `each` or in one of the rows, and the next line is there
pub record Sound (sheet : Sheet) (lines : List Line) (c : Config) : Type 0 where
  pub low : length c.stack ≤ 28
  pub in_rows : (c.row ≡ 255) ⊎ (c.row < sheet.rows)
  pub line : Line
  pub here : slice_get lines c.step ≡ Some line
  pub rests : Rests sheet c.row line.step

module _ (forms : Forms) (sheet : Sheet) (ticket : List ℕ) where
  -- what n moves make of a ticket, from the start
  abbrev pub worked : ℕ → Made
  worked n = moves forms sheet (steps sheet) n (opening ticket)

  abbrev pub course_entries : List Entry
  course_entries = (course forms sheet ticket).entries

  -- n moves have led to c: the course goes on, and the next move makes its next entry
  pub record Reached (n : ℕ) (c : Config) : Type 0 where
    pub before : n < length course_entries
    pub sound : Sound sheet (steps sheet) c
    pub next : State
    pub makes_next : move forms sheet (steps sheet) c ≡ makes (entry_of course_entries (n + 1)) next
    pub leads : (worked (n + 1)).state ≡ next

  -- the machine follows the course: each move makes the course's next entry, and the run ends with it and as it ends
  pub record Follows : Type 0 where
    pub goes_on : (n : ℕ) → n < length course_entries → (c : Config) × (worked n ≡ record { entries = take n course_entries; state = running c })
    pub ends : (n : ℕ) → length course_entries ≤ n → worked n ≡ record { entries = course_entries; state = over (course forms sheet ticket).outcome }
    pub reached : (n : ℕ) (c : Config) → (worked n).state ≡ running c → Reached n c

-- by a sheet that is admitted the machine follows the course of every ticket
abbrev pub Following : Type 0
Following = (forms : Forms) (sheet : Sheet) → admitted forms sheet ≡ true → (ticket : List ℕ) → Follows forms sheet ticket
