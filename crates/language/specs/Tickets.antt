-- What a ticket keeps while it is worked: its length and its being bytes; how large the values are that wait; and what faults bear.
use Rattle.std.specs.Prelude.{◌≡◌, ℕ, ◌+◌, ◌^◌, ◌<◌, ◌≤◌, true, List, length, ℤ, Ok, Err, unsigned_abs}
use Rattle.std.specs.List.{AllByRecursion}
use Rattle.bank.specs.Model.{Forms, Lawful, Bytes}
use Rattle.bank.specs.declared.BankRefusal.TheVariants as B
use Rattle.language.specs.declared.Fault.{Fault}
use Rattle.language.specs.declared.Fault.TheVariants.{NoValue, TooLong, NotHeld}
use Rattle.language.specs.declared.FieldFault.{FieldFault}
use Rattle.language.specs.Syntax.{Sheet}
use Rattle.language.specs.Layout.{field_at, width_of, offset, ticket_length}
use Rattle.language.specs.Meaning.{course}
use Rattle.language.specs.Reading.{sheet_read}
use Rattle.language.specs.Admitted.{admitted}
use Rattle.language.specs.Machine.{Config, running, over}
use Rattle.language.specs.Following.{Named, worked}

-- a field that may be named lies inside a ticket of its sheet's length
abbrev pub PartsInside : Forms → Type 0
PartsInside forms = (sheet : Sheet) (row f : ℕ) → Named sheet row f
    → offset forms sheet f row + width_of forms (field_at sheet f) ≤ ticket_length forms sheet

-- `after` is as long as `before`, and of bytes where that is
pub record Kept (before after : List ℕ) : Type 0 where
  pub same_length : length after ≡ length before
  pub bytes : Bytes before → Bytes after

-- a course that ends well leaves a ticket of the same length
abbrev pub CourseKeeps : Forms → Type 0
CourseKeeps forms = (sheet : Sheet) → admitted forms sheet ≡ true
    → (ticket after : List ℕ) → (course forms sheet ticket).outcome ≡ Ok after → Kept ticket after

-- every value is below 10^18 in magnitude
abbrev pub ShortValues : List ℤ → Type 0
ShortValues stack = AllByRecursion (λ x. unsigned_abs x < 10 ^ 18) stack

-- a run over a sheet's steps, wherever it stands and where it ends well, has a ticket of the same length;
-- and by a sheet accepted from a text no value that waits is too long, on a ticket of bytes
pub record RunsKeep (forms : Forms) : Type 0 where
  pub going : (sheet : Sheet) (ticket : List ℕ) (n : ℕ) (c : Config) → (worked forms sheet ticket n).state ≡ running c → Kept ticket c.ticket
  pub ended : (sheet : Sheet) (ticket : List ℕ) (n : ℕ) (after : List ℕ) → (worked forms sheet ticket n).state ≡ over (Ok after) → Kept ticket after
  pub waiting : (text : List ℕ) (sheet : Sheet) → sheet_read forms text ≡ Ok sheet → (ticket : List ℕ) → Bytes ticket
      → (n : ℕ) (c : Config) → (worked forms sheet ticket n).state ≡ running c → ShortValues c.stack

-- what a fault bears of the bank: 4 where a field has no value, 3 where a number is not held
abbrev pub Bears : Fault → Type 0
Bears (NoValue e) = e ≡ B.NoValue
Bears TooLong = Unit {0}
Bears (NotHeld e) = e ≡ B.OutOfRange

-- no other refusal of the bank arises on a ticket of the sheet's length
abbrev pub FaultsBear : Forms → Type 0
FaultsBear forms = (sheet : Sheet) → admitted forms sheet ≡ true → (ticket : List ℕ) → length ticket ≡ ticket_length forms sheet
    → (b : FieldFault) → (course forms sheet ticket).outcome ≡ Err b → Bears b.fault

-- by every bank that keeps its laws; where the fields lie rests on no law
pub record TicketsKept : Type 0 where
  pub parts : (forms : Forms) → PartsInside forms
  pub courses : (forms : Forms) → Lawful forms → CourseKeeps forms
  pub runs : (forms : Forms) → Lawful forms → RunsKeep forms
  pub faults : (forms : Forms) → Lawful forms → FaultsBear forms
