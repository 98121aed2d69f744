-- Work that leaves entries behind: one action adds one entry, and a fault ends the work.
use Rattle.std.specs.Prelude.{ℕ, ◌-◌, List, [], ◌∷◌, ◌++◌, ℤ, pos, Ok, Err, Result, slice_index_or}
use Rattle.language.specs.declared.Entry.{Entry}
use Rattle.language.specs.declared.Fault.{Fault}
use Rattle.language.specs.declared.FieldFault.{FieldFault}

-- the entries that some work adds, and what it comes to: an A, or a fault
pub record Worked (A : Type 0) : Type 0 where
  pub entries : List Entry
  pub outcome : Result A FieldFault

infixl 4 ◌next◌
-- one piece of work, and then another that goes on with its value; a fault ends both
unfoldable pub ◌next◌ : {A B : Type 0} → Worked A → (A → Worked B) → Worked B
w next k = elim w.outcome [
  | Err b ↦ record { entries = w.entries; outcome = Err b }
  | Ok a ↦ record { entries = w.entries ++ (k a).entries; outcome = (k a).outcome }
]

-- no work
unfoldable pub settled : {A : Type 0} → A → Worked A
settled a = record { entries = []; outcome = Ok a }

-- where an entry belongs: its statement and row
pub record Site : Type 0 where
  pub statement : ℕ
  pub row : ℕ

abbrev pub entry : Site → ℤ → Entry
entry at figure = record { statement = at.statement; row = at.row; figure = figure }

-- one thing done: its figure and what it comes to, or its fault
pub data Action (A : Type 0) : Type 0 where
  yields : ℤ → A → Action A
  fails : FieldFault → Action A

-- an action adds one entry; that of a fault has figure 0
unfoldable pub done : {A : Type 0} → Site → Action A → Worked A
done at (yields figure a) = record { entries = entry at figure ∷ []; outcome = Ok a }
done at (fails b) = record { entries = entry at (pos 0) ∷ []; outcome = Err b }

-- an action whose figure is its value
abbrev pub figured : ℤ → Action ℤ
figured n = yields n n

-- an action without a figure of its own
abbrev pub passed : {A : Type 0} → A → Action A
passed a = yields (pos 0) a

abbrev pub faults : {A : Type 0} → Fault → ℕ → Action A
faults fault field = fails (record { fault = fault; field = field })

-- what stands where there is no such entry
abbrev pub no_entry : Entry
no_entry = record { statement = 0; row = 0; figure = pos 0 }

-- the entry of a number, counted from 1
abbrev pub entry_of : List Entry → ℕ → Entry
entry_of es n = slice_index_or es (n - 1) no_entry
