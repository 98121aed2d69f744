-- How much room a sheet that is accepted wants, in every bank: for its steps, for their operands, and for a course.
use Rattle.std.specs.Prelude.{◌≡◌, ℕ, ◌^◌, ◌<◌, ◌≤◌, List, length, Ok}
use Rattle.std.specs.List.{AllByRecursion}
use Rattle.bank.specs.Model.{Forms}
use Rattle.language.specs.declared.Step.{Step}
use Rattle.language.specs.declared.Step.TheVariants as S
use Rattle.language.specs.declared.Line.{Line}
use Rattle.language.specs.Syntax.{Sheet}
use Rattle.language.specs.Meaning.{course}
use Rattle.language.specs.Reading.{sheet_read}
use Rattle.language.specs.Steps.{steps}

-- the operands of a step among n steps
abbrev pub Small : ℕ → Step → Type 0
Small n (S.Constant units) = units < 10 ^ 15
Small n (S.Field f) = f < 64
Small n (S.Add a b) = (a ≤ 12) × (b ≤ 12)
Small n (S.Subtract a b) = (a ≤ 12) × (b ≤ 12)
Small n S.Multiply = Unit {0}
Small n S.Negate = Unit {0}
Small n (S.Store f r places) = (f < 64) × (places ≤ 12)
Small n (S.Test a b o t) = (a ≤ 12) × (b ≤ 12) × (t < n)
Small n (S.Go t) = t < n
Small n S.Open = Unit {0}
Small n (S.Next t) = t < n
Small n S.End = Unit {0}

abbrev pub SmallLine : ℕ → Line → Type 0
SmallLine n l = (l.statement ≤ 255) × Small n l.step

pub record Bounded (forms : Forms) (sheet : Sheet) : Type 0 where
  pub few_steps : length (steps sheet) ≤ 4096
  -- so statements, fields, zeros and places fit u8, steps to go to fit u16, and units fit u64, as `Line` and `Step` have them
  pub small_lines : AllByRecursion (SmallLine (length (steps sheet))) (steps sheet)
  -- 64 rows at most, and in each of them every step once at most
  pub short_courses : (ticket : List ℕ) → length (course forms sheet ticket).entries ≤ 262144

-- every sheet that is accepted from a text is so bounded
abbrev pub Bounds : Type 0
Bounds = (forms : Forms) (text : List ℕ) (sheet : Sheet) → sheet_read forms text ≡ Ok sheet → Bounded forms sheet
