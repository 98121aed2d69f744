-- Which texts are accepted, and as which sheet: the reader is sound and complete for the grammar, and no text has two readings.
use Rattle.std.specs.Prelude.{◌≡◌, ℕ, ◌≤◌, true, List, [], ◌∷◌, ◌++◌, map, length, Ok}
use Rattle.bank.specs.Model.{Forms}
use Rattle.language.specs.Tokens.{tokens, ends}
use Rattle.language.specs.Syntax.{Sheet, printed}
use Rattle.language.specs.Reading.{sheet_read}
use Rattle.language.specs.Admitted.{admitted}

-- the text is a writing of the sheet: its tokens are the sheet's, and it is no longer than it may be
pub record Writes (text : List ℕ) (sheet : Sheet) : Type 0 where
  pub same_tokens : map (λ p. p.token) (tokens text) ≡ printed sheet ++ ends ∷ []
  pub short : length text ≤ 4096

-- a text is accepted exactly when it writes a sheet that is admitted, and as that sheet
pub record AcceptedExactly (forms : Forms) : Type 0 where
  pub sound : (text : List ℕ) (sheet : Sheet) → sheet_read forms text ≡ Ok sheet → Writes text sheet × (admitted forms sheet ≡ true)
  pub complete : (text : List ℕ) (sheet : Sheet) → Writes text sheet → admitted forms sheet ≡ true → sheet_read forms text ≡ Ok sheet
  pub one_reading : (text : List ℕ) (sheet other : Sheet)
      → Writes text sheet → admitted forms sheet ≡ true → Writes text other → admitted forms other ≡ true → sheet ≡ other
