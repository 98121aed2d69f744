-- Refused texts: what follows the refused token plays no part, and every text is accepted or refused.
use Rattle.std.specs.Prelude.{◌≡◌, ℕ, ◌≤◌, ◌⊎◌, List, ◌++◌, length, Ok, Err}
use Rattle.bank.specs.Model.{Forms}
use Rattle.language.specs.declared.Check.{Check}
use Rattle.language.specs.declared.TextRefusal.{TextRefusal}
use Rattle.language.specs.Lexemes.{Whole}
use Rattle.language.specs.Syntax.{Sheet}
use Rattle.language.specs.Reading.{sheet_read}

pub record RefusedFirst (forms : Forms) : Type 0 where
  -- a refusal at a token stays the same whatever text follows that token, in texts that are not too long
  pub stays : (before token after other : List ℕ) (check : Check) → Whole token after → Whole token other
      → length (before ++ (token ++ after)) ≤ 4096 → length (before ++ (token ++ other)) ≤ 4096
      → sheet_read forms (before ++ (token ++ after)) ≡ Err (record { check = check; place = length before })
      → sheet_read forms (before ++ (token ++ other)) ≡ Err (record { check = check; place = length before })
  -- every text is accepted as a sheet, or refused with one number and a place within the text or at its end
  pub decides : (text : List ℕ)
      → ((sheet : Sheet) × (sheet_read forms text ≡ Ok sheet))
      ⊎ ((r : TextRefusal) × (sheet_read forms text ≡ Err r) × (r.place ≤ length text))
