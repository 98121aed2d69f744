-- A number that was written is read back: for every lawful form, whatever the part held before.
use Rattle.std.specs.Prelude.{◌≡◌, ℕ, List, ℤ, IfSome, Ok, Option}
use Rattle.bank.specs.Model.{Form, LawfulForm}
use Rattle.bank.specs.Answers.{read_by, written}

abbrev pub ReadsBack : Type 0
ReadsBack = (form : Option Form) → IfSome form LawfulForm → (n : ℤ) (before after : List ℕ) → written form n before ≡ Ok after → read_by form after ≡ Ok n
