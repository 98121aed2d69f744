-- The form that a kind and a size are, and what a part has to meet before it is read or written by a name.
use Rattle.std.specs.Prelude.{◌≡◌, ℕ, cond, Some, None, Option, Result, MatchResult, ◌==◌}
use Rattle.bank.specs.Model.{Form}
use Rattle.bank.specs.declared.BankRefusal.{BankRefusal}
use Rattle.bank.specs.declared.BankRefusal.TheVariants.{Lacking, WrongWidth}
use Rattle.encodings.specs.Shipped.{form_of}
use Rattle.forms.specs.declared.format.Format.{Format}

abbrev pub form : Format → Form
form f = form_of f.kind f.size

-- why a part of that length does not do for a form
abbrev pub misfit : Option Form → ℕ → Option BankRefusal
misfit None length = Some Lacking
misfit (Some f) length = cond (length == f.width) None (Some WrongWidth)

-- the format is that form's, and an error that the form is lacking
abbrev pub FormatOf : Option Form → Result Format BankRefusal → Type 0
FormatOf f r = MatchResult r (λ format. f ≡ Some (form format)) (λ e. (f ≡ None) × (e ≡ Lacking))

-- the format is that form's and the part has its width, or the error is the first refusal that applies
abbrev pub Fits : Option Form → ℕ → Result Format BankRefusal → Type 0
Fits f length r = MatchResult r (λ format. (f ≡ Some (form format)) × (length ≡ (form format).width)) (λ e. misfit f length ≡ Some e)
