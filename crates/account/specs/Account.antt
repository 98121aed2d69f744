-- The account of a ticket, the bytes of one weighing: a line for each field of the weighbridge's layout,
-- or the line `lay 22` where the ticket has another length than the layout.
use Rattle.std.specs.Prelude.{ℕ, suc, cond, List, [], ◌∷◌, ◌++◌, length, take, drop, ℤ, None, codes, Option, ◌==◌}
use Rattle.std.specs.Result.{result_ok}
use Rattle.bank.specs.Answers.{form_by, read_by}
use Rattle.bank.specs.Model.{Forms}
use Rattle.bank.specs.declared.FormName.{FormName}
use Rattle.figures.specs.Line.{line_bytes}
use Rattle.account.specs.declared.Field.{Field}

-- the form of the letter p (code 112) and a size
abbrev packed : ℕ → FormName
packed size = record { letter = 112; size = size }

abbrev pub gross_field : Field
gross_field = record { form = packed 7; places = 1; offset = 0; width = 4 }

abbrev pub tare_field : Field
tare_field = record { form = packed 7; places = 1; offset = 4; width = 4 }

abbrev pub price_field : Field
price_field = record { form = packed 5; places = 2; offset = 8; width = 3 }

abbrev pub pay_field : Field
pay_field = record { form = packed 9; places = 2; offset = 11; width = 5 }

abbrev pub layout : List Field
layout = gross_field ∷ tare_field ∷ price_field ∷ pay_field ∷ []

-- what the bank reads in the field's own bytes
abbrev pub field_number : Forms → List ℕ → Field → Option ℤ
field_number forms ticket f = result_ok (read_by (form_by forms f.form) (take f.width (drop f.offset ticket)))

-- the lines of these fields, numbered from i
abbrev pub field_lines : Forms → List ℕ → ℕ → List Field → List ℕ
field_lines forms ticket i [] = []
field_lines forms ticket i (f ∷ fs) = line_bytes i None (field_number forms ticket f) f.places ++ field_lines forms ticket (suc i) fs

abbrev pub account_text : Forms → List ℕ → List ℕ
account_text forms ticket = cond (length ticket == 16) (field_lines forms ticket 0 layout) (codes "lay 22\n")
