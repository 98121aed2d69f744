-- A weighing's account in the weighing's own terms: a ticket that holds its four numbers shows those numbers.
use Rattle.std.specs.Prelude.{◌≡◌, ℕ, List, ◌++◌, ℤ, Some, None}
use Rattle.bank.specs.Answers.{form_by}
use Rattle.bank.specs.Model.{Form, Forms, Within}
use Rattle.figures.specs.Line.{line_bytes}
use Rattle.account.specs.declared.Field.{Field}
use Rattle.account.specs.Account.{gross_field, tare_field, price_field, pay_field}

pub record Weighing : Type 0 where
  pub gross : ℤ
  pub tare : ℤ
  pub price : ℤ
  pub pay : ℤ

-- the part is the number's image in the form that the bank has for the field
pub record Written (forms : Forms) (f : Field) (n : ℤ) (part : List ℕ) : Type 0 where
  pub form : Form
  pub has : form_by forms f.form ≡ Some form
  pub fills : form.width ≡ f.width
  pub within : Within form n
  pub is : part ≡ form.image n

-- the ticket is the four images, one after the other
pub record TicketOf (forms : Forms) (w : Weighing) (ticket : List ℕ) : Type 0 where
  pub gross_part : List ℕ
  pub tare_part : List ℕ
  pub price_part : List ℕ
  pub pay_part : List ℕ
  pub joined : ticket ≡ gross_part ++ (tare_part ++ (price_part ++ pay_part))
  pub gross_written : Written forms gross_field w.gross gross_part
  pub tare_written : Written forms tare_field w.tare tare_part
  pub price_written : Written forms price_field w.price price_part
  pub pay_written : Written forms pay_field w.pay pay_part

abbrev pub weighing_lines : Weighing → List ℕ
weighing_lines w = line_bytes 0 None (Some w.gross) 1 ++ (line_bytes 1 None (Some w.tare) 1 ++ (line_bytes 2 None (Some w.price) 2 ++ line_bytes 3 None (Some w.pay) 2))

abbrev pub Tells : Forms → List ℕ → List ℕ → Type 0
Tells forms ticket text = (w : Weighing) → TicketOf forms w ticket → text ≡ weighing_lines w
