-- The account of a ticket that holds a weighing's numbers shows them.
use Rattle.std.proofs.Common.{◌≡◌, ℕ, List, [], ◌++◌, length, ℤ, Some, refl, ap, ◌∙◌, append_assoc, append-nil, arith, eq-eqb}
use Rattle.std.proofs.lemmas.List.{length-append, take_at, drop_at}
use Rattle.std.proofs.lemmas.Option.{MatchOption-at_some}
use Rattle.std.specs.Result.{result_ok}
use Rattle.bank.specs.Answers.{read_by}
use Rattle.bank.specs.Model.{Forms, Lawful, LawfulForm}
use Rattle.account.specs.declared.Field.{Field}
use Rattle.account.specs.Account.{field_number, account_text, gross_field, tare_field, price_field, pay_field}
use Rattle.account.specs.Weighing.{Weighing, Written, TicketOf, weighing_lines, Tells}

module _ {forms : Forms} (lawful : Lawful forms) where
  module _ {f : Field} {n : ℤ} {part : List ℕ} (h : Written forms f n part) where
    form_lawful : LawfulForm h.form
    form_lawful = MatchOption-at_some (Unit {0}) LawfulForm h.form h.has (lawful f.form.letter f.form.size)

    part_wide : length part ≡ h.form.width
    part_wide = ap length h.is ∙ form_lawful.long n h.within

    part_fills : length part ≡ f.width
    part_fills = part_wide ∙ h.fills

    part_read : result_ok (read_by (forms f.form.letter f.form.size) part) ≡ Some n
    part_read = rw (h.has, eq-eqb _ _ part_wide, h.is, form_lawful.back n h.within)

    -- the field's bytes stand after those before it
    number_written : (before after : List ℕ) → length before ≡ f.offset → field_number forms (before ++ (part ++ after)) f ≡ Some n
    number_written before after at = rw (drop_at before (part ++ after) f.offset at, take_at part after f.width part_fills) part_read

  module _ {w : Weighing} {ticket : List ℕ} (t : TicketOf forms w ticket) where
    abbrev four : List ℕ
    four = t.gross_part ++ (t.tare_part ++ (t.price_part ++ t.pay_part))

    abbrev first_two : List ℕ
    first_two = t.gross_part ++ t.tare_part

    abbrev first_three : List ℕ
    first_three = first_two ++ t.price_part

    two_long : length first_two ≡ 8
    two_long = rw length-append (omega (arith, part_fills t.gross_written, part_fills t.tare_written))

    three_long : length first_three ≡ 11
    three_long = rw length-append (omega (arith, two_long, part_fills t.price_written))

    gross_number : field_number forms four gross_field ≡ Some w.gross
    gross_number = number_written t.gross_written [] (t.tare_part ++ (t.price_part ++ t.pay_part)) refl

    tare_number : field_number forms four tare_field ≡ Some w.tare
    tare_number = number_written t.tare_written t.gross_part (t.price_part ++ t.pay_part) (part_fills t.gross_written)

    price_number : field_number forms four price_field ≡ Some w.price
    price_number = simp append_assoc at (number_written t.price_written first_two t.pay_part two_long)

    pay_number : field_number forms four pay_field ≡ Some w.pay
    pay_number = simp (append_assoc, append-nil) at (number_written t.pay_written first_three [] three_long)

    ticket_long : length four ≡ 16
    ticket_long = simp length-append (omega (arith, part_fills t.gross_written, part_fills t.tare_written, part_fills t.price_written, part_fills t.pay_written))

    told : account_text forms ticket ≡ weighing_lines w
    told = rw (t.joined, eq-eqb _ _ ticket_long, gross_number, tare_number, price_number, pay_number, append-nil)

  pub tells : {ticket : List ℕ} (text : List ℕ) → text ≡ account_text forms ticket → Tells forms ticket text
  tells text e w t = e ∙ told t
