-- Where a sheet's fields lie in a ticket, and how many places an expression has.
-- A ticket is the bytes of one weighing: the fields before `rows` in order, then each row with the fields after `rows` in order.
use Rattle.std.specs.Prelude.{ℕ, ◌+◌, ◌-◌, ◌*◌, max, cond, List, [], ◌∷◌, ◌++◌, length, take, drop, Some, None, Option, nat_lt, slice_index_or}
use Rattle.bank.specs.Model.{Form, Forms}
use Rattle.language.specs.Syntax.{Sheet, Field, fields, no_field, Expr, Term, Factor, only, sum, just, times, read, constant, group, minus}

-- ---- bytes

module _ (forms : Forms) where
  abbrev pub form_of : Field → Option Form
  form_of f = forms f.letter f.size

  abbrev pub width_of : Field → ℕ
  width_of f = elim (form_of f) [ None ↦ 0 | Some form ↦ form.width ]

  abbrev pub widths : List Field → ℕ
  widths [] = 0
  widths (f ∷ fs) = width_of f + widths fs

  abbrev pub ticket_length : Sheet → ℕ
  ticket_length sheet = widths sheet.head + sheet.rows * widths sheet.row_fields

  -- where field f starts, in a row if it is a row's field
  abbrev pub offset : Sheet → ℕ → ℕ → ℕ
  offset sheet f row = cond (nat_lt f (length sheet.head)) (widths (take f sheet.head))
      (widths sheet.head + row * widths sheet.row_fields + widths (take (f - length sheet.head) sheet.row_fields))

abbrev pub field_at : Sheet → ℕ → Field
field_at sheet f = slice_index_or (fields sheet) f no_field

module _ (forms : Forms) (sheet : Sheet) where
  -- the bytes of field f
  abbrev pub part : ℕ → ℕ → List ℕ → List ℕ
  part f row ticket = take (width_of forms (field_at sheet f)) (drop (offset forms sheet f row) ticket)

  -- the ticket with an image in the place of field f
  abbrev pub stored : ℕ → ℕ → List ℕ → List ℕ → List ℕ
  stored f row image ticket = take (offset forms sheet f row) ticket ++ image ++ drop (offset forms sheet f row + length image) ticket

-- ---- places: digits after the point

abbrev pub places_of : Sheet → ℕ → ℕ
places_of sheet f = (field_at sheet f).places

-- a sum or a difference has the larger of its sides' places, and a product adds them
module _ (sheet : Sheet) where
  abbrev mutual
    pub expr_places : Expr → ℕ
    expr_places (only t) = term_places t
    expr_places (sum e g t) = max (expr_places e) (term_places t)

    pub term_places : Term → ℕ
    term_places (just f) = factor_places f
    term_places (times t f) = term_places t + factor_places f

    pub factor_places : Factor → ℕ
    factor_places (read f) = places_of sheet f
    factor_places (constant units places) = places
    factor_places (group e) = expr_places e
    factor_places (minus f) = factor_places f

-- the zeros that a side with `own` places gets beside one with `other` places
abbrev pub zeros : ℕ → ℕ → ℕ
zeros own other = max own other - own
