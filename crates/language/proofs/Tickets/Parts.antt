-- A field that may be named lies inside a ticket of its sheet's length.
use Rattle.std.proofs.Common.{◌≡◌, ℕ, zero, suc, ◌+◌, ◌-◌, ◌*◌, ◌<◌, ◌≤◌, Bool, true, false, cond, ltb, List, [], ◌∷◌, length, get_or, take, refl, le_of_suc-le-suc, mul-le-mul_right, arith, length-append}
use Rattle.std.proofs.lemmas.List.{get_or_append_left, get_or-append_right}
use Rattle.std.proofs.lemmas.Bool.{ltb-true, ltb-false}
use Rattle.bank.specs.Model.{Forms}
use Rattle.language.specs.Syntax.{Field, no_field}
use Rattle.language.specs.Layout.{width_of, widths, field_at, ticket_length}
use Rattle.language.specs.Tickets.{PartsInside}

module _ (forms : Forms) where
  -- the fields before one, and that one, are no wider than all
  up_to : (fs : List Field) (i : ℕ) → i < length fs → widths forms (take i fs) + width_of forms (get_or fs i no_field) ≤ widths forms fs
  up_to [] i h = absurd (omega arith)
  up_to (f ∷ fs) zero h = omega arith
  up_to (f ∷ fs) (suc i) h = omega (arith, up_to fs i (le_of_suc-le-suc h))

  pub parts_inside : PartsInside forms
  parts_inside sheet row f named = go (ltb f (length sheet.head)) refl
    where
      row_width : ℕ
      row_width = widths forms sheet.row_fields

      go : (b : Bool) → ltb f (length sheet.head) ≡ b
          → cond b (widths forms (take f sheet.head)) (widths forms sheet.head + row * row_width + widths forms (take (f - length sheet.head) sheet.row_fields))
          + width_of forms (field_at sheet f) ≤ ticket_length forms sheet
      go true e =
          let before = ltb-true f (length sheet.head) e in
          rw (get_or_append_left sheet.head sheet.row_fields no_field f before) (omega (arith, up_to sheet.head f before))
      go false e =
          let past = ltb-false f (length sheet.head) e in
          let inside : f - length sheet.head < length sheet.row_fields = omega (arith, named.declared, length-append sheet.head sheet.row_fields) in
          let rows : suc row * row_width ≤ sheet.rows * row_width = mul-le-mul_right row_width (named.in_row past) in
          rw (get_or-append_right sheet.head sheet.row_fields (length sheet.head) f no_field refl past)
          (omega (arith, rows, up_to sheet.row_fields (f - length sheet.head) inside))
