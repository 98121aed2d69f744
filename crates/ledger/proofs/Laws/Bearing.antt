-- What a refused enter or read bears: its part of the ticket has the form's width.
use Rattle.std.proofs.Common.{◌≡◌, ℕ, Bool, true, false, cond, not, ◌&&◌, eqb, ltb, List, length, ℤ, Some, None, Ok, Err, Result, sym, refl, ◌∙◌, arith, length-append}
use Rattle.std.proofs.lemmas.Bool.{and_parts, ltb-true}
use Rattle.bank.specs.Model.{Forms}
use Rattle.bank.specs.Answers.{read_by, written}
use Rattle.bank.specs.declared.BankRefusal.{BankRefusal}
use Rattle.bank.specs.declared.BankRefusal.TheVariants as B
use Rattle.language.specs.Syntax.{Sheet, fields}
use Rattle.language.specs.Layout.{form_of, field_at, part, stored}
use Rattle.language.specs.Reading.{sheet_read}
use Rattle.language.specs.Following.{Named}
use Rattle.language.proofs.Acceptance.Acceptance.{accepted_exactly}
use Rattle.language.proofs.Acceptance.Admits.{admits}
use Rattle.language.proofs.Tickets.Faults.{Wide, ReadBears, WriteBears, read_bears, write_bears, part_wide}
use Rattle.ledger.specs.declared.CallRefusal.TheVariants.{NoField, NotHeld, NoValue}
use Rattle.ledger.specs.declared.Answer.TheVariants.{Entered, Number, Refused}
use Rattle.ledger.specs.Ledger.{Ledger, refuse, refuse_if, known, enters, reads}
use Rattle.ledger.specs.Standing.{Fits, Standing, nothing, a_sheet, a_ticket, a_run, BearAlways}
use Rattle.ledger.proofs.Laws.Effects.{standing}
use Rattle.ledger.proofs.Laws.Standing.{stands_always}

-- a field and row that are known may be named
known_named : (s : Sheet) (f row : ℕ) → known s f row ≡ true → Named s row f
known_named s f row h = go (ltb f (length s.head)) refl h
  where
    go : (b : Bool) → ltb f (length s.head) ≡ b → cond b (eqb row 255) (ltb f (length (fields s)) && ltb row s.rows) ≡ true → Named s row f
    go true e h =
        let below = ltb-true f (length s.head) e in
        record { declared = omega (arith, length-append s.head s.row_fields); in_row = λ past. absurd (omega arith) }
    go false e h =
        let (declared, inside) = and_parts (ltb f (length (fields s))) (ltb row s.rows) h in
        record { declared = ltb-true f (length (fields s)) declared; in_row = λ past. ltb-true row s.rows inside }

module _ (forms : Forms) (lent : List ℕ) where
  wide : (text : List ℕ) (s : Sheet) (t : List ℕ) (f row : ℕ) → sheet_read forms text ≡ Ok s → Fits forms lent s t → known s f row ≡ true
      → Wide (form_of forms (field_at s f)) (part forms s f row t)
  wide text s t f row q fits h = part_wide forms s (admits forms s ((accepted_exactly forms).sound text s q).1) row f t (known_named s f row h) fits.long

  enter_bears : {l : Ledger} (f row : ℕ) (n : ℤ) (e : BankRefusal) → Standing forms lent l → (enters forms l f row n).answer ≡ Refused (NotHeld e) → e ≡ B.OutOfRange
  enter_bears f row n e nothing h = cc
  enter_bears f row n e (a_sheet text s q) h = cc
  enter_bears f row n e (a_ticket text s t q fits) h =
      go (known s f row) (written (form_of forms (field_at s f)) n (part forms s f row t)) (λ k. write_bears _ n _ (wide text s t f row q fits k)) refl h
    where
      l : Ledger
      l = standing (Some s) (Some t) None

      go : (b : Bool) (v : Result (List ℕ) BankRefusal) → (known s f row ≡ true → WriteBears v) → known s f row ≡ b
          → (refuse_if l (not b) NoField (elim v [
            | Ok image ↦ record { answer = Entered; after = standing (Some s) (Some (stored forms s f row image t)) None }
            | Err e ↦ refuse l (NotHeld e)
          ])).answer ≡ Refused (NotHeld e) → e ≡ B.OutOfRange
      go false v w k h = cc
      go true (Ok image) w k h = cc
      go true (Err d) w k h = let same : d ≡ e = cc in sym same ∙ w k
  enter_bears f row n e (a_run text s t sum q fits some less) h = cc

  -- on a ticket, whether a run is open or not
  ticket_bears : (text : List ℕ) (s : Sheet) (t : List ℕ) (l : Ledger) (f row : ℕ) (e : BankRefusal) → sheet_read forms text ≡ Ok s → Fits forms lent s t
      → (refuse_if l (not (known s f row)) NoField (elim (read_by (form_of forms (field_at s f)) (part forms s f row t)) [
        | Ok n ↦ record { answer = Number n; after = l }
        | Err e ↦ refuse l (NoValue e)
      ])).answer ≡ Refused (NoValue e) → e ≡ B.NoValue
  ticket_bears text s t l f row e q fits h =
      go (known s f row) (read_by (form_of forms (field_at s f)) (part forms s f row t)) (λ k. read_bears _ _ (wide text s t f row q fits k)) refl h
    where
      go : (b : Bool) (v : Result ℤ BankRefusal) → (known s f row ≡ true → ReadBears v) → known s f row ≡ b
          → (refuse_if l (not b) NoField (elim v [ Ok n ↦ record { answer = Number n; after = l } | Err e ↦ refuse l (NoValue e) ])).answer ≡ Refused (NoValue e) → e ≡ B.NoValue
      go false v w k h = cc
      go true (Ok n) w k h = cc
      go true (Err d) w k h = let same : d ≡ e = cc in sym same ∙ w k

  read_call_bears : {l : Ledger} (f row : ℕ) (e : BankRefusal) → Standing forms lent l → (reads forms l f row).answer ≡ Refused (NoValue e) → e ≡ B.NoValue
  read_call_bears f row e nothing h = cc
  read_call_bears f row e (a_sheet text s q) h = cc
  read_call_bears f row e (a_ticket text s t q fits) h = ticket_bears text s t (standing (Some s) (Some t) None) f row e q fits h
  read_call_bears f row e (a_run text s t sum q fits some less) h =
      ticket_bears text s t (standing (Some s) (Some t) (Some (record { opening = t; sum = sum }))) f row e q fits h

pub bear_always : BearAlways
bear_always forms lawful lent = record {
  enters = λ cs f row n e h. enter_bears forms lent f row n e (stands_always forms lawful lent cs) h;
  reads = λ cs f row e h. read_call_bears forms lent f row e (stands_always forms lawful lent cs) h;
}
