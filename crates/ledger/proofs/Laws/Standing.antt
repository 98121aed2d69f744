-- Every list of calls leaves a ledger whose parts fit one another.
use Rattle.std.proofs.Common.{◌≡◌, ℕ, List, [], ◌∷◌, length, Some, None, Ok, sym, refl, ap, ◌∙◌, subst, arith}
use Rattle.std.proofs.ByRecursion.{All-take, All-drop}
use Rattle.std.proofs.lemmas.Bool.{ltb-true}
use Rattle.bank.specs.Model.{Forms, Lawful}
use Rattle.language.specs.Syntax.{Sheet}
use Rattle.language.specs.Meaning.{course}
use Rattle.language.specs.Reading.{sheet_read}
use Rattle.language.specs.Tickets.{Kept}
use Rattle.language.proofs.Acceptance.Acceptance.{accepted_exactly}
use Rattle.language.proofs.Tickets.Actions.{stored_kept}
use Rattle.language.proofs.Tickets.Tickets.{tickets_kept}
use Rattle.ledger.specs.declared.Call.{Call}
use Rattle.ledger.specs.Ledger.{Ledger, fresh, Answered, open_or, at, answered, after_all}
use Rattle.ledger.specs.Standing.{Fits, Standing, nothing, a_sheet, a_ticket, a_run, StandsAlways}
use Rattle.ledger.proofs.Laws.Effects.{Effect, refused, unread, loaded, laid, entered, stopped, finished, faulted, dropped, number, effect, sum_with, course_on}

module _ (forms : Forms) (lawful : Lawful forms) (lent : List ℕ) where
  kept_fits : (s : Sheet) (t u : List ℕ) → Fits forms lent s t → Kept t u → Fits forms lent s u
  kept_fits s t u f k = record { long = k.same_length ∙ f.long; bytes = λ b. k.bytes (f.bytes b) }

  -- what is known of a sheet and a ticket that stand
  sheet_known : {l : Ledger} (s : Sheet) → Standing forms lent l → l.sheet ≡ Some s → (text : List ℕ) × (sheet_read forms text ≡ Ok s)
  sheet_known s nothing e = cc
  sheet_known s (a_sheet text r q) e = (text, q ∙ cc)
  sheet_known s (a_ticket text r t q f) e = (text, q ∙ cc)
  sheet_known s (a_run text r t sum q f some less) e = (text, q ∙ cc)

  ticket_fits : {l : Ledger} (s : Sheet) (t : List ℕ) → Standing forms lent l → l.sheet ≡ Some s → l.ticket ≡ Some t → Fits forms lent s t
  ticket_fits s t nothing a b = cc
  ticket_fits s t (a_sheet text r q) a b = cc
  ticket_fits s t (a_ticket text r u q f) a b = let es : r ≡ s = cc in let et : u ≡ t = cc in rw (es, et) at f
  ticket_fits s t (a_run text r u sum q f some less) a b = let es : r ≡ s = cc in let et : u ≡ t = cc in rw (es, et) at f

  -- a run is on the ticket that stands
  opened_on : {l : Ledger} (t : List ℕ) → Standing forms lent l → l.ticket ≡ Some t → (open_or l.run t).opening ≡ t
  opened_on t nothing b = refl
  opened_on t (a_sheet text r q) b = refl
  opened_on t (a_ticket text r u q f) b = refl
  opened_on t (a_run text r u sum q f some less) b = cc

  dropped_stands : {l : Ledger} → Standing forms lent l → Standing forms lent (record { sheet = l.sheet; ticket = l.ticket; run = None })
  dropped_stands nothing = nothing
  dropped_stands (a_sheet text s q) = a_sheet text s q
  dropped_stands (a_ticket text s t q f) = a_ticket text s t q f
  dropped_stands (a_run text s t sum q f some less) = a_ticket text s t q f

  step : {l : Ledger} {c : Call} {x : Answered} → Standing forms lent l → Effect forms lent l c x → Standing forms lent x.after
  step h (refused why e) = h
  step h (unread p r e) = nothing
  step h (loaded p s e) = a_sheet (at lent p) s e
  step h (laid p s a k) =
      let (text, q) = sheet_known s h a in
      a_ticket text s (at lent p) q (record { long = k; bytes = λ b. All-take _ p.length _ (All-drop _ p.start lent b) })
  step h (entered f row n s t image a b c) =
      let (text, q) = sheet_known s h a in
      a_ticket text s _ q (kept_fits s t _ (ticket_fits s t h a b) (stored_kept forms lawful s row f n t image c))
  step {l} h (stopped budget s t a b some c) =
      let (text, q) = sheet_known s h a in
      let e = opened_on t h b in
      let less = ltb-true (sum_with forms lent l t budget) (length (course_on forms lent l s t).entries) c in
      subst (λ u. Standing forms lent (record { sheet = Some s; ticket = Some t; run = Some (record { opening = u; sum = sum_with forms lent l t budget }) })) (sym e)
      (a_run text s t (sum_with forms lent l t budget) q (ticket_fits s t h a b) (omega arith) (rw e at less))
  step {l} h (finished budget s t u a b c d) =
      let (text, q) = sheet_known s h a in
      let admitted = ((accepted_exactly forms).sound text s q).1 in
      let ends : (course forms s t).outcome ≡ Ok u = ap (λ v. (course forms s v).outcome) (sym (opened_on t h b)) ∙ d in
      a_ticket text s u q (kept_fits s t u (ticket_fits s t h a b) (tickets_kept.courses forms lawful s admitted t u ends))
  step h (faulted budget s t w a b c d) = let (text, q) = sheet_known s h a in a_ticket text s t q (ticket_fits s t h a b)
  step h dropped = dropped_stands h
  step h (number f row n) = h

  stands_from : (cs : List Call) (l : Ledger) → Standing forms lent l → Standing forms lent (after_all forms lent l cs)
  stands_from [] l h = h
  stands_from (c ∷ cs) l h = stands_from cs (answered forms lent l c).after (step h (effect forms lent l c))

pub stands_always : StandsAlways
stands_always forms lawful lent cs = stands_from forms lawful lent cs fresh nothing
