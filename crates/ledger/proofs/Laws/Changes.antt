-- What changes the ticket.
use Rattle.std.proofs.Common.{◌≡◌, ℕ, List, [], ◌∷◌, ◌++◌, ℤ, Some, None, Ok, Err, Option, Result, sym, refl, ap, ◌∙◌}
use Rattle.bank.specs.Model.{Forms}
use Rattle.language.specs.declared.TextRefusal.{TextRefusal}
use Rattle.language.specs.Syntax.{Sheet}
use Rattle.language.specs.Reading.{sheet_read}
use Rattle.ledger.specs.declared.Place.{Place}
use Rattle.ledger.specs.declared.Call.{Call}
use Rattle.ledger.specs.declared.Call.TheVariants.{Load, Lay, Enter}
use Rattle.ledger.specs.declared.CallRefusal.TheVariants.{Text, RunOpen}
use Rattle.ledger.specs.declared.Answer.TheVariants.{Loaded, Laid, Entered, Refused}
use Rattle.ledger.specs.Ledger.{Run, Ledger, fresh, Answered, loads, at, answered}
use Rattle.ledger.specs.Laws.{MayChange, ledger, Stored, Changes}
use Rattle.ledger.proofs.Laws.Effects.{Effect, refused, unread, loaded, laid, entered, stopped, finished, faulted, dropped, number, effect, standing}
use Rattle.ledger.proofs.Laws.Lists.{one_more}

module _ (forms : Forms) (lent : List ℕ) where
  only : {l : Ledger} {c : Call} {x : Answered} → Effect forms lent l c x
      → (x.after.ticket ≡ l.ticket → ⊥) → MayChange c x.answer
  only (refused why e) h = absurd (h refl)
  only (unread p r e) h = λ e. cc
  only (loaded p s k) h = λ e. cc
  only (laid p s a k) h = refl
  only (entered f row n s t image a b c) h = refl
  only (stopped budget s t a b some c) h = absurd (h (sym b))
  only (finished budget s t u a b c d) h = (_, refl)
  only (faulted budget s t w a b c d) h = absurd (h (sym b))
  only dropped h = h refl
  only (number f row n) h = h refl

  -- a load that is not refused for an open run leaves no ticket
  load : (sheet : Option Sheet) (ticket : Option (List ℕ)) (run : Option Run) (text : List ℕ)
      → ((loads forms (standing sheet ticket run) text).answer ≡ Refused RunOpen → ⊥)
      → (loads forms (standing sheet ticket run) text).after.ticket ≡ None
  load sheet ticket (Some r) text h = absurd (h refl)
  load sheet ticket None text h = go (sheet_read forms text)
    where
      go : (v : Result Sheet TextRefusal) → (elim v as (λ _. Answered) [
        | Ok s ↦ record { answer = Loaded; after = standing (Some s) None None }
        | Err r ↦ record { answer = Refused (Text r); after = fresh }
      ]).after.ticket ≡ None
      go (Ok s) = refl
      go (Err r) = refl

  load_at : (l : Ledger) (p : Place) → ((answered forms lent l (Load p)).answer ≡ Refused RunOpen → ⊥)
      → (answered forms lent l (Load p)).after.ticket ≡ None
  load_at l p h = load l.sheet l.ticket l.run (at lent p) h

  lay : {l : Ledger} {p : Place} {x : Answered} → Effect forms lent l (Lay p) x → x.answer ≡ Laid
      → x.after.ticket ≡ Some (at lent p)
  lay (refused why e) h = cc
  lay (laid p s a k) h = refl

  enter : {l : Ledger} {f row : ℕ} {n : ℤ} {x : Answered} → Effect forms lent l (Enter f row n) x → x.answer ≡ Entered
      → Stored forms lent f row n l x.after
  enter (refused why e) h = cc
  enter (entered f row n s t image a b c) h =
      record { sheet = s; ticket = t; image = image; sheet_was = a; ticket_was = b; image_is = c; ticket_is = refl }

  done : (cs : List Call) (c : Call) → Effect forms lent (ledger forms lent cs) c (answered forms lent (ledger forms lent cs) c)
  done cs c = effect forms lent (ledger forms lent cs) c

  ticket_after : (cs : List Call) (c : Call)
      → (ledger forms lent (cs ++ c ∷ [])).ticket ≡ (answered forms lent (ledger forms lent cs) c).after.ticket
  ticket_after cs c = ap (λ (l : Ledger). l.ticket) (one_more forms lent cs c)

  pub changes : Changes forms lent
  changes = record {
    only = λ cs c h. only (done cs c) (λ e. h (ticket_after cs c ∙ e));
    loads = λ cs p h. ticket_after cs (Load p) ∙ load_at (ledger forms lent cs) p h;
    lays = λ cs p h. ticket_after cs (Lay p) ∙ lay (done cs (Lay p)) h;
    enters = λ cs f row n h. rw (one_more forms lent cs (Enter f row n)) (enter (done cs (Enter f row n)) h);
  }
