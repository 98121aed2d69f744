-- How an accepted work is answered: by the course of the ticket that its run opened on.
use Rattle.std.proofs.Common.{◌≡◌, ℕ, ◌+◌, false, ltb, List, [], ◌∷◌, ◌++◌, length, Some, sym, refl, ap, ◌∙◌, arith, ltb-false, ltb-true}
use Rattle.bank.specs.Model.{Forms}
use Rattle.language.specs.declared.Entry.{Entry}
use Rattle.language.specs.Syntax.{Sheet}
use Rattle.language.specs.Trace.{entry_of}
use Rattle.ledger.specs.declared.Call.{Call}
use Rattle.ledger.specs.declared.Call.TheVariants.{Work}
use Rattle.ledger.specs.declared.Answer.TheVariants.{Stopped}
use Rattle.ledger.specs.Ledger.{Ledger, fresh, Answered, open_or, answered, answers}
use Rattle.ledger.specs.Runs.{run_of}
use Rattle.ledger.specs.Laws.{IsAccepted, ledger, Opened, Stops, Ends, Stopping, Ending}
use Rattle.ledger.proofs.Laws.Effects.{Effect, refused, stopped, finished, faulted, effect, sum_with, course_on}
use Rattle.ledger.proofs.Laws.Lists.{one_more}
use Rattle.ledger.proofs.Laws.Runs.{Working, working, told}

module _ (forms : Forms) (lent : List ℕ) (cs : List Call) (budget : ℕ) where
  abbrev now : Ledger
  now = ledger forms lent cs

  -- the run of a work by sheet s on ticket t
  abbrev RunsOn : Sheet → List ℕ → Type 0
  RunsOn s t = Working forms lent cs now (run_of cs (answers forms lent fresh cs)) s t

  runs_on : (s : Sheet) (t : List ℕ) → now.sheet ≡ Some s → now.ticket ≡ Some t → RunsOn s t
  runs_on s t a b = working forms lent cs s t refl (told forms lent cs) a b

  abbrev opened : (s : Sheet) (t : List ℕ) → now.sheet ≡ Some s → RunsOn s t → Opened forms lent cs
  opened s t a w = record {
    sheet = s;
    ticket = (open_or now.run t).opening;
    sheet_is = a;
    sheet_was = w.sheet_was;
    ticket_was = w.ticket_was;
  }

  abbrev course_entries : Sheet → List ℕ → List Entry
  course_entries s t = (course_on forms lent now s t).entries

  -- where the budgets add up to the course's length or more, no work stops
  over : (s : Sheet) (t : List ℕ) → now.sheet ≡ Some s → RunsOn s t
      → ltb (sum_with forms lent now t budget) (length (course_entries s t)) ≡ false
      → ((n : ℕ) (e : Entry) → (answered forms lent now (Work budget)).answer ≡ Stopped n e → ⊥) → Stops forms lent cs budget
  over s t a w c none = record {
    opened = opened s t a w;
    stops = λ less. absurd (omega (arith, w.sum_is, ltb-false (sum_with forms lent now t budget) (length (course_entries s t)) c));
    only = λ n e k. absurd (none n e k);
  }

  stop : {x : Answered} → answered forms lent now (Work budget) ≡ x → Effect forms lent now (Work budget) x → IsAccepted x.answer
      → Stops forms lent cs budget
  stop q (refused why k) h = absurd (h why refl)
  stop q (stopped _ s t a b some c) h =
      let w = runs_on s t a b in
      record {
        opened = opened s t a w;
        stops = λ less. ap (λ (y : Answered). y.answer) q
            ∙ ap (λ n. Stopped (n + budget) (entry_of (course_entries s t) (n + budget))) w.sum_is;
        only = λ n e k. omega (arith, w.sum_is, ltb-true (sum_with forms lent now t budget) (length (course_entries s t)) c);
      }
  stop q (finished _ s t u a b c d) h = over s t a (runs_on s t a b) c (λ n e k.
      cc (ap (λ (y : Answered). y.answer) q))
  stop q (faulted _ s t v a b c d) h = over s t a (runs_on s t a b) c (λ n e k.
      cc (ap (λ (y : Answered). y.answer) q))

  after : {x : Answered} → answered forms lent now (Work budget) ≡ x → ledger forms lent (cs ++ Work budget ∷ []) ≡ x.after
  after q = one_more forms lent cs (Work budget) ∙ ap (λ (y : Answered). y.after) q

  ticket_after : {x : Answered} → answered forms lent now (Work budget) ≡ x → (ledger forms lent (cs ++ Work budget ∷ [])).ticket ≡ x.after.ticket
  ticket_after q = ap (λ (l : Ledger). l.ticket) (after q)

  run_after : {x : Answered} → answered forms lent now (Work budget) ≡ x → (ledger forms lent (cs ++ Work budget ∷ [])).run ≡ x.after.run
  run_after q = ap (λ (l : Ledger). l.run) (after q)

  end : {x : Answered} → answered forms lent now (Work budget) ≡ x → Effect forms lent now (Work budget) x → IsAccepted x.answer
      → ((n : ℕ) (e : Entry) → x.answer ≡ Stopped n e → ⊥) → Ends forms lent cs budget
  end q (refused why k) h g = absurd (h why refl)
  end q (stopped _ s t a b some c) h g = absurd (g _ _ refl)
  end q (finished _ s t u a b c d) h g = record {
    opened = opened s t a (runs_on s t a b);
    finishes = λ v k. record { answer_is = ap (λ (y : Answered). y.answer) q; ticket_is = ticket_after q ∙ cc; run_is = run_after q };
    faults = λ v k. cc;
  }
  end q (faulted _ s t v a b c d) h g = record {
    opened = opened s t a (runs_on s t a b);
    finishes = λ u k. cc;
    faults = λ u k. record {
      answer_is = ap (λ (y : Answered). y.answer) q ∙ cc;
      ticket_is = ticket_after q ∙ sym b ∙ (runs_on s t a b).ticket_is;
      run_is = run_after q;
    };
  }

module _ (forms : Forms) (lent : List ℕ) where
  pub stopping : Stopping forms lent
  stopping cs budget h = stop forms lent cs budget refl (effect forms lent (ledger forms lent cs) (Work budget)) h

  pub ending : Ending forms lent
  ending cs budget h g = end forms lent cs budget refl (effect forms lent (ledger forms lent cs) (Work budget)) h g
