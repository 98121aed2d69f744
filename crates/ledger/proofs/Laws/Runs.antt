-- The ledger's run is the run told from the calls and their answers.
use Rattle.std.proofs.Common.{◌≡◌, ℕ, ◌+◌, false, List, [], ◌∷◌, ◌++◌, Some, None, Option, sym, refl, ap, ◌∙◌}
use Rattle.bank.specs.Model.{Forms}
use Rattle.language.specs.Syntax.{Sheet}
use Rattle.ledger.specs.declared.Call.{Call}
use Rattle.ledger.specs.declared.CallRefusal.{CallRefusal}
use Rattle.ledger.specs.declared.CallRefusal.TheVariants.{Text, NoSheet, RunOpen, WrongLength, NoTicket, NoField, NotHeld, NoValue, NoRun, BadBudget}
use Rattle.ledger.specs.Ledger.{Run, Ledger, fresh, Answered, open_or, answered, answers, after_all}
use Rattle.ledger.specs.Runs.{OpenRun, begun, spent_in, unless_text, noted, run_from, run_of}
use Rattle.ledger.specs.Laws.{ledger, Tells, Telling}
use Rattle.ledger.proofs.Laws.Effects.{of_text, Effect, refused, unread, loaded, laid, entered, stopped, finished, faulted, dropped, number, effect}
use Rattle.ledger.proofs.Laws.Lists.{one_more}

-- a refusal of no text leaves the run
left : (why : CallRefusal) (o : Option OpenRun) → of_text why ≡ false → unless_text why o ≡ o
left (Text r) o e = cc
left NoSheet o e = refl
left RunOpen o e = refl
left WrongLength o e = refl
left NoTicket o e = refl
left NoField o e = refl
left (NotHeld w) o e = refl
left (NoValue w) o e = refl
left NoRun o e = refl
left BadBudget o e = refl

module _ (forms : Forms) (lent : List ℕ) where
  -- an open run of the ledger is the run told: it opened after the calls before it on the ticket that still stands, by the
  -- sheet that still stands, and its budgets are those told
  pub record Same (l : Ledger) (r : Run) (o : OpenRun) : Type 0 where
    pub sum_is : r.sum ≡ o.spent
    pub ticket_was : (ledger forms lent o.before).ticket ≡ Some r.opening
    pub ticket_is : l.ticket ≡ Some r.opening
    pub sheet_was : (ledger forms lent o.before).sheet ≡ l.sheet

  -- no run is open, or the same
  pub data Told (l : Ledger) : Option OpenRun → Type 0 where
    closed : l.run ≡ None → Told l None
    open_run : (r : Run) (o : OpenRun) → l.run ≡ Some r → Same l r o → Told l (Some o)

  -- the run of a work by sheet s on ticket t, where the calls made have led to the ledger l
  pub record Working (made : List Call) (l : Ledger) (o : Option OpenRun) (s : Sheet) (t : List ℕ) : Type 0 where
    pub sum_is : (open_or l.run t).sum ≡ spent_in o
    pub ticket_was : (ledger forms lent (begun made o)).ticket ≡ Some (open_or l.run t).opening
    pub ticket_is : l.ticket ≡ Some (open_or l.run t).opening
    pub sheet_was : (ledger forms lent (begun made o)).sheet ≡ Some s

  pub working : (made : List Call) {l : Ledger} {o : Option OpenRun} (s : Sheet) (t : List ℕ)
      → ledger forms lent made ≡ l → Told l o → l.sheet ≡ Some s → l.ticket ≡ Some t → Working made l o s t
  working made s t e (closed n) a b = record {
    sum_is = ap (λ r. (open_or r t).sum) n;
    ticket_was = ap (λ (k : Ledger). k.ticket) e ∙ b ∙ sym (ap (λ r. Some (open_or r t).opening) n);
    ticket_is = b ∙ sym (ap (λ r. Some (open_or r t).opening) n);
    sheet_was = ap (λ (k : Ledger). k.sheet) e ∙ a;
  }
  working made s t e (open_run r o n h) a b = record {
    sum_is = ap (λ r. (open_or r t).sum) n ∙ h.sum_is;
    ticket_was = h.ticket_was ∙ sym (ap (λ r. Some (open_or r t).opening) n);
    ticket_is = h.ticket_is ∙ sym (ap (λ r. Some (open_or r t).opening) n);
    sheet_was = h.sheet_was ∙ a;
  }

  step : (made : List Call) {l : Ledger} {o : Option OpenRun} {c : Call} {x : Answered}
      → ledger forms lent made ≡ l → Told l o → Effect forms lent l c x → Told x.after (noted made o c x.answer)
  step made {o} e h (refused why k) = rw (left why o k) h
  step made e h (unread p r k) = closed refl
  step made e h (loaded p s k) = closed refl
  step made e h (laid p s a k) = closed refl
  step made e h (entered f row n s t image a b c) = closed refl
  step made e h (stopped budget s t a b some c) =
      let w = working made s t e h a b in
      open_run _ _ refl (record {
        sum_is = ap (λ n. n + budget) w.sum_is;
        ticket_was = w.ticket_was;
        ticket_is = sym b ∙ w.ticket_is;
        sheet_was = w.sheet_was;
      })
  step made e h (finished budget s t u a b c d) = closed refl
  step made e h (faulted budget s t w a b c d) = closed refl
  step made e h dropped = closed refl
  step made e h (number f row n) = h

  told_from : (made : List Call) (l : Ledger) (o : Option OpenRun)
      → ledger forms lent made ≡ l → Told l o → (cs : List Call)
      → Told (after_all forms lent l cs) (run_from made o cs (answers forms lent l cs))
  told_from made l o e h [] = h
  told_from made l o e h (c ∷ cs) =
      told_from (made ++ c ∷ []) (answered forms lent l c).after (noted made o c (answered forms lent l c).answer)
      (one_more forms lent made c ∙ ap (λ k. (answered forms lent k c).after) e) (step made e h (effect forms lent l c)) cs

  pub told : (cs : List Call) → Told (ledger forms lent cs) (run_of cs (answers forms lent fresh cs))
  told cs = told_from [] fresh None refl (closed refl) cs

  tells_by : (cs : List Call) {o : Option OpenRun} → run_of cs (answers forms lent fresh cs) ≡ o → Told (ledger forms lent cs) o → Tells forms lent cs
  tells_by cs q (closed n) = record { none_open = λ e. n; one_open = λ o e. cc }
  tells_by cs q (open_run r o n h) = record {
    none_open = λ e. cc;
    one_open = λ p e.
        let same : o ≡ p = cc in
        rw (← same) (r.opening, h.ticket_was, n ∙ ap (λ (k : ℕ). Some (record { opening = r.opening; sum = k })) h.sum_is);
  }

  pub telling : Telling forms lent
  telling cs = tells_by cs refl (told cs)
