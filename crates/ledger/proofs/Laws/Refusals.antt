-- What a refused call leaves.
use Rattle.std.proofs.Common.{◌≡◌, ℕ, Bool, true, false, List, sym, refl, ap, ◌∙◌, subst}
use Rattle.bank.specs.Model.{Forms}
use Rattle.language.specs.declared.TextRefusal.{TextRefusal}
use Rattle.ledger.specs.declared.Call.{Call}
use Rattle.ledger.specs.declared.CallRefusal.{CallRefusal}
use Rattle.ledger.specs.declared.CallRefusal.TheVariants.{Text, NoSheet, RunOpen, WrongLength, NoTicket, NoField, NotHeld, NoValue, NoRun, BadBudget}
use Rattle.ledger.specs.declared.Answer.TheVariants.{Refused}
use Rattle.ledger.specs.Ledger.{Ledger, fresh, Answered, answered}
use Rattle.ledger.specs.Laws.{ledger, answer_to, Refusals}
use Rattle.ledger.proofs.Laws.Effects.{of_text, Effect, refused, unread, loaded, laid, entered, stopped, finished, faulted, dropped, number, effect}
use Rattle.ledger.proofs.Laws.Lists.{one_more}

-- what a refusal leaves, by whether it is of a text
abbrev Leaves : Bool → Ledger → Ledger → Type 0
Leaves true before after = after ≡ fresh
Leaves false before after = after ≡ before

no_text : (why : CallRefusal) → ((r : TextRefusal) → why ≡ Text r → ⊥) → of_text why ≡ false
no_text (Text r) h = absurd (h r refl)
no_text NoSheet h = refl
no_text RunOpen h = refl
no_text WrongLength h = refl
no_text NoTicket h = refl
no_text NoField h = refl
no_text (NotHeld e) h = refl
no_text (NoValue e) h = refl
no_text NoRun h = refl
no_text BadBudget h = refl

module _ (forms : Forms) (lent : List ℕ) where
  leaves : {l : Ledger} {c : Call} {x : Answered} → Effect forms lent l c x → (why : CallRefusal) → x.answer ≡ Refused why → Leaves (of_text why) l x.after
  leaves (refused v e) why h = let same : v ≡ why = cc in rw (ap of_text (sym same) ∙ e) refl
  leaves (unread p r e) why h = let same : Text r ≡ why = cc in rw (ap of_text (sym same)) refl
  leaves (loaded p s k) why h = cc
  leaves (laid p s a k) why h = cc
  leaves (entered f row n s t image a b c) why h = cc
  leaves (stopped budget s t a b some c) why h = cc
  leaves (finished budget s t u a b c d) why h = cc
  leaves (faulted budget s t w a b c d) why h = cc
  leaves dropped why h = cc
  leaves (number f row n) why h = cc

  left : (cs : List Call) (c : Call) (why : CallRefusal) → answer_to forms lent cs c ≡ Refused why → Leaves (of_text why) (ledger forms lent cs) (answered forms lent (ledger forms lent cs) c).after
  left cs c why h = leaves (effect forms lent (ledger forms lent cs) c) why h

  pub refusals : Refusals forms lent
  refusals = record {
    leave = λ cs c why h k. one_more forms lent cs c ∙ subst (λ b. Leaves b (ledger forms lent cs) (answered forms lent (ledger forms lent cs) c).after) (no_text why k) (left cs c why h);
    clear = λ cs c r h. one_more forms lent cs c ∙ left cs c (Text r) h;
  }
