-- What a ticket keeps through a run, and so through its course.
use Rattle.std.proofs.Common.{◌≡◌, ℕ, List, length, ap, ◌∙◌, subst, le_refl}
use Rattle.std.proofs.ByRecursion.{All-weaker}
use Rattle.bank.specs.Model.{Forms, Lawful}
use Rattle.language.specs.Syntax.{Sheet}
use Rattle.language.specs.Steps.{steps}
use Rattle.language.specs.Machine.{State, opening, over}
use Rattle.language.specs.Following.{worked, course_entries}
use Rattle.language.specs.Tickets.{CourseKeeps, RunsKeep}
use Rattle.language.proofs.Bounds.Bounds.{bounds}
use Rattle.language.proofs.Following.Following.{following}
use Rattle.language.proofs.Tickets.Actions.{kept_same}
use Rattle.language.proofs.Tickets.Runs.{StateHolds, moves_hold}

module _ (forms : Forms) (lawful : Lawful forms) where
  reached : (sheet : Sheet) (ticket : List ℕ) (n : ℕ) {s : State} → (worked forms sheet ticket n).state ≡ s → StateHolds forms lawful sheet (steps sheet) ticket s
  reached sheet ticket n e =
      subst (StateHolds forms lawful sheet (steps sheet) ticket) e
      (moves_hold forms lawful sheet (steps sheet) ticket n (opening ticket) record { kept = kept_same ticket; values = tt })

  pub runs_keep : RunsKeep forms
  runs_keep = record {
    going = λ sheet ticket n c e. (reached sheet ticket n e).kept;
    ended = λ sheet ticket n after e. reached sheet ticket n e;
    waiting = λ text sheet h ticket bytes n c e. All-weaker _ _ (λ x v. v (bytes, (bounds forms text sheet h).small_lines)) c.stack (reached sheet ticket n e).values;
  }

  pub course_keeps : CourseKeeps forms
  course_keeps sheet good ticket after e =
      let n = length (course_entries forms sheet ticket) in
      runs_keep.ended sheet ticket n after (ap (λ m. m.state) ((following forms sheet good ticket).ends n (le_refl n)) ∙ ap over e)
