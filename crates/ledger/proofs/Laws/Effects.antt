-- What one call does, case by case: its answer and the ledger after it.
use Rattle.std.proofs.Common.{◌≡◌, ℕ, ◌+◌, ◌<◌, Bool, true, false, not, ◌||◌, eqb, ltb, List, length, ℤ, Some, None, Ok, Err, Option, Result, refl, arith}
use Rattle.std.proofs.lemmas.Bool.{or_parts, eqb-true, eqb-false}
use Rattle.bank.specs.Model.{Forms}
use Rattle.bank.specs.Answers.{read_by, written}
use Rattle.bank.specs.declared.BankRefusal.{BankRefusal}
use Rattle.language.specs.declared.FieldFault.{FieldFault}
use Rattle.language.specs.declared.TextRefusal.{TextRefusal}
use Rattle.language.specs.Syntax.{Sheet}
use Rattle.language.specs.Layout.{ticket_length, field_at, form_of, part, stored}
use Rattle.language.specs.Trace.{Worked, entry_of}
use Rattle.language.specs.Meaning.{course}
use Rattle.language.specs.Reading.{sheet_read}
use Rattle.ledger.specs.declared.Place.{Place}
use Rattle.ledger.specs.declared.Call.{Call}
use Rattle.ledger.specs.declared.Call.TheVariants.{Load, Lay, Enter, Work, Drop, Read}
use Rattle.ledger.specs.declared.CallRefusal.{CallRefusal}
use Rattle.ledger.specs.declared.CallRefusal.TheVariants.{Text, NoSheet, RunOpen, WrongLength, NoTicket, NoField, NotHeld, NoValue, NoRun, BadBudget}
use Rattle.ledger.specs.declared.Answer.TheVariants.{Loaded, Laid, Entered, Finished, Stopped, Faulted, Dropped, Number, Refused}
use Rattle.ledger.specs.Ledger.{Run, Ledger, fresh, Answered, refuse, refuse_if, open_or, loads, lays, known, enters, reads, drops, works, at, answered}

-- whether a refusal is of a text
abbrev pub of_text : CallRefusal → Bool
of_text (Text r) = true
of_text NoSheet = false
of_text RunOpen = false
of_text WrongLength = false
of_text NoTicket = false
of_text NoField = false
of_text (NotHeld e) = false
of_text (NoValue e) = false
of_text NoRun = false
of_text BadBudget = false

abbrev pub standing : Option Sheet → Option (List ℕ) → Option Run → Ledger
standing sheet ticket run = record { sheet = sheet; ticket = ticket; run = run }

module _ (forms : Forms) (lent : List ℕ) where
  -- the budgets of the run that a work on ticket t belongs to, with the work's own
  abbrev pub sum_with : Ledger → List ℕ → ℕ → ℕ
  sum_with l t budget = (open_or l.run t).sum + budget

  -- the course of that run
  abbrev pub course_on : Ledger → Sheet → List ℕ → Worked (List ℕ)
  course_on l s t = course forms s (open_or l.run t).opening

  -- what a call does to the ledger: its answer, the ledger after it, and what they rest on
  pub data Effect (l : Ledger) : Call → Answered → Type 0 where
    refused : {c : Call} (why : CallRefusal) → of_text why ≡ false → Effect l c (record { answer = Refused why; after = l })
    unread : (p : Place) (r : TextRefusal) → sheet_read forms (at lent p) ≡ Err r → Effect l (Load p) (record { answer = Refused (Text r); after = fresh })
    loaded : (p : Place) (s : Sheet) → sheet_read forms (at lent p) ≡ Ok s → Effect l (Load p) (record { answer = Loaded; after = standing (Some s) None None })
    laid : (p : Place) (s : Sheet) → l.sheet ≡ Some s → length (at lent p) ≡ ticket_length forms s
        → Effect l (Lay p) (record { answer = Laid; after = standing (Some s) (Some (at lent p)) None })
    entered : (f row : ℕ) (n : ℤ) (s : Sheet) (t image : List ℕ) → l.sheet ≡ Some s → l.ticket ≡ Some t
        → written (form_of forms (field_at s f)) n (part forms s f row t) ≡ Ok image
        → Effect l (Enter f row n) (record {
          answer = Entered;
          after = standing (Some s) (Some (stored forms s f row image t)) None;
        })
    stopped : (budget : ℕ) (s : Sheet) (t : List ℕ) → l.sheet ≡ Some s → l.ticket ≡ Some t → 0 < budget
        → ltb (sum_with l t budget) (length (course_on l s t).entries) ≡ true
        → Effect l (Work budget) (record {
          answer = Stopped (sum_with l t budget) (entry_of (course_on l s t).entries (sum_with l t budget));
          after = record {
            sheet = Some s;
            ticket = Some t;
            run = Some (record { opening = (open_or l.run t).opening; sum = sum_with l t budget });
          };
        })
    finished : (budget : ℕ) (s : Sheet) (t u : List ℕ) → l.sheet ≡ Some s → l.ticket ≡ Some t
        → ltb (sum_with l t budget) (length (course_on l s t).entries) ≡ false
        → (course_on l s t).outcome ≡ Ok u
        → Effect l (Work budget) (record {
          answer = Finished (length (course_on l s t).entries);
          after = standing (Some s) (Some u) None;
        })
    faulted : (budget : ℕ) (s : Sheet) (t : List ℕ) (b : FieldFault) → l.sheet ≡ Some s → l.ticket ≡ Some t
        → ltb (sum_with l t budget) (length (course_on l s t).entries) ≡ false
        → (course_on l s t).outcome ≡ Err b
        → Effect l (Work budget) (record {
          answer = Faulted (length (course_on l s t).entries)
              (entry_of (course_on l s t).entries (length (course_on l s t).entries)) b;
          after = standing (Some s) (Some t) None;
        })
    dropped : Effect l Drop (record { answer = Dropped; after = standing l.sheet l.ticket None })
    number : (f row : ℕ) (n : ℤ) → Effect l (Read f row) (record { answer = Number n; after = l })

  load : (sheet : Option Sheet) (ticket : Option (List ℕ)) (run : Option Run) (p : Place)
      → Effect (standing sheet ticket run) (Load p) (loads forms (standing sheet ticket run) (at lent p))
  load sheet ticket (Some r) p = refused RunOpen refl
  load sheet ticket None p = go (sheet_read forms (at lent p)) refl
    where
      go : (v : Result Sheet TextRefusal) → sheet_read forms (at lent p) ≡ v → Effect (standing sheet ticket None) (Load p) (elim v [
        | Ok s ↦ record { answer = Loaded; after = standing (Some s) None None }
        | Err r ↦ record { answer = Refused (Text r); after = fresh }
      ])
      go (Ok s) e = loaded p s e
      go (Err r) e = unread p r e

  lay : (sheet : Option Sheet) (ticket : Option (List ℕ)) (run : Option Run) (p : Place)
      → Effect (standing sheet ticket run) (Lay p) (lays forms (standing sheet ticket run) (at lent p))
  lay None ticket run p = refused NoSheet refl
  lay (Some s) ticket (Some r) p = refused RunOpen refl
  lay (Some s) ticket None p = go (eqb (length (at lent p)) (ticket_length forms s)) refl
    where
      l : Ledger
      l = standing (Some s) ticket None

      go : (b : Bool) → eqb (length (at lent p)) (ticket_length forms s) ≡ b → Effect l (Lay p) (refuse_if l (not b) WrongLength
          (record { answer = Laid; after = standing (Some s) (Some (at lent p)) None }))
      go true e = laid p s refl (eqb-true (length (at lent p)) (ticket_length forms s) e)
      go false e = refused WrongLength refl

  enter : (sheet : Option Sheet) (ticket : Option (List ℕ)) (run : Option Run) (f row : ℕ) (n : ℤ)
      → Effect (standing sheet ticket run) (Enter f row n) (enters forms (standing sheet ticket run) f row n)
  enter None ticket run f row n = refused NoSheet refl
  enter (Some s) ticket (Some r) f row n = refused RunOpen refl
  enter (Some s) None None f row n = refused NoTicket refl
  enter (Some s) (Some t) None f row n =
      go (known s f row) (written (form_of forms (field_at s f)) n (part forms s f row t)) refl
    where
      l : Ledger
      l = standing (Some s) (Some t) None

      go : (b : Bool) (v : Result (List ℕ) BankRefusal) → written (form_of forms (field_at s f)) n (part forms s f row t) ≡ v
          → Effect l (Enter f row n) (refuse_if l (not b) NoField (elim v [
            | Ok image ↦ record { answer = Entered; after = standing (Some s) (Some (stored forms s f row image t)) None }
            | Err e ↦ refuse l (NotHeld e)
          ]))
      go false v e = refused NoField refl
      go true (Ok image) e = entered f row n s t image refl refl e
      go true (Err w) e = refused (NotHeld w) refl

  read : (sheet : Option Sheet) (ticket : Option (List ℕ)) (run : Option Run) (f row : ℕ)
      → Effect (standing sheet ticket run) (Read f row) (reads forms (standing sheet ticket run) f row)
  read None ticket run f row = refused NoSheet refl
  read (Some s) None run f row = refused NoTicket refl
  read (Some s) (Some t) run f row = go (known s f row) (read_by (form_of forms (field_at s f)) (part forms s f row t))
    where
      l : Ledger
      l = standing (Some s) (Some t) run

      go : (b : Bool) (v : Result ℤ BankRefusal) → Effect l (Read f row) (refuse_if l (not b) NoField (elim v [
        | Ok n ↦ record { answer = Number n; after = l }
        | Err e ↦ refuse l (NoValue e)
      ]))
      go false v = refused NoField refl
      go true (Ok n) = number f row n
      go true (Err w) = refused (NoValue w) refl

  drop : (sheet : Option Sheet) (ticket : Option (List ℕ)) (run : Option Run)
      → Effect (standing sheet ticket run) Drop (drops forms (standing sheet ticket run))
  drop None ticket run = refused NoSheet refl
  drop (Some s) ticket None = refused NoRun refl
  drop (Some s) ticket (Some r) = dropped

  work : (sheet : Option Sheet) (ticket : Option (List ℕ)) (run : Option Run) (budget : ℕ)
      → Effect (standing sheet ticket run) (Work budget) (works forms (standing sheet ticket run) budget)
  work None ticket run budget = refused NoSheet refl
  work (Some s) None run budget = refused NoTicket refl
  work (Some s) (Some t) run budget =
      go (eqb budget 0 || ltb 65535 budget) refl (ltb (sum_with l t budget) (length c.entries)) refl c.outcome refl
    where
      l : Ledger
      l = standing (Some s) (Some t) run

      c : Worked (List ℕ)
      c = course_on l s t

      some : (eqb budget 0 || ltb 65535 budget) ≡ false → 0 < budget
      some e = let none = eqb-false budget 0 (or_parts (eqb budget 0) (ltb 65535 budget) e).0 in omega arith

      go : (bad : Bool) → (eqb budget 0 || ltb 65535 budget) ≡ bad → (less : Bool) → ltb (sum_with l t budget) (length c.entries) ≡ less
          → (v : Result (List ℕ) FieldFault) → c.outcome ≡ v
          → Effect l (Work budget) (refuse_if l bad BadBudget (elim less [
            | true ↦ record {
              answer = Stopped (sum_with l t budget) (entry_of c.entries (sum_with l t budget));
              after = standing (Some s) (Some t) (Some (record { opening = (open_or run t).opening; sum = sum_with l t budget }));
            }
            | false ↦ elim v [
              | Ok u ↦ record { answer = Finished (length c.entries); after = standing (Some s) (Some u) None }
              | Err b ↦ record {
                answer = Faulted (length c.entries) (entry_of c.entries (length c.entries)) b;
                after = standing (Some s) (Some t) None;
              }
            ]
          ]))
      go true k less e v d = refused BadBudget refl
      go false k true e v d = stopped budget s t refl refl (some k) e
      go false k false e (Ok u) d = finished budget s t u refl refl e d
      go false k false e (Err b) d = faulted budget s t b refl refl e d

  pub effect : (l : Ledger) (c : Call) → Effect l c (answered forms lent l c)
  effect l (Load p) = load l.sheet l.ticket l.run p
  effect l (Lay p) = lay l.sheet l.ticket l.run p
  effect l (Enter f row n) = enter l.sheet l.ticket l.run f row n
  effect l (Work budget) = work l.sheet l.ticket l.run budget
  effect l Drop = drop l.sheet l.ticket l.run
  effect l (Read f row) = read l.sheet l.ticket l.run f row
