-- The machine follows the course: what it does move by move, from what it does as a whole.
use Rattle.std.proofs.Common.{◌≡◌, ℕ, zero, suc, ◌+◌, ◌-◌, ◌<◌, ◌≤◌, true, false, ◌⊎◌, List, [], ◌∷◌, length, get_or, take, Ok, Err, Result, refl, ap, ◌∙◌, inl, inr, le_of_suc-le-suc, add-one, arith}
use Rattle.std.proofs.lemmas.Bool.{and_parts, cases_lt}
use Rattle.bank.specs.Model.{Forms}
use Rattle.language.specs.declared.Entry.{Entry}
use Rattle.language.specs.declared.FieldFault.{FieldFault}
use Rattle.language.specs.declared.Line.{Line}
use Rattle.language.specs.Syntax.{Sheet}
use Rattle.language.specs.Trace.{no_entry, entry_of, passed}
use Rattle.language.specs.Meaning.{course}
use Rattle.language.specs.Admitted.{admitted}
use Rattle.language.specs.Machine.{Config, State, running, over, makes, Made, move, moves, opening, act}
use Rattle.language.specs.Following.{Sound, worked, course_entries, Reached, Follows, Following}
use Rattle.language.specs.Steps as P
use Rattle.language.proofs.Following.Running.{Does, arrives, breaks, goes, Reaches, bind, acts, cut, line_at, stands_whole}
use Rattle.language.proofs.Following.Statements.{block_works}

-- the whole sheet
pub course_works : (forms : Forms) (sheet : Sheet) → admitted forms sheet ≡ true → (ticket : List ℕ)
    → Reaches forms sheet (P.steps sheet) (λ t. over (Ok t)) (opening ticket) (course forms sheet ticket)
unfolding P.steps course act
course_works forms sheet good ticket =
    let parts = cut (P.block sheet 0 1 sheet.body) (stands_whole (P.steps sheet)) in
    bind (block_works forms sheet (P.steps sheet) sheet.body false 1 255 0 0 parts.mid ticket refl (and_parts _ _ good).1 refl parts.left) λ t.
    acts _ (passed t) (record { low = omega arith; in_rows = inl refl; line = _; here = line_at parts.right; rests = tt }) refl

module _ (forms : Forms) (sheet : Sheet) (lines : List Line) where
  -- a move, and then n more
  one_more : (n : ℕ) (c : Config) {e : Entry} {s : State} {m : Made} → move forms sheet lines c ≡ makes e s → moves forms sheet lines n s ≡ m
      → moves forms sheet lines (suc n) (running c) ≡ record { entries = e ∷ m.entries; state = m.state }
  unfolding moves
  one_more n c h r = rw (h, moves, r)

  -- a run that is at work: its next entry, and where that leads
  record AtWork (start : State) (es : List Entry) (n : ℕ) : Type 0 where
    now : Config
    made : moves forms sheet lines n start ≡ record { entries = take n es; state = running now }
    sound : Sound sheet lines now
    next : State
    makes_next : move forms sheet lines now ≡ makes (get_or es n no_entry) next
    leads : (moves forms sheet lines (suc n) start).state ≡ next

  -- while entries remain the run goes on
  within : {A : Type 0} {exit : A → State} {s : State} {es : List Entry} {o : Result A FieldFault} → Does forms sheet lines exit s es o
      → (n : ℕ) → n < length es → AtWork s es n
  unfolding moves
  within arrives n h = absurd (omega arith)
  within breaks n h = absurd (omega arith)
  within (goes {c = c} {s = s} k m d) zero h = record { now = c; made = refl; sound = k; next = s; makes_next = m; leads = ap (λ r. r.state) (one_more zero c m refl) }
  within (goes {c = c} k m d) (suc n) h =
      let r = within d n (le_of_suc-le-suc h) in
      record {
        now = r.now;
        made = one_more n c m r.made;
        sound = r.sound;
        next = r.next;
        makes_next = r.makes_next;
        leads = ap (λ r. r.state) (one_more (suc n) c m refl) ∙ r.leads;
      }

  at_rest : (n : ℕ) (o : Result (List ℕ) FieldFault) → moves forms sheet lines n (over o) ≡ record { entries = []; state = over o }
  unfolding moves
  at_rest zero o = refl
  at_rest (suc n) o = refl

  -- past the last entry the run is over
  past : {s : State} {es : List Entry} {o : Result (List ℕ) FieldFault} → Does forms sheet lines (λ t. over (Ok t)) s es o
      → (n : ℕ) → length es ≤ n → moves forms sheet lines n s ≡ record { entries = es; state = over o }
  past (arrives {a = t}) n h = at_rest n (Ok t)
  past (breaks {b = b}) n h = at_rest n (Err b)
  past (goes k m d) zero h = absurd (omega arith)
  past (goes {c = c} k m d) (suc n) h = one_more n c m (past d n (le_of_suc-le-suc h))

-- the entry that n come before
numbered : (es : List Entry) (n : ℕ) → get_or es n no_entry ≡ entry_of es (n + 1)
numbered es n = let e : n ≡ n + 1 - 1 = omega arith in ap (λ k. get_or es k no_entry) e

pub following : Following
following forms sheet good ticket = record { goes_on = λ n h. ((at_work n h).now, (at_work n h).made); ends = done; reached = λ n c e. go n c e (cases_lt n (length es)) }
  where
    es : List Entry
    es = course_entries forms sheet ticket

    at_work : (n : ℕ) → n < length es → AtWork forms sheet (P.steps sheet) (opening ticket) es n
    at_work = within forms sheet (P.steps sheet) (course_works forms sheet good ticket).does

    done : (n : ℕ) → length es ≤ n → worked forms sheet ticket n ≡ record { entries = es; state = over (course forms sheet ticket).outcome }
    done = past forms sheet (P.steps sheet) (course_works forms sheet good ticket).does

    go : (n : ℕ) (c : Config) → (worked forms sheet ticket n).state ≡ running c → (n < length es) ⊎ (length es ≤ n) → Reached forms sheet ticket n c
    go n c e (inl h) =
        let r = at_work n h in
        let same : r.now ≡ c = cc (ap (λ m. m.state) r.made) in
        record { before = h; sound = rw same at r.sound; next = r.next; makes_next = rw same at r.makes_next ∙ ap (λ e. makes e r.next) (numbered es n); leads = rw add-one r.leads }
    go n c e (inr h) = cc (ap (λ m. m.state) (done n h))

-- a move that ends the run is the course's last, and ends it as the course ends
pub last_move : {forms : Forms} {sheet : Sheet} {ticket : List ℕ} {n : ℕ} {c : Config} → Follows forms sheet ticket → (r : Reached forms sheet ticket n c)
    → (o : Result (List ℕ) FieldFault) → r.next ≡ over o → (n + 1 ≡ length (course_entries forms sheet ticket)) × (o ≡ (course forms sheet ticket).outcome)
last_move {forms} {sheet} {ticket} {n} {c} f r o e = go (cases_lt (n + 1) (length (course_entries forms sheet ticket)))
  where
    go : (n + 1 < length (course_entries forms sheet ticket)) ⊎ (length (course_entries forms sheet ticket) ≤ n + 1)
        → (n + 1 ≡ length (course_entries forms sheet ticket)) × (o ≡ (course forms sheet ticket).outcome)
    go (inl h) = cc (ap (λ m. m.state) (f.goes_on (n + 1) h).1)
    go (inr h) = (omega (arith, r.before), cc (ap (λ m. m.state) (f.ends (n + 1) h)))
