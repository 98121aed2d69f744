-- What a fault bears: where parts have their form's width, a bank refuses only a string without value and a number out of range.
use Rattle.std.proofs.Common.{◌≡◌, ℕ, zero, suc, ◌+◌, ◌<◌, Bool, true, cond, ◌&&◌, ◌||◌, eqb, ltb, List, [], ◌∷◌, length, ℤ, pos, ◌*ℤ◌, is_some, Some, None, Ok, Err, Option, Result, sym, refl, ap, ◌∙◌, le_refl, add-one, arith, length-drop, length-take}
use Rattle.std.specs.Int.Signed.{le_z}
use Rattle.std.proofs.lemmas.Bool.{and_parts, cond_both, eq-eqb}
use Rattle.std.proofs.lemmas.List.Recursion.{and_at}
use Rattle.bank.specs.Model.{Form, Forms, Lawful}
use Rattle.bank.specs.Answers.{read_by, written, valued}
use Rattle.bank.specs.declared.BankRefusal.{BankRefusal}
use Rattle.bank.specs.declared.BankRefusal.TheVariants as B
use Rattle.language.specs.declared.Fault.TheVariants.{NoValue, TooLong, NotHeld}
use Rattle.language.specs.declared.FieldFault.{FieldFault}
use Rattle.language.specs.declared.Rounding.{Rounding}
use Rattle.language.specs.declared.Relation.{Relation}
use Rattle.language.specs.declared.Step.{Step}
use Rattle.language.specs.declared.Step.TheVariants as S
use Rattle.language.specs.Tokens.{all}
use Rattle.language.specs.Syntax.{Sheet, Sign, adds, takes, fields, no_field}
use Rattle.language.specs.Layout.{form_of, width_of, field_at, part, stored, places_of, ticket_length}
use Rattle.language.specs.Arithmetic.{too_long, padded, fitted, holds}
use Rattle.language.specs.Trace.{Site, Action, yields, fails, faults, figured, entry_of}
use Rattle.language.specs.Meaning.{signed, summed, multiplied, compared, read_field, assigned}
use Rattle.language.specs.Admitted.{field_good}
use Rattle.language.specs.Steps.{steps}
use Rattle.language.specs.Machine.{Config, State, running, over, Move, makes, stuck, making, with_one, with_two, at_step, onward, act, moves}
use Rattle.language.specs.Following.{Named, Rests, worked, course_entries, Follows}
use Rattle.language.specs.Tickets.{Bears, FaultsBear}
use Rattle.language.proofs.Acceptance.Admits.{Admits, admits}
use Rattle.language.proofs.Following.Running.{moved}
use Rattle.language.proofs.Following.Following.{following}
use Rattle.language.proofs.Tickets.Parts.{parts_inside}
use Rattle.language.proofs.Tickets.Courses.{runs_keep}

abbrev pub ActionBears : {A : Type 0} → Action A → Type 0
ActionBears (yields figure a) = Unit {0}
ActionBears (fails b) = Bears b.fault

-- ---- reading and writing a part of the form's width

abbrev pub ReadBears : Result ℤ BankRefusal → Type 0
ReadBears (Ok n) = Unit {0}
ReadBears (Err e) = e ≡ B.NoValue

abbrev pub WriteBears : Result (List ℕ) BankRefusal → Type 0
WriteBears (Ok image) = Unit {0}
WriteBears (Err e) = e ≡ B.OutOfRange

-- the form is there, and the part is as wide
pub record Wide (o : Option Form) (bs : List ℕ) : Type 0 where
  pub form : Form
  pub known : o ≡ Some form
  pub wide : length bs ≡ form.width

valued_bears : (v : Option ℤ) → ReadBears (valued v)
valued_bears None = refl
valued_bears (Some n) = tt

pub read_bears : (o : Option Form) (bs : List ℕ) → Wide o bs → ReadBears (read_by o bs)
read_bears o bs w =
    rw w.known (cond_both (eqb (length bs) w.form.width) _ _ ReadBears (λ _. valued_bears (w.form.value bs)) (λ e. cc (eq-eqb (length bs) w.form.width w.wide)))

pub write_bears : (o : Option Form) (n : ℤ) (bs : List ℕ) → Wide o bs → WriteBears (written o n bs)
write_bears o n bs w =
    rw w.known (cond_both (eqb (length bs) w.form.width) _ _ WriteBears
    (λ _. cond_both (le_z w.form.low n && le_z n w.form.high) _ _ WriteBears (λ _. tt) (λ _. refl))
    (λ e. cc (eq-eqb (length bs) w.form.width w.wide)))

-- ---- a move

cond_bears : {A : Type 0} (test : Bool) (d : Action A) (field : ℕ) → ActionBears d → ActionBears (cond test (faults TooLong field) d)
cond_bears test d field h = cond_both test (faults TooLong field) d ActionBears (λ _. tt) (λ _. h)

summed_bears : (g : Sign) (x : ℤ) (a : ℕ) (y : ℤ) (b : ℕ) → ActionBears (summed g x a y b)
summed_bears g x a y b =
    cond_bears (too_long (padded x a) || too_long (padded y b) || too_long (signed g (padded x a) (padded y b))) (figured (signed g (padded x a) (padded y b))) 255 tt

compared_bears : (o : Relation) (x : ℤ) (a : ℕ) (y : ℤ) (b : ℕ) → ActionBears (compared o x a y b)
compared_bears o x a y b =
    let h = holds o (padded x a) (padded y b) in
    cond_bears (too_long (padded x a) || too_long (padded y b)) (yields (pos (cond h 1 0)) h) 255 tt

abbrev StateBears : State → Type 0
StateBears (running c) = Unit {0}
StateBears (over (Ok t)) = Unit {0}
StateBears (over (Err b)) = Bears b.fault

abbrev MoveBears : Move → Type 0
MoveBears (makes e s) = StateBears s
MoveBears stuck = Unit {0}

making_bears : {A : Type 0} (at : Site) (d : Action A) (leads : A → State) → ActionBears d → ((a : A) → StateBears (leads a)) → MoveBears (making at d leads)
unfolding making
making_bears at (yields figure a) leads h k = k a
making_bears at (fails b) leads h k = h

one_bears : (stack : List ℤ) (f : ℤ → List ℤ → Move) → ((x : ℤ) (under : List ℤ) → MoveBears (f x under)) → MoveBears (with_one stack f)
one_bears [] f k = tt
one_bears (x ∷ under) f k = k x under

two_bears : (stack : List ℤ) (f : ℤ → ℤ → List ℤ → Move) → ((x y : ℤ) (under : List ℤ) → MoveBears (f x y under)) → MoveBears (with_two stack f)
two_bears [] f k = tt
two_bears (y ∷ []) f k = tt
two_bears (y ∷ x ∷ under) f k = k x y under

module _ (forms : Forms) (sheet : Sheet) (a : Admits forms sheet) where
  pub part_wide : (row f : ℕ) (ticket : List ℕ) → Named sheet row f → length ticket ≡ ticket_length forms sheet → Wide (form_of forms (field_at sheet f)) (part forms sheet f row ticket)
  part_wide row f ticket named long = go (form_of forms (field_at sheet f)) refl (and_parts _ _ (and_parts _ _ good).0).1
    where
      good : field_good forms (field_at sheet f) ≡ true
      good = and_at (all (field_good forms)) (field_good forms) refl (λ _ _. refl) (fields sheet) f no_field named.declared a.declared.good_fields

      go : (o : Option Form) → form_of forms (field_at sheet f) ≡ o → is_some o ≡ true → Wide (form_of forms (field_at sheet f)) (part forms sheet f row ticket)
      go None e h = cc
      go (Some g) e h =
          let width : width_of forms (field_at sheet f) ≡ g.width = ap (λ (o : Option Form). elim o [ None ↦ 0 | Some form ↦ form.width ]) e in
          record { form = g; known = e; wide = simp (length-take, length-drop) (omega (arith, parts_inside forms sheet row f named)) }

  field_bears : (row f : ℕ) (ticket : List ℕ) → Named sheet row f → length ticket ≡ ticket_length forms sheet → ActionBears (read_field forms sheet row f ticket)
  field_bears row f ticket named long = go (read_by (form_of forms (field_at sheet f)) (part forms sheet f row ticket)) (read_bears _ _ (part_wide row f ticket named long))
    where
      go : (r : Result ℤ BankRefusal) → ReadBears r → ActionBears (elim r [ Ok n ↦ figured n | Err e ↦ faults (NoValue e) f ])
      go (Ok n) h = tt
      go (Err e) h = h

  assigned_bears : (row f : ℕ) (r : Rounding) (from : ℕ) (ticket : List ℕ) (x : ℤ) → Named sheet row f → length ticket ≡ ticket_length forms sheet → ActionBears (assigned forms sheet row f r from ticket x)
  assigned_bears row f r from ticket x named long =
      cond_bears (too_long n) (elim (written (form_of forms (field_at sheet f)) n (part forms sheet f row ticket)) [ Ok image ↦ yields n (stored forms sheet f row image ticket) | Err e ↦ faults (NotHeld e) f ]) f
      (go (written (form_of forms (field_at sheet f)) n (part forms sheet f row ticket)) (write_bears _ n _ (part_wide row f ticket named long)))
    where
      n : ℤ
      n = fitted r x from (places_of sheet f)

      go : (w : Result (List ℕ) BankRefusal) → WriteBears w → ActionBears (elim w [ Ok image ↦ yields n (stored forms sheet f row image ticket) | Err e ↦ faults (NotHeld e) f ])
      go (Ok image) h = tt
      go (Err e) h = h

  -- an action whose value joins those that wait
  push_bears : (at : Site) (d : Action ℤ) (c : Config) (under : List ℤ) → ActionBears d → MoveBears (making at d λ x. onward c (x ∷ under))
  push_bears at d c under h = making_bears at d (λ x. onward c (x ∷ under)) h (λ x. tt)

  act_bears : (here : Site) (s : Step) (c : Config) → Rests sheet c.row s → length c.ticket ≡ ticket_length forms sheet → MoveBears (act forms sheet here s c)
  unfolding act making
  act_bears here (S.Constant units) c rests long = tt
  act_bears here (S.Field f) c rests long = push_bears here (read_field forms sheet c.row f c.ticket) c c.stack (field_bears c.row f c.ticket rests long)
  act_bears here (S.Add p q) c rests long = two_bears c.stack _ λ x y under. push_bears here (summed adds x p y q) c under (summed_bears adds x p y q)
  act_bears here (S.Subtract p q) c rests long = two_bears c.stack _ λ x y under. push_bears here (summed takes x p y q) c under (summed_bears takes x p y q)
  act_bears here S.Multiply c rests long = two_bears c.stack _ λ x y under. push_bears here (multiplied x y) c under (cond_bears (too_long (x *ℤ y)) (figured (x *ℤ y)) 255 tt)
  act_bears here S.Negate c rests long = one_bears c.stack _ λ x under. tt
  act_bears here (S.Store f r places) c rests long = one_bears c.stack _ λ x under.
      making_bears here (assigned forms sheet c.row f r places c.ticket x) (λ t. at_step (c.step + 1) under c.row t)
      (assigned_bears c.row f r places c.ticket x rests long) (λ t. tt)
  act_bears here (S.Test p q o t) c rests long = two_bears c.stack _ λ x y under.
      making_bears here (compared o x p y q) (λ h. at_step (cond h (c.step + 1) t) under c.row c.ticket) (compared_bears o x p y q) (λ h. tt)
  act_bears here (S.Go t) c rests long = tt
  act_bears here S.Open c rests long = tt
  act_bears here (S.Next t) c rests long =
      cond_both (ltb (c.row + 1) sheet.rows) (at_step t c.stack (c.row + 1) c.ticket) (at_step (c.step + 1) c.stack 255 c.ticket) StateBears (λ _. tt) (λ _. tt)
  act_bears here S.End c rests long = tt

-- ---- a course

-- no run is over before its first move
not_over : (forms : Forms) (sheet : Sheet) (ticket : List ℕ) (o : Result (List ℕ) FieldFault) → (worked forms sheet ticket 0).state ≡ over o → ⊥
unfolding moves
not_over forms sheet ticket o h = cc

pub faults_bear : (forms : Forms) → Lawful forms → FaultsBear forms
faults_bear forms lawful sheet good ticket long b e = go (length (course_entries forms sheet ticket)) refl
  where
    follows : Follows forms sheet ticket
    follows = following forms sheet good ticket

    -- where the course ends the run is over
    over_at : (worked forms sheet ticket (length (course_entries forms sheet ticket))).state ≡ over (Err b)
    over_at = ap (λ m. m.state) (follows.ends (length (course_entries forms sheet ticket)) (le_refl (length (course_entries forms sheet ticket)))) ∙ ap over e

    -- before the last entry it was going on, and the last move ends it
    go : (n : ℕ) → length (course_entries forms sheet ticket) ≡ n → Bears b.fault
    go zero q = absurd (not_over forms sheet ticket (Err b) (sym (ap (λ (k : ℕ). (worked forms sheet ticket k).state) q) ∙ over_at))
    go (suc n) q =
        let before : n < length (course_entries forms sheet ticket) = omega arith in
        let (c, made) = follows.goes_on n before in
        let running_c : (worked forms sheet ticket n).state ≡ running c = ap (λ m. m.state) made in
        let r = follows.reached n c running_c in
        let line = r.sound.line in
        let long_c : length c.ticket ≡ ticket_length forms sheet = ((runs_keep forms lawful).going sheet ticket n c running_c).same_length ∙ long in
        let bears = act_bears forms sheet (admits forms sheet good) (record { statement = line.statement; row = c.row }) line.step c r.sound.rests long_c in
        let same : act forms sheet (record { statement = line.statement; row = c.row }) line.step c ≡ makes (entry_of (course_entries forms sheet ticket) (n + 1)) r.next =
        sym (moved forms sheet (steps sheet) c r.sound.here) ∙ r.makes_next in
        let last : r.next ≡ over (Err b) = sym r.leads ∙ ap (λ (k : ℕ). (worked forms sheet ticket k).state) (add-one n ∙ sym q) ∙ over_at in
        rw last at (rw same at bears)
