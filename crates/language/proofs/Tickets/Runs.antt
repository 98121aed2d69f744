-- What holds of a run wherever it stands: its ticket is as long as it was, and the values that wait are not too long.
use Rattle.std.proofs.Common.{◌≡◌, ℕ, zero, suc, ◌+◌, cond, ltb, List, [], ◌∷◌, length, ℤ, Some, None, Ok, Err, Option, refl, arith}
use Rattle.std.specs.List.{slice_get, AllByRecursion}
use Rattle.std.proofs.ByRecursion.{All-get_or}
use Rattle.std.proofs.lemmas.Option.{get_or_from_slice_get, slice_get_within}
use Rattle.std.proofs.lemmas.Bool.{cond_both}
use Rattle.bank.specs.Model.{Forms, Lawful, Bytes}
use Rattle.language.specs.declared.Step.{Step}
use Rattle.language.specs.declared.Step.TheVariants as S
use Rattle.language.specs.declared.Line.{Line}
use Rattle.language.specs.Syntax.{Sheet, adds, takes}
use Rattle.language.specs.Trace.{Site, Action, yields, fails}
use Rattle.language.specs.Meaning.{compared}
use Rattle.language.specs.Machine.{Config, State, running, over, Made, Move, makes, stuck, making, with_one, with_two, at_step, onward, act, move, moves}
use Rattle.language.specs.Bounds.{Small, SmallLine}
use Rattle.language.specs.Tickets.{Kept}
use Rattle.language.proofs.Tickets.Actions.{Leaves, Short, summed_short, multiplied_short, negated_short, field_short, assigned_kept, kept_on}

-- a condition may be put off to what the action comes to
later : {A : Type 0} (P : A → Type 0) (H : Type 0) (d : Action A) → (H → Leaves d P) → Leaves d (λ a. H → P a)
later P H (yields figure a) h = h
later P H (fails b) h = tt

always : {A : Type 0} (d : Action A) → Leaves d (λ a. Unit {0})
always (yields figure a) = tt
always (fails b) = tt

all_nth : {X : Type 0} (P : X → Type 0) (xs : List X) (i : ℕ) (x : X) → slice_get xs i ≡ Some x → AllByRecursion P xs → P x
all_nth P xs i x e h = rw (get_or_from_slice_get xs i x x e) at (All-get_or P xs i x (slice_get_within xs i x e) h)

module _ (forms : Forms) (lawful : Lawful forms) (sheet : Sheet) (lines : List Line) (ticket : List ℕ) where
  -- what the values rest on
  abbrev Given : Type 0
  Given = Bytes ticket × AllByRecursion (SmallLine (length lines)) lines

  abbrev Value : ℤ → Type 0
  Value x = Given → Short x

  -- the invariant, of a configuration, a state and a move
  pub record Holds (c : Config) : Type 0 where
    pub kept : Kept ticket c.ticket
    pub values : AllByRecursion Value c.stack

  abbrev pub StateHolds : State → Type 0
  StateHolds (running c) = Holds c
  StateHolds (over (Ok after)) = Kept ticket after
  StateHolds (over (Err b)) = Unit {0}

  abbrev MoveHolds : Move → Type 0
  MoveHolds (makes e s) = StateHolds s
  MoveHolds stuck = Unit {0}

  -- ---- a move

  making_holds : {A : Type 0} (P : A → Type 0) (at : Site) (d : Action A) (leads : A → State)
      → Leaves d P → ((a : A) → P a → StateHolds (leads a)) → MoveHolds (making at d leads)
  unfolding making
  making_holds P at (yields figure a) leads h k = k a h
  making_holds P at (fails b) leads h k = tt

  -- an action whose value joins those that wait
  push_holds : (at : Site) (d : Action ℤ) (c : Config) (under : List ℤ) → Leaves d Value → Kept ticket c.ticket → AllByRecursion Value under
      → MoveHolds (making at d λ x. onward c (x ∷ under))
  push_holds at d c under h kept values = making_holds Value at d (λ x. onward c (x ∷ under)) h λ x v. record { kept = kept; values = (v, values) }

  short_value : (d : Action ℤ) → Leaves d Short → Leaves d Value
  short_value d h = later Short Given d λ g. h

  one_holds : (stack : List ℤ) (f : ℤ → List ℤ → Move) → AllByRecursion Value stack
      → ((x : ℤ) (under : List ℤ) → Value x → AllByRecursion Value under → MoveHolds (f x under)) → MoveHolds (with_one stack f)
  one_holds [] f v k = tt
  one_holds (x ∷ under) f v k = k x under v.0 v.1

  two_holds : (stack : List ℤ) (f : ℤ → ℤ → List ℤ → Move) → AllByRecursion Value stack
      → ((x y : ℤ) (under : List ℤ) → AllByRecursion Value under → MoveHolds (f x y under)) → MoveHolds (with_two stack f)
  two_holds [] f v k = tt
  two_holds (y ∷ []) f v k = tt
  two_holds (y ∷ x ∷ under) f v k = k x y under v.1.1

  act_holds : (here : Site) (s : Step) (c : Config) → (AllByRecursion (SmallLine (length lines)) lines → Small (length lines) s) → Holds c → MoveHolds (act forms sheet here s c)
  unfolding act making
  act_holds here (S.Constant units) c small h = record { kept = h.kept; values = ((λ g. omega (arith, small g.1)), h.values) }
  act_holds here (S.Field f) c small h =
      push_holds here _ c c.stack (later Short Given _ λ g. field_short forms lawful sheet c.row f c.ticket (h.kept.bytes g.0)) h.kept h.values
  act_holds here (S.Add a b) c small h = two_holds c.stack _ h.values λ x y under v.
      push_holds here _ c under (short_value _ (summed_short adds x a y b)) h.kept v
  act_holds here (S.Subtract a b) c small h = two_holds c.stack _ h.values λ x y under v.
      push_holds here _ c under (short_value _ (summed_short takes x a y b)) h.kept v
  act_holds here S.Multiply c small h = two_holds c.stack _ h.values λ x y under v.
      push_holds here _ c under (short_value _ (multiplied_short x y)) h.kept v
  act_holds here S.Negate c small h = one_holds c.stack _ h.values λ x under v w. record { kept = h.kept; values = ((λ g. negated_short x (v g)), w) }
  act_holds here (S.Store f r places) c small h = one_holds c.stack _ h.values λ x under v w.
      making_holds (Kept c.ticket) here _ (λ after. at_step (c.step + 1) under c.row after)
      (assigned_kept forms lawful sheet c.row f r places c.ticket x) λ after k. record { kept = kept_on h.kept k; values = w }
  act_holds here (S.Test a b o t) c small h = two_holds c.stack _ h.values λ x y under v.
      making_holds (λ a. Unit {0}) here (compared o x a y b) (λ h. at_step (cond h (c.step + 1) t) under c.row c.ticket) (always _) λ a u. record { kept = h.kept; values = v }
  act_holds here (S.Go t) c small h = record { kept = h.kept; values = h.values }
  act_holds here S.Open c small h = record { kept = h.kept; values = h.values }
  act_holds here (S.Next t) c small h =
      cond_both (ltb (c.row + 1) sheet.rows) (at_step t c.stack (c.row + 1) c.ticket) (at_step (c.step + 1) c.stack 255 c.ticket) StateHolds
      (λ e. record { kept = h.kept; values = h.values }) (λ e. record { kept = h.kept; values = h.values })
  act_holds here S.End c small h = h.kept

  move_holds : (c : Config) → Holds c → MoveHolds (move forms sheet lines c)
  unfolding move
  move_holds c h = go (slice_get lines c.step) refl
    where
      go : (o : Option Line) → slice_get lines c.step ≡ o
          → MoveHolds (elim o [ None ↦ stuck | Some l ↦ act forms sheet (record { statement = l.statement; row = c.row }) l.step c ])
      go None e = tt
      go (Some l) e = act_holds (record { statement = l.statement; row = c.row }) l.step c (λ small. (all_nth (SmallLine (length lines)) lines c.step l e small).1) h

  -- ---- a run

  pub moves_hold : (n : ℕ) (s : State) → StateHolds s → StateHolds (moves forms sheet lines n s).state
  unfolding moves
  moves_hold zero s h = h
  moves_hold (suc n) (over o) h = h
  moves_hold (suc n) (running c) h = go (move forms sheet lines c) (move_holds c h) (moves_hold n)
    where
      go : (m : Move) → MoveHolds m → ((s : State) → StateHolds s → StateHolds (moves forms sheet lines n s).state)
          → StateHolds (elim m as (λ m. Made) [
            | stuck ↦ record { entries = []; state = running c }
            | makes e s ↦ record { entries = e ∷ (moves forms sheet lines n s).entries; state = (moves forms sheet lines n s).state }
          ]).state
      go stuck k ih = h
      go (makes e s) k ih = ih s k
