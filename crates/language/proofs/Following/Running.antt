-- How the machine works through a stretch of lines: `Reaches`, and where code stands in the lines.
use Rattle.std.proofs.Common.{◌≡◌, ℕ, ◌+◌, List, [], ◌∷◌, ◌++◌, length, Some, Ok, Err, Result, refl, ◌∙◌, subst, append_assoc, append-nil, arith, length-append}
use Rattle.std.specs.List.{slice_get}
use Rattle.bank.specs.Model.{Forms}
use Rattle.language.specs.declared.Entry.{Entry}
use Rattle.language.specs.declared.FieldFault.{FieldFault}
use Rattle.language.specs.declared.Line.{Line}
use Rattle.language.specs.Syntax.{Sheet}
use Rattle.language.specs.Trace.{Worked, Site, Action, yields, fails, done, settled, ◌next◌}
use Rattle.language.specs.Machine.{Config, State, running, over, makes, making, act, move}
use Rattle.language.specs.Following.{Sound}

-- the lines from step at up to step to are this code
pub data Stands (lines : List Line) : ℕ → List Line → ℕ → Type 0 where
  none : {at : ℕ} → Stands lines at [] at
  one : {at to : ℕ} {l : Line} {code : List Line} → slice_get lines at ≡ Some l → Stands lines (at + 1) code to → Stands lines at (l ∷ code) to

-- where code of two parts is cut
pub record Cut (lines : List Line) (at : ℕ) (a b : List Line) (to : ℕ) : Type 0 where
  pub mid : ℕ
  pub left : Stands lines at a mid
  pub right : Stands lines mid b to

module _ {lines : List Line} where
  pub cut : (a : List Line) {b : List Line} {at to : ℕ} → Stands lines at (a ++ b) to → Cut lines at a b to
  cut [] {at = at} s = record { mid = at; left = none; right = s }
  cut (l ∷ a) (one h s) = record { mid = (cut a s).mid; left = one h (cut a s).left; right = (cut a s).right }

  pub stands_length : {at to : ℕ} {code : List Line} → Stands lines at code to → to ≡ at + length code
  stands_length none = omega arith
  stands_length (one h s) = let e = stands_length s in omega arith

  pub line_at : {at to : ℕ} {l : Line} {code : List Line} → Stands lines at (l ∷ code) to → slice_get lines at ≡ Some l
  line_at (one h s) = h

  pub line_past : {at to : ℕ} {l : Line} {code : List Line} → Stands lines at (l ∷ code) to → Stands lines (at + 1) code to
  line_past (one h s) = s

  pub line_to : {at to : ℕ} {l : Line} → Stands lines at (l ∷ []) to → at + 1 ≡ to
  line_to (one h none) = refl

-- the whole list stands from step 0
nth_seam : (before : List Line) (l : Line) (code : List Line) → slice_get (before ++ l ∷ code) (length before) ≡ Some l
nth_seam [] l code = refl
nth_seam (x ∷ before) l code = nth_seam before l code

stands_after : (code before : List Line) → Stands (before ++ code) (length before) code (length (before ++ code))
stands_after [] before = rw append-nil none
stands_after (l ∷ code) before = one (nth_seam before l code) (rw (← append_assoc before (l ∷ []) code) (subst (λ n. Stands (before ++ l ∷ [] ++ code) n code (length (before ++ l ∷ [] ++ code))) (length-append before (l ∷ [])) (stands_after code (before ++ l ∷ []))))

pub stands_whole : (lines : List Line) → Stands lines 0 lines (length lines)
stands_whole lines = stands_after lines []

-- the moves from a state make these entries, and come to an exit or break off with this outcome
pub data Does (forms : Forms) (sheet : Sheet) (lines : List Line) {A : Type 0} (exit : A → State) : State → List Entry → Result A FieldFault → Type 0 where
  arrives : {a : A} → Does forms sheet lines exit (exit a) [] (Ok a)
  breaks : {b : FieldFault} → Does forms sheet lines exit (over (Err b)) [] (Err b)
  goes : {c : Config} {e : Entry} {s : State} {es : List Entry} {o : Result A FieldFault}
      → Sound sheet lines c → move forms sheet lines c ≡ makes e s → Does forms sheet lines exit s es o → Does forms sheet lines exit (running c) (e ∷ es) o

-- the machine works w from a state, and comes to an exit by its value
pub record Reaches (forms : Forms) (sheet : Sheet) (lines : List Line) {A : Type 0} (exit : A → State) (s : State) (w : Worked A) : Type 0 where
  pub does : Does forms sheet lines exit s w.entries w.outcome

pub moved : (forms : Forms) (sheet : Sheet) (lines : List Line) (c : Config) {l : Line} → slice_get lines c.step ≡ Some l
    → move forms sheet lines c ≡ act forms sheet (record { statement = l.statement; row = c.row }) l.step c
unfolding move
moved forms sheet lines c h = rw (h, move)

module _ {forms : Forms} {sheet : Sheet} {lines : List Line} where
  joined : {A B : Type 0} {exit : A → State} {far : B → State} {s : State} {es fs : List Entry} {a : A} {o : Result B FieldFault}
      → Does forms sheet lines exit s es (Ok a) → Does forms sheet lines far (exit a) fs o → Does forms sheet lines far s (es ++ fs) o
  joined arrives d = d
  joined (goes k m c) d = goes k m (joined c d)

  broken_off : {A B : Type 0} {exit : A → State} {far : B → State} {s : State} {es : List Entry} {b : FieldFault}
      → Does forms sheet lines exit s es (Err b) → Does forms sheet lines far s es (Err b)
  broken_off breaks = breaks
  broken_off (goes k m c) = goes k m (broken_off c)

  pub bind : {A B : Type 0} {exit : A → State} {far : B → State} {s : State} {w : Worked A} {k : A → Worked B}
      → Reaches forms sheet lines exit s w → ((a : A) → Reaches forms sheet lines far (exit a) (k a)) → Reaches forms sheet lines far s (w next k)
  unfolding ◌next◌
  bind {A} {B} {exit} {far} {s} {w} {k} d r = go w.entries w.outcome d.does
    where
      go : (es : List Entry) (o : Result A FieldFault) → Does forms sheet lines exit s es o → Reaches forms sheet lines far s (record { entries = es; outcome = o } next k)
      go es (Ok a) d = record { does = joined d (r a).does }
      go es (Err b) d = record { does = broken_off d }

  led : {A : Type 0} {near far : A → State} {s : State} {es : List Entry} {o : Result A FieldFault}
      → ((a : A) → near a ≡ far a) → Does forms sheet lines near s es o → Does forms sheet lines far s es o
  led e (arrives {a = a}) = rw e arrives
  led e breaks = breaks
  led e (goes k m d) = goes k m (led e d)

  -- the exit is the same state, said in another way
  pub leads : {A : Type 0} {near far : A → State} {s : State} {w : Worked A}
      → ((a : A) → near a ≡ far a) → Reaches forms sheet lines near s w → Reaches forms sheet lines far s w
  leads e r = record { does = led e r.does }

  -- nothing is done
  pub stays : {A : Type 0} {exit : A → State} (a : A) → Reaches forms sheet lines exit (exit a) (settled a)
  unfolding settled
  stays a = record { does = arrives }

  -- one move does one action
  pub acts : {A : Type 0} {exit : A → State} {c : Config} (at : Site) (d : Action A) (k : Sound sheet lines c)
      → act forms sheet (record { statement = k.line.statement; row = c.row }) k.line.step c ≡ making at d exit → Reaches forms sheet lines exit (running c) (done at d)
  unfolding done making
  acts {c = c} at (yields figure a) k e = record { does = goes k (moved forms sheet lines c k.here ∙ e) arrives }
  acts {c = c} at (fails b) k e = record { does = goes k (moved forms sheet lines c k.here ∙ e) breaks }
