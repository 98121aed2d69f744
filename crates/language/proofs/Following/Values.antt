-- The machine works the steps of an expression, and of a condition, as these are worked in the course.
use Rattle.std.proofs.Common.{◌≡◌, ℕ, ◌+◌, ◌*◌, ◌<◌, ◌≤◌, Bool, true, false, cond, not, ◌||◌, ◌⊎◌, List, [], ◌∷◌, ◌++◌, length, ℤ, refl, ap, inl, inr, arith}
use Rattle.std.proofs.lemmas.Bool.{and_parts, leb-true, leb-false, ltb-true, not-true}
use Rattle.bank.specs.Model.{Forms}
use Rattle.language.specs.declared.Line.{Line}
use Rattle.language.specs.declared.Step.{Step}
use Rattle.language.specs.declared.Relation.{Relation}
use Rattle.language.specs.Syntax.{Sheet, Sign, adds, takes, Expr, Term, Factor, only, sum, just, times, read, constant, group, minus}
use Rattle.language.specs.Trace.{Worked, Site, Action, done}
use Rattle.language.specs.Admitted.{expr_levels, term_levels, factor_levels, is_row_field, in_scope, expr_good, term_good, factor_good, side_good}
use Rattle.language.specs.Steps.{line}
use Rattle.language.specs.Machine.{making, at_step, act}
use Rattle.language.specs.Following.{Named, Rests}
use Rattle.language.specs.Meaning as M
use Rattle.language.specs.Steps as P
use Rattle.language.proofs.Following.Running.{Stands, cut, line_at, line_to, Reaches, bind, leads, acts}

-- the row inside `each`, and outside
abbrev pub Placed : Sheet → Bool → ℕ → Type 0
Placed sheet true row = row < sheet.rows
Placed sheet false row = row ≡ 255

pub in_rows : (sheet : Sheet) (i : Bool) (row : ℕ) → Placed sheet i row → (row ≡ 255) ⊎ (row < sheet.rows)
in_rows sheet true row p = inr p
in_rows sheet false row p = inl p

-- a field in scope may be named
pub scoped : (forms : Forms) (sheet : Sheet) (i : Bool) (row f : ℕ) → Placed sheet i row → in_scope sheet i f ≡ true → Named sheet row f
scoped forms sheet i row f p h = record { declared = ltb-true _ _ (and_parts _ _ h).0; in_row = go i p (and_parts _ _ h).1 }
  where
    go : (i : Bool) → Placed sheet i row → (i || not (is_row_field sheet f)) ≡ true → length sheet.head ≤ f → row < sheet.rows
    go true p h le = p
    go false p h le = absurd (omega (arith, leb-false (length sheet.head) f (not-true _ h)))

module _ (forms : Forms) (sheet : Sheet) (lines : List Line) (i : Bool) (k row : ℕ) (ticket : List ℕ) (placed : Placed sheet i row) where
  abbrev here : Site
  here = record { statement = k; row = row }

  -- working w at step at comes to its value on the stack, at step to
  abbrev Works : ℕ → List ℤ → ℕ → Worked ℤ → Type 0
  Works at stack to w = Reaches forms sheet lines (λ x. at_step to (x ∷ stack) row ticket) (at_step at stack row ticket) w

  -- a step that puts a value in place of some
  pushes : {at to : ℕ} {s : Step} (stack under : List ℤ) (d : Action ℤ) → Stands lines at (line k s ∷ []) to → length stack ≤ 28 → Rests sheet row s
      → act forms sheet here s (record { step = at; stack = stack; row = row; ticket = ticket }) ≡ making here d (λ x. at_step (at + 1) (x ∷ under) row ticket)
      → Reaches forms sheet lines (λ x. at_step to (x ∷ under) row ticket) (at_step at stack row ticket) (done here d)
  pushes stack under d s low rests e =
      leads (λ x. ap (λ (n : ℕ). at_step n (x ∷ under) row ticket) (line_to s))
      (acts here d (record { low = low; in_rows = in_rows sheet i row placed; line = _; here = line_at s; rests = rests }) e)

  -- a sum's step, by its sign
  sum_rests : (g : Sign) (a b : ℕ) → Rests sheet row (P.sum_step g a b)
  sum_rests adds a b = tt
  sum_rests takes a b = tt

  sum_acts : (g : Sign) (a b at : ℕ) (x y : ℤ) (under : List ℤ) → act forms sheet here (P.sum_step g a b) (record { step = at; stack = y ∷ x ∷ under; row = row; ticket = ticket })
      ≡ making here (M.summed g x a y b) (λ z. at_step (at + 1) (z ∷ under) row ticket)
  unfolding act
  sum_acts adds a b at x y under = refl
  sum_acts takes a b at x y under = refl

  -- each open level has at most two values waiting
  mutual
    unfolding P.expr M.expr P.term M.term P.factor M.factor act

    pub expr_works : (e : Expr) (at to : ℕ) (stack : List ℤ) → Stands lines at (P.expr sheet k e) to → length stack + 3 + 2 * expr_levels e ≤ 28 → expr_good sheet i e ≡ true
        → Works at stack to (M.expr forms sheet here ticket e)
    expr_works (only t) at to stack s low good = term_works t at to stack s (omega arith) good
    expr_works (sum e g t) at to stack s low good =
        let whole = cut (P.expr sheet k e ++ P.term sheet k t) s in
        let parts = cut (P.expr sheet k e) whole.left in
        bind (expr_works e at parts.mid stack parts.left (omega arith) (and_parts _ _ good).0) λ x.
        bind (term_works t parts.mid whole.mid (x ∷ stack) parts.right (omega arith) (and_parts _ _ good).1) λ y.
        pushes (y ∷ x ∷ stack) stack _ whole.right (omega arith) (sum_rests g _ _) (sum_acts g _ _ _ x y stack)

    pub term_works : (t : Term) (at to : ℕ) (stack : List ℤ) → Stands lines at (P.term sheet k t) to → length stack + 2 + 2 * term_levels t ≤ 28 → term_good sheet i t ≡ true
        → Works at stack to (M.term forms sheet here ticket t)
    term_works (just f) at to stack s low good = factor_works f at to stack s (omega arith) good
    term_works (times t f) at to stack s low good =
        let whole = cut (P.term sheet k t ++ P.factor sheet k f) s in
        let parts = cut (P.term sheet k t) whole.left in
        bind (term_works t at parts.mid stack parts.left (omega arith) (and_parts _ _ (and_parts _ _ good).0).0) λ x.
        bind (factor_works f parts.mid whole.mid (x ∷ stack) parts.right (omega arith) (and_parts _ _ (and_parts _ _ good).0).1) λ y.
        pushes (y ∷ x ∷ stack) stack _ whole.right (omega arith) tt refl

    pub factor_works : (f : Factor) (at to : ℕ) (stack : List ℤ) → Stands lines at (P.factor sheet k f) to → length stack + 1 + 2 * factor_levels f ≤ 28 → factor_good sheet i f ≡ true
        → Works at stack to (M.factor forms sheet here ticket f)
    factor_works (read f) at to stack s low good = pushes stack stack _ s (omega arith) (scoped forms sheet i row f placed good) refl
    factor_works (constant units places) at to stack s low good = pushes stack stack _ s (omega arith) tt refl
    factor_works (group e) at to stack s low good = expr_works e at to stack s (omega arith) good
    factor_works (minus f) at to stack s low good =
        let parts = cut (P.factor sheet k f) s in
        bind (factor_works f at parts.mid stack parts.left (omega arith) good) λ x.
        pushes (x ∷ stack) stack _ parts.right (omega arith) tt refl

  -- the levels of a side are few
  side_low : (e : Expr) → side_good sheet i e ≡ true → expr_levels e ≤ 12
  side_low e good = leb-true _ _ (and_parts _ _ good).1

  pub side_works : (e : Expr) (at to : ℕ) (stack : List ℤ) → Stands lines at (P.expr sheet k e) to → length stack ≤ 1 → side_good sheet i e ≡ true
      → Works at stack to (M.expr forms sheet here ticket e)
  side_works e at to stack s few good = expr_works e at to stack s (omega (arith, side_low e good)) (and_parts _ _ good).0

  -- a test leads to the step after it, or away
  pub condition_works : (l : Expr) (o : Relation) (r : Expr) (away at to : ℕ) → Stands lines at (P.condition sheet k l o r away) to
      → side_good sheet i l ≡ true → side_good sheet i r ≡ true
      → Reaches forms sheet lines (λ h. at_step (cond h to away) [] row ticket) (at_step at [] row ticket) (M.condition forms sheet here ticket l o r)
  unfolding P.condition M.condition act
  condition_works l o r away at to s good_l good_r =
      let whole = cut (P.expr sheet k l ++ P.expr sheet k r) s in
      let parts = cut (P.expr sheet k l) whole.left in
      bind (side_works l at parts.mid [] parts.left (omega arith) good_l) λ x.
      bind (side_works r parts.mid whole.mid (x ∷ []) parts.right (omega arith) good_r) λ y.
      leads (λ h. ap (λ (n : ℕ). at_step (cond h n away) [] row ticket) (line_to whole.right))
      (acts here _ (record { low = omega arith; in_rows = in_rows sheet i row placed; line = _; here = line_at whole.right; rests = tt }) refl)
