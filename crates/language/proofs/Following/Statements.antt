-- The machine works the steps of a statement, and of a block, as these are worked in the course.
use Rattle.std.proofs.Common.{◌≡◌, ℕ, zero, suc, ◌+◌, ◌<◌, Bool, true, false, not, List, [], ◌∷◌, ◌++◌, length, refl, ap, subst, inr, arith, length-append}
use Rattle.std.proofs.lemmas.Bool.{and_parts, ltb-true, lt-ltb, le-ltb}
use Rattle.bank.specs.Model.{Forms}
use Rattle.language.specs.declared.Line.{Line}
use Rattle.language.specs.declared.Relation.{Relation}
use Rattle.language.specs.declared.Step.TheVariants as S
use Rattle.language.specs.Syntax.{Sheet, Expr, Stmt, Block, assign, when, either, each, empty, ◌then◌, block_count}
use Rattle.language.specs.Trace.{Worked, settled, passed}
use Rattle.language.specs.Admitted.{stmt_good, block_good}
use Rattle.language.specs.Steps.{line}
use Rattle.language.specs.Machine.{at_step, act}
use Rattle.language.specs.Meaning as M
use Rattle.language.specs.Steps as P
use Rattle.language.proofs.Following.Running.{Stands, cut, stands_length, line_at, line_past, line_to, Reaches, bind, leads, stays, acts}
use Rattle.language.proofs.Following.Values.{Placed, in_rows, scoped, side_works, condition_works}

module _ (forms : Forms) (sheet : Sheet) (lines : List Line) where
  outside : (i : Bool) (row : ℕ) → not i ≡ true → Placed sheet i row → row ≡ 255
  outside true row n p = cc
  outside false row n p = p

  condition_length : (k : ℕ) (l : Expr) (o : Relation) (r : Expr) (away : ℕ)
      → length (P.condition sheet k l o r away) ≡ length (P.expr sheet k l) + length (P.expr sheet k r) + 1
  unfolding P.condition
  condition_length k l o r away = simp length-append

  -- working w at step at comes to a ticket at step to
  abbrev Works : ℕ → ℕ → ℕ → List ℕ → Worked (List ℕ) → Type 0
  Works row at to ticket w = Reaches forms sheet lines (λ t. at_step to [] row t) (at_step at [] row ticket) w

  stays_at : (row at to : ℕ) (ticket : List ℕ) → at ≡ to → Works row at to ticket (settled ticket)
  stays_at row at to ticket e = rw e (stays ticket)

  -- the rows that are left, from row first on
  rows_work : (k back at body to : ℕ) (work : ℕ → List ℕ → Worked (List ℕ))
      → Stands lines at (line k (S.Next back) ∷ []) to → back ≡ body
      → ((row : ℕ) (ticket : List ℕ) → row < sheet.rows → Works row body at ticket (work row ticket))
      → (left first : ℕ) (ticket : List ℕ) → first + left ≡ sheet.rows → 0 < left
      → Reaches forms sheet lines (λ t. at_step to [] 255 t) (at_step body [] first ticket) (M.each_row k left first work ticket)
  unfolding M.each_row act
  rows_work k back at body to work s e works zero first ticket n some = absurd (omega arith)
  rows_work k back at body to work s e works (suc zero) first ticket n some =
      bind (works first ticket (omega arith)) λ t.
      bind (acts _ (passed t) (record { low = omega arith; in_rows = inr (omega arith); line = _; here = line_at s; rests = omega arith }) refl) λ t.
      rw (le-ltb (first + 1) sheet.rows (omega arith)) (stays_at 255 (at + 1) to t (line_to s))
  rows_work k back at body to work s e works (suc (suc left)) first ticket n some =
      bind (works first ticket (omega arith)) λ t.
      bind (acts _ (passed t) (record { low = omega arith; in_rows = inr (omega arith); line = _; here = line_at s; rests = omega arith }) refl) λ t.
      rw (lt-ltb (first + 1) sheet.rows (omega arith), e) (rows_work k back at body to work s e works (suc left) (first + 1) t (omega arith) (omega arith))

  mutual
    unfolding P.stmt P.block M.stmt M.block act

    -- base is where the code was made for, and at where it stands: the same step
    pub stmt_works : (s : Stmt) (i : Bool) (k row base at to : ℕ) (ticket : List ℕ) → base ≡ at → stmt_good sheet i s ≡ true → Placed sheet i row
        → Stands lines at (P.stmt sheet base k s) to → Works row at to ticket (M.stmt forms sheet k row s ticket)
    stmt_works (assign f e r) i k row base at to ticket b good p s =
        let parts = cut (P.expr sheet k e) s in
        bind (side_works forms sheet lines i k row ticket p e at parts.mid [] parts.left (omega arith) (and_parts _ _ good).1) λ x.
        leads (λ t. ap (λ (n : ℕ). at_step n [] row t) (line_to parts.right))
        (acts _ _ (record { low = omega arith; in_rows = in_rows sheet i row p; line = _; here = line_at parts.right; rests = scoped forms sheet i row f p (and_parts _ _ good).0 }) refl)
    stmt_works (when l o r b) i k row base at to ticket eq good p s =
        let first : ℕ = base + length (P.expr sheet k l) + length (P.expr sheet k r) + 1 in
        let part : List Line = P.block sheet first (k + 1) b in
        let parts = cut (P.condition sheet k l o r (first + length part)) s in
        let starts : first ≡ parts.mid = omega (arith, stands_length parts.left, condition_length k l o r (first + length part)) in
        let ends : first + length part ≡ to = omega (arith, stands_length parts.right) in
        let sides = and_parts _ _ (and_parts _ _ good).0 in
        bind (condition_works forms sheet lines i k row ticket p l o r (first + length part) at parts.mid parts.left sides.0 sides.1)
        (elim [
          | true ↦ block_works b i (k + 1) row first parts.mid to ticket starts (and_parts _ _ good).1 p parts.right
          | false ↦ stays_at row (first + length part) to ticket ends
        ])
    stmt_works (either l o r b c) i k row base at to ticket eq good p s =
        let first : ℕ = base + length (P.expr sheet k l) + length (P.expr sheet k r) + 1 in
        let part : List Line = P.block sheet first (k + 1) b in
        let second : ℕ = first + length part + 1 in
        let other : List Line = P.block sheet second (k + 1 + block_count b) c in
        let whole = cut (P.condition sheet k l o r second ++ part) s in
        let parts = cut (P.condition sheet k l o r second) whole.left in
        let starts : first ≡ parts.mid = omega (arith, stands_length parts.left, condition_length k l o r second) in
        let goes_on : whole.mid + 1 ≡ second = omega (arith, stands_length parts.right) in
        let ends : second + length other ≡ to = omega (arith, stands_length (line_past whole.right)) in
        let sides = and_parts _ _ (and_parts _ _ (and_parts _ _ good).0).0 in
        bind (condition_works forms sheet lines i k row ticket p l o r second at parts.mid parts.left sides.0 sides.1)
        (elim [
          | true ↦ bind (block_works b i (k + 1) row first parts.mid whole.mid ticket starts (and_parts _ _ (and_parts _ _ good).0).1 p parts.right) λ t.
              leads (λ u. ap (λ (n : ℕ). at_step n [] row u) ends) (acts _ (passed t) (record { low = omega arith; in_rows = in_rows sheet i row p; line = _; here = line_at whole.right; rests = tt }) refl)
          | false ↦ block_works c i (k + 1 + block_count b) row second second to ticket refl (and_parts _ _ good).1 p
              (subst (λ (n : ℕ). Stands lines n other to) goes_on (line_past whole.right))
        ])
    stmt_works (each b) i k row base at to ticket eq good p s =
        let parts = cut (P.block sheet (base + 1) (k + 1) b) (line_past s) in
        let tests = and_parts _ _ (and_parts _ _ good).0 in
        bind (acts _ (passed ticket) (record { low = omega arith; in_rows = in_rows sheet i row p; line = _; here = line_at s; rests = tt }) refl) λ t.
        rw (outside i row tests.0 p)
        (rows_work k (base + 1) parts.mid (at + 1) to (λ r u. M.block forms sheet (k + 1) r b u) parts.right (omega arith)
        (λ r u inside. block_works b true (k + 1) r (base + 1) (at + 1) parts.mid u (omega arith) (and_parts _ _ good).1 inside parts.left)
        sheet.rows 0 t (omega arith) (ltb-true 0 sheet.rows tests.1))

    pub block_works : (b : Block) (i : Bool) (k row base at to : ℕ) (ticket : List ℕ) → base ≡ at → block_good sheet i b ≡ true → Placed sheet i row
        → Stands lines at (P.block sheet base k b) to → Works row at to ticket (M.block forms sheet k row b ticket)
    block_works empty i k row base at to ticket eq good p s = stays_at row at to ticket (omega (arith, stands_length s))
    block_works (b then s) i k row base at to ticket eq good p stands =
        let parts = cut (P.block sheet base k b) stands in
        bind (block_works b i k row base at parts.mid ticket eq (and_parts _ _ good).0 p parts.left) λ t.
        stmt_works s i (k + block_count b) row (base + length (P.block sheet base k b)) parts.mid to t (omega (arith, stands_length parts.left)) (and_parts _ _ good).1 p parts.right
