-- A course has at most 64 entries for each step.
use Rattle.std.proofs.Common.{◌≡◌, ℕ, zero, suc, ◌+◌, ◌*◌, ◌≤◌, Bool, true, false, not, List, ◌++◌, length, Ok, Err, Result, mul-le-mul_right, suc-mul, mul-add, arith, length-append}
use Rattle.std.proofs.lemmas.Bool.{and_parts}
use Rattle.bank.specs.Model.{Forms}
use Rattle.language.specs.declared.Relation.{Relation}
use Rattle.language.specs.declared.FieldFault.{FieldFault}
use Rattle.language.specs.Syntax.{Sheet, Expr, Term, Factor, Stmt, Block, only, sum, just, times, read, constant, group, minus, assign, when, either, each, empty, ◌then◌, block_count}
use Rattle.language.specs.Trace.{Worked, ◌next◌, settled, Site, Action, yields, fails, done, passed}
use Rattle.language.specs.Admitted.{stmt_good, block_good}
use Rattle.language.specs.Meaning as M
use Rattle.language.proofs.Acceptance.Admits.{Admits}
use Rattle.language.specs.Steps as P

-- at most n entries
abbrev Within : {A : Type 0} → ℕ → Worked A → Type 0
Within n w = length w.entries ≤ n

next_within : {A B : Type 0} (m n total : ℕ) (w : Worked A) (k : A → Worked B) → Within m w → ((a : A) → Within n (k a)) → m + n ≤ total → Within total (w next k)
unfolding ◌next◌
next_within {A} {B} m n total w k first second le = go w.outcome
  where
    go : (o : Result A FieldFault) → Within {A = B} total (elim o [
      | Err b ↦ record { entries = w.entries; outcome = Err b }
      | Ok a ↦ record { entries = w.entries ++ (k a).entries; outcome = (k a).outcome }
    ])
    go (Err b) = omega arith
    go (Ok a) = omega (arith, second a, length-append w.entries (k a).entries)

done_within : {A : Type 0} (at : Site) (d : Action A) → Within 1 (done at d)
unfolding done
done_within at (yields figure a) = omega arith
done_within at (fails b) = omega arith

settled_within : {A : Type 0} (n : ℕ) (a : A) → Within n (settled a)
unfolding settled
settled_within n a = omega arith

module _ (forms : Forms) (sheet : Sheet) (at : Site) (ticket : List ℕ) (k : ℕ) where
  mutual
    unfolding P.expr M.expr P.term M.term P.factor M.factor

    expr_within : (e : Expr) → Within (length (P.expr sheet k e)) (M.expr forms sheet at ticket e)
    expr_within (only t) = term_within t
    expr_within (sum e g t) =
        next_within (length (P.expr sheet k e)) (length (P.term sheet k t) + 1) _ _ _ (expr_within e)
        (λ x. next_within (length (P.term sheet k t)) 1 _ _ _ (term_within t) (λ y. done_within at _) (omega arith)) (simp length-append (omega arith))

    term_within : (t : Term) → Within (length (P.term sheet k t)) (M.term forms sheet at ticket t)
    term_within (just f) = factor_within f
    term_within (times t f) =
        next_within (length (P.term sheet k t)) (length (P.factor sheet k f) + 1) _ _ _ (term_within t)
        (λ x. next_within (length (P.factor sheet k f)) 1 _ _ _ (factor_within f) (λ y. done_within at _) (omega arith)) (simp length-append (omega arith))

    factor_within : (f : Factor) → Within (length (P.factor sheet k f)) (M.factor forms sheet at ticket f)
    factor_within (read f) = done_within at _
    factor_within (constant units places) = done_within at _
    factor_within (group e) = expr_within e
    factor_within (minus f) = next_within (length (P.factor sheet k f)) 1 _ _ _ (factor_within f) (λ x. done_within at _) (simp length-append (omega arith))

  condition_within : (l : Expr) (o : Relation) (r : Expr) → Within (length (P.expr sheet k l) + length (P.expr sheet k r) + 1) (M.condition forms sheet at ticket l o r)
  unfolding M.condition
  condition_within l o r =
      next_within (length (P.expr sheet k l)) (length (P.expr sheet k r) + 1) _ _ _ (expr_within l)
      (λ x. next_within (length (P.expr sheet k r)) 1 _ _ _ (expr_within r) (λ y. done_within at _) (omega arith)) (omega arith)

-- a body of at most n entries, worked for the rows that are left
rows_within : (k n : ℕ) (body : ℕ → List ℕ → Worked (List ℕ)) → ((row : ℕ) (ticket : List ℕ) → Within n (body row ticket))
    → (left first : ℕ) (ticket : List ℕ) → Within (left * (n + 1)) (M.each_row k left first body ticket)
unfolding M.each_row
rows_within k n body within zero first ticket = settled_within _ ticket
rows_within k n body within (suc left) first ticket =
    next_within n (1 + left * (n + 1)) _ _ _ (within first ticket)
    (λ t. next_within 1 (left * (n + 1)) _ _ _ (done_within _ (passed t)) (λ t. rows_within k n body within left (first + 1) t) (omega arith))
    (omega (arith, suc-mul left (n + 1)))

grows : (c n : ℕ) → 1 ≤ c → n ≤ c * n
grows c n some = omega (arith, mul-le-mul_right n some)

module _ (forms : Forms) (sheet : Sheet) (few_rows : sheet.rows ≤ 64) where
  mutual
    unfolding P.stmt P.block P.condition M.stmt M.block

    -- inside an `each` there is at most one entry for a step, and outside at most 64
    stmt_within : (s : Stmt) (i : Bool) (c k row at : ℕ) (ticket : List ℕ) → 1 ≤ c → (not i ≡ true → 64 ≤ c) → stmt_good sheet i s ≡ true
        → Within (c * length (P.stmt sheet at k s)) (M.stmt forms sheet k row s ticket)
    stmt_within (assign f e r) i c k row at ticket some whole good =
        next_within (length (P.expr sheet k e)) 1 _ _ _ (expr_within forms sheet _ ticket k e) (λ x. done_within _ _)
        (simp (length-append, mul-add) (omega (arith, grows c (length (P.expr sheet k e)) some)))
    stmt_within (when l o r b) i c k row at ticket some whole good =
        let first : ℕ = at + length (P.expr sheet k l) + length (P.expr sheet k r) + 1 in
        let part : ℕ = length (P.block sheet first (k + 1) b) in
        let test : ℕ = length (P.expr sheet k l) + length (P.expr sheet k r) + 1 in
        next_within test (c * part) _ _ _ (condition_within forms sheet _ ticket k l o r)
        (elim [
          | true ↦ block_within b i c (k + 1) row first ticket some whole (and_parts _ _ good).1
          | false ↦ settled_within _ ticket
        ])
        (simp length-append (omega (arith, grows c test some, mul-add c test part)))
    stmt_within (either l o r b d) i c k row at ticket some whole good =
        let first : ℕ = at + length (P.expr sheet k l) + length (P.expr sheet k r) + 1 in
        let part : ℕ = length (P.block sheet first (k + 1) b) in
        let second : ℕ = first + part + 1 in
        let other : ℕ = length (P.block sheet second (k + 1 + block_count b) d) in
        let test : ℕ = length (P.expr sheet k l) + length (P.expr sheet k r) + 1 in
        next_within test (c * (part + 1 + other)) _ _ _ (condition_within forms sheet _ ticket k l o r)
        (elim [
          | true ↦ next_within (c * part) 1 _ _ _ (block_within b i c (k + 1) row first ticket some whole (and_parts _ _ (and_parts _ _ good).0).1) (λ t. done_within _ (passed t))
              (omega (arith, mul-add c part (1 + other), grows c (1 + other) some))
          | false ↦ omega (arith, block_within d i c (k + 1 + block_count b) row second ticket some whole (and_parts _ _ good).1, mul-add c (part + 1) other)
        ])
        (simp length-append (omega (arith, grows c test some, mul-add c test (part + 1 + other))))
    stmt_within (each b) i c k row at ticket some whole good =
        let body : ℕ = length (P.block sheet (at + 1) (k + 1) b) in
        let wide : 64 ≤ c = whole (and_parts _ _ (and_parts _ _ good).0).0 in
        next_within 1 (sheet.rows * (1 * body + 1)) _ _ _ (done_within _ (passed ticket))
        (λ t. rows_within k (1 * body) _ (λ r u. block_within b true 1 (k + 1) r (at + 1) u (omega arith) (λ e. cc) (and_parts _ _ good).1) sheet.rows 0 t)
        (simp length-append (omega (arith, mul-le-mul_right (1 * body + 1) few_rows, mul-le-mul_right (body + 2) wide)))

    block_within : (b : Block) (i : Bool) (c k row at : ℕ) (ticket : List ℕ) → 1 ≤ c → (not i ≡ true → 64 ≤ c) → block_good sheet i b ≡ true
        → Within (c * length (P.block sheet at k b)) (M.block forms sheet k row b ticket)
    block_within empty i c k row at ticket some whole good = settled_within _ ticket
    block_within (b then s) i c k row at ticket some whole good =
        let part : ℕ = length (P.block sheet at k b) in
        let last : ℕ = length (P.stmt sheet (at + part) (k + block_count b) s) in
        next_within (c * part) (c * last) _ _ _ (block_within b i c k row at ticket some whole (and_parts _ _ good).0)
        (λ t. stmt_within s i c (k + block_count b) row (at + part) t some whole (and_parts _ _ good).1)
        (simp (length-append, mul-add) (omega arith))

pub courses_short : (forms : Forms) (sheet : Sheet) → Admits forms sheet → (ticket : List ℕ)
    → length (M.course forms sheet ticket).entries ≤ 64 * length (P.steps sheet)
unfolding M.course P.steps
courses_short forms sheet a ticket =
    next_within (64 * length (P.block sheet 0 1 sheet.body)) 1 _ _ _
    (block_within forms sheet a.declared.few_rows sheet.body false 64 1 255 0 ticket (omega arith) (λ e. omega arith) a.good_body)
    (λ t. done_within _ (passed t)) (simp length-append (omega arith))
