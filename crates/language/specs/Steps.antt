-- The steps of a sheet, in the order of the course, numbered from 0; each line has its step and the statement that it belongs to.
use Rattle.std.specs.Prelude.{ℕ, ◌+◌, List, [], ◌∷◌, ◌++◌, length}
use Rattle.language.specs.declared.Step.{Step}
use Rattle.language.specs.declared.Step.TheVariants as S
use Rattle.language.specs.declared.Line.{Line}
use Rattle.language.specs.declared.Relation.{Relation}
use Rattle.language.specs.Syntax.{Sheet, Sign, adds, takes, Expr, Term, Factor, Stmt, Block, only, sum, just, times, read, constant, group, minus, assign, when, either, each, empty, ◌then◌, block_count}
use Rattle.language.specs.Layout.{expr_places, term_places, zeros}

abbrev pub line : ℕ → Step → Line
line k s = record { statement = k; step = s }

abbrev pub sum_step : Sign → ℕ → ℕ → Step
sum_step adds a b = S.Add a b
sum_step takes a b = S.Subtract a b

module _ (sheet : Sheet) where
  -- the steps of an expression in statement k
  unfoldable mutual
    pub expr : ℕ → Expr → List Line
    expr k (only t) = term k t
    expr k (sum e g t) = expr k e ++ term k t ++ line k (sum_step g (zeros (expr_places sheet e) (term_places sheet t)) (zeros (term_places sheet t) (expr_places sheet e))) ∷ []

    pub term : ℕ → Term → List Line
    term k (just f) = factor k f
    term k (times t f) = term k t ++ factor k f ++ line k S.Multiply ∷ []

    pub factor : ℕ → Factor → List Line
    factor k (read f) = line k (S.Field f) ∷ []
    factor k (constant units places) = line k (S.Constant units) ∷ []
    factor k (group e) = expr k e
    factor k (minus f) = factor k f ++ line k S.Negate ∷ []

  -- both sides, and the test that leads to step `to` where it fails
  unfoldable pub condition : ℕ → Expr → Relation → Expr → ℕ → List Line
  condition k l o r to = expr k l ++ expr k r ++ line k (S.Test (zeros (expr_places sheet l) (expr_places sheet r)) (zeros (expr_places sheet r) (expr_places sheet l)) o to) ∷ []

  -- `at` is the number of the first step, k that of the first statement
  unfoldable mutual
    pub stmt : ℕ → ℕ → Stmt → List Line
    stmt at k (assign f e r) = expr k e ++ line k (S.Store f r (expr_places sheet e)) ∷ []
    -- a failed test leads to what follows the then part
    stmt at k (when l o r b) =
        let first = at + length (expr k l) + length (expr k r) + 1 in
        let then_part = block first (k + 1) b in
        condition k l o r (first + length then_part) ++ then_part
    -- a failed test leads to the else part, and the then part ends with a step that leads past it
    stmt at k (either l o r b c) =
        let first = at + length (expr k l) + length (expr k r) + 1 in
        let then_part = block first (k + 1) b in
        let second = first + length then_part + 1 in
        let else_part = block second (k + 1 + block_count b) c in
        condition k l o r second ++ then_part ++ line k (S.Go (second + length else_part)) ∷ else_part
    -- a row's end leads back to the body
    stmt at k (each b) = line k S.Open ∷ block (at + 1) (k + 1) b ++ line k (S.Next (at + 1)) ∷ []

    pub block : ℕ → ℕ → Block → List Line
    block at k empty = []
    block at k (b then s) = block at k b ++ stmt (at + length (block at k b)) (k + block_count b) s

  unfoldable pub steps : List Line
  steps = block 0 1 sheet.body ++ line 0 S.End ∷ []
