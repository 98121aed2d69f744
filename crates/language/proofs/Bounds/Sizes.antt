-- A sheet has no more steps than tokens, and no more tokens than bytes.
use Rattle.std.proofs.Common.{ℕ, ◌+◌, ◌≤◌, List, [], ◌∷◌, ◌++◌, length, ap, arith, length-append}
use Rattle.std.proofs.lemmas.List.{length-map}
use Rattle.language.specs.Tokens.{tokens, ends}
use Rattle.language.specs.Syntax.{Sheet, Field, Expr, Term, Factor, Stmt, Block, only, sum, just, times, read, constant, group, minus, assign, when, either, each, empty, ◌then◌, printed, expr_tokens, term_tokens, factor_tokens, stmt_tokens, block_tokens, block_count}
use Rattle.language.specs.Acceptance.{Writes}
use Rattle.language.specs.Steps as P
use Rattle.language.proofs.Tokens.Closing.{tokens_few}

module _ (sheet : Sheet) (fields : List Field) where
  mutual
    unfolding P.expr P.term P.factor

    expr_short : (e : Expr) (k : ℕ) → length (P.expr sheet k e) ≤ length (expr_tokens fields e)
    expr_short (only t) k = term_short t k
    expr_short (sum e g t) k = simp length-append (omega (arith, expr_short e k, term_short t k))

    term_short : (t : Term) (k : ℕ) → length (P.term sheet k t) ≤ length (term_tokens fields t)
    term_short (just f) k = factor_short f k
    term_short (times t f) k = simp length-append (omega (arith, term_short t k, factor_short f k))

    factor_short : (f : Factor) (k : ℕ) → length (P.factor sheet k f) ≤ length (factor_tokens fields f)
    factor_short (read f) k = omega arith
    factor_short (constant units places) k = omega arith
    factor_short (group e) k = simp length-append (omega (arith, expr_short e k))
    factor_short (minus f) k = simp length-append (omega (arith, factor_short f k))

  mutual
    unfolding P.stmt P.block P.condition

    stmt_short : (s : Stmt) (at k : ℕ) → length (P.stmt sheet at k s) ≤ length (stmt_tokens fields s)
    stmt_short (assign f e r) at k = simp length-append (omega (arith, expr_short e k))
    stmt_short (when l o r b) at k =
        let first : ℕ = at + length (P.expr sheet k l) + length (P.expr sheet k r) + 1 in
        simp length-append (omega (arith, expr_short l k, expr_short r k, block_short b first (k + 1)))
    stmt_short (either l o r b c) at k =
        let first : ℕ = at + length (P.expr sheet k l) + length (P.expr sheet k r) + 1 in
        let second : ℕ = first + length (P.block sheet first (k + 1) b) + 1 in
        simp length-append (omega (arith, expr_short l k, expr_short r k, block_short b first (k + 1), block_short c second (k + 1 + block_count b)))
    stmt_short (each b) at k = simp length-append (omega (arith, block_short b (at + 1) (k + 1)))

    block_short : (b : Block) (at k : ℕ) → length (P.block sheet at k b) ≤ length (block_tokens fields b)
    block_short empty at k = omega arith
    block_short (b then s) at k = simp length-append (omega (arith, block_short b at k, stmt_short s (at + length (P.block sheet at k b)) (k + block_count b)))

pub steps_short : (sheet : Sheet) → length (P.steps sheet) ≤ length (printed sheet)
unfolding P.steps
steps_short sheet = simp length-append (omega (arith, block_short sheet (sheet.head ++ sheet.row_fields) sheet.body 0 1))

pub few_steps : (text : List ℕ) (sheet : Sheet) → Writes text sheet → length (P.steps sheet) ≤ 4096
few_steps text sheet w =
    omega (arith, steps_short sheet, tokens_few text, w.short, length-map (tokens text) (λ p. p.token), ap length w.same_tokens, length-append (printed sheet) (ends ∷ []))
