-- Which sheets of the grammar are admitted.
use Rattle.std.specs.Prelude.{ℕ, ◌+◌, max, Bool, true, false, not, ◌&&◌, ◌||◌, List, [], ◌∷◌, length, is_some, ◌==◌, nat_le, nat_lt}
use Rattle.bank.specs.Model.{Forms}
use Rattle.language.specs.Tokens.{all}
use Rattle.language.specs.Words.{same_bytes, is_name}
use Rattle.language.specs.Syntax.{Sheet, Field, fields, Expr, Term, Factor, Stmt, Block, only, sum, just, times, read, constant, group, minus, assign, when, either, each, empty, ◌then◌, block_count}
use Rattle.language.specs.Layout.{form_of, ticket_length, term_places, factor_places}

-- no two fields have one name
abbrev pub distinct : List Field → Bool
distinct [] = true
distinct (f ∷ fs) = all (λ g. not (same_bytes f.name g.name)) fs && distinct fs

-- how deep `(` and `-` stand in one another
abbrev mutual
  pub expr_levels : Expr → ℕ
  expr_levels (only t) = term_levels t
  expr_levels (sum e g t) = max (expr_levels e) (term_levels t)

  pub term_levels : Term → ℕ
  term_levels (just f) = factor_levels f
  term_levels (times t f) = max (term_levels t) (factor_levels f)

  pub factor_levels : Factor → ℕ
  factor_levels (read f) = 0
  factor_levels (constant units places) = 0
  factor_levels (group e) = 1 + expr_levels e
  factor_levels (minus f) = 1 + factor_levels f

-- how deep `if` and `each` stand in one another
abbrev mutual
  pub stmt_nests : Stmt → ℕ
  stmt_nests (assign f e r) = 0
  stmt_nests (when l o r b) = 1 + block_nests b
  stmt_nests (either l o r b c) = 1 + max (block_nests b) (block_nests c)
  stmt_nests (each b) = 1 + block_nests b

  pub block_nests : Block → ℕ
  block_nests empty = 0
  block_nests (b then s) = max (block_nests b) (stmt_nests s)

-- a field's name is none of the reserved words, the bank has its form, and it has at most 6 places
abbrev pub field_good : Forms → Field → Bool
field_good forms f = is_name f.name && nat_le f.size 255 && is_some (form_of forms f) && nat_le f.places 6

module _ (sheet : Sheet) where
  abbrev pub is_row_field : ℕ → Bool
  is_row_field f = nat_le (length sheet.head) f

  -- a field that may be named: a row's field only inside `each`
  abbrev pub in_scope : Bool → ℕ → Bool
  in_scope in_each f = nat_lt f (length (fields sheet)) && (in_each || not (is_row_field f))

  -- the fields named are in scope, and no product has more than 12 places
  abbrev mutual
    pub expr_good : Bool → Expr → Bool
    expr_good i (only t) = term_good i t
    expr_good i (sum e g t) = expr_good i e && term_good i t

    pub term_good : Bool → Term → Bool
    term_good i (just f) = factor_good i f
    term_good i (times t f) = term_good i t && factor_good i f && nat_le (term_places sheet t + factor_places sheet f) 12

    pub factor_good : Bool → Factor → Bool
    factor_good i (read f) = in_scope i f
    factor_good i (constant units places) = true
    factor_good i (group e) = expr_good i e
    factor_good i (minus f) = factor_good i f

  abbrev pub side_good : Bool → Expr → Bool
  side_good i e = expr_good i e && nat_le (expr_levels e) 12

  -- an `each` stands outside every other, in a sheet with rows
  abbrev mutual
    pub stmt_good : Bool → Stmt → Bool
    stmt_good i (assign f e r) = in_scope i f && side_good i e
    stmt_good i (when l o r b) = side_good i l && side_good i r && block_good i b
    stmt_good i (either l o r b c) = side_good i l && side_good i r && block_good i b && block_good i c
    stmt_good i (each b) = not i && nat_lt 0 sheet.rows && block_good true b

    pub block_good : Bool → Block → Bool
    block_good i empty = true
    block_good i (b then s) = block_good i b && stmt_good i s

-- at most 64 fields, 64 rows, 2,048 bytes of ticket, 255 statements and 8 nests
abbrev pub admitted : Forms → Sheet → Bool
admitted forms sheet =
    nat_le (length (fields sheet)) 64
    && all (field_good forms) (fields sheet)
    && distinct (fields sheet)
    && nat_le sheet.rows 64 && (nat_lt 0 sheet.rows || length sheet.row_fields == 0)
    && nat_le (ticket_length forms sheet) 2048
    && nat_le (block_count sheet.body) 255
    && nat_le (block_nests sheet.body) 8
    && block_good sheet false sheet.body
