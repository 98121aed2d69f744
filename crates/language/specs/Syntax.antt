-- A sheet as it is written: the grammar is these types, and a sheet's tokens are `printed`.
--
--   sheet  = {decl} [rows whole {decl}] begin {stmt} end
--   decl   = field name letter size places
--   stmt   = name = expr [rounded] ;
--          | if expr (< or = or >) expr then {stmt} [else {stmt}] endif
--          | each {stmt} endeach
--   expr   = term {(+ or -) term}
--   term   = factor {* factor}
--   factor = name | number | ( expr ) | - factor
use Rattle.std.specs.Prelude.{ℕ, ◌+◌, true, false, List, [], ◌∷◌, ◌++◌, ◌==◌, slice_index_or}
use Rattle.language.specs.declared.Rounding.{Rounding}
use Rattle.language.specs.declared.Rounding.TheVariants.{Dropped, Nearest}
use Rattle.language.specs.declared.Relation.{Relation}
use Rattle.language.specs.declared.Relation.TheVariants.{Less, Equal, Greater}
use Rattle.language.specs.Tokens.{Token, word, number, symbol}
use Rattle.language.specs.Words.{Reserved, spelling, field_word, rows_word, begin_word, end_word, rounded_word, if_word, then_word, else_word, endif_word, each_word, endeach_word}

infixl 5 ◌then◌
-- a declared field: its name, the letter (its code) and size of its form, and its places
pub record Field : Type 0 where
  pub name : List ℕ
  pub letter : ℕ
  pub size : ℕ
  pub places : ℕ

-- + and - between two terms
pub data Sign : Type 0 where
  adds takes : Sign

-- a field goes by its number, counted from 0 in the order of declaration, on across `rows`
mutual
  pub data Expr : Type 0 where
    only : Term → Expr
    sum : Expr → Sign → Term → Expr

  pub data Term : Type 0 where
    just : Factor → Term
    times : Term → Factor → Term

  pub data Factor : Type 0 where
    read : (field : ℕ) → Factor
    constant : (units places : ℕ) → Factor
    group : Expr → Factor
    minus : Factor → Factor

mutual
  pub data Stmt : Type 0 where
    assign : (field : ℕ) → Expr → Rounding → Stmt
    -- `if` without `else`, and with it
    when : Expr → Relation → Expr → Block → Stmt
    either : Expr → Relation → Expr → Block → Block → Stmt
    each : Block → Stmt

  pub data Block : Type 0 where
    empty : Block
    ◌then◌ : Block → Stmt → Block

-- a sheet: the fields before `rows`, the number of rows (0 without `rows`), the fields of a row, and what stands between `begin` and `end`
pub record Sheet : Type 0 where
  pub head : List Field
  pub rows : ℕ
  pub row_fields : List Field
  pub body : Block

abbrev pub fields : Sheet → List Field
fields sheet = sheet.head ++ sheet.row_fields

-- what stands where there is no such field
abbrev pub no_field : Field
no_field = record { name = []; letter = 0; size = 0; places = 0 }

-- how many statements begin in a statement, and in a block: they are numbered from 1 in that order
abbrev mutual
  pub stmt_count : Stmt → ℕ
  stmt_count (assign f e r) = 1
  stmt_count (when l o r b) = 1 + block_count b
  stmt_count (either l o r b c) = 1 + block_count b + block_count c
  stmt_count (each b) = 1 + block_count b

  pub block_count : Block → ℕ
  block_count empty = 0
  block_count (b then s) = block_count b + stmt_count s

abbrev pub reserved_token : Reserved → Token
reserved_token r = word (spelling r)

abbrev pub sign_token : Sign → Token
sign_token adds = symbol 43
sign_token takes = symbol 45

module _ (fields : List Field) where
  abbrev pub name_of : ℕ → List ℕ
  name_of f = (slice_index_or fields f no_field).name

  abbrev mutual
    pub expr_tokens : Expr → List Token
    expr_tokens (only t) = term_tokens t
    expr_tokens (sum e g t) = expr_tokens e ++ sign_token g ∷ term_tokens t

    pub term_tokens : Term → List Token
    term_tokens (just f) = factor_tokens f
    term_tokens (times t f) = term_tokens t ++ symbol 42 ∷ factor_tokens f

    pub factor_tokens : Factor → List Token
    factor_tokens (read f) = word (name_of f) ∷ []
    factor_tokens (constant units places) = number units places ∷ []
    factor_tokens (group e) = symbol 40 ∷ expr_tokens e ++ symbol 41 ∷ []
    factor_tokens (minus f) = symbol 45 ∷ factor_tokens f

abbrev pub relation_token : Relation → Token
relation_token Less = symbol 60
relation_token Equal = symbol 61
relation_token Greater = symbol 62

abbrev pub rounding_tokens : Rounding → List Token
rounding_tokens Dropped = []
rounding_tokens Nearest = reserved_token rounded_word ∷ []

module _ (fields : List Field) where
  abbrev mutual
    pub stmt_tokens : Stmt → List Token
    stmt_tokens (assign f e r) = word (name_of fields f) ∷ symbol 61 ∷ expr_tokens fields e ++ rounding_tokens r ++ symbol 59 ∷ []
    stmt_tokens (when l o r b) =
        reserved_token if_word ∷ expr_tokens fields l ++ relation_token o ∷ expr_tokens fields r
        ++ reserved_token then_word ∷ block_tokens b ++ reserved_token endif_word ∷ []
    stmt_tokens (either l o r b c) =
        reserved_token if_word ∷ expr_tokens fields l ++ relation_token o ∷ expr_tokens fields r
        ++ reserved_token then_word ∷ block_tokens b ++ reserved_token else_word ∷ block_tokens c ++ reserved_token endif_word ∷ []
    stmt_tokens (each b) = reserved_token each_word ∷ block_tokens b ++ reserved_token endeach_word ∷ []

    pub block_tokens : Block → List Token
    block_tokens empty = []
    block_tokens (b then s) = block_tokens b ++ stmt_tokens s

abbrev pub fields_tokens : List Field → List Token
fields_tokens [] = []
fields_tokens (f ∷ fs) = reserved_token field_word ∷ word f.name ∷ word (f.letter ∷ []) ∷ number f.size 0 ∷ number f.places 0 ∷ fields_tokens fs

abbrev pub rows_tokens : ℕ → List Token
rows_tokens n = elim (n == 0) [ true ↦ [] | false ↦ reserved_token rows_word ∷ number n 0 ∷ [] ]

-- the tokens of a sheet
abbrev pub printed : Sheet → List Token
printed s =
    fields_tokens s.head ++ rows_tokens s.rows ++ fields_tokens s.row_fields
    ++ reserved_token begin_word ∷ block_tokens (fields s) s.body ++ reserved_token end_word ∷ []
