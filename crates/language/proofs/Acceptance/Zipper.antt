-- What a reader has read when it stands in a state, and what holds of every state that it comes to.
use Rattle.std.proofs.Common.{◌≡◌, ℕ, ◌+◌, ◌<◌, ◌≤◌, Bool, true, false, List, [], ◌∷◌, ◌++◌, length, is_some, None, Ok, Err}
use Rattle.bank.specs.Model.{Forms}
use Rattle.language.specs.Tokens.{Token, word, number, symbol}
use Rattle.language.specs.Words.{is_name, begin_word, rounded_word, rows_word, field_word, if_word, end_word, each_word, then_word, else_word}
use Rattle.language.specs.Syntax.{sign_token, Sheet, Field, Expr, Block, empty, name_of, expr_tokens, term_tokens, relation_token, block_tokens, fields_tokens, rows_tokens, block_count, reserved_token}
use Rattle.language.specs.Reading.{State, Outcome, Purpose, value_of, left_side, right_side, Open, sum_of, product_of, opened, negated, Nest, in_then, in_else, in_each, Phase, declaring, field_name, field_letter, field_size, field_places, row_count, statement, becomes, operand, operator, closing, finished, found_from, levels, inside_each}
use Rattle.language.specs.Admitted as A
use Rattle.language.proofs.Acceptance.Admits.{Declarations}

-- the sheet of a state's declarations
abbrev pub bare : State → Sheet
bare s = record { head = s.head; rows = s.rows; row_fields = s.row_fields; body = empty }

-- the tokens read, and then the rest
module _ (fields : List Field) where
  abbrev pub opens : List Open → List Token → List Token
  opens [] rest = rest
  opens (sum_of e g ∷ os) rest = opens os (expr_tokens fields e ++ sign_token g ∷ rest)
  opens (product_of t ∷ os) rest = opens os (term_tokens fields t ++ symbol 42 ∷ rest)
  opens (opened ∷ os) rest = opens os (symbol 40 ∷ rest)
  opens (negated ∷ os) rest = opens os (symbol 45 ∷ rest)

  abbrev pub purposed : Purpose → List Token → List Token
  purposed (value_of f) rest = word (name_of fields f) ∷ symbol 61 ∷ rest
  purposed left_side rest = reserved_token if_word ∷ rest
  purposed (right_side l o) rest = reserved_token if_word ∷ (expr_tokens fields l ++ relation_token o ∷ rest)

  abbrev pub nested : List Nest → List Token → List Token
  nested [] rest = rest
  nested (in_then b l o r ∷ ns) rest =
      nested ns (block_tokens fields b ++ (reserved_token if_word ∷ (expr_tokens fields l ++ (relation_token o ∷ (expr_tokens fields r ++ reserved_token then_word ∷ rest)))))
  nested (in_else b l o r c ∷ ns) rest =
      nested ns (block_tokens fields b ++ (reserved_token if_word ∷ (expr_tokens fields l ++ (relation_token o ∷ (expr_tokens fields r ++ (reserved_token then_word ∷ (block_tokens fields c ++ reserved_token else_word ∷ rest)))))))
  nested (in_each b ∷ ns) rest = nested ns (block_tokens fields b ++ reserved_token each_word ∷ rest)

module _ (s : State) where
  abbrev pub declared_then : List Token → List Token
  declared_then rest = fields_tokens s.head ++ (rows_tokens s.rows ++ (fields_tokens s.row_fields ++ rest))

  abbrev pub in_body : List Token → List Token
  in_body rest = declared_then (reserved_token begin_word ∷ nested (s.head ++ s.row_fields) s.nests (block_tokens (s.head ++ s.row_fields) s.so_far ++ rest))

  abbrev pub whole : Phase → List Token → List Token
  whole declaring rest = declared_then rest
  whole field_name rest = declared_then (reserved_token field_word ∷ rest)
  whole (field_letter n) rest = declared_then (reserved_token field_word ∷ word n ∷ rest)
  whole (field_size n c) rest = declared_then (reserved_token field_word ∷ word n ∷ word (c ∷ []) ∷ rest)
  whole (field_places n c z) rest = declared_then (reserved_token field_word ∷ word n ∷ word (c ∷ []) ∷ number z 0 ∷ rest)
  whole row_count rest = declared_then (reserved_token rows_word ∷ rest)
  whole statement rest = in_body rest
  whole (becomes f) rest = in_body (word (name_of (s.head ++ s.row_fields) f) ∷ rest)
  whole (operand p os) rest = in_body (purposed (s.head ++ s.row_fields) p (opens (s.head ++ s.row_fields) os rest))
  whole (operator p os t) rest = in_body (purposed (s.head ++ s.row_fields) p (opens (s.head ++ s.row_fields) os (term_tokens (s.head ++ s.row_fields) t ++ rest)))
  whole (closing f e) rest = in_body (word (name_of (s.head ++ s.row_fields) f) ∷ symbol 61 ∷ (expr_tokens (s.head ++ s.row_fields) e ++ reserved_token rounded_word ∷ rest))
  whole finished rest = in_body (reserved_token end_word ∷ rest)

-- ---- what holds

-- no statement has begun
pub record Unbegun (k : ℕ) (ns : List Nest) (b : Block) : Type 0 where
  pub none_counted : k ≡ 0
  pub none_open : ns ≡ []
  pub none_so_far : b ≡ empty

-- a name that may be declared
pub record NewName (sheet : Sheet) (w : List ℕ) : Type 0 where
  pub room : length (sheet.head ++ sheet.row_fields) < 64
  pub a_name : is_name w ≡ true
  pub new : found_from 0 w (sheet.head ++ sheet.row_fields) ≡ None

pub record NewForm (forms : Forms) (c z : ℕ) : Type 0 where
  pub small : z ≤ 255
  pub known : is_some (forms c z) ≡ true

module _ (forms : Forms) (sheet : Sheet) where
  -- what stands before an `if` or an `each` that is open
  pub record Before (ns : List Nest) (b : Block) : Type 0 where
    pub good : A.block_good sheet (inside_each ns) b ≡ true
    pub deep : length ns + A.block_nests b ≤ 8

  pub record Condition (ns : List Nest) (l r : Expr) : Type 0 where
    pub room : length ns < 8
    pub left : A.side_good sheet (inside_each ns) l ≡ true
    pub right : A.side_good sheet (inside_each ns) r ≡ true

  pub record EachHere (ns : List Nest) : Type 0 where
    pub room : length ns < 8
    pub outside : inside_each ns ≡ false
    pub rows_are : 0 < sheet.rows

  abbrev pub Around : List Nest → Type 0
  Around [] = Unit {0}
  Around (in_then b l o r ∷ ns) = Before ns b × Condition ns l r × Around ns
  Around (in_else b l o r c ∷ ns) = Before ns b × Condition ns l r × Around ns × Before (in_then b l o r ∷ ns) c
  Around (in_each b ∷ ns) = Before ns b × EachHere ns × Around ns

  abbrev pub nests_count : List Nest → ℕ
  nests_count [] = 0
  nests_count (in_then b l o r ∷ ns) = nests_count ns + block_count b + 1
  nests_count (in_else b l o r c ∷ ns) = nests_count ns + block_count b + 1 + block_count c
  nests_count (in_each b ∷ ns) = nests_count ns + block_count b + 1

  -- `more` statements have begun and are not yet among those so far
  pub record Body (more k : ℕ) (ns : List Nest) (b : Block) : Type 0 where
    pub counted : k ≡ nests_count ns + block_count b + more
    pub few : k ≤ 255
    pub here : Before ns b
    pub around : Around ns

  abbrev pub Opens : Bool → List Open → Type 0
  Opens i [] = Unit {0}
  Opens i (sum_of e g ∷ os) = (A.expr_good sheet i e ≡ true) × (levels os + A.expr_levels e ≤ 12) × Opens i os
  Opens i (product_of t ∷ os) = (A.term_good sheet i t ≡ true) × (levels os + A.term_levels t ≤ 12) × Opens i os
  Opens i (opened ∷ os) = Opens i os
  Opens i (negated ∷ os) = Opens i os

  abbrev pub Purposed : List Nest → Purpose → Type 0
  Purposed ns (value_of f) = A.in_scope sheet (inside_each ns) f ≡ true
  Purposed ns left_side = length ns < 8
  Purposed ns (right_side l o) = (length ns < 8) × (A.side_good sheet (inside_each ns) l ≡ true)

module _ (forms : Forms) (s : State) where
  abbrev pub UnbegunHere : Type 0
  UnbegunHere = Unbegun s.statements s.nests s.so_far

  abbrev pub BodyHere : ℕ → Type 0
  BodyHere more = Body forms (bare s) more s.statements s.nests s.so_far

  abbrev pub At : Phase → Type 0
  At declaring = UnbegunHere
  At field_name = length (s.head ++ s.row_fields) < 64
  At (field_letter n) = NewName (bare s) n
  At (field_size n c) = NewName (bare s) n
  At (field_places n c z) = NewName (bare s) n × NewForm forms c z
  At row_count = s.rows ≡ 0
  At statement = BodyHere 0
  At (becomes f) = BodyHere 1 × (A.in_scope (bare s) (inside_each s.nests) f ≡ true)
  At (operand p os) = BodyHere 1 × Purposed forms (bare s) s.nests p × Opens forms (bare s) (inside_each s.nests) os × (levels os ≤ 12)
  At (operator p os t) = BodyHere 1 × Purposed forms (bare s) s.nests p × Opens forms (bare s) (inside_each s.nests) os × (A.term_good (bare s) (inside_each s.nests) t ≡ true) × (levels os + A.term_levels t ≤ 12)
  At (closing f e) = BodyHere 1 × (A.in_scope (bare s) (inside_each s.nests) f ≡ true) × (A.side_good (bare s) (inside_each s.nests) e ≡ true)
  At finished = BodyHere 0 × (s.nests ≡ [])

  pub record Sound (p : Phase) : Type 0 where
    pub declarations : Declarations forms (bare s)
    pub at : At p

-- the outcome, if it is no refusal
abbrev pub Fine : (State → Type 0) → Outcome → Type 0
Fine P (Err c) = Unit {0}
Fine P (Ok u) = P u

-- u is sound, and what is read there is `target`
pub record Reaches (forms : Forms) (target : List Token → List Token) (u : State) : Type 0 where
  pub sound : Sound forms u u.phase
  pub same : (rest : List Token) → whole u u.phase rest ≡ target rest
