-- How a sheet's text is read, token by token: the first token at which a check fails decides the refusal, and at one token the lower number.
use Rattle.std.specs.Prelude.{ℕ, ◌+◌, Bool, true, false, cond, not, ◌&&◌, ◌||◌, List, [], ◌∷◌, ◌++◌, length, Some, None, Ok, Err, Option, Result, ◌==◌, nat_le, nat_lt}
use Rattle.bank.specs.Model.{Forms}
use Rattle.language.specs.declared.Check.{Check}
use Rattle.language.specs.declared.Check.TheVariants.{TextTooLong, NoToken, Misplaced, DeclaredBefore, NotDeclared, RowMisused, FormLacking, OutOfBounds, TooMany, TooFine}
use Rattle.language.specs.declared.TextRefusal.{TextRefusal}
use Rattle.language.specs.declared.Rounding.TheVariants.{Dropped, Nearest}
use Rattle.language.specs.declared.Relation.{Relation}
use Rattle.language.specs.declared.Relation.TheVariants.{Less, Equal, Greater}
use Rattle.language.specs.Tokens.{Token, Placed, word, number, symbol, none, ends, tokens}
use Rattle.language.specs.Words.{same_bytes, Reserved, field_word, rows_word, begin_word, end_word, rounded_word, if_word, then_word, else_word, endif_word, each_word, endeach_word, spelling, reserved, is_name}
use Rattle.language.specs.Syntax.{Sheet, Field, Sign, adds, takes, Expr, Term, Factor, Block, only, sum, just, times, read, constant, group, minus, assign, when, either, each, empty, ◌then◌}
use Rattle.language.specs.Layout.{ticket_length, term_places, factor_places}

-- ---- the reader's state: what is read already, and what may come next

-- what an expression is for
pub data Purpose : Type 0 where
  value_of : (field : ℕ) → Purpose
  left_side : Purpose
  right_side : Expr → Relation → Purpose

-- what is open inside an expression, the innermost first
pub data Open : Type 0 where
  sum_of : Expr → Sign → Open
  product_of : Term → Open
  opened : Open
  negated : Open

-- an `if` or an `each` that is open, with the statements before it
pub data Nest : Type 0 where
  in_then : Block → Expr → Relation → Expr → Nest
  in_else : Block → Expr → Relation → Expr → Block → Nest
  in_each : Block → Nest

-- what may come next
pub data Phase : Type 0 where
  -- `field`, `rows` or `begin`
  declaring : Phase
  -- the parts of a declaration, with those before
  field_name : Phase
  field_letter : List ℕ → Phase
  field_size : List ℕ → ℕ → Phase
  field_places : List ℕ → ℕ → ℕ → Phase
  row_count : Phase
  -- a statement, or what ends a block
  statement : Phase
  -- `=` after an assigned field
  becomes : ℕ → Phase
  -- a factor, and what may follow one
  operand : Purpose → List Open → Phase
  operator : Purpose → List Open → Term → Phase
  -- `;` after `rounded`
  closing : ℕ → Expr → Phase
  -- the end of the text
  finished : Phase

pub record State : Type 0 where
  pub head : List Field
  pub rows : ℕ
  pub row_fields : List Field
  -- how many statements have begun
  pub statements : ℕ
  pub nests : List Nest
  -- the statements of the innermost block so far
  pub so_far : Block
  pub phase : Phase

abbrev pub starting : State
starting = record { head = []; rows = 0; row_fields = []; statements = 0; nests = []; so_far = empty; phase = declaring }

-- the sheet that has been read
abbrev pub sheet_of : State → Sheet
sheet_of s = record { head = s.head; rows = s.rows; row_fields = s.row_fields; body = s.so_far }

-- the number of the field of a name
abbrev pub found_from : ℕ → List ℕ → List Field → Option ℕ
found_from i w [] = None
found_from i w (f ∷ fs) = cond (same_bytes w f.name) (Some i) (found_from (i + 1) w fs)

-- how many levels are open: each `(` and each `-` before a factor
abbrev pub levels : List Open → ℕ
levels [] = 0
levels (sum_of e s ∷ os) = levels os
levels (product_of t ∷ os) = levels os
levels (opened ∷ os) = 1 + levels os
levels (negated ∷ os) = 1 + levels os

abbrev pub inside_each : List Nest → Bool
inside_each [] = false
inside_each (in_then b l o r ∷ ns) = inside_each ns
inside_each (in_else b l o r c ∷ ns) = inside_each ns
inside_each (in_each b ∷ ns) = true

-- a term ends, and with it the sum that it belongs to
abbrev pub sum_up : Term → List Open → Expr
sum_up t [] = only t
sum_up t (sum_of e g ∷ os) = sum e g t
sum_up t (product_of u ∷ os) = only t
sum_up t (opened ∷ os) = only t
sum_up t (negated ∷ os) = only t

-- what is open around that sum
abbrev pub still_open : List Open → List Open
still_open [] = []
still_open (sum_of e g ∷ os) = os
still_open (product_of u ∷ os) = product_of u ∷ os
still_open (opened ∷ os) = opened ∷ os
still_open (negated ∷ os) = negated ∷ os

-- < = >
abbrev pub relation_of : ℕ → Option Relation
relation_of b = cond (b == 60) (Some Less) (cond (b == 61) (Some Equal) (cond (b == 62) (Some Greater) None))

abbrev pub is_finished : Phase → Bool
is_finished declaring = false
is_finished field_name = false
is_finished (field_letter m) = false
is_finished (field_size m c) = false
is_finished (field_places m c z) = false
is_finished row_count = false
is_finished statement = false
is_finished (becomes f) = false
is_finished (operand p os) = false
is_finished (operator p os t) = false
is_finished (closing f e) = false
is_finished finished = true

abbrev pub is_last : Token → Bool
is_last (word w) = false
is_last (number n q) = false
is_last (symbol b) = false
is_last none = false
is_last ends = true

-- ---- one token: the state after it, or the check that fails

abbrev pub Outcome : Type 0
Outcome = Result State Check

-- a check: refused where the test holds, else what follows
abbrev pub refuse_if : Bool → Check → Outcome → Outcome
refuse_if test check rest = cond test (Err check) rest

-- a word that has to be this reserved one
abbrev pub expect : Reserved → List ℕ → Outcome → Outcome
expect r w rest = refuse_if (not (same_bytes w (spelling r))) Misplaced rest

module _ (s : State) where
  abbrev pub to : Phase → State
  to p = record { head = s.head; rows = s.rows; row_fields = s.row_fields; statements = s.statements; nests = s.nests; so_far = s.so_far; phase = p }

  abbrev pub goes : Phase → Outcome
  goes p = Ok (to p)

  -- one more statement begins
  abbrev pub begun : List Nest → Block → Phase → Outcome
  begun ns b p = Ok (record { head = s.head; rows = s.rows; row_fields = s.row_fields; statements = s.statements + 1; nests = ns; so_far = b; phase = p })

  -- a statement or a block has ended
  abbrev pub back : List Nest → Block → Outcome
  back ns b = Ok (record { head = s.head; rows = s.rows; row_fields = s.row_fields; statements = s.statements; nests = ns; so_far = b; phase = statement })

  abbrev pub all_fields : List Field
  all_fields = s.head ++ s.row_fields

  abbrev pub found : List ℕ → Option ℕ
  found w = found_from 0 w all_fields

  -- a row's field that is named outside `each`
  abbrev pub outside_each : ℕ → Bool
  outside_each f = nat_le (length s.head) f && not (inside_each s.nests)

  abbrev pub with_field : Field → State
  with_field f = cond (s.rows == 0)
      (record { head = s.head ++ f ∷ []; rows = 0; row_fields = []; statements = 0; nests = []; so_far = empty; phase = declaring })
      (record { head = s.head; rows = s.rows; row_fields = s.row_fields ++ f ∷ []; statements = 0; nests = []; so_far = empty; phase = declaring })

  abbrev pub with_rows : ℕ → State
  with_rows n = record { head = s.head; rows = n; row_fields = []; statements = 0; nests = []; so_far = empty; phase = declaring }

  -- ---- declarations

  abbrev pub declaring_word : Option Reserved → Outcome
  declaring_word (Some field_word) = refuse_if (nat_le 64 (length all_fields)) TooMany (goes field_name)
  declaring_word (Some rows_word) = refuse_if (not (s.rows == 0)) Misplaced (goes row_count)
  declaring_word (Some begin_word) = goes statement
  declaring_word (Some end_word) = Err Misplaced
  declaring_word (Some rounded_word) = Err Misplaced
  declaring_word (Some if_word) = Err Misplaced
  declaring_word (Some then_word) = Err Misplaced
  declaring_word (Some else_word) = Err Misplaced
  declaring_word (Some endif_word) = Err Misplaced
  declaring_word (Some each_word) = Err Misplaced
  declaring_word (Some endeach_word) = Err Misplaced
  declaring_word None = Err Misplaced

  abbrev pub name_field : List ℕ → Outcome
  name_field w = refuse_if (not (is_name w)) Misplaced (elim (found w) [ Some f ↦ Err DeclaredBefore | None ↦ goes (field_letter w) ])

  -- a letter is a word of one character
  abbrev pub letter_field : List ℕ → List ℕ → Outcome
  letter_field n [] = Err Misplaced
  letter_field n (c ∷ []) = goes (field_size n c)
  letter_field n (c ∷ d ∷ ds) = Err Misplaced

  abbrev pub size_field : Forms → List ℕ → ℕ → ℕ → Outcome
  size_field forms n c z = refuse_if (nat_lt 255 z) FormLacking (elim (forms c z) [ None ↦ Err FormLacking | Some f ↦ goes (field_places n c z) ])

  -- the ticket so far has at most 2,048 bytes
  abbrev pub places_field : Forms → List ℕ → ℕ → ℕ → ℕ → Outcome
  places_field forms n c z p =
      let after = with_field (record { name = n; letter = c; size = z; places = p }) in
      refuse_if (nat_lt 6 p) OutOfBounds (refuse_if (nat_lt 2048 (ticket_length forms (sheet_of after))) TooMany (Ok after))

  abbrev pub count_rows : ℕ → Outcome
  count_rows n = refuse_if (n == 0 || nat_lt 64 n) OutOfBounds (Ok (with_rows n))

  -- ---- expressions

  -- a factor is complete; after `*` it completes a product, which has at most 12 places
  abbrev pub complete : Purpose → Factor → List Open → Outcome
  complete p f [] = goes (operator p [] (just f))
  complete p f (negated ∷ os) = complete p (minus f) os
  complete p f (product_of t ∷ os) = refuse_if (nat_lt 12 (term_places (sheet_of s) t + factor_places (sheet_of s) f)) TooFine (goes (operator p os (times t f)))
  complete p f (sum_of e g ∷ os) = goes (operator p (sum_of e g ∷ os) (just f))
  complete p f (opened ∷ os) = goes (operator p (opened ∷ os) (just f))

  abbrev pub close_group : Purpose → Expr → List Open → Outcome
  close_group p e [] = Err Misplaced
  close_group p e (opened ∷ os) = complete p (group e) os
  close_group p e (sum_of d g ∷ os) = Err Misplaced
  close_group p e (product_of u ∷ os) = Err Misplaced
  close_group p e (negated ∷ os) = Err Misplaced

  abbrev pub operand_word : Purpose → List Open → List ℕ → Outcome
  operand_word p os w = refuse_if (not (is_name w)) Misplaced (elim (found w) [
    | None ↦ Err NotDeclared
    | Some f ↦ refuse_if (outside_each f) RowMisused (complete p (read f) os)
  ])

  -- one more level
  abbrev pub deeper : List Open → Outcome → Outcome
  deeper os r = refuse_if (nat_le 12 (levels os)) TooMany r

  -- an expression is complete, and a symbol follows, or a word
  abbrev pub after_by_symbol : Purpose → Expr → ℕ → Outcome
  after_by_symbol (value_of f) e b = cond (b == 59) (back s.nests (s.so_far then assign f e Dropped)) (Err Misplaced)
  after_by_symbol left_side e b = elim (relation_of b) [ None ↦ Err Misplaced | Some o ↦ goes (operand (right_side e o) []) ]
  after_by_symbol (right_side l o) e b = Err Misplaced

  abbrev pub after_by_word : Purpose → Expr → List ℕ → Outcome
  after_by_word (value_of f) e w = expect rounded_word w (goes (closing f e))
  after_by_word left_side e w = Err Misplaced
  after_by_word (right_side l o) e w = expect then_word w (back (in_then s.so_far l o e ∷ s.nests) empty)

  -- an expression ends only where no bracket is open
  abbrev pub only_if_closed : List Open → Outcome → Outcome
  only_if_closed [] r = r
  only_if_closed (o ∷ os) r = Err Misplaced

  -- ---- statements

  abbrev pub begin_assignment : List ℕ → Outcome
  begin_assignment w = elim (found w) [
    | None ↦ Err NotDeclared
    | Some f ↦ refuse_if (outside_each f) RowMisused (refuse_if (nat_le 255 s.statements) TooMany (begun s.nests s.so_far (becomes f)))
  ]

  abbrev pub begin_if : Outcome
  begin_if = refuse_if (nat_le 255 s.statements || nat_le 8 (length s.nests)) TooMany (begun s.nests s.so_far (operand left_side []))

  abbrev pub begin_each : Outcome
  begin_each = refuse_if (s.rows == 0 || inside_each s.nests) RowMisused
      (refuse_if (nat_le 255 s.statements || nat_le 8 (length s.nests)) TooMany (begun (in_each s.so_far ∷ s.nests) empty statement))

  abbrev pub at_else : List Nest → Outcome
  at_else [] = Err Misplaced
  at_else (in_then b l o r ∷ ns) = back (in_else b l o r s.so_far ∷ ns) empty
  at_else (in_else b l o r c ∷ ns) = Err Misplaced
  at_else (in_each b ∷ ns) = Err Misplaced

  abbrev pub at_endif : List Nest → Outcome
  at_endif [] = Err Misplaced
  at_endif (in_then b l o r ∷ ns) = back ns (b then when l o r s.so_far)
  at_endif (in_else b l o r c ∷ ns) = back ns (b then either l o r c s.so_far)
  at_endif (in_each b ∷ ns) = Err Misplaced

  abbrev pub at_endeach : List Nest → Outcome
  at_endeach [] = Err Misplaced
  at_endeach (in_then b l o r ∷ ns) = Err Misplaced
  at_endeach (in_else b l o r c ∷ ns) = Err Misplaced
  at_endeach (in_each b ∷ ns) = back ns (b then each s.so_far)

  abbrev pub at_end : List Nest → Outcome
  at_end [] = goes finished
  at_end (n ∷ ns) = Err Misplaced

  abbrev pub statement_word : List ℕ → Option Reserved → Outcome
  statement_word w (Some if_word) = begin_if
  statement_word w (Some each_word) = begin_each
  statement_word w (Some else_word) = at_else s.nests
  statement_word w (Some endif_word) = at_endif s.nests
  statement_word w (Some endeach_word) = at_endeach s.nests
  statement_word w (Some end_word) = at_end s.nests
  statement_word w (Some field_word) = Err Misplaced
  statement_word w (Some rows_word) = Err Misplaced
  statement_word w (Some begin_word) = Err Misplaced
  statement_word w (Some rounded_word) = Err Misplaced
  statement_word w (Some then_word) = Err Misplaced
  statement_word w None = begin_assignment w

  -- ---- a token, by its kind and the phase

  abbrev pub on_word : List ℕ → Phase → Outcome
  on_word w declaring = declaring_word (reserved w)
  on_word w field_name = name_field w
  on_word w (field_letter n) = letter_field n w
  on_word w (field_size n c) = Err Misplaced
  on_word w (field_places n c z) = Err Misplaced
  on_word w row_count = Err Misplaced
  on_word w statement = statement_word w (reserved w)
  on_word w (becomes f) = Err Misplaced
  on_word w (operand p os) = operand_word p os w
  on_word w (operator p os t) = only_if_closed (still_open os) (after_by_word p (sum_up t os) w)
  on_word w (closing f e) = Err Misplaced
  on_word w finished = Err Misplaced

  -- a number without a point
  abbrev pub whole : ℕ → Outcome → Outcome
  whole places r = cond (places == 0) r (Err Misplaced)

  abbrev pub on_number : Forms → ℕ → ℕ → Phase → Outcome
  on_number forms n q declaring = Err Misplaced
  on_number forms n q field_name = Err Misplaced
  on_number forms n q (field_letter m) = Err Misplaced
  on_number forms n q (field_size m c) = whole q (size_field forms m c n)
  on_number forms n q (field_places m c z) = whole q (places_field forms m c z n)
  on_number forms n q row_count = whole q (count_rows n)
  on_number forms n q statement = Err Misplaced
  on_number forms n q (becomes f) = Err Misplaced
  on_number forms n q (operand p os) = complete p (constant n q) os
  on_number forms n q (operator p os t) = Err Misplaced
  on_number forms n q (closing f e) = Err Misplaced
  on_number forms n q finished = Err Misplaced

  abbrev pub on_symbol : ℕ → Phase → Outcome
  on_symbol b declaring = Err Misplaced
  on_symbol b field_name = Err Misplaced
  on_symbol b (field_letter m) = Err Misplaced
  on_symbol b (field_size m c) = Err Misplaced
  on_symbol b (field_places m c z) = Err Misplaced
  on_symbol b row_count = Err Misplaced
  on_symbol b statement = Err Misplaced
  on_symbol b (becomes f) = cond (b == 61) (goes (operand (value_of f) [])) (Err Misplaced)
  on_symbol b (operand p os) =
      cond (b == 40) (deeper os (goes (operand p (opened ∷ os))))
      (cond (b == 45) (deeper os (goes (operand p (negated ∷ os)))) (Err Misplaced))
  on_symbol b (operator p os t) =
      cond (b == 42) (goes (operand p (product_of t ∷ os)))
      (cond (b == 43) (goes (operand p (sum_of (sum_up t os) adds ∷ still_open os)))
      (cond (b == 45) (goes (operand p (sum_of (sum_up t os) takes ∷ still_open os)))
      (cond (b == 41) (close_group p (sum_up t os) (still_open os))
      (only_if_closed (still_open os) (after_by_symbol p (sum_up t os) b)))))
  on_symbol b (closing f e) = cond (b == 59) (back s.nests (s.so_far then assign f e Nearest)) (Err Misplaced)
  on_symbol b finished = Err Misplaced

  abbrev pub on_token : Forms → Token → Outcome
  on_token forms (word w) = on_word w s.phase
  on_token forms (number n q) = on_number forms n q s.phase
  on_token forms (symbol b) = on_symbol b s.phase
  on_token forms none = Err NoToken
  on_token forms ends = Err Misplaced

-- ---- a text

module _ (forms : Forms) where
  -- the tokens from a state on: a sheet, or the refusal and its place. The list of a text's tokens closes with `ends`
  abbrev pub reading : State → List Placed → Result Sheet TextRefusal
  reading s [] = Err (record { check = Misplaced; place = 0 })
  reading s (p ∷ ps) =
      elim (is_last p.token && is_finished s.phase) [
        | true ↦ Ok (sheet_of s)
        | false ↦ elim (on_token s forms p.token) [
          | Err c ↦ Err (record { check = c; place = p.place })
          | Ok t ↦ reading t ps
        ]
      ]

  -- the sheet of a text, or the refusal and its place
  abbrev pub sheet_read : List ℕ → Result Sheet TextRefusal
  sheet_read text = elim (nat_lt 4096 (length text)) [
    | true ↦ Err (record { check = TextTooLong; place = 0 })
    | false ↦ reading starting (tokens text)
  ]
