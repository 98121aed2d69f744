-- What a sheet means: the course of a ticket, entry by entry, and the ticket that it leaves.
-- Left is worked before right, and what is assigned is seen by all that follows.
use Rattle.std.specs.Prelude.{ℕ, zero, suc, ◌+◌, Bool, true, false, cond, ◌||◌, List, ℤ, pos, ◌+ℤ◌, ◌-ℤ◌, ◌*ℤ◌, neg_ℤ, Ok, Err}
use Rattle.bank.specs.Model.{Forms}
use Rattle.bank.specs.Answers.{read_by, written}
use Rattle.language.specs.declared.Fault.TheVariants.{NoValue, TooLong, NotHeld}
use Rattle.language.specs.declared.Rounding.{Rounding}
use Rattle.language.specs.declared.Relation.{Relation}
use Rattle.language.specs.Syntax.{Sheet, Sign, adds, takes, Expr, Term, Factor, Stmt, Block, only, sum, just, times, read, constant, group, minus, assign, when, either, each, empty, ◌then◌, block_count}
use Rattle.language.specs.Layout.{form_of, field_at, part, stored, places_of, expr_places, term_places, zeros}
use Rattle.language.specs.Arithmetic.{too_long, padded, fitted, holds}
use Rattle.language.specs.Trace.{Worked, ◌next◌, settled, Site, Action, yields, done, figured, passed, faults}

-- ---- actions. A fault's field is 255 where no field is read or assigned

abbrev pub signed : Sign → ℤ → ℤ → ℤ
signed adds m n = m +ℤ n
signed takes m n = m -ℤ n

-- a sum or a difference of x with a zeros appended and y with b zeros appended: none of the three may be too long
abbrev pub summed : Sign → ℤ → ℕ → ℤ → ℕ → Action ℤ
summed g x a y b =
    cond (too_long (padded x a) || too_long (padded y b) || too_long (signed g (padded x a) (padded y b))) (faults TooLong 255)
    (figured (signed g (padded x a) (padded y b)))

abbrev pub multiplied : ℤ → ℤ → Action ℤ
multiplied x y = cond (too_long (x *ℤ y)) (faults TooLong 255) (figured (x *ℤ y))

-- a comparison's figure is 1 if it holds and 0 if not
abbrev pub compared : Relation → ℤ → ℕ → ℤ → ℕ → Action Bool
compared o x a y b =
    cond (too_long (padded x a) || too_long (padded y b)) (faults TooLong 255)
    (let h = holds o (padded x a) (padded y b) in yields (pos (cond h 1 0)) h)

module _ (forms : Forms) (sheet : Sheet) where
  -- the number in field f, as the bank reads it
  abbrev pub read_field : ℕ → ℕ → List ℕ → Action ℤ
  read_field row f ticket = elim (read_by (form_of forms (field_at sheet f)) (part forms sheet f row ticket)) [
    | Ok n ↦ figured n
    | Err e ↦ faults (NoValue e) f
  ]

  -- x, which has `from` places, stored in field f: its figure is the number stored, and it comes to the ticket that follows
  abbrev pub assigned : ℕ → ℕ → Rounding → ℕ → List ℕ → ℤ → Action (List ℕ)
  assigned row f r from ticket x =
      let n = fitted r x from (places_of sheet f) in
      cond (too_long n) (faults TooLong f)
      (elim (written (form_of forms (field_at sheet f)) n (part forms sheet f row ticket)) [
        | Ok image ↦ yields n (stored forms sheet f row image ticket)
        | Err e ↦ faults (NotHeld e) f
      ])

  -- ---- expressions

  unfoldable mutual
    pub expr : Site → List ℕ → Expr → Worked ℤ
    expr at ticket (only t) = term at ticket t
    expr at ticket (sum e g t) = expr at ticket e next λ x. term at ticket t next λ y.
        done at (summed g x (zeros (expr_places sheet e) (term_places sheet t)) y (zeros (term_places sheet t) (expr_places sheet e)))

    pub term : Site → List ℕ → Term → Worked ℤ
    term at ticket (just f) = factor at ticket f
    term at ticket (times t f) = term at ticket t next λ x. factor at ticket f next λ y. done at (multiplied x y)

    pub factor : Site → List ℕ → Factor → Worked ℤ
    factor at ticket (read f) = done at (read_field at.row f ticket)
    factor at ticket (constant units places) = done at (figured (pos units))
    factor at ticket (group e) = expr at ticket e
    factor at ticket (minus f) = factor at ticket f next λ x. done at (figured (neg_ℤ x))

  unfoldable pub condition : Site → List ℕ → Expr → Relation → Expr → Worked Bool
  condition at ticket l o r = expr at ticket l next λ x. expr at ticket r next λ y.
      done at (compared o x (zeros (expr_places sheet l) (expr_places sheet r)) y (zeros (expr_places sheet r) (expr_places sheet l)))

-- ---- statements

-- a body worked for rows first, first + 1, ..: as many as are left. The end of each row is an entry of statement k, the `each`
unfoldable pub each_row : ℕ → ℕ → ℕ → (ℕ → List ℕ → Worked (List ℕ)) → List ℕ → Worked (List ℕ)
each_row k zero first body ticket = settled ticket
each_row k (suc left) first body ticket =
    body first ticket next λ t. done (record { statement = k; row = first }) (passed t) next λ t. each_row k left (first + 1) body t

module _ (forms : Forms) (sheet : Sheet) where
  -- a statement, or a block, whose first statement is number k; the row is 255 outside `each`
  unfoldable mutual
    pub stmt : ℕ → ℕ → Stmt → List ℕ → Worked (List ℕ)
    stmt k row (assign f e r) ticket =
        let at : Site = record { statement = k; row = row } in
        expr forms sheet at ticket e next λ x. done at (assigned forms sheet row f r (expr_places sheet e) ticket x)
    stmt k row (when l o r b) ticket =
        let at : Site = record { statement = k; row = row } in
        condition forms sheet at ticket l o r next λ h. elim h [ true ↦ block (k + 1) row b ticket | false ↦ settled ticket ]
    -- the end of a then part that has an else part is an entry
    stmt k row (either l o r b c) ticket =
        let at : Site = record { statement = k; row = row } in
        condition forms sheet at ticket l o r next λ h. elim h [
          | true ↦ block (k + 1) row b ticket next λ t. done at (passed t)
          | false ↦ block (k + 1 + block_count b) row c ticket
        ]
    -- so is the opening of an `each`
    stmt k row (each b) ticket =
        done (record { statement = k; row = 255 }) (passed ticket) next λ t. each_row k sheet.rows 0 (λ r u. block (k + 1) r b u) t

    pub block : ℕ → ℕ → Block → List ℕ → Worked (List ℕ)
    block k row empty ticket = settled ticket
    block k row (b then s) ticket = block k row b ticket next λ t. stmt (k + block_count b) row s t

  -- the course of a ticket: the sheet's statements, and `end`
  unfoldable pub course : List ℕ → Worked (List ℕ)
  course ticket = block 1 255 sheet.body ticket next λ t. done (record { statement = 0; row = 255 }) (passed t)
