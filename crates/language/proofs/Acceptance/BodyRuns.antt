-- What a reader does on the tokens of a statement and of a block.
use Rattle.std.proofs.Common.{◌≡◌, ℕ, ◌+◌, ◌<◌, ◌≤◌, true, false, ltb, List, [], ◌∷◌, ◌++◌, length, Some, sym, refl, ap, ◌∙◌, append_assoc, add-zero, add_assoc, arith}
use Rattle.std.proofs.lemmas.Bool.{and_parts, not-true, leb-true, ltb-true, lt-leb, ne_eqb}
use Rattle.bank.specs.Model.{Forms}
use Rattle.language.specs.declared.Rounding.{Rounding}
use Rattle.language.specs.declared.Rounding.TheVariants.{Dropped, Nearest}
use Rattle.language.specs.declared.Relation.{Relation}
use Rattle.language.specs.declared.Relation.TheVariants.{Less, Equal, Greater}
use Rattle.language.specs.Tokens.{Token, word, symbol}
use Rattle.language.specs.Words.{if_word, then_word, else_word, endif_word, each_word, endeach_word, reserved, is_name}
use Rattle.language.specs.Syntax.{Sheet, Field, Expr, Stmt, Block, only, sum, assign, when, either, each, empty, ◌then◌, name_of, expr_tokens, stmt_tokens, block_tokens, relation_token, rounding_tokens, block_count, stmt_count, reserved_token}
use Rattle.language.specs.Reading.{State, found, outside_each, Purpose, value_of, left_side, right_side, Nest, in_then, in_else, in_each, Phase, operand, becomes, statement, inside_each, statement_word, begin_if, begin_each, begun, to, back, begin_assignment}
use Rattle.language.specs.Admitted as A
use Rattle.language.proofs.Acceptance.Words.{not_reserved}
use Rattle.language.proofs.Acceptance.Runs.{follow, runs, Known, ending, not_outside, expr_runs}

module _ (forms : Forms) (s : State) where
  begins_assignment : (w : List ℕ) (f : ℕ) → is_name w ≡ true → found s w ≡ Some f → outside_each s f ≡ false → s.statements < 255 → statement_word s w (reserved w) ≡ begun s s.nests s.so_far (becomes f)
  begins_assignment w f n g t h = rw (not_reserved w n) (rw (g, begin_assignment) (rw (t, lt-leb 255 s.statements h)))

  begins_if : s.statements < 255 → length s.nests < 8 → begin_if s ≡ begun s s.nests s.so_far (operand left_side [])
  begins_if h k = rw (lt-leb 255 s.statements h, lt-leb 8 (length s.nests) k)

  begins_each : (s.rows ≡ 0 → ⊥) → inside_each s.nests ≡ false → s.statements < 255 → length s.nests < 8 → begin_each s ≡ begun s (in_each s.so_far ∷ s.nests) empty statement
  begins_each r i h k = rw (ne_eqb s.rows 0 r, i, lt-leb 255 s.statements h, lt-leb 8 (length s.nests) k)

  ends_assignment : (f : ℕ) (e : Expr) (r : Rounding) (rest : List Token) → runs forms (to s (ending (value_of f) [] e)) (rounding_tokens r ++ symbol 59 ∷ rest)
      ≡ follow (back s s.nests (s.so_far then assign f e r)) (λ u. runs forms u rest)
  ends_assignment f (only t) Dropped rest = refl
  ends_assignment f (sum e g t) Dropped rest = refl
  ends_assignment f (only t) Nearest rest = refl
  ends_assignment f (sum e g t) Nearest rest = refl

  compares : (l : Expr) (o : Relation) (rest : List Token) → runs forms (to s (ending left_side [] l)) (relation_token o ∷ rest) ≡ runs forms (to s (operand (right_side l o) [])) rest
  compares (only t) Less rest = refl
  compares (sum e g t) Less rest = refl
  compares (only t) Equal rest = refl
  compares (sum e g t) Equal rest = refl
  compares (only t) Greater rest = refl
  compares (sum e g t) Greater rest = refl

  opens_then : (l : Expr) (o : Relation) (r : Expr) (rest : List Token) → runs forms (to s (ending (right_side l o) [] r)) (reserved_token then_word ∷ rest) ≡ follow (back s (in_then s.so_far l o r ∷ s.nests) empty) (λ u. runs forms u rest)
  opens_then l o (only t) rest = refl
  opens_then l o (sum e g t) rest = refl

pub regroup : (w e : Token) (xs ys : List Token) (t : Token) (rest : List Token) → (((w ∷ e ∷ xs) ++ ys) ++ t ∷ []) ++ rest ≡ w ∷ e ∷ (xs ++ (ys ++ t ∷ rest))
regroup w e xs ys t rest = simp append_assoc

module _ (fields : List Field) where
  pub when_tokens : (l : Expr) (o : Relation) (r : Expr) (c : Block) (rest : List Token) → stmt_tokens fields (when l o r c) ++ rest
      ≡ reserved_token if_word ∷ (expr_tokens fields l ++ (relation_token o ∷ (expr_tokens fields r ++ (reserved_token then_word ∷ (block_tokens fields c ++ reserved_token endif_word ∷ rest)))))
  when_tokens l o r c rest = simp append_assoc

  pub either_tokens : (l : Expr) (o : Relation) (r : Expr) (c d : Block) (rest : List Token) → stmt_tokens fields (either l o r c d) ++ rest
      ≡ reserved_token if_word ∷ (expr_tokens fields l ++ (relation_token o ∷ (expr_tokens fields r ++ (reserved_token then_word ∷ (block_tokens fields c ++ (reserved_token else_word ∷ (block_tokens fields d ++ reserved_token endif_word ∷ rest)))))))
  either_tokens l o r c d rest = simp append_assoc

  pub each_tokens : (c : Block) (rest : List Token) → stmt_tokens fields (each c) ++ rest ≡ reserved_token each_word ∷ (block_tokens fields c ++ reserved_token endeach_word ∷ rest)
  each_tokens c rest = simp append_assoc

module _ (forms : Forms) (head : List Field) (rows : ℕ) (row_fields : List Field) (known : Known (head ++ row_fields)) where
  abbrev fields : List Field
  fields = head ++ row_fields

  abbrev sheet : Sheet
  sheet = record { head = head; rows = rows; row_fields = row_fields; body = empty }

  abbrev here : ℕ → List Nest → Block → Phase → State
  here k ns b p = record { head = head; rows = rows; row_fields = row_fields; statements = k; nests = ns; so_far = b; phase = p }

  -- an expression that stands outside all brackets
  side_runs : (k : ℕ) (ns : List Nest) (b : Block) (e : Expr) (p : Purpose) (rest : List Token) → A.side_good sheet (inside_each ns) e ≡ true
      → runs forms (here k ns b (operand p [])) (expr_tokens fields e ++ rest) ≡ runs forms (here k ns b (ending p [] e)) rest
  side_runs k ns b e p rest g =
      let (ge, gl) = and_parts _ _ g in
      let l : A.expr_levels e ≤ 12 = leb-true (A.expr_levels e) 12 gl in
      expr_runs forms (here k ns b statement) known e p [] rest refl ge (omega arith)

  assign_runs : (f : ℕ) (e : Expr) (r : Rounding) (k : ℕ) (ns : List Nest) (b : Block) (rest : List Token) → A.stmt_good sheet (inside_each ns) (assign f e r) ≡ true → k < 255
      → runs forms (here k ns b statement) (stmt_tokens fields (assign f e r) ++ rest) ≡ runs forms (here (k + 1) ns (b then assign f e r) statement) rest
  assign_runs f e r k ns b rest g h =
      let (gf, ge) = and_parts _ _ g in
      let found_is = known f (and_parts _ _ gf).0 in
      let start = here k ns b statement in
      ap (runs forms start) (regroup (word (name_of fields f)) (symbol 61) (expr_tokens fields e) (rounding_tokens r) (symbol 59) rest)
      ∙ ap (λ o. follow o (λ u. runs forms u (symbol 61 ∷ expr_tokens fields e ++ (rounding_tokens r ++ symbol 59 ∷ rest))))
      (begins_assignment forms start (name_of fields f) f found_is.0 found_is.1 (not_outside (ltb f (length fields)) (A.is_row_field sheet f) (inside_each ns) gf) h)
      ∙ side_runs (k + 1) ns b e (value_of f) (rounding_tokens r ++ symbol 59 ∷ rest) ge
      ∙ ends_assignment forms (here (k + 1) ns b statement) f e r rest

  -- `if`, its condition and `then`
  if_runs : (l : Expr) (o : Relation) (r : Expr) (k : ℕ) (ns : List Nest) (b : Block) (rest : List Token) → A.side_good sheet (inside_each ns) l ≡ true → A.side_good sheet (inside_each ns) r ≡ true → k < 255 → length ns < 8
      → runs forms (here k ns b statement) (reserved_token if_word ∷ expr_tokens fields l ++ (relation_token o ∷ expr_tokens fields r ++ (reserved_token then_word ∷ rest))) ≡ runs forms (here (k + 1) (in_then b l o r ∷ ns) empty statement) rest
  if_runs l o r k ns b rest gl gr h n =
      let after = relation_token o ∷ expr_tokens fields r ++ (reserved_token then_word ∷ rest) in
      ap (λ x. follow x (λ u. runs forms u (expr_tokens fields l ++ after))) (begins_if forms (here k ns b statement) h n)
      ∙ side_runs (k + 1) ns b l left_side after gl
      ∙ compares forms (here (k + 1) ns b statement) l o (expr_tokens fields r ++ (reserved_token then_word ∷ rest))
      ∙ side_runs (k + 1) ns b r (right_side l o) (reserved_token then_word ∷ rest) gr
      ∙ opens_then forms (here (k + 1) ns b statement) l o r rest

  mutual
    pub stmt_runs : (s : Stmt) (k : ℕ) (ns : List Nest) (b : Block) (rest : List Token) → A.stmt_good sheet (inside_each ns) s ≡ true → k + stmt_count s ≤ 255 → length ns + A.stmt_nests s ≤ 8
        → runs forms (here k ns b statement) (stmt_tokens fields s ++ rest) ≡ runs forms (here (k + stmt_count s) ns (b then s) statement) rest
    stmt_runs (assign f e r) k ns b rest g h n = assign_runs f e r k ns b rest g (omega arith)
    stmt_runs (when l o r c) k ns b rest g h n =
        let (glr, gc) = and_parts _ _ g in
        let (gl, gr) = and_parts _ _ glr in
        ap (runs forms (here k ns b statement)) (when_tokens fields l o r c rest)
        ∙ if_runs l o r k ns b (block_tokens fields c ++ reserved_token endif_word ∷ rest) gl gr (omega arith) (omega arith)
        ∙ block_runs c (k + 1) (in_then b l o r ∷ ns) (reserved_token endif_word ∷ rest) gc (omega arith) (omega arith)
        ∙ ap (λ j. runs forms (here j ns (b then when l o r c) statement) rest) (add_assoc k 1 (block_count c))
    stmt_runs (either l o r c d) k ns b rest g h n =
        let (glrc, gd) = and_parts _ _ g in
        let (glr, gc) = and_parts _ _ glrc in
        let (gl, gr) = and_parts _ _ glr in
        let after = block_tokens fields d ++ reserved_token endif_word ∷ rest in
        ap (runs forms (here k ns b statement)) (either_tokens fields l o r c d rest)
        ∙ if_runs l o r k ns b (block_tokens fields c ++ reserved_token else_word ∷ after) gl gr (omega arith) (omega arith)
        ∙ block_runs c (k + 1) (in_then b l o r ∷ ns) (reserved_token else_word ∷ after) gc (omega arith) (omega arith)
        ∙ block_runs d (k + 1 + block_count c) (in_else b l o r c ∷ ns) (reserved_token endif_word ∷ rest) gd (omega arith) (omega arith)
        ∙ ap (λ j. runs forms (here j ns (b then either l o r c d) statement) rest) (omega arith)
    stmt_runs (each c) k ns b rest g h n =
        let (gir, gc) = and_parts _ _ g in
        let (gi, gr) = and_parts _ _ gir in
        let some : 0 < rows = ltb-true 0 rows gr in
        ap (runs forms (here k ns b statement)) (each_tokens fields c rest)
        ∙ ap (λ x. follow x (λ u. runs forms u (block_tokens fields c ++ reserved_token endeach_word ∷ rest))) (begins_each forms (here k ns b statement) (λ e. omega arith) (not-true (inside_each ns) gi) (omega arith) (omega arith))
        ∙ block_runs c (k + 1) (in_each b ∷ ns) (reserved_token endeach_word ∷ rest) gc (omega arith) (omega arith)
        ∙ ap (λ j. runs forms (here j ns (b then each c) statement) rest) (add_assoc k 1 (block_count c))

    pub block_runs : (b : Block) (k : ℕ) (ns : List Nest) (rest : List Token) → A.block_good sheet (inside_each ns) b ≡ true → k + block_count b ≤ 255 → length ns + A.block_nests b ≤ 8
        → runs forms (here k ns empty statement) (block_tokens fields b ++ rest) ≡ runs forms (here (k + block_count b) ns b statement) rest
    block_runs empty k ns rest g h n = ap (λ j. runs forms (here j ns empty statement) rest) (sym (add-zero k))
    block_runs (b then s) k ns rest g h n =
        let (gb, gs) = and_parts _ _ g in
        ap (runs forms (here k ns empty statement)) (append_assoc (block_tokens fields b) (stmt_tokens fields s) rest)
        ∙ block_runs b k ns (stmt_tokens fields s ++ rest) gb (omega arith) (omega arith)
        ∙ stmt_runs s (k + block_count b) ns b rest gs (omega arith) (omega arith)
        ∙ ap (λ j. runs forms (here j ns (b then s) statement) rest) (add_assoc k (block_count b) (stmt_count s))
