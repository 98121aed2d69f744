-- Between `begin` and `end` every step adds its token to what is read, and keeps what holds.
use Rattle.std.proofs.Common.{◌≡◌, ℕ, ◌+◌, ◌<◌, Bool, true, ◌||◌, eqb, leb, List, [], ◌∷◌, ◌++◌, length, Some, None, Err, Option, sym, refl, ap, ◌∙◌, append_assoc, arith}
use Rattle.std.proofs.lemmas.Bool.{and_from, or_parts, lt-ltb, leb-false, eqb-true, eqb-false, not_from_false, not-false}
use Rattle.bank.specs.Model.{Forms}
use Rattle.language.specs.declared.Check.TheVariants.{NotDeclared, RowMisused, Misplaced, TooMany}
use Rattle.language.specs.declared.Rounding.{Rounding}
use Rattle.language.specs.declared.Rounding.TheVariants.{Dropped, Nearest}
use Rattle.language.specs.declared.Relation.{Relation}
use Rattle.language.specs.Tokens.{Token, word, symbol}
use Rattle.language.specs.Words.{same_bytes, spelling, Reserved, field_word, rows_word, begin_word, end_word, rounded_word, if_word, then_word, else_word, endif_word, each_word, endeach_word}
use Rattle.language.specs.Syntax.{Sheet, Field, Expr, Stmt, Block, assign, when, either, each, empty, ◌then◌, name_of, expr_tokens, block_tokens, stmt_tokens, rounding_tokens, reserved_token}
use Rattle.language.specs.Reading.{expect, State, Outcome, relation_of, found, outside_each, Purpose, value_of, left_side, right_side, Nest, in_then, in_else, in_each, Phase, becomes, operand, closing, inside_each, goes, back, begun, after_by_symbol, after_by_word, begin_if, begin_each, begin_assignment, at_else, at_endif, at_endeach, at_end, on_symbol, refuse_if, statement_word}
use Rattle.language.specs.Admitted as A
use Rattle.language.proofs.Acceptance.Names.{found_is, same_bytes_true}
use Rattle.language.proofs.Acceptance.BodyRuns.{when_tokens, either_tokens, each_tokens, regroup}
use Rattle.language.proofs.Acceptance.Words.{Compares, compares, Spelled}
use Rattle.language.proofs.Acceptance.Admits.{Declarations}
use Rattle.language.proofs.Acceptance.Zipper.{bare, nested, purposed, declared_then, in_body, whole, Body, BodyHere, Purposed, Fine, Reaches}
use Rattle.language.proofs.Acceptance.ExprSteps.{fine_refuse_if, fine_cond, fine_same, scope_from}

module _ (forms : Forms) (s : State) (d : Declarations forms (bare s)) (body : BodyHere forms s 1) where
  abbrev fields : List Field
  fields = s.head ++ s.row_fields

  abbrev i : Bool
  i = inside_each s.nests

  -- an assignment ends
  assigned_fine : (f : ℕ) (e : Expr) (r : Rounding) → A.in_scope (bare s) i f ≡ true → A.side_good (bare s) i e ≡ true
      → Fine (Reaches forms (λ rest. in_body s (word (name_of fields f) ∷ symbol 61 ∷ (expr_tokens fields e ++ (rounding_tokens r ++ symbol 59 ∷ rest))))) (back s s.nests (s.so_far then assign f e r))
  assigned_fine f e r gf ge = record {
    sound = record {
      declarations = d;
      at = record {
        counted = omega (arith, body.counted);
        few = body.few;
        here = record { good = and_from _ _ body.here.good (and_from _ _ gf ge); deep = omega (arith, body.here.deep) };
        around = body.around;
      };
    };
    same = λ rest. ap (λ x. declared_then s (reserved_token begin_word ∷ nested fields s.nests x))
        (append_assoc (block_tokens fields s.so_far) (stmt_tokens fields (assign f e r)) rest ∙ ap (λ x. block_tokens fields s.so_far ++ x) (regroup (word (name_of fields f)) (symbol 61) (expr_tokens fields e) (rounding_tokens r) (symbol 59) rest));
  }

  pub after_symbol_fine : (p : Purpose) → Purposed forms (bare s) s.nests p → (b : ℕ) (e : Expr) → A.side_good (bare s) i e ≡ true
      → Fine (Reaches forms (λ rest. in_body s (purposed fields p (expr_tokens fields e ++ symbol b ∷ rest)))) (after_by_symbol s p e b)
  after_symbol_fine (value_of f) g b e ge =
      fine_cond _ (eqb b 59) _ _
      (λ q. fine_same forms _ _ (back s s.nests (s.so_far then assign f e Dropped)) (λ rest. ap (λ c. in_body s (purposed fields (value_of f) (expr_tokens fields e ++ symbol c ∷ rest))) (sym (eqb-true b 59 q)))
      (assigned_fine f e Dropped g ge))
      (λ _. tt)
  after_symbol_fine left_side g b e ge = go (relation_of b) (compares b)
    where
      go : (x : Option Relation) → Compares b x
          → Fine (Reaches forms (λ rest. in_body s (purposed fields left_side (expr_tokens fields e ++ symbol b ∷ rest)))) (elim x [ None ↦ Err Misplaced | Some o ↦ goes s (operand (right_side e o) []) ])
      go None c = tt
      go (Some o) c = record {
        sound = record { declarations = d; at = (body, (g, ge), tt, omega arith) };
        same = λ rest. ap (λ t. in_body s (purposed fields left_side (expr_tokens fields e ++ t ∷ rest))) c;
      }
  after_symbol_fine (right_side l o) g b e ge = tt

  -- a word that has to be a reserved one
  fine_expect : (P : State → Type 0) (r : Reserved) (w : List ℕ) (o : Outcome) → (w ≡ spelling r → Fine P o) → Fine P (expect r w o)
  fine_expect P r w o h = fine_refuse_if P _ Misplaced o (λ e. h (same_bytes_true w (spelling r) (not-false (same_bytes w (spelling r)) e)))

  pub after_word_fine : (p : Purpose) → Purposed forms (bare s) s.nests p → (w : List ℕ) (e : Expr) → A.side_good (bare s) i e ≡ true
      → Fine (Reaches forms (λ rest. in_body s (purposed fields p (expr_tokens fields e ++ word w ∷ rest)))) (after_by_word s p e w)
  after_word_fine (value_of f) g w e ge = fine_expect _ rounded_word w _ (λ sp. record {
    sound = record { declarations = d; at = (body, g, ge) };
    same = λ rest. ap (λ v. in_body s (purposed fields (value_of f) (expr_tokens fields e ++ word v ∷ rest))) (sym sp);
  })
  after_word_fine left_side g w e ge = tt
  after_word_fine (right_side l o) g w e ge = fine_expect _ then_word w _ (λ sp. record {
    sound = record {
      declarations = d;
      at = record {
        counted = omega (arith, body.counted);
        few = body.few;
        here = record { good = refl; deep = omega (arith, g.0) };
        around = (body.here, record { room = g.0; left = g.1; right = ge }, body.around);
      };
    };
    same = λ rest. ap (λ v. in_body s (purposed fields (right_side l o) (expr_tokens fields e ++ word v ∷ rest))) (sym sp);
  })

  pub closing_fine : (f : ℕ) (e : Expr) (b : ℕ) → A.in_scope (bare s) i f ≡ true → A.side_good (bare s) i e ≡ true
      → Fine (Reaches forms (λ rest. whole s (closing f e) (symbol b ∷ rest))) (on_symbol s b (closing f e))
  closing_fine f e b gf ge =
      fine_cond _ (eqb b 59) _ _
      (λ q. fine_same forms _ _ (back s s.nests (s.so_far then assign f e Nearest)) (λ rest. ap (λ c. whole s (closing f e) (symbol c ∷ rest)) (sym (eqb-true b 59 q))) (assigned_fine f e Nearest gf ge))
      (λ _. tt)

  pub becomes_fine : (f : ℕ) (b : ℕ) → A.in_scope (bare s) i f ≡ true → Fine (Reaches forms (λ rest. whole s (becomes f) (symbol b ∷ rest))) (on_symbol s b (becomes f))
  becomes_fine f b gf =
      fine_cond _ (eqb b 61) _ _
      (λ q. record { sound = record { declarations = d; at = (body, gf, tt, omega arith) }; same = λ rest. ap (λ c. whole s (becomes f) (symbol c ∷ rest)) (sym (eqb-true b 61 q)) })
      (λ _. tt)

-- where a statement may begin or a block end
module _ (forms : Forms) (s : State) (d : Declarations forms (bare s)) (body : BodyHere forms s 0) where
  room_fine : (P : State → Type 0) (r : Outcome) → (s.statements < 255 → length s.nests < 8 → Fine P r) → Fine P (refuse_if (leb 255 s.statements || leb 8 (length s.nests)) TooMany r)
  room_fine P r h = fine_refuse_if P _ TooMany r (λ e.
      let (few, deep) = or_parts (leb 255 s.statements) (leb 8 (length s.nests)) e in
      h (leb-false 255 s.statements few) (leb-false 8 (length s.nests) deep))

  -- one more statement has begun
  one_more : s.statements < 255 → Body forms (bare s) 1 (s.statements + 1) s.nests s.so_far
  one_more h = record { counted = omega (arith, body.counted); few = omega arith; here = body.here; around = body.around }

  if_fine : Fine (Reaches forms (λ rest. in_body s (reserved_token if_word ∷ rest))) (begin_if s)
  if_fine = room_fine _ _ (λ few deep. record { sound = record { declarations = d; at = (one_more few, deep, tt, omega arith) }; same = λ rest. refl })

  each_fine : Fine (Reaches forms (λ rest. in_body s (reserved_token each_word ∷ rest))) (begin_each s)
  each_fine = fine_refuse_if _ _ RowMisused _ (λ e. room_fine _ _ (λ few deep.
      let (rows, outside) = or_parts (eqb s.rows 0) (inside_each s.nests) e in
      let no_zero = eqb-false s.rows 0 rows in
      record {
        sound = record {
          declarations = d;
          at = record {
            counted = omega (arith, body.counted);
            few = omega arith;
            here = record { good = refl; deep = omega arith };
            around = (body.here, record { room = deep; outside = outside; rows_are = omega (arith, no_zero) }, body.around);
          };
        };
        same = λ rest. refl;
      }))

  assignment_fine : (w : List ℕ) → Fine (Reaches forms (λ rest. in_body s (word w ∷ rest))) (begin_assignment s w)
  assignment_fine w = go (found s w) refl
    where
      go : (x : Option ℕ) → found s w ≡ x
          → Fine (Reaches forms (λ rest. in_body s (word w ∷ rest))) (elim x [ None ↦ Err NotDeclared | Some f ↦ refuse_if (outside_each s f) RowMisused (refuse_if (leb 255 s.statements) TooMany (begun s s.nests s.so_far (becomes f))) ])
      go None e = tt
      go (Some f) e = fine_refuse_if _ (outside_each s f) RowMisused _ (λ st. fine_refuse_if _ (leb 255 s.statements) TooMany _ (λ few.
          let (j, q, below, named) = found_is 0 w (s.head ++ s.row_fields) f e in
          let same : f ≡ j = omega arith in
          record {
            sound = record { declarations = d; at = (one_more (leb-false 255 s.statements few), scope_from forms s f (omega arith) st) };
            same = λ rest. ap (λ v. in_body s (word v ∷ rest)) (ap (name_of (s.head ++ s.row_fields)) same ∙ sym named);
          }))

module _ (forms : Forms) (head : List Field) (rows : ℕ) (row_fields : List Field) (k : ℕ) (b : Block) (ph : Phase) where
  abbrev sheet : Sheet
  sheet = record { head = head; rows = rows; row_fields = row_fields; body = empty }

  abbrev st : List Nest → State
  st ns = record { head = head; rows = rows; row_fields = row_fields; statements = k; nests = ns; so_far = b; phase = ph }

  abbrev all : List Field
  all = head ++ row_fields

  -- a statement that is complete joins those before it
  joins : (ns : List Nest) (c : Block) (x : Stmt) (rest long : List Token) → stmt_tokens all x ++ rest ≡ long
      → declared_then (st ns) (reserved_token begin_word ∷ nested all ns (block_tokens all (c then x) ++ rest)) ≡ declared_then (st ns) (reserved_token begin_word ∷ nested all ns (block_tokens all c ++ long))
  joins ns c x rest long e = ap (λ y. declared_then (st ns) (reserved_token begin_word ∷ nested all ns y)) (append_assoc (block_tokens all c) (stmt_tokens all x) rest ∙ ap (λ y. block_tokens all c ++ y) e)

  else_fine : (ns : List Nest) → Declarations forms sheet → Body forms sheet 0 k ns b → Fine (Reaches forms (λ rest. in_body (st ns) (reserved_token else_word ∷ rest))) (at_else (st ns) ns)
  else_fine [] d body = tt
  else_fine (in_then c l o r ∷ ns) d body =
      let (before, condition, around) = body.around in
      record {
        sound = record {
          declarations = d;
          at = record {
            counted = omega (arith, body.counted);
            few = body.few;
            here = record { good = refl; deep = omega (arith, condition.room) };
            around = (before, condition, around, body.here);
          };
        };
        same = λ rest. refl;
      }
  else_fine (in_else c l o r e ∷ ns) d body = tt
  else_fine (in_each c ∷ ns) d body = tt

  endif_fine : (ns : List Nest) → Declarations forms sheet → Body forms sheet 0 k ns b → Fine (Reaches forms (λ rest. in_body (st ns) (reserved_token endif_word ∷ rest))) (at_endif (st ns) ns)
  endif_fine [] d body = tt
  endif_fine (in_then c l o r ∷ ns) d body =
      let (before, condition, around) = body.around in
      record {
        sound = record {
          declarations = d;
          at = record {
            counted = omega (arith, body.counted);
            few = body.few;
            here = record { good = and_from _ _ before.good (and_from _ _ (and_from _ _ condition.left condition.right) body.here.good); deep = omega (arith, before.deep, body.here.deep) };
            around = around;
          };
        };
        same = λ rest. joins ns c (when l o r b) rest _ (when_tokens all l o r b rest);
      }
  endif_fine (in_else c l o r e ∷ ns) d body =
      let (before, condition, around, first) = body.around in
      record {
        sound = record {
          declarations = d;
          at = record {
            counted = omega (arith, body.counted);
            few = body.few;
            here = record { good = and_from _ _ before.good (and_from _ _ (and_from _ _ (and_from _ _ condition.left condition.right) first.good) body.here.good); deep = omega (arith, before.deep, first.deep, body.here.deep) };
            around = around;
          };
        };
        same = λ rest. joins ns c (either l o r e b) rest _ (either_tokens all l o r e b rest);
      }
  endif_fine (in_each c ∷ ns) d body = tt

  endeach_fine : (ns : List Nest) → Declarations forms sheet → Body forms sheet 0 k ns b → Fine (Reaches forms (λ rest. in_body (st ns) (reserved_token endeach_word ∷ rest))) (at_endeach (st ns) ns)
  endeach_fine [] d body = tt
  endeach_fine (in_then c l o r ∷ ns) d body = tt
  endeach_fine (in_else c l o r e ∷ ns) d body = tt
  endeach_fine (in_each c ∷ ns) d body =
      let (before, each_here, around) = body.around in
      record {
        sound = record {
          declarations = d;
          at = record {
            counted = omega (arith, body.counted);
            few = body.few;
            here = record { good = and_from _ _ before.good (and_from _ _ (and_from _ _ (not_from_false (inside_each ns) each_here.outside) (lt-ltb 0 rows each_here.rows_are)) body.here.good); deep = omega (arith, before.deep, body.here.deep) };
            around = around;
          };
        };
        same = λ rest. joins ns c (each b) rest _ (each_tokens all b rest);
      }

  end_fine : (ns : List Nest) → Declarations forms sheet → Body forms sheet 0 k ns b → Fine (Reaches forms (λ rest. in_body (st ns) (reserved_token end_word ∷ rest))) (at_end (st ns) ns)
  end_fine [] d body = record { sound = record { declarations = d; at = (body, refl) }; same = λ rest. refl }
  end_fine (n ∷ ns) d body = tt

-- a word where a statement may begin or a block end
module _ (forms : Forms) (s : State) (d : Declarations forms (bare s)) (body : BodyHere forms s 0) where
  -- a word that is spelled as a reserved one is read as that
  as_spelled : {w : List ℕ} (r : Reserved) (o : Outcome) → w ≡ spelling r → Fine (Reaches forms (λ rest. in_body s (reserved_token r ∷ rest))) o → Fine (Reaches forms (λ rest. in_body s (word w ∷ rest))) o
  as_spelled r o sp = fine_same forms _ _ o (λ rest. ap (λ v. in_body s (word v ∷ rest)) (sym sp))

  pub statement_fine : (w : List ℕ) (r : Option Reserved) → Spelled w r → Fine (Reaches forms (λ rest. in_body s (word w ∷ rest))) (statement_word s w r)
  statement_fine w (Some field_word) sp = tt
  statement_fine w (Some rows_word) sp = tt
  statement_fine w (Some begin_word) sp = tt
  statement_fine w (Some end_word) sp = as_spelled end_word (at_end s s.nests) sp (end_fine forms s.head s.rows s.row_fields s.statements s.so_far s.phase s.nests d body)
  statement_fine w (Some rounded_word) sp = tt
  statement_fine w (Some if_word) sp = as_spelled if_word (begin_if s) sp (if_fine forms s d body)
  statement_fine w (Some then_word) sp = tt
  statement_fine w (Some else_word) sp = as_spelled else_word (at_else s s.nests) sp (else_fine forms s.head s.rows s.row_fields s.statements s.so_far s.phase s.nests d body)
  statement_fine w (Some endif_word) sp = as_spelled endif_word (at_endif s s.nests) sp (endif_fine forms s.head s.rows s.row_fields s.statements s.so_far s.phase s.nests d body)
  statement_fine w (Some each_word) sp = as_spelled each_word (begin_each s) sp (each_fine forms s d body)
  statement_fine w (Some endeach_word) sp = as_spelled endeach_word (at_endeach s s.nests) sp (endeach_fine forms s.head s.rows s.row_fields s.statements s.so_far s.phase s.nests d body)
  statement_fine w None sp = assignment_fine forms s d body w
