-- The operands of a sheet's steps are small.
use Rattle.std.proofs.Common.{◌≡◌, ℕ, zero, suc, ◌+◌, ◌<◌, ◌≤◌, Bool, true, false, ◌&&◌, List, [], ◌∷◌, ◌++◌, length, get_or, arith, length-append}
use Rattle.std.specs.List.{AllByRecursion}
use Rattle.std.proofs.ByRecursion.{All-append, All-push}
use Rattle.std.proofs.lemmas.Bool.{and_parts, leb-true, ltb-true}
use Rattle.bank.specs.Model.{Forms}
use Rattle.language.specs.declared.Line.{Line}
use Rattle.language.specs.declared.Relation.{Relation}
use Rattle.language.specs.Tokens.{Token, all}
use Rattle.language.specs.Words.{begin_word, end_word, then_word, else_word, endif_word}
use Rattle.language.specs.Syntax.{Sheet, Sign, adds, takes, Field, fields, no_field, Expr, Term, Factor, Stmt, Block, only, sum, just, times, read, constant, group, minus, assign, when, either, each, empty, ◌then◌, stmt_count, block_count, printed, fields_tokens, rows_tokens, relation_token, reserved_token, rounding_tokens, expr_tokens, term_tokens, factor_tokens, stmt_tokens, block_tokens}
use Rattle.language.specs.Layout.{places_of, zeros, expr_places, term_places, factor_places}
use Rattle.language.specs.Admitted.{field_good, in_scope, expr_good, term_good, factor_good, side_good, stmt_good, block_good}
use Rattle.language.specs.Bounds.{Small, SmallLine}
use Rattle.language.specs.Steps as P
use Rattle.language.proofs.Acceptance.Admits.{Admits}
use Rattle.language.proofs.Bounds.Numbers.{SmallToken}

pub parted : {X : Type 0} (P : X → Type 0) (xs ys : List X) → AllByRecursion P (xs ++ ys) → AllByRecursion P xs × AllByRecursion P ys
parted P [] ys h = (tt, h)
parted P (x ∷ xs) ys h = let (here, there) = parted P xs ys h.1 in ((h.0, here), there)

-- the sides of a condition and its then part
three_parts : (a b c : List Token) (x y : Token) (rest : List Token) → AllByRecursion SmallToken (a ++ x ∷ b ++ y ∷ c ++ rest)
    → AllByRecursion SmallToken a × AllByRecursion SmallToken b × AllByRecursion SmallToken c
three_parts a b c x y rest h =
    let (test, cs) = parted SmallToken (a ++ x ∷ b) (y ∷ c) (parted SmallToken (a ++ x ∷ b ++ y ∷ c) rest h).0 in
    let (us, bs) = parted SmallToken a (x ∷ b) test in
    (us, bs.1, cs.1)

-- past the fields there is `no_field`, with no places
field_fine : (forms : Forms) (fs : List Field) (f : ℕ) → all (field_good forms) fs ≡ true → (get_or fs f no_field).places ≤ 6
field_fine forms [] f h = omega arith
field_fine forms (g ∷ gs) zero h = leb-true g.places 6 (and_parts _ _ (and_parts _ _ h).0).1
field_fine forms (g ∷ gs) (suc f) h = field_fine forms gs f (and_parts _ _ h).1

zeros_small : (a b : ℕ) → a ≤ 12 → b ≤ 12 → (zeros a b ≤ 12) × (zeros b a ≤ 12)
zeros_small a b small_a small_b = (omega arith, omega arith)

sum_small : (n : ℕ) (g : Sign) (a b : ℕ) → (a ≤ 12) × (b ≤ 12) → Small n (P.sum_step g a b)
sum_small n adds a b h = h
sum_small n takes a b h = h

module _ (sheet : Sheet) (few : length (fields sheet) ≤ 64) (fine : (f : ℕ) → places_of sheet f ≤ 6) where
  named_small : (i : Bool) (f : ℕ) → in_scope sheet i f ≡ true → f < 64
  named_small i f good = omega (arith, ltb-true f (length (fields sheet)) (and_parts _ _ good).0)

  -- at most 12 places: products by what is asked of them, and the rest by their parts
  mutual
    expr_fine : (e : Expr) (i : Bool) → expr_good sheet i e ≡ true → AllByRecursion SmallToken (expr_tokens (fields sheet) e) → expr_places sheet e ≤ 12
    expr_fine (only t) i good ts = term_fine t i good ts
    expr_fine (sum e g t) i good ts =
        let (es, us) = parted SmallToken (expr_tokens (fields sheet) e) _ ts in
        omega (arith, expr_fine e i (and_parts _ _ good).0 es, term_fine t i (and_parts _ _ good).1 us.1)

    term_fine : (t : Term) (i : Bool) → term_good sheet i t ≡ true → AllByRecursion SmallToken (term_tokens (fields sheet) t) → term_places sheet t ≤ 12
    term_fine (just f) i good ts = factor_fine f i good ts
    term_fine (times t f) i good ts = leb-true _ _ (and_parts _ _ good).1

    factor_fine : (f : Factor) (i : Bool) → factor_good sheet i f ≡ true → AllByRecursion SmallToken (factor_tokens (fields sheet) f) → factor_places sheet f ≤ 12
    factor_fine (read f) i good ts = omega (arith, fine f)
    factor_fine (constant units places) i good ts = omega (arith, ts.0.1)
    factor_fine (group e) i good ts = expr_fine e i good (parted SmallToken (expr_tokens (fields sheet) e) _ ts.1).0
    factor_fine (minus f) i good ts = factor_fine f i good ts.1

  module _ (n k : ℕ) (numbered : k ≤ 255) where
    mutual
      unfolding P.expr P.term P.factor

      expr_small : (e : Expr) (i : Bool) → expr_good sheet i e ≡ true → AllByRecursion SmallToken (expr_tokens (fields sheet) e) → AllByRecursion (SmallLine n) (P.expr sheet k e)
      expr_small (only t) i good ts = term_small t i good ts
      expr_small (sum e g t) i good ts =
          let (es, us) = parted SmallToken (expr_tokens (fields sheet) e) _ ts in
          let (left, right) = and_parts (expr_good sheet i e) (term_good sheet i t) good in
          All-push (SmallLine n) _ _ (All-append (SmallLine n) _ _ (expr_small e i left es) (term_small t i right us.1))
          (numbered, sum_small n g _ _ (zeros_small _ _ (expr_fine e i left es) (term_fine t i right us.1)))

      term_small : (t : Term) (i : Bool) → term_good sheet i t ≡ true → AllByRecursion SmallToken (term_tokens (fields sheet) t) → AllByRecursion (SmallLine n) (P.term sheet k t)
      term_small (just f) i good ts = factor_small f i good ts
      term_small (times t f) i good ts =
          let (us, fs) = parted SmallToken (term_tokens (fields sheet) t) _ ts in
          let (both, few_places) = and_parts (term_good sheet i t && factor_good sheet i f) _ good in
          let (left, right) = and_parts (term_good sheet i t) (factor_good sheet i f) both in
          All-push (SmallLine n) _ _ (All-append (SmallLine n) _ _ (term_small t i left us) (factor_small f i right fs.1)) (numbered, tt)

      factor_small : (f : Factor) (i : Bool) → factor_good sheet i f ≡ true → AllByRecursion SmallToken (factor_tokens (fields sheet) f) → AllByRecursion (SmallLine n) (P.factor sheet k f)
      factor_small (read f) i good ts = ((numbered, named_small i f good), tt)
      factor_small (constant units places) i good ts = ((numbered, ts.0.0), tt)
      factor_small (group e) i good ts = expr_small e i good (parted SmallToken (expr_tokens (fields sheet) e) _ ts.1).0
      factor_small (minus f) i good ts = All-push (SmallLine n) _ _ (factor_small f i good ts.1) (numbered, tt)

    condition_small : (l : Expr) (o : Relation) (r : Expr) (to : ℕ) (i : Bool) → side_good sheet i l ≡ true → side_good sheet i r ≡ true
        → AllByRecursion SmallToken (expr_tokens (fields sheet) l) → AllByRecursion SmallToken (expr_tokens (fields sheet) r) → to < n → AllByRecursion (SmallLine n) (P.condition sheet k l o r to)
    unfolding P.condition
    condition_small l o r to i good_l good_r ls rs ahead =
        let left = (and_parts (expr_good sheet i l) _ good_l).0 in
        let right = (and_parts (expr_good sheet i r) _ good_r).0 in
        let (a, b) = zeros_small _ _ (expr_fine l i left ls) (expr_fine r i right rs) in
        All-push (SmallLine n) _ _ (All-append (SmallLine n) _ _ (expr_small l i left ls) (expr_small r i right rs)) (numbered, (a, b, ahead))

  -- n is past the code: every step to go to lies in it or right behind it
  module _ (n : ℕ) where
    mutual
      unfolding P.stmt P.block P.condition

      stmt_small : (s : Stmt) (i : Bool) (at k : ℕ) → stmt_good sheet i s ≡ true → AllByRecursion SmallToken (stmt_tokens (fields sheet) s)
          → k + stmt_count s ≤ 256 → at + length (P.stmt sheet at k s) < n → AllByRecursion (SmallLine n) (P.stmt sheet at k s)
      stmt_small (assign f e r) i at k good ts numbered room =
          let here : k ≤ 255 = omega arith in
          let (named, side) = and_parts (in_scope sheet i f) (side_good sheet i e) good in
          let fair = (and_parts (expr_good sheet i e) _ side).0 in
          let rounded = (parted SmallToken (expr_tokens (fields sheet) e ++ rounding_tokens r) _ ts.1.1).0 in
          let es = (parted SmallToken (expr_tokens (fields sheet) e) (rounding_tokens r) rounded).0 in
          All-push (SmallLine n) _ _ (expr_small n k here e i fair es) (here, (named_small i f named, expr_fine e i fair es))
      stmt_small (when l o r b) i at k good ts numbered room =
          let first : ℕ = at + length (P.expr sheet k l) + length (P.expr sheet k r) + 1 in
          let part : List Line = P.block sheet first (k + 1) b in
          let fits : first + length part < n = omega (arith, simp length-append at room) in
          let (sides, body) = and_parts (side_good sheet i l && side_good sheet i r) (block_good sheet i b) good in
          let (left, right) = and_parts (side_good sheet i l) (side_good sheet i r) sides in
          let (ls, rs, bs) = three_parts (expr_tokens (fields sheet) l) (expr_tokens (fields sheet) r) (block_tokens (fields sheet) b) _ _ _ ts.1 in
          All-append (SmallLine n) _ _
          (condition_small n k (omega arith) l o r (first + length part) i left right ls rs fits)
          (block_small b i first (k + 1) body bs (omega arith) fits)
      stmt_small (either l o r b c) i at k good ts numbered room =
          let first : ℕ = at + length (P.expr sheet k l) + length (P.expr sheet k r) + 1 in
          let part : List Line = P.block sheet first (k + 1) b in
          let second : ℕ = first + length part + 1 in
          let other : List Line = P.block sheet second (k + 1 + block_count b) c in
          let fits : second + length other < n = omega (arith, simp length-append at room) in
          let (most, last) = and_parts (side_good sheet i l && side_good sheet i r && block_good sheet i b) (block_good sheet i c) good in
          let (sides, body) = and_parts (side_good sheet i l && side_good sheet i r) (block_good sheet i b) most in
          let (left, right) = and_parts (side_good sheet i l) (side_good sheet i r) sides in
          let test : List Token = expr_tokens (fields sheet) l ++ relation_token o ∷ expr_tokens (fields sheet) r in
          let front : List Token = test ++ reserved_token then_word ∷ block_tokens (fields sheet) b in
          let whole = (parted SmallToken (front ++ reserved_token else_word ∷ block_tokens (fields sheet) c) (reserved_token endif_word ∷ []) ts.1).0 in
          let (ls, rs, bs) = three_parts (expr_tokens (fields sheet) l) (expr_tokens (fields sheet) r) (block_tokens (fields sheet) b) _ _ _ whole in
          let cs = (parted SmallToken front _ whole).1.1 in
          All-append (SmallLine n) _ _
          (All-append (SmallLine n) _ _
          (condition_small n k (omega arith) l o r second i left right ls rs (omega arith))
          (block_small b i first (k + 1) body bs (omega arith) (omega arith)))
          ((omega arith, fits), block_small c i second (k + 1 + block_count b) last cs (omega arith) fits)
      stmt_small (each b) i at k good ts numbered room =
          let here : k ≤ 255 = omega arith in
          let fits : at + 1 + length (P.block sheet (at + 1) (k + 1) b) + 1 < n = omega (arith, simp length-append at room) in
          let bs = (parted SmallToken (block_tokens (fields sheet) b) _ ts.1).0 in (
            (here, tt),
            All-push (SmallLine n) _ _
                (block_small b true (at + 1) (k + 1) (and_parts _ _ good).1 bs (omega arith) (omega arith))
                (here, omega arith),
          )

      block_small : (b : Block) (i : Bool) (at k : ℕ) → block_good sheet i b ≡ true → AllByRecursion SmallToken (block_tokens (fields sheet) b)
          → k + block_count b ≤ 256 → at + length (P.block sheet at k b) < n → AllByRecursion (SmallLine n) (P.block sheet at k b)
      block_small empty i at k good ts numbered room = tt
      block_small (b then s) i at k good ts numbered room =
          let (us, vs) = parted SmallToken (block_tokens (fields sheet) b) _ ts in
          let part : List Line = P.block sheet at k b in
          let fits : at + length part + length (P.stmt sheet (at + length part) (k + block_count b) s) < n = omega (arith, simp length-append at room) in
          All-append (SmallLine n) _ _ (block_small b i at k (and_parts _ _ good).0 us (omega arith) (omega arith))
          (stmt_small s i (at + length part) (k + block_count b) (and_parts _ _ good).1 vs (omega arith) fits)

pub steps_small : (forms : Forms) (sheet : Sheet) → Admits forms sheet → AllByRecursion SmallToken (printed sheet)
    → AllByRecursion (SmallLine (length (P.steps sheet))) (P.steps sheet)
unfolding P.steps
steps_small forms sheet a ts =
    let body : List Token = block_tokens (fields sheet) sheet.body in
    let before : List Token = fields_tokens sheet.head ++ rows_tokens sheet.rows ++ fields_tokens sheet.row_fields in
    let main = (parted SmallToken (before ++ reserved_token begin_word ∷ body) (reserved_token end_word ∷ []) ts).0 in
    let fine = λ (f : ℕ). field_fine forms (fields sheet) f a.declared.good_fields in
    let us = (parted SmallToken before _ main).1.1 in
    All-push (SmallLine _) _ _
    (block_small sheet a.declared.few_fields fine (length (P.steps sheet)) sheet.body false 0 1 a.good_body us
    (omega (arith, a.few_statements)) (simp length-append (omega arith)))
    (omega arith, tt)
