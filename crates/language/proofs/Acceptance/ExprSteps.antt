-- Inside an expression every step adds its token to what is read, and keeps what holds.
use Rattle.std.proofs.Common.{◌≡◌, ℕ, ◌+◌, ◌<◌, ◌≤◌, Bool, true, false, cond, not, ◌&&◌, ◌||◌, eqb, ltb, leb, List, [], ◌∷◌, ◌++◌, length, Some, None, Ok, Err, Option, sym, refl, ap, ◌∙◌, append_assoc, arith}
use Rattle.std.proofs.lemmas.Bool.{and_from, ltb-false, le-leb, leb-false, eqb-true, lt-ltb}
use Rattle.bank.specs.Model.{Forms}
use Rattle.language.specs.declared.Check.{Check}
use Rattle.language.specs.declared.Check.TheVariants.{NotDeclared, RowMisused, Misplaced, TooMany, TooFine}
use Rattle.language.specs.Tokens.{Token, word, symbol}
use Rattle.language.specs.Words.{is_name}
use Rattle.language.specs.Syntax.{sign_token, Sheet, Field, Expr, Term, Factor, times, read, group, minus, name_of, expr_tokens, term_tokens, factor_tokens}
use Rattle.language.specs.Layout.{factor_places, term_places}
use Rattle.language.specs.Reading.{State, Outcome, Purpose, Open, sum_of, product_of, opened, negated, operand, operator, refuse_if, goes, complete, close_group, sum_up, still_open, inside_each, found, levels, outside_each, operand_word, on_symbol, only_if_closed, after_by_symbol}
use Rattle.language.specs.Admitted as A
use Rattle.language.proofs.Acceptance.Names.{found_is}
use Rattle.language.proofs.Acceptance.Admits.{Declarations}
use Rattle.language.proofs.Acceptance.Zipper.{bare, opens, purposed, in_body, BodyHere, Opens, Purposed, Fine, Reaches}

pub fine_refuse_if : (P : State → Type 0) (b : Bool) (c : Check) (r : Outcome) → (b ≡ false → Fine P r) → Fine P (refuse_if b c r)
fine_refuse_if P true c r h = tt
fine_refuse_if P false c r h = h refl

pub fine_cond : (P : State → Type 0) (b : Bool) (x y : Outcome) → (b ≡ true → Fine P x) → (b ≡ false → Fine P y) → Fine P (cond b x y)
fine_cond P true x y h k = h refl
fine_cond P false x y h k = k refl

-- a state that reaches a target reaches one that is the same
pub fine_same : (forms : Forms) (f g : List Token → List Token) (o : Outcome) → ((rest : List Token) → f rest ≡ g rest) → Fine (Reaches forms f) o → Fine (Reaches forms g) o
fine_same forms f g (Err c) e h = tt
fine_same forms f g (Ok u) e h = record { sound = h.sound; same = λ rest. h.same rest ∙ e rest }

-- a field that is found, and is no row field outside `each`, may be named
pub scope_from : (forms : Forms) (s : State) (f : ℕ) → f < length (s.head ++ s.row_fields) → outside_each s f ≡ false → A.in_scope (bare s) (inside_each s.nests) f ≡ true
scope_from forms s f h k = and_from _ _ (lt-ltb f (length (s.head ++ s.row_fields)) h) (go (inside_each s.nests) (leb (length s.head) f) k)
  where
    go : (i b : Bool) → (b && not i) ≡ false → (i || not b) ≡ true
    go true b q = refl
    go false false q = refl
    go false true q = sym q

-- the sum that a term ends, in what is read
pub sum_tokens : (fields : List Field) (os : List Open) (t : Term) (rest : List Token) → opens fields os (term_tokens fields t ++ rest) ≡ opens fields (still_open os) (expr_tokens fields (sum_up t os) ++ rest)
sum_tokens fields [] t rest = refl
sum_tokens fields (sum_of e g ∷ os) t rest = ap (opens fields os) (sym (append_assoc (expr_tokens fields e) (sign_token g ∷ term_tokens fields t) rest))
sum_tokens fields (product_of u ∷ os) t rest = refl
sum_tokens fields (opened ∷ os) t rest = refl
sum_tokens fields (negated ∷ os) t rest = refl

-- what holds of it
pub record Summed (forms : Forms) (sheet : Sheet) (i : Bool) (os : List Open) (e : Expr) : Type 0 where
  pub around : Opens forms sheet i os
  pub good : A.expr_good sheet i e ≡ true
  pub shallow : levels os + A.expr_levels e ≤ 12

pub sum_good : (forms : Forms) (sheet : Sheet) (i : Bool) (os : List Open) (t : Term) → Opens forms sheet i os → A.term_good sheet i t ≡ true → levels os + A.term_levels t ≤ 12 → Summed forms sheet i (still_open os) (sum_up t os)
sum_good forms sheet i [] t o g l = record { around = o; good = g; shallow = l }
sum_good forms sheet i (sum_of e s ∷ os) t o g l = record { around = o.2; good = and_from _ _ o.0 g; shallow = omega arith }
sum_good forms sheet i (product_of u ∷ os) t o g l = record { around = o; good = g; shallow = l }
sum_good forms sheet i (opened ∷ os) t o g l = record { around = o; good = g; shallow = l }
sum_good forms sheet i (negated ∷ os) t o g l = record { around = o; good = g; shallow = l }

module _ (forms : Forms) (s : State) (d : Declarations forms (bare s)) (body : BodyHere forms s 1) (p : Purpose) (good_p : Purposed forms (bare s) s.nests p) where
  abbrev fields : List Field
  fields = s.head ++ s.row_fields

  abbrev i : Bool
  i = inside_each s.nests

  -- what is read where os is open
  abbrev before : List Open → List Token → List Token
  before os rest = in_body s (purposed fields p (opens fields os rest))

  pub complete_fine : (os : List Open) (f : Factor) → Opens forms (bare s) i os → A.factor_good (bare s) i f ≡ true → levels os + A.factor_levels f ≤ 12
      → Fine (Reaches forms (λ rest. before os (factor_tokens fields f ++ rest))) (complete s p f os)
  complete_fine [] f o g l = record { sound = record { declarations = d; at = (body, good_p, o, g, l) }; same = λ rest. refl }
  complete_fine (sum_of e q ∷ os) f o g l = record { sound = record { declarations = d; at = (body, good_p, o, g, l) }; same = λ rest. refl }
  complete_fine (product_of t ∷ os) f o g l =
      fine_refuse_if _ (ltb 12 (term_places (bare s) t + factor_places (bare s) f)) TooFine (goes s (operator p os (times t f))) (λ e.
      let fine = le-leb (term_places (bare s) t + factor_places (bare s) f) 12 (ltb-false 12 (term_places (bare s) t + factor_places (bare s) f) e) in
      record {
        sound = record { declarations = d; at = (body, good_p, o.2, and_from _ _ (and_from _ _ o.0 g) fine, omega arith) };
        same = λ rest. ap (before os) (append_assoc (term_tokens fields t) (symbol 42 ∷ factor_tokens fields f) rest);
      })
  complete_fine (opened ∷ os) f o g l = record { sound = record { declarations = d; at = (body, good_p, o, g, l) }; same = λ rest. refl }
  complete_fine (negated ∷ os) f o g l = complete_fine os (minus f) o g (omega arith)

  pub group_fine : (os : List Open) (e : Expr) → Opens forms (bare s) i os → A.expr_good (bare s) i e ≡ true → levels os + A.expr_levels e ≤ 12
      → Fine (Reaches forms (λ rest. before os (expr_tokens fields e ++ symbol 41 ∷ rest))) (close_group s p e os)
  group_fine [] e o g l = tt
  group_fine (sum_of c q ∷ os) e o g l = tt
  group_fine (product_of t ∷ os) e o g l = tt
  group_fine (opened ∷ os) e o g l =
      fine_same forms _ _ (complete s p (group e) os) (λ rest. ap (λ x. before os (symbol 40 ∷ x)) (append_assoc (expr_tokens fields e) (symbol 41 ∷ []) rest))
      (complete_fine os (group e) o g (omega arith))
  group_fine (negated ∷ os) e o g l = tt

  -- where an operand is due
  pub operand_word_fine : (os : List Open) (w : List ℕ) → Opens forms (bare s) i os → levels os ≤ 12 → Fine (Reaches forms (λ rest. before os (word w ∷ rest))) (operand_word s p os w)
  operand_word_fine os w o l = fine_refuse_if _ (not (is_name w)) Misplaced _ (λ n. go (found s w) refl)
    where
      go : (x : Option ℕ) → found s w ≡ x
          → Fine (Reaches forms (λ rest. before os (word w ∷ rest))) (elim x [ None ↦ Err NotDeclared | Some f ↦ refuse_if (outside_each s f) RowMisused (complete s p (read f) os) ])
      go None e = tt
      go (Some f) e = fine_refuse_if _ (outside_each s f) RowMisused (complete s p (read f) os) (λ st.
          let (j, k, below, named) = found_is 0 w fields f e in
          let same : f ≡ j = omega arith in
          let own : name_of fields f ≡ w = ap (name_of fields) same ∙ sym named in
          fine_same forms _ _ (complete s p (read f) os) (λ rest. ap (λ v. before os (word v ∷ rest)) own)
          (complete_fine os (read f) o (scope_from forms s f (omega arith) st) (omega arith)))

  pub operand_symbol_fine : (os : List Open) (b : ℕ) → Opens forms (bare s) i os → levels os ≤ 12 → Fine (Reaches forms (λ rest. before os (symbol b ∷ rest))) (on_symbol s b (operand p os))
  operand_symbol_fine os b o l =
      fine_cond _ (eqb b 40) _ _
      (λ e. fine_refuse_if _ (leb 12 (levels os)) TooMany _ (λ h.
      let few = leb-false 12 (levels os) h in
      record { sound = record { declarations = d; at = (body, good_p, o, omega arith) }; same = λ rest. ap (λ c. before os (symbol c ∷ rest)) (sym (eqb-true b 40 e)) }))
      (λ _. fine_cond _ (eqb b 45) _ _
      (λ e. fine_refuse_if _ (leb 12 (levels os)) TooMany _ (λ h.
      let few = leb-false 12 (levels os) h in
      record { sound = record { declarations = d; at = (body, good_p, o, omega arith) }; same = λ rest. ap (λ c. before os (symbol c ∷ rest)) (sym (eqb-true b 45 e)) }))
      (λ _. tt))

  sum_before : (os : List Open) (t : Term) (rest : List Token) → before (still_open os) (expr_tokens fields (sum_up t os) ++ rest) ≡ before os (term_tokens fields t ++ rest)
  sum_before os t rest = ap (λ x. in_body s (purposed fields p x)) (sym (sum_tokens fields os t rest))

  fine_closed : (P : State → Type 0) (os : List Open) (r : Outcome) → (os ≡ [] → Fine P r) → Fine P (only_if_closed s os r)
  fine_closed P [] r h = h refl
  fine_closed P (o ∷ os) r h = tt

  -- a token that ends the expression; `leaves` says what it does there
  pub leave_fine : (os : List Open) (t : Term) (k : Token) (r : Expr → Outcome) → Opens forms (bare s) i os → A.term_good (bare s) i t ≡ true → levels os + A.term_levels t ≤ 12
      → ((e : Expr) → A.side_good (bare s) i e ≡ true → Fine (Reaches forms (λ rest. in_body s (purposed fields p (expr_tokens fields e ++ k ∷ rest)))) (r e))
      → Fine (Reaches forms (λ rest. before os (term_tokens fields t ++ k ∷ rest))) (only_if_closed s (still_open os) (r (sum_up t os)))
  leave_fine os t k r o g l leaves = fine_closed _ (still_open os) (r (sum_up t os)) (λ q.
      let sum = sum_good forms (bare s) i os t o g l in
      let shallow : A.expr_levels (sum_up t os) ≤ 12 = omega (arith, sum.shallow) in
      fine_same forms _ _ (r (sum_up t os)) (λ rest. ap (λ z. before z (expr_tokens fields (sum_up t os) ++ k ∷ rest)) (sym q) ∙ sum_before os t (k ∷ rest))
      (leaves (sum_up t os) (and_from _ _ sum.good (le-leb (A.expr_levels (sum_up t os)) 12 shallow))))

  -- where an operator is due
  pub operator_symbol_fine : (os : List Open) (t : Term) (b : ℕ) → Opens forms (bare s) i os → A.term_good (bare s) i t ≡ true → levels os + A.term_levels t ≤ 12
      → ((e : Expr) → A.side_good (bare s) i e ≡ true → Fine (Reaches forms (λ rest. in_body s (purposed fields p (expr_tokens fields e ++ symbol b ∷ rest)))) (after_by_symbol s p e b))
      → Fine (Reaches forms (λ rest. before os (term_tokens fields t ++ symbol b ∷ rest))) (on_symbol s b (operator p os t))
  operator_symbol_fine os t b o g l leaves =
      let sum = sum_good forms (bare s) i os t o g l in
      let ended = sum_up t os in
      let named : (n : ℕ) → eqb b n ≡ true → (rest : List Token) → before os (term_tokens fields t ++ symbol n ∷ rest) ≡ before os (term_tokens fields t ++ symbol b ∷ rest) =
      λ n e rest. ap (λ c. before os (term_tokens fields t ++ symbol c ∷ rest)) (sym (eqb-true b n e)) in
      fine_cond _ (eqb b 42) _ _
      (λ e. record { sound = record { declarations = d; at = (body, good_p, (g, l, o), omega arith) }; same = named 42 e })
      (λ _. fine_cond _ (eqb b 43) _ _
      (λ e. record { sound = record { declarations = d; at = (body, good_p, (sum.good, sum.shallow, sum.around), omega (arith, sum.shallow)) }; same = λ rest. sum_before os t (symbol 43 ∷ rest) ∙ named 43 e rest })
      (λ _. fine_cond _ (eqb b 45) _ _
      (λ e. record { sound = record { declarations = d; at = (body, good_p, (sum.good, sum.shallow, sum.around), omega (arith, sum.shallow)) }; same = λ rest. sum_before os t (symbol 45 ∷ rest) ∙ named 45 e rest })
      (λ _. fine_cond _ (eqb b 41) _ _
      (λ e. fine_same forms _ _ (close_group s p ended (still_open os)) (λ rest. sum_before os t (symbol 41 ∷ rest) ∙ named 41 e rest) (group_fine (still_open os) ended sum.around sum.good sum.shallow))
      (λ _. leave_fine os t (symbol b) (λ e. after_by_symbol s p e b) o g l leaves))))
