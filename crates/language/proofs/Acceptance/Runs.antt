-- A reader's run over a list of tokens, and what it does on the tokens of an expression.
use Rattle.std.proofs.Common.{◌≡◌, ℕ, ◌+◌, ◌<◌, ◌≤◌, Bool, true, false, not, ◌&&◌, ◌||◌, ltb, List, [], ◌∷◌, ◌++◌, length, Some, Ok, Err, sym, refl, ap, ◌∙◌, append_assoc, arith}
use Rattle.std.proofs.lemmas.Bool.{and_parts, leb-true, lt-leb, le-ltb}
use Rattle.bank.specs.Model.{Forms}
use Rattle.language.specs.Tokens.{Token, symbol}
use Rattle.language.specs.Words.{is_name}
use Rattle.language.specs.Syntax.{Sign, sign_token, adds, takes, Field, Expr, Term, Factor, only, sum, just, times, read, constant, group, minus, name_of, expr_tokens, term_tokens, factor_tokens}
use Rattle.language.specs.Layout.{factor_places, term_places}
use Rattle.language.specs.Reading.{State, Outcome, Purpose, Open, sum_of, product_of, opened, negated, Phase, operand, operator, on_token, to, complete, sheet_of, inside_each, found, found_from, levels, outside_each, operand_word, deeper, on_symbol}
use Rattle.language.specs.Admitted as A

-- goes on from an outcome, unless it is a refusal
abbrev pub follow : Outcome → (State → Outcome) → Outcome
follow (Err c) k = Err c
follow (Ok u) k = k u

module _ (forms : Forms) where
  -- the state after a list of tokens, or the first refusal
  abbrev pub runs : State → List Token → Outcome
  runs s [] = Ok s
  runs s (t ∷ ts) = follow (on_token s forms t) (λ u. runs u ts)

-- every field is found by its name
abbrev pub Known : List Field → Type 0
Known fields = (f : ℕ) → ltb f (length fields) ≡ true → (is_name (name_of fields f) ≡ true) × (found_from 0 (name_of fields f) fields ≡ Some f)

-- what may be open where a term begins, and where an expression does
abbrev pub plain : List Open → Bool
plain [] = true
plain (sum_of e g ∷ os) = true
plain (product_of t ∷ os) = false
plain (opened ∷ os) = true
plain (negated ∷ os) = false

abbrev pub outer : List Open → Bool
outer [] = true
outer (sum_of e g ∷ os) = false
outer (product_of t ∷ os) = false
outer (opened ∷ os) = true
outer (negated ∷ os) = false

outer_plain : (os : List Open) → outer os ≡ true → plain os ≡ true
outer_plain [] h = refl
outer_plain (sum_of e g ∷ os) h = refl
outer_plain (product_of t ∷ os) h = h
outer_plain (opened ∷ os) h = refl
outer_plain (negated ∷ os) h = h

pub not_outside : (a b i : Bool) → (a && (i || not b)) ≡ true → (b && not i) ≡ false
not_outside a false i h = refl
not_outside a true true h = refl
not_outside true true false h = sym h
not_outside false true false h = sym h

-- the phase after the last term of an expression
abbrev pub ending : Purpose → List Open → Expr → Phase
ending p os (only t) = operator p os t
ending p os (sum e g t) = operator p (sum_of e g ∷ os) t

module _ (forms : Forms) (s : State) where
  abbrev at : Phase → State
  at p = to s p

  operand_read : (p : Purpose) (os : List Open) (w : List ℕ) (f : ℕ) → is_name w ≡ true → found s w ≡ Some f → outside_each s f ≡ false → operand_word s p os w ≡ complete s p (read f) os
  operand_read p os w f n g t = rw (n, g, t)

  complete_plain : (p : Purpose) (f : Factor) (os : List Open) → plain os ≡ true → complete s p f os ≡ Ok (at (operator p os (just f)))
  complete_plain p f [] h = refl
  complete_plain p f (sum_of e g ∷ os) h = refl
  complete_plain p f (product_of t ∷ os) h = cc
  complete_plain p f (opened ∷ os) h = refl
  complete_plain p f (negated ∷ os) h = cc

  goes_deeper : (os : List Open) (r : Outcome) → levels os < 12 → deeper s os r ≡ r
  goes_deeper os r h = rw (lt-leb 12 (levels os) h)

  multiplies : (p : Purpose) (t : Term) (f : Factor) (os : List Open) → term_places (sheet_of s) t + factor_places (sheet_of s) f ≤ 12
      → complete s p f (product_of t ∷ os) ≡ Ok (at (operator p os (times t f)))
  multiplies p t f os h = rw (le-ltb 12 (term_places (sheet_of s) t + factor_places (sheet_of s) f) h)

  -- a sign goes on with the sum so far
  signs_more : (g : Sign) (p : Purpose) (os : List Open) (e : Expr) → outer os ≡ true → on_token (at (ending p os e)) forms (sign_token g) ≡ Ok (at (operand p (sum_of e g ∷ os)))
  signs_more adds p [] (only t) h = refl
  signs_more takes p [] (only t) h = refl
  signs_more adds p (opened ∷ os) (only t) h = refl
  signs_more takes p (opened ∷ os) (only t) h = refl
  signs_more g p (sum_of d i ∷ os) (only t) h = cc
  signs_more g p (product_of u ∷ os) (only t) h = cc
  signs_more g p (negated ∷ os) (only t) h = cc
  signs_more adds p os (sum e i t) h = refl
  signs_more takes p os (sum e i t) h = refl

  closes : (p : Purpose) (os : List Open) (e : Expr) → on_symbol s 41 (ending p (opened ∷ os) e) ≡ complete s p (group e) os
  closes p os (only t) = refl
  closes p os (sum e g t) = refl

module _ (forms : Forms) (s : State) (known : Known (s.head ++ s.row_fields)) where
  abbrev fields : List Field
  fields = s.head ++ s.row_fields

  abbrev in_each : Bool
  in_each = inside_each s.nests

  mutual
    pub expr_runs : (e : Expr) (p : Purpose) (os : List Open) (rest : List Token) → outer os ≡ true → A.expr_good (sheet_of s) in_each e ≡ true → levels os + A.expr_levels e ≤ 12
        → runs forms (at forms s (operand p os)) (expr_tokens fields e ++ rest) ≡ runs forms (at forms s (ending p os e)) rest
    expr_runs (only t) p os rest o g l = term_runs t p os rest (outer_plain os o) g l
    expr_runs (sum e i t) p os rest o g l =
        let (ge, gt) = and_parts _ _ g in
        ap (runs forms (at forms s (operand p os))) (append_assoc (expr_tokens fields e) (sign_token i ∷ term_tokens fields t) rest)
        ∙ expr_runs e p os (sign_token i ∷ term_tokens fields t ++ rest) o ge (omega arith)
        ∙ ap (λ r. follow r (λ u. runs forms u (term_tokens fields t ++ rest))) (signs_more forms s i p os e o)
        ∙ term_runs t p (sum_of e i ∷ os) rest refl gt (omega arith)

    term_runs : (t : Term) (p : Purpose) (os : List Open) (rest : List Token) → plain os ≡ true → A.term_good (sheet_of s) in_each t ≡ true → levels os + A.term_levels t ≤ 12
        → runs forms (at forms s (operand p os)) (term_tokens fields t ++ rest) ≡ runs forms (at forms s (operator p os t)) rest
    term_runs (just f) p os rest o g l = factor_runs f p os rest g l ∙ ap (λ r. follow r (λ u. runs forms u rest)) (complete_plain forms s p f os o)
    term_runs (times t f) p os rest o g l =
        let sheet = sheet_of s in
        let (gtf, gp) = and_parts _ _ g in
        let (gt, gf) = and_parts _ _ gtf in
        ap (runs forms (at forms s (operand p os))) (append_assoc (term_tokens fields t) (symbol 42 ∷ factor_tokens fields f) rest)
        ∙ term_runs t p os (symbol 42 ∷ factor_tokens fields f ++ rest) o gt (omega arith)
        ∙ factor_runs f p (product_of t ∷ os) rest gf (omega arith)
        ∙ ap (λ r. follow r (λ u. runs forms u rest)) (multiplies forms s p t f os (leb-true _ _ gp))

    factor_runs : (f : Factor) (p : Purpose) (os : List Open) (rest : List Token) → A.factor_good (sheet_of s) in_each f ≡ true → levels os + A.factor_levels f ≤ 12
        → runs forms (at forms s (operand p os)) (factor_tokens fields f ++ rest) ≡ follow (complete s p f os) (λ u. runs forms u rest)
    factor_runs (read f) p os rest g l =
        let k = known f (and_parts _ _ g).0 in
        ap (λ r. follow r (λ u. runs forms u rest))
        (operand_read forms s p os (name_of fields f) f k.0 k.1 (not_outside (ltb f (length fields)) (A.is_row_field (sheet_of s) f) in_each g))
    factor_runs (constant n q) p os rest g l = refl
    factor_runs (group e) p os rest g l =
        ap (λ r. follow r (λ u. runs forms u (expr_tokens fields e ++ symbol 41 ∷ [] ++ rest))) (goes_deeper forms s os (Ok (at forms s (operand p (opened ∷ os)))) (omega arith))
        ∙ ap (runs forms (at forms s (operand p (opened ∷ os)))) (append_assoc (expr_tokens fields e) (symbol 41 ∷ []) rest)
        ∙ expr_runs e p (opened ∷ os) (symbol 41 ∷ rest) refl g (omega arith)
        ∙ ap (λ r. follow r (λ u. runs forms u rest)) (closes forms s p os e)
    factor_runs (minus f) p os rest g l =
        ap (λ r. follow r (λ u. runs forms u (factor_tokens fields f ++ rest))) (goes_deeper forms s os (Ok (at forms s (operand p (negated ∷ os)))) (omega arith))
        ∙ factor_runs f p (negated ∷ os) rest g (omega arith)
