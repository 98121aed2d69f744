-- A token that is known by its kind: which word a reserved word is, which symbol a relation.
use Rattle.std.proofs.Common.{◌≡◌, ℕ, true, not, eqb, List, [], ◌∷◌, is_some, Some, None, Option, sym, refl, ap}
use Rattle.std.proofs.lemmas.Bool.{eqb-true, cond_both}
use Rattle.language.specs.declared.Relation.{Relation}
use Rattle.language.specs.Tokens.{symbol}
use Rattle.language.specs.Words.{Reserved, spelling, one_of, all_reserved, reserved, is_name, same_bytes}
use Rattle.language.specs.Syntax.{relation_token}
use Rattle.language.specs.Reading.{relation_of}
use Rattle.language.proofs.Acceptance.Names.{same_bytes_true}

abbrev pub Spelled : List ℕ → Option Reserved → Type 0
Spelled w None = Unit {0}
Spelled w (Some r) = w ≡ spelling r

spelled_of : (rs : List Reserved) (w : List ℕ) → Spelled w (one_of rs w)
spelled_of [] w = tt
spelled_of (r ∷ rs) w = cond_both (same_bytes w (spelling r)) (Some r) (one_of rs w) (Spelled w) (λ e. same_bytes_true w (spelling r) e) (λ _. spelled_of rs w)

pub spelled : (w : List ℕ) → Spelled w (reserved w)
spelled w = spelled_of all_reserved w

-- a name is no reserved word
pub not_reserved : (w : List ℕ) → is_name w ≡ true → reserved w ≡ None
not_reserved w h = go (reserved w) h
  where
    go : (r : Option Reserved) → not (is_some r) ≡ true → r ≡ None
    go None h = refl
    go (Some r) h = cc

abbrev pub Compares : ℕ → Option Relation → Type 0
Compares b None = Unit {0}
Compares b (Some o) = relation_token o ≡ symbol b

pub compares : (b : ℕ) → Compares b (relation_of b)
compares b =
    cond_both (eqb b 60) _ _ (Compares b) (λ e. ap symbol (sym (eqb-true b 60 e))) (λ _.
    cond_both (eqb b 61) _ _ (Compares b) (λ e. ap symbol (sym (eqb-true b 61 e))) (λ _.
    cond_both (eqb b 62) _ _ (Compares b) (λ e. ap symbol (sym (eqb-true b 62 e))) (λ _. tt)))
