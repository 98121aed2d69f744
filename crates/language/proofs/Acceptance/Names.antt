-- Fields and their names: which field a name finds, and when all names differ.
use Rattle.std.proofs.Common.{◌≡◌, ℕ, zero, suc, ◌+◌, ◌<◌, Bool, true, false, cond, not, eqb, List, [], ◌∷◌, ◌++◌, length, Some, None, sym, refl, ap, ◌∙◌, ap₂, le_of_suc-le-suc, not-suc-le-zero, add-zero, arith}
use Rattle.std.proofs.lemmas.Bool.{and_parts, and_from, not-true, not_from_false, eqb-true, eq-eqb}
use Rattle.std.proofs.lemmas.List.Recursion.{and_at, and_push}
use Rattle.language.specs.Tokens.{all}
use Rattle.language.specs.Words.{same_bytes}
use Rattle.language.specs.Syntax.{Field, no_field, name_of}
use Rattle.language.specs.Reading.{found_from}
use Rattle.language.specs.Admitted.{distinct}

pub same_bytes_refl : (x : List ℕ) → same_bytes x x ≡ true
same_bytes_refl [] = refl
same_bytes_refl (x ∷ xs) = and_from (eqb x x) (same_bytes xs xs) (eq-eqb x x refl) (same_bytes_refl xs)

pub same_bytes_true : (x y : List ℕ) → same_bytes x y ≡ true → x ≡ y
same_bytes_true [] [] h = refl
same_bytes_true [] (y ∷ ys) h = cc
same_bytes_true (x ∷ xs) [] h = cc
same_bytes_true (x ∷ xs) (y ∷ ys) h =
    let (e, es) = and_parts _ _ h in
    ap₂ (λ a r. a ∷ r) (eqb-true x y e) (same_bytes_true xs ys es)

-- two names that differ one way round differ the other way round
pub same_bytes_flip : (x y : List ℕ) → same_bytes x y ≡ false → same_bytes y x ≡ false
same_bytes_flip x y h = go (same_bytes y x) refl
  where
    go : (b : Bool) → same_bytes y x ≡ b → same_bytes y x ≡ false
    go false e = e
    go true e = cc (ap (same_bytes x) (same_bytes_true y x e), same_bytes_refl x)

module _ (p : Field → Bool) where
  pub all_parts : (xs ys : List Field) → all p (xs ++ ys) ≡ true → (all p xs ≡ true) × (all p ys ≡ true)
  all_parts [] ys h = (refl, h)
  all_parts (x ∷ xs) ys h =
      let (px, ps) = and_parts _ _ h in
      let (l, r) = all_parts xs ys ps in
      (and_from (p x) (all p xs) px l, r)

  pub all_append : (xs ys : List Field) → all p xs ≡ true → all p ys ≡ true → all p (xs ++ ys) ≡ true
  all_append [] ys h k = k
  all_append (x ∷ xs) ys h k =
      let (px, ps) = and_parts _ _ h in
      and_from (p x) (all p (xs ++ ys)) px (all_append xs ys ps k)

-- where all names differ, each field is found by its name
pub found_at : (i : ℕ) (fs : List Field) (k : ℕ) → distinct fs ≡ true → k < length fs → found_from i (name_of fs k) fs ≡ Some (i + k)
found_at i [] k h l = absurd (not-suc-le-zero l)
found_at i (x ∷ xs) zero h l = rw (same_bytes_refl x.name) (ap Some (sym (add-zero i)))
found_at i (x ∷ xs) (suc k) h l =
    let (h₁, h₂) = and_parts _ _ h in
    let test : Field → Bool = λ g. not (same_bytes x.name g.name) in
    let other = not-true (same_bytes x.name (name_of xs k)) (and_at (all test) test refl (λ _ _. refl) xs k no_field (le_of_suc-le-suc l) h₁) in
    rw (same_bytes_flip x.name (name_of xs k) other) (found_at (i + 1) xs k h₂ (le_of_suc-le-suc l) ∙ ap Some (omega arith))

-- a field's name is not found among those before it
pub found_before : (i : ℕ) (xs : List Field) (f : Field) (ys : List Field) → distinct (xs ++ f ∷ ys) ≡ true → found_from i f.name xs ≡ None
found_before i [] f ys h = refl
found_before i (x ∷ xs) f ys h =
    let (h₁, h₂) = and_parts _ _ h in
    let h₃ = (all_parts (λ g. not (same_bytes x.name g.name)) xs (f ∷ ys) h₁).1 in
    let other = not-true (same_bytes x.name f.name) (and_parts _ _ h₃).0 in
    rw (same_bytes_flip x.name f.name other) (found_before (i + 1) xs f ys h₂)

-- a name that is found is that field's
pub found_is : (i : ℕ) (w : List ℕ) (fs : List Field) (k : ℕ) → found_from i w fs ≡ Some k → (j : ℕ) × (k ≡ i + j) × (j < length fs) × (w ≡ name_of fs j)
found_is i w [] k h = cc
found_is i w (f ∷ fs) k h = go (same_bytes w f.name) refl h (found_is (i + 1) w fs k)
  where
    Found : Type 0
    Found = (j : ℕ) × (k ≡ i + j) × (j < length (f ∷ fs)) × (w ≡ name_of (f ∷ fs) j)

    go : (b : Bool) → same_bytes w f.name ≡ b → cond b (Some i) (found_from (i + 1) w fs) ≡ Some k
        → (found_from (i + 1) w fs ≡ Some k → (j : ℕ) × (k ≡ i + 1 + j) × (j < length fs) × (w ≡ name_of fs j)) → Found
    go true e q ih = let same : i ≡ k = cc in (0, omega arith, omega arith, same_bytes_true w f.name e)
    go false e q ih = let (j, a, b, c) = ih q in (suc j, omega arith, omega arith, c)

pub distinct_push : (i : ℕ) (fs : List Field) (f : Field) → distinct fs ≡ true → found_from i f.name fs ≡ None → distinct (fs ++ f ∷ []) ≡ true
distinct_push i [] f h k = refl
distinct_push i (x ∷ xs) f h k = go (same_bytes f.name x.name) refl k (distinct_push (i + 1) xs f h₁.1)
  where
    test : Field → Bool
    test g = not (same_bytes x.name g.name)

    h₁ : (all test xs ≡ true) × (distinct xs ≡ true)
    h₁ = and_parts _ _ h

    go : (b : Bool) → same_bytes f.name x.name ≡ b → cond b (Some i) (found_from (i + 1) f.name xs) ≡ None
        → (found_from (i + 1) f.name xs ≡ None → distinct (xs ++ f ∷ []) ≡ true) → distinct (x ∷ xs ++ f ∷ []) ≡ true
    go true e q ih = cc
    go false e q ih =
        and_from (all test (xs ++ f ∷ [])) (distinct (xs ++ f ∷ []))
        (and_push (all test) test refl (λ _ _. refl) xs f ∙ and_from _ _ h₁.0 (not_from_false (same_bytes x.name f.name) (same_bytes_flip f.name x.name e)))
        (ih q)

pub distinct_left : (xs ys : List Field) → distinct (xs ++ ys) ≡ true → distinct xs ≡ true
distinct_left [] ys h = refl
distinct_left (x ∷ xs) ys h =
    let test : Field → Bool = λ g. not (same_bytes x.name g.name) in
    let (h₁, h₂) = and_parts _ _ h in
    and_from (all test xs) (distinct xs) (all_parts test xs ys h₁).0 (distinct_left xs ys h₂)
