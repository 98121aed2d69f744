-- Texts that begin alike: how two cuts of one text fit, and which token stands at a place.
use Rattle.std.proofs.Common.{◌≡◌, ℕ, ◌<◌, ◌≤◌, true, false, List, [], ◌∷◌, ◌++◌, length, sym, refl, ap, ◌∙◌, ap₂, inl, inr, arith}
use Rattle.std.proofs.lemmas.Bool.{and_parts, both_ways, not-true}
use Rattle.language.specs.Tokens.{in_run, all}
use Rattle.language.specs.Lexemes.{run_ends, Whole}

-- the longer of two fronts of one list goes on where the shorter ends
pub longer_front : (xs ys a b : List ℕ) → xs ++ a ≡ ys ++ b → length xs ≤ length ys → (zs : List ℕ) × (ys ≡ xs ++ zs) × (a ≡ zs ++ b)
longer_front [] ys a b e h = (ys, refl, e)
longer_front (x ∷ xs) [] a b e h = absurd (omega arith)
longer_front (x ∷ xs) (y ∷ ys) a b e h =
    let same : x ≡ y = cc in
    let more : xs ++ a ≡ ys ++ b = cc in
    let (zs, p, q) = longer_front xs ys a b more (omega arith) in
    (zs, ap₂ (λ c r. c ∷ r) (sym same) p, q)

ends_no_run : (x : ℕ) (r rest : List ℕ) → run_ends r ≡ true → r ≡ x ∷ rest → in_run x ≡ false
ends_no_run x r rest h e = not-true (in_run x) (rw e at h)

-- two runs that one text begins with, each as long as can be, are one
same_run : (xs ys r q : List ℕ) → all in_run xs ≡ true → all in_run ys ≡ true → run_ends r ≡ true → run_ends q ≡ true → xs ++ r ≡ ys ++ q → xs ≡ ys
same_run [] [] r q hx hy hr hq e = refl
same_run [] (y ∷ ys) r q hx hy hr hq e = absurd (both_ways (in_run y) (ends_no_run y r (ys ++ q) hr e) (and_parts _ _ hy).0)
same_run (x ∷ xs) [] r q hx hy hr hq e = absurd (both_ways (in_run x) (ends_no_run x q (xs ++ r) hq (sym e)) (and_parts _ _ hx).0)
same_run (x ∷ xs) (y ∷ ys) r q hx hy hr hq e =
    let same : x ≡ y = cc in
    let more : xs ++ r ≡ ys ++ q = cc in
    ap₂ (λ c r. c ∷ r) same (same_run xs ys r q (and_parts _ _ hx).1 (and_parts _ _ hy).1 hr hq more)

-- a run is not a single byte
run_or_single : (xs r q : List ℕ) (b : ℕ) → 0 < length xs → all in_run xs ≡ true → in_run b ≡ false → xs ++ r ≡ b ∷ q → ⊥
run_or_single [] r q b some h k e = omega arith
run_or_single (x ∷ xs) r q b some h k e = let same : x ≡ b = cc in both_ways (in_run b) k (ap in_run (sym same) ∙ (and_parts _ _ h).0)

-- the token that a text begins with is one
pub same_token : (xs ys r q : List ℕ) → Whole xs r → Whole ys q → xs ++ r ≡ ys ++ q → xs ≡ ys
same_token xs ys r q (inl a) (inl b) e = same_run xs ys r q a.unbroken b.unbroken a.longest b.longest e
same_token xs ys r q (inl a) (inr b) e = absurd (run_or_single xs r q b.byte a.some a.unbroken b.no_run (e ∙ ap (λ z. z ++ q) b.alone))
same_token xs ys r q (inr a) (inl b) e = absurd (run_or_single ys q r a.byte b.some b.unbroken a.no_run (sym e ∙ ap (λ z. z ++ r) a.alone))
same_token xs ys r q (inr a) (inr b) e =
    let f : a.byte ∷ r ≡ b.byte ∷ q = ap (λ z. z ++ r) (sym a.alone) ∙ e ∙ ap (λ z. z ++ q) b.alone in
    let same : a.byte ≡ b.byte = cc in
    a.alone ∙ ap (λ c. c ∷ []) same ∙ sym b.alone

-- whether a run ends before a token does not depend on what follows the token
ends_alike : (before token after other : List ℕ) → 0 < length token → run_ends (before ++ (token ++ after)) ≡ run_ends (before ++ (token ++ other))
ends_alike [] [] after other h = absurd (omega arith)
ends_alike [] (b ∷ bs) after other h = refl
ends_alike (b ∷ bs) token after other h = refl

pub whole_alike : (bytes before token after other : List ℕ) → 0 < length token → Whole bytes (before ++ (token ++ after)) → Whole bytes (before ++ (token ++ other))
whole_alike bytes before token after other h (inl r) = inl (record { some = r.some; unbroken = r.unbroken; longest = sym (ends_alike before token after other h) ∙ r.longest })
whole_alike bytes before token after other h (inr s) = inr s
