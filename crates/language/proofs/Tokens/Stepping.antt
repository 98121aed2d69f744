-- What the reader of tokens does on a run, on blanks and on another byte.
use Rattle.std.proofs.Common.{◌≡◌, ℕ, ◌+◌, ◌-◌, ◌<◌, Bool, true, false, cond, eqb, List, [], ◌∷◌, ◌++◌, length, sym, refl, ap, ◌∙◌, inl, inr, ⊎_elim, append_assoc, append-nil, arith}
use Rattle.std.proofs.lemmas.Bool.{and_parts, eqb-true, or_cases, not-true}
use Rattle.language.specs.Tokens.{in_run, blank, all, run_token, mark_token, flush, tokens_from}
use Rattle.language.specs.Lexemes.{run_ends, Whole, token_of}

pub blank_no_run : (b : ℕ) → blank b ≡ true → in_run b ≡ false
blank_no_run b h = ⊎_elim (λ e. ap in_run (eqb-true b 32 e)) (λ e. ap in_run (eqb-true b 10 e)) (or_cases (eqb b 32) (eqb b 10) h)

module _ (at : ℕ) (run : List ℕ) (b : ℕ) (bs : List ℕ) where
  step_run : in_run b ≡ true → tokens_from at run (b ∷ bs) ≡ tokens_from (at + 1) (run ++ b ∷ []) bs
  step_run h = rw (h, tokens_from)

  step_blank : blank b ≡ true → tokens_from at run (b ∷ bs) ≡ flush at run (tokens_from (at + 1) [] bs)
  step_blank h = rw (blank_no_run b h, tokens_from) (rw h)

  step_mark : in_run b ≡ false → blank b ≡ false → tokens_from at run (b ∷ bs) ≡ flush at run (record { place = at; token = mark_token b } ∷ tokens_from (at + 1) [] bs)
  step_mark h k = rw (h, tokens_from) (rw k)

-- a run is taken in whole
pub over_run : (bs : List ℕ) (at : ℕ) (run rest : List ℕ) → all in_run bs ≡ true → tokens_from at run (bs ++ rest) ≡ tokens_from (at + length bs) (run ++ bs) rest
over_run [] at run rest h =
    let e : at ≡ at + length {A = ℕ} [] = omega arith in
    ap (λ n. tokens_from n run rest) e ∙ ap (λ r. tokens_from (at + length {A = ℕ} []) r rest) (sym (append-nil run))
over_run (b ∷ bs) at run rest h =
    let (hb, hs) = and_parts (in_run b) (all in_run bs) h in
    let e : at + 1 + length bs ≡ at + length (b ∷ bs) = omega arith in
    step_run at run b (bs ++ rest) hb
    ∙ over_run bs (at + 1) (run ++ b ∷ []) rest hs
    ∙ ap (λ n. tokens_from n (run ++ b ∷ [] ++ bs) rest) e
    ∙ ap (λ r. tokens_from (at + length (b ∷ bs)) r rest) (append_assoc run (b ∷ []) bs)

-- where a run ends it is a token
pub run_over : (at : ℕ) (run rest : List ℕ) → run_ends rest ≡ true → tokens_from at run rest ≡ flush at run (tokens_from at [] rest)
run_over at run [] h = refl
run_over at run (b ∷ bs) h = go (blank b) refl
  where
    go : (v : Bool) → blank b ≡ v → tokens_from at run (b ∷ bs) ≡ flush at run (tokens_from at [] (b ∷ bs))
    go true e = step_blank at run b bs e ∙ ap (flush at run) (sym (step_blank at [] b bs e))
    go false e = step_mark at run b bs (not-true (in_run b) h) e ∙ ap (flush at run) (sym (step_mark at [] b bs (not-true (in_run b) h) e))

-- blanks are passed over
pub over_blanks : (gap : List ℕ) (at : ℕ) (rest : List ℕ) → all blank gap ≡ true → tokens_from at [] (gap ++ rest) ≡ tokens_from (at + length gap) [] rest
over_blanks [] at rest h = let e : at ≡ at + length {A = ℕ} [] = omega arith in ap (λ n. tokens_from n [] rest) e
over_blanks (b ∷ bs) at rest h =
    let (hb, hs) = and_parts (blank b) (all blank bs) h in
    let e : at + 1 + length bs ≡ at + length (b ∷ bs) = omega arith in
    step_blank at [] b (bs ++ rest) hb ∙ over_blanks bs (at + 1) rest hs ∙ ap (λ n. tokens_from n [] rest) e

-- the bytes of one token are that token
pub one_token : (bytes rest : List ℕ) (at : ℕ) → Whole bytes rest → tokens_from at [] (bytes ++ rest) ≡ record { place = at; token = token_of bytes } ∷ tokens_from (at + length bytes) [] rest
one_token [] rest at (inl r) = let h = r.some in absurd (omega arith)
one_token (b ∷ bs) rest at (inl r) =
    let n = length (b ∷ bs) in
    let e : at + length (b ∷ bs) - length (b ∷ bs) ≡ at = omega arith in
    over_run (b ∷ bs) at [] rest r.unbroken
    ∙ run_over (at + length (b ∷ bs)) (b ∷ bs) rest r.longest
    ∙ ap (λ p. record { place = p; token = run_token (b ∷ bs) } ∷ tokens_from (at + length (b ∷ bs)) [] rest) e
    ∙ ap (λ v. record { place = at; token = cond v (run_token (b ∷ bs)) (mark_token b) } ∷ tokens_from (at + length (b ∷ bs)) [] rest) (sym (and_parts _ _ r.unbroken).0)
one_token bytes rest at (inr s) =
    rw s.alone (step_mark at [] s.byte rest s.no_run s.no_blank
    ∙ ap (λ v. record { place = at; token = cond v (run_token (s.byte ∷ [])) (mark_token s.byte) } ∷ tokens_from (at + 1) [] rest) (sym s.no_run))

-- blanks and then the bytes of one token
pub next_token : (gap bytes rest : List ℕ) (at : ℕ) → all blank gap ≡ true → Whole bytes rest
    → tokens_from at [] (gap ++ (bytes ++ rest)) ≡ record { place = at + length gap; token = token_of bytes } ∷ tokens_from (at + length gap + length bytes) [] rest
next_token gap bytes rest at blanks w = over_blanks gap at (bytes ++ rest) blanks ∙ one_token bytes rest (at + length gap) w

pub some_bytes : (bytes rest : List ℕ) → Whole bytes rest → 0 < length bytes
some_bytes bytes rest (inl r) = r.some
some_bytes bytes rest (inr s) = rw s.alone (omega arith)
