-- Every text is blanks and lexemes, and its tokens are those lexemes.
use Rattle.std.proofs.Common.{◌≡◌, ℕ, ◌+◌, Bool, true, false, not, List, [], ◌∷◌, ◌++◌, map, length, take, drop, filter, sym, refl, ap, ◌∙◌, subst, ap₂, inl, inr, append_assoc, append-nil, zero-add, arith, length-append}
use Rattle.std.proofs.Math.Seq.{take-append_seam, drop-append_seam}
use Rattle.std.specs.List.{AllByRecursion}
use Rattle.std.proofs.lemmas.List.Elements.{filter-append}
use Rattle.std.proofs.lemmas.Bool.{and_parts, and_from, not_from_false, both_ways}
use Rattle.language.specs.Tokens.{Token, Placed, in_run, blank, all, tokens_from}
use Rattle.language.specs.Lexemes.{Lexeme, Whole, Lexed, token_at, end_at, joined, TokensExactly}
use Rattle.language.proofs.Tokens.Stepping.{blank_no_run, over_blanks, next_token}

abbrev pub kinds : List Placed → List Token
kinds ps = map (λ p. p.token) ps

-- ---- the tokens of a text that is cut into lexemes

pub lexed_tokens : (ls : List Lexeme) (at : ℕ) (text : List ℕ) → Lexed at text ls → tokens_from at [] text ≡ map token_at ls ++ end_at (at + length text) ∷ []
lexed_tokens [] at text h = ap (tokens_from at []) (sym (append-nil text)) ∙ over_blanks text at [] h
lexed_tokens (l ∷ ls) at text (gap, rest, e, blanks, p, w, more) =
    let n : at + length gap + length l.bytes + length rest ≡ at + length text = omega (arith, simp length-append at (ap length e)) in
    ap (tokens_from at []) e
    ∙ next_token gap l.bytes rest at blanks w
    ∙ ap (λ x. record { place = x; token = (token_at l).token } ∷ tokens_from (at + length gap + length l.bytes) [] rest) (sym p)
    ∙ ap (λ x. token_at l ∷ x) (lexed_tokens ls (at + length gap + length l.bytes) rest more)
    ∙ ap (λ x. token_at l ∷ map token_at ls ++ end_at x ∷ []) n

-- ---- every text can be cut so

Cuts : ℕ → List ℕ → Type 0
Cuts at text = (ls : List Lexeme) × Lexed at text ls

-- one more blank before
before_blank : (b : ℕ) (bs : List ℕ) (at : ℕ) (ls : List Lexeme) → blank b ≡ true → Lexed (at + 1) bs ls → Lexed at (b ∷ bs) ls
before_blank b bs at [] h k = and_from (blank b) (all blank bs) h k
before_blank b bs at (l ∷ ls) h (gap, rest, e, blanks, p, w, more) =
    let n : at + 1 + length gap ≡ at + length (b ∷ gap) = omega arith in (
      b ∷ gap,
      rest,
      ap (λ x. b ∷ x) e,
      and_from (blank b) (all blank gap) h blanks,
      p ∙ n,
      w,
      subst (λ m. Lexed (m + length l.bytes) rest ls) n more,
    )

-- one more lexeme before
before_lexeme : (bytes rest : List ℕ) (at : ℕ) → Whole bytes rest → Cuts (at + length bytes) rest → Cuts at (bytes ++ rest)
unfolding Cuts
before_lexeme bytes rest at w (ls, more) =
    let n : at + length bytes ≡ at + 0 + length bytes = omega arith in
    let z : at ≡ at + 0 = omega arith in
    (record { place = at; bytes = bytes } ∷ ls, ([], rest, refl, refl, z, w, subst (λ m. Lexed m rest ls) n more))

-- a run that is being read, and the text after it
cut_from : (text : List ℕ) (at : ℕ) (run : List ℕ) → all in_run run ≡ true → Cuts at (run ++ text)
unfolding Cuts
cut_from [] at [] h = ([], refl)
cut_from [] at (r ∷ rs) h = before_lexeme (r ∷ rs) [] at (inl (record { some = omega arith; unbroken = h; longest = refl })) ([], refl)
cut_from (b ∷ bs) at run h = go (in_run b) refl (blank b) refl run h (cut_from bs)
  where
    Later : Type 0
    Later = (at : ℕ) (run : List ℕ) → all in_run run ≡ true → Cuts at (run ++ bs)

    more_run : (run : List ℕ) → all in_run run ≡ true → in_run b ≡ true → all in_run (run ++ b ∷ []) ≡ true
    more_run [] h k = and_from (in_run b) true k refl
    more_run (r ∷ rs) h k = let (x, y) = and_parts _ _ h in and_from (in_run r) (all in_run (rs ++ b ∷ [])) x (more_run rs y k)

    -- from the byte on
    here : (at : ℕ) (v : Bool) → in_run b ≡ false → blank b ≡ v → Later → Cuts at (b ∷ bs)
    here at true i k later = let (ls, more) = later (at + 1) [] refl in (ls, before_blank b bs at ls k more)
    here at false i k later = before_lexeme (b ∷ []) bs at (inr (record { byte = b; alone = refl; no_run = i; no_blank = k })) (later (at + 1) [] refl)

    go : (i : Bool) → in_run b ≡ i → (v : Bool) → blank b ≡ v → (run : List ℕ) → all in_run run ≡ true → Later → Cuts at (run ++ b ∷ bs)
    go true i v k run h later = rw append_assoc at (later at (run ++ b ∷ []) (more_run run h i))
    go false i v k [] h later = here at v i k later
    go false i v k (r ∷ rs) h later =
        before_lexeme (r ∷ rs) (b ∷ bs) at (inl (record { some = omega arith; unbroken = h; longest = not_from_false (in_run b) i })) (here (at + length (r ∷ rs)) v i k later)

-- ---- lexemes stand in the text at their places

-- `before` is what the text has before the place
standing : (ls : List Lexeme) (before text : List ℕ) → Lexed (length before) text ls → AllByRecursion (λ l. take (length l.bytes) (drop l.place (before ++ text)) ≡ l.bytes) ls
standing [] before text h = tt
standing (l ∷ ls) before text (gap, rest, e, blanks, p, w, more) =
    let n : length before + length gap + length l.bytes ≡ length (before ++ gap ++ l.bytes) = simp length-append in
    let whole : before ++ text ≡ before ++ gap ++ (l.bytes ++ rest) = ap (λ x. before ++ x) e ∙ sym (append_assoc before gap (l.bytes ++ rest)) in
    let place : l.place ≡ length (before ++ gap) = p ∙ sym (length-append before gap) in
    let here : take (length l.bytes) (drop l.place (before ++ text)) ≡ l.bytes =
    ap₂ (λ k x. take (length l.bytes) (drop k x)) place whole
    ∙ ap (take (length l.bytes)) (drop-append_seam (before ++ gap) (l.bytes ++ rest))
    ∙ take-append_seam l.bytes rest in
    let later = standing ls (before ++ gap ++ l.bytes) rest (subst (λ m. Lexed m rest ls) n more) in
    let same : before ++ gap ++ l.bytes ++ rest ≡ before ++ text = append_assoc (before ++ gap) l.bytes rest ∙ sym whole in
    (here, subst (λ x. AllByRecursion (λ l. take (length l.bytes) (drop l.place x) ≡ l.bytes) ls) same later)

-- ---- and are its bytes that are not blank

abbrev solid : ℕ → Bool
solid b = not (blank b)

no_blanks : (gap : List ℕ) → all blank gap ≡ true → filter solid gap ≡ []
no_blanks [] h = refl
no_blanks (b ∷ bs) h = let (x, y) = and_parts (blank b) (all blank bs) h in rw x (no_blanks bs y)

run_solid : (b : ℕ) → in_run b ≡ true → blank b ≡ false
run_solid b h = go (blank b) refl
  where
    go : (v : Bool) → blank b ≡ v → blank b ≡ false
    go false e = e
    go true e = absurd (both_ways (in_run b) (blank_no_run b e) h)

all_kept : (bytes : List ℕ) → all in_run bytes ≡ true → filter solid bytes ≡ bytes
all_kept [] h = refl
all_kept (b ∷ bs) h = let (x, y) = and_parts (in_run b) (all in_run bs) h in rw (run_solid b x) (ap (λ r. b ∷ r) (all_kept bs y))

whole_kept : (bytes rest : List ℕ) → Whole bytes rest → filter solid bytes ≡ bytes
whole_kept bytes rest (inl r) = all_kept bytes r.unbroken
whole_kept bytes rest (inr s) = rw s.alone (rw s.no_blank)

non_blank : (ls : List Lexeme) (at : ℕ) (text : List ℕ) → Lexed at text ls → joined ls ≡ filter solid text
non_blank [] at text h = sym (no_blanks text h)
non_blank (l ∷ ls) at text (gap, rest, e, blanks, p, w, more) =
    ap₂ (λ x y. x ++ y) (sym (whole_kept l.bytes rest w)) (non_blank ls (at + length gap + length l.bytes) rest more)
    ∙ sym (filter-append solid l.bytes rest)
    ∙ ap (λ x. x ++ filter solid (l.bytes ++ rest)) (sym (no_blanks gap blanks))
    ∙ sym (filter-append solid gap (l.bytes ++ rest))
    ∙ ap (filter solid) (sym e)

pub lexed : (text : List ℕ) → (ls : List Lexeme) × Lexed 0 text ls
unfolding Cuts
lexed text = cut_from text 0 [] refl

pub tokens_exactly : TokensExactly
tokens_exactly = record {
  lexed = lexed;
  tokens_are = λ text ls h. lexed_tokens ls 0 text h ∙ ap (λ n. map token_at ls ++ end_at n ∷ []) (zero-add (length text));
  in_place = λ text ls h. standing ls [] text h;
  all_bytes = λ text ls h. non_blank ls 0 text h;
}
