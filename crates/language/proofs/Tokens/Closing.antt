-- `ends` is the last token of a text and no other; and a text has no more tokens than bytes, but for the end.
use Rattle.std.proofs.Common.{◌≡◌, ℕ, ◌+◌, ◌≤◌, Bool, true, false, cond, List, [], ◌∷◌, ◌++◌, map, length, refl, ap, ◌∙◌, arith, length-append}
use Rattle.std.proofs.lemmas.List.{length-map}
use Rattle.std.proofs.lemmas.Bool.{cond_both}
use Rattle.language.specs.Tokens.{Token, word, symbol, none, in_run, mark, is_word, is_number, number_of, run_token, mark_token, tokens_from, tokens}
use Rattle.language.specs.Lexemes.{Lexeme, Lexed, token_of, token_at, end_at}
use Rattle.language.specs.Reading.{is_last}
use Rattle.language.proofs.Tokens.Lexing.{kinds, lexed, lexed_tokens, tokens_exactly}
use Rattle.language.proofs.Tokens.Stepping.{some_bytes}

abbrev pub is_empty : List Token → Bool
is_empty [] = true
is_empty (t ∷ ts) = false

-- `ends` stands last and nowhere else
abbrev pub closed : List Token → Bool
closed [] = false
closed (t ∷ ts) = cond (is_last t) (is_empty ts) (closed ts)

Inner : Token → Type 0
Inner t = is_last t ≡ false

not_last : (bytes : List ℕ) → is_last (token_of bytes) ≡ false
unfolding Inner
not_last [] = refl
not_last (b ∷ bs) =
    cond_both (in_run b) (run_token (b ∷ bs)) (mark_token b) Inner
    (λ _. cond_both (is_word (b ∷ bs)) (word (b ∷ bs)) _ Inner (λ _. refl) (λ _. cond_both (is_number (b ∷ bs)) (number_of (b ∷ bs)) none Inner (λ _. refl) (λ _. refl)))
    (λ _. cond_both (mark b) (symbol b) none Inner (λ _. refl) (λ _. refl))

lexemes_closed : (ls : List Lexeme) (n : ℕ) → closed (kinds (map token_at ls ++ end_at n ∷ [])) ≡ true
lexemes_closed [] n = refl
lexemes_closed (l ∷ ls) n = rw (not_last l.bytes) (lexemes_closed ls n)

pub closed_lexed : (ls : List Lexeme) (at : ℕ) (text : List ℕ) → Lexed at text ls → closed (kinds (tokens_from at [] text)) ≡ true
closed_lexed ls at text h = rw (lexed_tokens ls at text h) (lexemes_closed ls (at + length text))

pub closed_tokens : (text : List ℕ) → closed (kinds (tokens text)) ≡ true
closed_tokens text = closed_lexed (lexed text).0 0 text (lexed text).1

lexemes_few : (ls : List Lexeme) (at : ℕ) (text : List ℕ) → Lexed at text ls → length ls ≤ length text
lexemes_few [] at text h = omega arith
lexemes_few (l ∷ ls) at text (gap, rest, e, blanks, p, w, more) =
    let n : length text ≡ length gap + (length l.bytes + length rest) = ap length e ∙ simp length-append in
    omega (arith, some_bytes l.bytes rest w, lexemes_few ls (at + length gap + length l.bytes) rest more)

pub tokens_few : (text : List ℕ) → length (tokens text) ≤ length text + 1
tokens_few text =
    let (ls, h) = lexed text in
    rw (tokens_exactly.tokens_are text ls h) (simp (length-append, length-map) (omega (arith, lexemes_few ls 0 text h)))
