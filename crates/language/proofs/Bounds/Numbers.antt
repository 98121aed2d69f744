-- The numbers of a text are below 10^15, with at most 6 places.
use Rattle.std.proofs.Common.{◌≡◌, ℕ, suc, ◌+◌, ◌-◌, ◌*◌, ◌^◌, ◌<◌, ◌≤◌, Bool, true, false, cond, leb, List, [], ◌∷◌, ◌++◌, map, length, refl, add-zero, add-suc, suc-add, pow-suc, arith}
use Rattle.std.proofs.Math.Nat.{pow-le-pow_right}
use Rattle.std.specs.List.{AllByRecursion}
use Rattle.std.proofs.lemmas.Bool.{and_parts, leb-true, cond_both}
use Rattle.language.specs.Tokens.{Token, word, number, symbol, none, ends, digit, all, is_word, is_number, before_point, after_point, decimal, number_of, run_token, mark_token, mark, in_run, tokens}
use Rattle.language.specs.Lexemes.{Lexeme, token_of, token_at, end_at}
use Rattle.language.proofs.Tokens.Lexing.{kinds, lexed, tokens_exactly}

abbrev pub SmallToken : Token → Type 0
SmallToken (word w) = Unit {0}
SmallToken (number units places) = (units < 10 ^ 15) × (places ≤ 6)
SmallToken (symbol b) = Unit {0}
SmallToken none = Unit {0}
SmallToken ends = Unit {0}

-- k digits, and then more
decimal_small : (bs : List ℕ) (n k : ℕ) → all digit bs ≡ true → n < 10 ^ k → decimal n bs < 10 ^ (k + length bs)
decimal_small [] n k h small = rw add-zero small
decimal_small (b ∷ bs) n k h small =
    let (d, ds) = and_parts (digit b) (all digit bs) h in
    let few : b ≤ 57 = leb-true b 57 (and_parts (leb 48 b) (leb b 57) d).1 in
    rw (add-suc, ← suc-add k (length bs)) (decimal_small bs (n * 10 + (b - 48)) (suc k) ds (omega (arith, pow-suc 10 k)))

number_small : (run : List ℕ) → is_number run ≡ true → SmallToken (number_of run)
number_small run h =
    let (h₅, signs) = and_parts _ _ h in
    let (h₄, few_places) = and_parts _ _ h₅ in
    let (h₃, few) = and_parts _ _ h₄ in
    let (h₂, some) = and_parts _ _ h₃ in
    let (before, after) = and_parts _ _ h₂ in
    let whole = decimal_small (before_point run) 0 0 before (omega arith) in
    let all_digits = decimal_small (after_point run) (decimal 0 (before_point run)) (0 + length (before_point run)) after whole in
    let fits : 0 + length (before_point run) + length (after_point run) ≤ 15 = omega (arith, leb-true _ _ few) in
    (omega (arith, all_digits, pow-le-pow_right {n = 10} (omega arith) fits), leb-true _ _ few_places)

run_small : (run : List ℕ) → SmallToken (run_token run)
run_small run = go (is_word run) (is_number run) refl
  where
    go : (b c : Bool) → is_number run ≡ c → SmallToken (cond b (word run) (cond c (number_of run) none))
    go true c e = tt
    go false true e = number_small run e
    go false false e = tt

token_small : (bytes : List ℕ) → SmallToken (token_of bytes)
token_small [] = tt
token_small (b ∷ bs) = cond_both (in_run b) (run_token (b ∷ bs)) (mark_token b) SmallToken (λ _. run_small (b ∷ bs)) (λ _. cond_both (mark b) (symbol b) none SmallToken (λ _. tt) (λ _. tt))

lexemes_small : (ls : List Lexeme) (n : ℕ) → AllByRecursion SmallToken (kinds (map token_at ls ++ end_at n ∷ []))
lexemes_small [] n = (tt, tt)
lexemes_small (l ∷ ls) n = (token_small l.bytes, lexemes_small ls n)

pub tokens_small : (text : List ℕ) → AllByRecursion SmallToken (kinds (tokens text))
tokens_small text = rw (tokens_exactly.tokens_are text (lexed text).0 (lexed text).1) (lexemes_small (lexed text).0 (length text))
