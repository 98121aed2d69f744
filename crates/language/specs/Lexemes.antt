-- The tokens of a text are exactly its bytes that are not blank, in order: the text is blanks and lexemes, and each lexeme is one token.
use Rattle.std.specs.Prelude.{◌≡◌, ℕ, ◌+◌, ◌<◌, Bool, true, false, cond, not, ◌⊎◌, List, [], ◌∷◌, ◌++◌, map, length, take, drop, filter}
use Rattle.std.specs.List.{AllByRecursion}
use Rattle.language.specs.Tokens.{Token, Placed, none, ends, in_run, blank, all, run_token, mark_token, tokens}

-- the bytes of one token as they stand in a text, and their place
pub record Lexeme : Type 0 where
  pub place : ℕ
  pub bytes : List ℕ

-- no run goes on here: the text ends, or its next byte is in no run
abbrev pub run_ends : List ℕ → Bool
run_ends [] = true
run_ends (b ∷ bs) = not (in_run b)

-- an unbroken run of small letters, digits and points, as long as can be where `rest` follows
pub record Run (bytes rest : List ℕ) : Type 0 where
  pub some : 0 < length bytes
  pub unbroken : all in_run bytes ≡ true
  pub longest : run_ends rest ≡ true

-- one byte that is neither blank nor part of a run
pub record Single (bytes : List ℕ) : Type 0 where
  pub byte : ℕ
  pub alone : bytes ≡ byte ∷ []
  pub no_run : in_run byte ≡ false
  pub no_blank : blank byte ≡ false

-- the bytes are those of one token where `rest` follows
abbrev pub Whole : List ℕ → List ℕ → Type 0
Whole bytes rest = Run bytes rest ⊎ Single bytes

-- the bytes from a place on are blanks and lexemes
abbrev pub Lexed : ℕ → List ℕ → List Lexeme → Type 0
Lexed at text [] = all blank text ≡ true
Lexed at text (l ∷ ls) = (gap : List ℕ) × (rest : List ℕ) × (text ≡ gap ++ (l.bytes ++ rest)) × (all blank gap ≡ true) × (l.place ≡ at + length gap)
    × Whole l.bytes rest × Lexed (at + length gap + length l.bytes) rest ls

-- which token a lexeme is: a run is a word, a number or no token, and another byte is a symbol or no token
abbrev pub token_of : List ℕ → Token
token_of [] = none
token_of (b ∷ bs) = cond (in_run b) (run_token (b ∷ bs)) (mark_token b)

abbrev pub token_at : Lexeme → Placed
token_at l = record { place = l.place; token = token_of l.bytes }

abbrev pub end_at : ℕ → Placed
end_at n = record { place = n; token = ends }

-- the bytes of some lexemes, one after the other
abbrev pub joined : List Lexeme → List ℕ
joined [] = []
joined (l ∷ ls) = l.bytes ++ joined ls

pub record TokensExactly : Type 0 where
  -- every text is blanks and lexemes
  pub lexed : (text : List ℕ) → (ls : List Lexeme) × Lexed 0 text ls
  -- its tokens are those of the lexemes, in order, and then the end
  pub tokens_are : (text : List ℕ) (ls : List Lexeme) → Lexed 0 text ls → tokens text ≡ map token_at ls ++ end_at (length text) ∷ []
  -- each lexeme stands in the text at its place
  pub in_place : (text : List ℕ) (ls : List Lexeme) → Lexed 0 text ls → AllByRecursion (λ l. take (length l.bytes) (drop l.place text) ≡ l.bytes) ls
  -- together they are the bytes that are not blank
  pub all_bytes : (text : List ℕ) (ls : List Lexeme) → Lexed 0 text ls → joined ls ≡ filter (λ b. not (blank b)) text
