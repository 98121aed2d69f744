-- The tokens of a sheet's text with their places: words, numbers and symbols, parted by blanks.
use Rattle.std.specs.Prelude.{ℕ, ◌+◌, ◌-◌, ◌*◌, Bool, true, false, cond, not, ◌&&◌, ◌||◌, List, [], ◌∷◌, ◌++◌, length, ◌==◌, nat_le, nat_lt}

-- a number has its units, in its last place, and its places: 6.50 is 650 with 2 places; a symbol is its byte;
-- `none` is what is no token, and `ends` is the end of the text
pub data Token : Type 0 where
  word : List ℕ → Token
  number : (units places : ℕ) → Token
  symbol : ℕ → Token
  none : Token
  ends : Token

-- a token and the place of its first byte, counted from 0
pub record Placed : Type 0 where
  pub place : ℕ
  pub token : Token

-- a to z
abbrev pub letter : ℕ → Bool
letter b = nat_le 97 b && nat_le b 122

abbrev pub digit : ℕ → Bool
digit b = nat_le 48 b && nat_le b 57

abbrev pub point : ℕ → Bool
point b = b == 46

-- a space or a line feed
abbrev pub blank : ℕ → Bool
blank b = b == 32 || b == 10

-- = + - * ( ) < > ;
abbrev pub mark : ℕ → Bool
mark b = b == 61 || b == 43 || b == 45 || b == 42 || b == 40 || b == 41 || b == 60 || b == 62 || b == 59

-- what a run is made of: an unbroken run of small letters, digits and points is read whole
abbrev pub in_run : ℕ → Bool
in_run b = letter b || digit b || point b

-- the test holds of every element
abbrev pub all : {A : Type 0} → (A → Bool) → List A → Bool
all p [] = true
all p (x ∷ xs) = p x && all p xs

-- a small letter, then small letters and digits, 12 in all at most
abbrev pub is_word : List ℕ → Bool
is_word [] = false
is_word (b ∷ bs) = letter b && all (λ c. letter c || digit c) bs && nat_le (length bs) 11

-- the bytes before the first point
abbrev pub before_point : List ℕ → List ℕ
before_point [] = []
before_point (b ∷ bs) = cond (point b) [] (b ∷ before_point bs)

-- the bytes after it
abbrev pub after_point : List ℕ → List ℕ
after_point [] = []
after_point (b ∷ bs) = cond (point b) bs (after_point bs)

abbrev pub has_point : List ℕ → Bool
has_point [] = false
has_point (b ∷ bs) = point b || has_point bs

-- 1 to 15 digits, at most 6 of them after a point, which has a digit on each side
abbrev pub is_number : List ℕ → Bool
is_number run =
    all digit (before_point run) && all digit (after_point run) && nat_lt 0 (length (before_point run))
    && nat_le (length (before_point run) + length (after_point run)) 15 && nat_le (length (after_point run)) 6
    && (not (has_point run) || nat_lt 0 (length (after_point run)))

-- the number that n and then these digits make
abbrev pub decimal : ℕ → List ℕ → ℕ
decimal n [] = n
decimal n (b ∷ bs) = decimal (n * 10 + (b - 48)) bs

abbrev pub number_of : List ℕ → Token
number_of run = number (decimal (decimal 0 (before_point run)) (after_point run)) (length (after_point run))

-- the token that a run is
abbrev pub run_token : List ℕ → Token
run_token run = cond (is_word run) (word run) (cond (is_number run) (number_of run) none)

-- the token that a byte outside runs and blanks is
abbrev pub mark_token : ℕ → Token
mark_token b = cond (mark b) (symbol b) none

-- the run that ends at a place, if there is one, and the tokens after it
abbrev pub flush : ℕ → List ℕ → List Placed → List Placed
flush at [] rest = rest
flush at (b ∷ bs) rest = record { place = at - length (b ∷ bs); token = run_token (b ∷ bs) } ∷ rest

-- the tokens of the bytes that start at a place, where `run` is the unbroken run that ends there
abbrev pub tokens_from : ℕ → List ℕ → List ℕ → List Placed
tokens_from at run [] = flush at run (record { place = at; token = ends } ∷ [])
tokens_from at run (b ∷ bs) =
    elim (in_run b) [
      | true ↦ tokens_from (at + 1) (run ++ b ∷ []) bs
      | false ↦ flush at run (elim (blank b) [
        | true ↦ tokens_from (at + 1) [] bs
        | false ↦ record { place = at; token = mark_token b } ∷ tokens_from (at + 1) [] bs
      ])
    ]

abbrev pub tokens : List ℕ → List Placed
tokens text = tokens_from 0 [] text
