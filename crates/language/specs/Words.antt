-- Words of a sheet: the reserved ones, and names.
use Rattle.std.specs.Prelude.{ℕ, Bool, true, false, cond, not, ◌&&◌, List, [], ◌∷◌, is_some, Some, None, codes, Option, ◌==◌}

abbrev pub same_bytes : List ℕ → List ℕ → Bool
same_bytes [] [] = true
same_bytes [] (y ∷ ys) = false
same_bytes (x ∷ xs) [] = false
same_bytes (x ∷ xs) (y ∷ ys) = x == y && same_bytes xs ys

pub data Reserved : Type 0 where
  field_word rows_word begin_word end_word rounded_word if_word then_word else_word endif_word each_word endeach_word : Reserved

abbrev pub spelling : Reserved → List ℕ
spelling field_word = codes "field"
spelling rows_word = codes "rows"
spelling begin_word = codes "begin"
spelling end_word = codes "end"
spelling rounded_word = codes "rounded"
spelling if_word = codes "if"
spelling then_word = codes "then"
spelling else_word = codes "else"
spelling endif_word = codes "endif"
spelling each_word = codes "each"
spelling endeach_word = codes "endeach"

abbrev pub one_of : List Reserved → List ℕ → Option Reserved
one_of [] w = None
one_of (r ∷ rs) w = cond (same_bytes w (spelling r)) (Some r) (one_of rs w)

abbrev pub all_reserved : List Reserved
all_reserved = field_word ∷ rows_word ∷ begin_word ∷ end_word ∷ rounded_word ∷ if_word ∷ then_word ∷ else_word ∷ endif_word ∷ each_word ∷ endeach_word ∷ []

-- the reserved word that a word is, if any
abbrev pub reserved : List ℕ → Option Reserved
reserved w = one_of all_reserved w

-- any other word is a name
abbrev pub is_name : List ℕ → Bool
is_name w = not (is_some (reserved w))
