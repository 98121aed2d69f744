-- What a reader finds in the text of a number: a sign below zero, whole digits, and after a point a digit for each place.
-- Read in base ten, all the digits together give the magnitude.
use Rattle.std.specs.Prelude.{◌≡◌, ℕ, zero, suc, ◌<◌, List, [], ◌++◌, length, ℤ, pos, negsuc, Some, None, codes, Option, slice_index, unsigned_abs}
use Rattle.std.specs.Int.Digits.{AllBelowBase, number_from_digits as number}
use Rattle.figures.specs.Line.{digit_text, row_text, line_with}

abbrev pub minus : ℤ → List ℕ
minus (pos n) = []
minus (negsuc n) = codes "-"

-- no point where there are no places
abbrev pub point : ℕ → List ℕ
point zero = []
point (suc k) = codes "."

-- as few whole digits as do: more than one only where the first is not 0
pub record Reading (places : ℕ) (n : ℤ) (text : List ℕ) : Type 0 where
  pub whole : List ℕ
  pub fraction : List ℕ
  pub spelt : text ≡ minus n ++ (digit_text whole ++ (point places ++ digit_text fraction))
  pub whole_digits : AllBelowBase 10 whole
  pub fraction_digits : AllBelowBase 10 fraction
  pub gives : number 10 (whole ++ fraction) ≡ unsigned_abs n
  pub all_places : length fraction ≡ places
  pub some : 0 < length whole
  pub no_more : 1 < length whole → 0 < slice_index whole 0

-- a field without value shows `?`
abbrev pub Shows : ℕ → Option ℤ → List ℕ → Type 0
Shows places None text = text ≡ codes "?"
Shows places (Some n) text = Reading places n text

abbrev pub LineShows : ℕ → Option ℕ → Option ℤ → ℕ → List ℕ → Type 0
LineShows field row number places bytes = (text : List ℕ) × (bytes ≡ line_with field (row_text row) text) × Shows places number text
