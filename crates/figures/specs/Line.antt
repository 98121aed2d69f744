-- The bytes of an output line: field, row, number, with a space between and a line feed at the end.
use Rattle.std.specs.Prelude.{ℕ, zero, suc, ◌+◌, ◌/◌, ◌^◌, List, ◌++◌, map, ℤ, pos, negsuc, Some, None, codes, decimal, Option}
use Rattle.encodings.specs.Digits.{digits}

-- digits below ten, as text
abbrev pub digit_text : List ℕ → List ℕ
digit_text ds = map (λ d. 48 + d) ds

-- as few whole digits as do, at least one; a point and all places, unless there are none
abbrev pub magnitude_text : ℕ → ℕ → List ℕ
magnitude_text zero n = decimal n
magnitude_text (suc k) n = decimal (n / 10 ^ suc k) ++ (codes "." ++ digit_text (digits 10 (suc k) n))

abbrev pub number_text : ℕ → ℤ → List ℕ
number_text places (pos n) = magnitude_text places n
number_text places (negsuc n) = codes "-" ++ magnitude_text places (suc n)

-- a field without value shows `?`
abbrev pub value_text : ℕ → Option ℤ → List ℕ
value_text places None = codes "?"
value_text places (Some n) = number_text places n

-- a field outside the rows shows `-`
abbrev pub row_text : Option ℕ → List ℕ
row_text None = codes "-"
row_text (Some row) = decimal row

-- a line of these texts
abbrev pub line_with : ℕ → List ℕ → List ℕ → List ℕ
line_with field row value = decimal field ++ (codes " " ++ (row ++ (codes " " ++ (value ++ codes "\n"))))

abbrev pub line_bytes : ℕ → Option ℕ → Option ℤ → ℕ → List ℕ
line_bytes field row number places = line_with field (row_text row) (value_text places number)
