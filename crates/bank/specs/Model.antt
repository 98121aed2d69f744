-- What a bank of number forms means, apart from any code: a form, what a form owes, and two banks side by side.
use Rattle.std.specs.Prelude.{◌≡◌, ℕ, ◌-◌, ◌^◌, ◌<◌, ◌≤◌, List, length, ℤ, pos, negsuc, ◌≤ℤ◌, IfSome, Some, None, Option}
use Rattle.std.specs.List.{AllByRecursion}

-- a number form: its width in bytes, its range, the number that a string of that width stands for, if any, and a number's image, the string that is written for it
pub record Form : Type 0 where
  pub width : ℕ
  pub low : ℤ
  pub high : ℤ
  pub value : List ℕ → Option ℤ
  pub image : ℤ → List ℕ

-- a bank: the form, if any, for a letter (its code) and a size
abbrev pub Forms : Type 0
Forms = ℕ → ℕ → Option Form

-- the form holds the number
pub record Within (f : Form) (n : ℤ) : Type 0 where
  pub above : f.low ≤ℤ n
  pub below : n ≤ℤ f.high

-- the list is a string of bytes
abbrev pub Bytes : List ℕ → Type 0
Bytes bs = AllByRecursion (λ b. b < 256) bs

-- what a form owes: 1 to 16 bytes; a range from 0 or below to 9 or above, both ends under 10^15 in magnitude;
-- what a string stands for is in that range; a number in it has an image of that width, which stands for that number
pub record LawfulForm (f : Form) : Type 0 where
  pub some_bytes : 1 ≤ f.width
  pub few_bytes : f.width ≤ 16
  pub low_reach : f.low ≤ℤ pos 0
  pub high_reach : pos 9 ≤ℤ f.high
  pub low_bound : negsuc (10 ^ 15 - 2) ≤ℤ f.low
  pub high_bound : f.high ≤ℤ pos (10 ^ 15 - 1)
  pub held : (bs : List ℕ) → Bytes bs → length bs ≡ f.width → IfSome (f.value bs) (Within f)
  pub long : (n : ℤ) → Within f n → length (f.image n) ≡ f.width
  pub bytes : (n : ℤ) → Within f n → Bytes (f.image n)
  pub back : (n : ℤ) → Within f n → f.value (f.image n) ≡ Some n

abbrev pub Lawful : Forms → Type 0
Lawful forms = (letter size : ℕ) → IfSome (forms letter size) LawfulForm

-- two banks side by side: the left is asked first, the right has what the left lacks
abbrev pub beside : Forms → Forms → Forms
beside l r letter size = elim (l letter size) [ None ↦ r letter size | Some f ↦ Some f ]

-- side by side, two lawful banks are a lawful one
pub beside_lawful : (l r : Forms) → Lawful l → Lawful r → Lawful (beside l r)
beside_lawful l r p q letter size = go (l letter size) (p letter size)
  where
    go : (f : Option Form) → IfSome f LawfulForm → IfSome (elim f [ None ↦ r letter size | Some f ↦ Some f ]) LawfulForm
    go None h = q letter size
    go (Some f) h = h
