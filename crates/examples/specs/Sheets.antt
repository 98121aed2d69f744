-- The complete sheets and the faults of docs/LANGUAGE.md: what becomes of their tickets, by the shipped bank.
use Rattle.std.specs.Prelude.{◌≡◌, ℕ, List, [], ◌∷◌, ◌++◌, length, pos, Ok, Err, codes}
use Rattle.bank.specs.declared.BankRefusal.TheVariants as B
use Rattle.encodings.specs.Shipped.{shipped}
use Rattle.language.specs.declared.Entry.{Entry}
use Rattle.language.specs.declared.Fault.{Fault}
use Rattle.language.specs.declared.Fault.TheVariants.{NoValue, TooLong, NotHeld}
use Rattle.language.specs.declared.FieldFault.{FieldFault}
use Rattle.language.specs.declared.Rounding.TheVariants.{Dropped, Nearest}
use Rattle.language.specs.declared.Relation.TheVariants.{Less}
use Rattle.language.specs.declared.Step.TheVariants as S
use Rattle.language.specs.declared.Line.{Line}
use Rattle.language.specs.Trace.{Worked, entry_of}
use Rattle.language.specs.Meaning.{course}
use Rattle.language.specs.Reading.{sheet_read}
use Rattle.language.specs.Steps.{line, steps}
use Rattle.examples.specs.Hex.{hex}

-- how a ticket ends that is worked by a text's sheet: its entries are counted, and it leaves a ticket or its last entry and a fault
pub data End : Type 0 where
  finished : ℕ → List ℕ → End
  faulted : ℕ → Entry → FieldFault → End
  no_sheet : End

-- a fault's entry has figure 0
abbrev pub breaks : ℕ → ℕ → ℕ → Fault → ℕ → End
breaks count statement row fault field = faulted count (record { statement = statement; row = row; figure = pos 0 }) (record { fault = fault; field = field })

abbrev pub end_of : Worked (List ℕ) → End
end_of w = elim w.outcome [
  | Ok ticket ↦ finished (length w.entries) ticket
  | Err b ↦ faulted (length w.entries) (entry_of w.entries (length w.entries)) b
]

abbrev pub ended : List ℕ → List ℕ → End
ended text ticket = elim (sheet_read shipped text) [ Ok s ↦ end_of (course shipped s ticket) | Err r ↦ no_sheet ]

-- the lines of a text's sheet
abbrev pub lines_of : List ℕ → List Line
lines_of text = elim (sheet_read shipped text) [ Ok s ↦ steps s | Err r ↦ [] ]

abbrev pub copper : List ℕ
copper = codes "field weight n 2 1\nfield price p 5 2\nfield pay p 7 2\nbegin\n  pay = weight * price rounded;\nend\n"

abbrev pub glass : List ℕ
glass = codes "field weight z 5 0\nfield dirt n 2 1\nfield price p 5 4\nfield pay z 6 2\nbegin\n  pay = weight * (100 - dirt) * 0.01 * price rounded;\nend\n"

abbrev pub paper : List ℕ
paper = codes "field weight n 2 0\nfield price p 3 3\nfield least p 5 2\nfield pay p 7 2\nfield small n 2 0\nbegin\n  pay = weight * price rounded;\n  if pay < least then\n    pay = least;\n    small = 1;\n  else\n    small = 0;\n  endif\nend\n"

abbrev pub metal : List ℕ
metal = codes "field sum p 9 3\nfield pay p 7 2\nrows 8\nfield weight n 2 1\nfield price p 3 2\nbegin\n  sum = 0;\n  each\n    sum = sum + weight * price;\n  endeach\n  pay = sum rounded;\nend\n"

abbrev pub metal_by_row : List ℕ
metal_by_row = codes "field sum p 9 3\nfield pay p 7 2\nrows 8\nfield weight n 2 1\nfield price p 3 2\nbegin\n  pay = 0;\n  each\n    pay = pay + weight * price rounded;\n  endeach\nend\n"

abbrev pub carry : List ℕ
carry = codes "field weight p 5 1\nfield price n 2 2\nfield carry b 4 2\nfield pay z 6 2\nbegin\n  pay = weight * price + carry rounded;\n  if pay < 0 then\n    carry = pay;\n    pay = 0;\n  else\n    carry = 0;\n  endif\nend\n"

abbrev pub tyres : List ℕ
tyres = codes "field tyres z 2 0\nfield fee p 3 2\nfield pay p 5 2\nbegin\n  pay = -(tyres * fee) * 0.97 rounded;\nend\n"

abbrev pub tyres_dropped : List ℕ
tyres_dropped = codes "field tyres z 2 0\nfield fee p 3 2\nfield pay p 5 2\nbegin\n  pay = -(tyres * fee) * 0.97;\nend\n"

-- eight rows of weight and price
abbrev pub metal_rows : List ℕ
metal_rows = hex "00 7C 68 5C 00 4B 41 0C 01 36 10 5C 00 B7 13 5C 09 65 01 9C 02 80 01 1C 00 00 00 0C 00 00 00 0C"

pub record SheetExamples : Type 0 where
  pub plain_price : ended copper (hex "03 43 00 68 5C 00 00 00 0C") ≡ finished 5 (hex "03 43 00 68 5C 00 57 19 8C")
  pub cut_for_dirt : ended glass (hex "F0 F1 F2 F5 C0 00 4B 00 42 0C F0 F0 F0 F0 F0 C0") ≡ finished 11 (hex "F0 F1 F2 F5 C0 00 4B 00 42 0C F0 F0 F4 F8 F5 C6")
  pub minimum_paid : ended paper (hex "00 28 08 5C 00 50 0C 00 00 00 0C 00 00") ≡ finished 13 (hex "00 28 08 5C 00 50 0C 00 00 50 0C 00 01")
  pub minimum_passed : ended paper (hex "00 78 08 5C 00 50 0C 00 00 00 0C 00 00") ≡ finished 10 (hex "00 78 08 5C 00 50 0C 00 01 02 0C 00 00")
  pub rows_summed : ended metal (hex "00 00 00 00 0C 00 00 00 0C" ++ metal_rows) ≡ finished 62 (hex "00 02 25 68 0C 00 22 56 8C" ++ metal_rows)
  pub rows_rounded : ended metal_by_row (hex "00 00 00 00 0C 00 00 00 0C" ++ metal_rows) ≡ finished 60 (hex "00 00 00 00 0C 00 22 56 9C" ++ metal_rows)
  pub correction_carried : ended carry (hex "00 12 5C 00 83 FF FF F8 30 F0 F0 F0 F0 F0 C0") ≡ finished 15 (hex "00 12 5C 00 83 FF FF FE 95 F0 F0 F0 F0 F0 C0")
  pub correction_covered : ended carry (hex "00 40 0C 00 83 FF FF F8 30 F0 F0 F0 F0 F0 C0") ≡ finished 12 (hex "00 40 0C 00 83 00 00 00 00 F0 F0 F3 F2 F4 C0")
  pub charge_rounded : ended tyres (hex "F0 C7 35 0C 00 00 0C") ≡ finished 8 (hex "F0 C7 35 0C 02 37 7D")
  pub charge_dropped : ended tyres_dropped (hex "F0 C7 35 0C 00 00 0C") ≡ finished 8 (hex "F0 C7 35 0C 02 37 6D")
  pub paper_steps : lines_of paper ≡
      line 1 (S.Field 0) ∷ line 1 (S.Field 1) ∷ line 1 S.Multiply ∷ line 1 (S.Store 3 Nearest 3)
      ∷ line 2 (S.Field 3) ∷ line 2 (S.Field 2) ∷ line 2 (S.Test 0 0 Less 12)
      ∷ line 3 (S.Field 2) ∷ line 3 (S.Store 3 Dropped 2) ∷ line 4 (S.Constant 1) ∷ line 4 (S.Store 4 Dropped 0) ∷ line 2 (S.Go 14)
      ∷ line 5 (S.Constant 0) ∷ line 5 (S.Store 4 Dropped 0) ∷ line 0 S.End ∷ []
  pub metal_steps : lines_of metal ≡
      line 1 (S.Constant 0) ∷ line 1 (S.Store 0 Dropped 0) ∷ line 2 S.Open
      ∷ line 3 (S.Field 0) ∷ line 3 (S.Field 2) ∷ line 3 (S.Field 3) ∷ line 3 S.Multiply ∷ line 3 (S.Add 0 0) ∷ line 3 (S.Store 0 Dropped 3) ∷ line 2 (S.Next 3)
      ∷ line 4 (S.Field 0) ∷ line 4 (S.Store 1 Nearest 3) ∷ line 0 S.End ∷ []

pub record FaultExamples : Type 0 where
  pub no_value : ended (codes "field weight z 3 0 field pay p 5 2 begin pay = weight * 0.12; end") (hex "40 40 40 00 00 0C") ≡ breaks 1 1 255 (NoValue B.NoValue) 0
  pub no_value_in_a_row : ended metal (hex "00 00 00 00 0C 00 00 00 0C 00 7C 68 5C 00 4B 41 0C 01 36 10 5C 00 B7 13 5C 09 65 01 9C 02 80 40 40 00 00 00 0C 00 00 00 0C") ≡ breaks 41 3 5 (NoValue B.NoValue) 3
  pub too_long : ended (codes "field a z 10 0 begin if a * a > 0 then endif end") (hex "F1 F0 F0 F0 F0 F0 F0 F0 F0 C0") ≡ breaks 3 1 255 TooLong 255
  pub just_short : ended (codes "field a z 10 0 begin if a * a > 0 then endif end") (hex "F0 F9 F9 F9 F9 F9 F9 F9 F9 C9") ≡ finished 6 (hex "F0 F9 F9 F9 F9 F9 F9 F9 F9 C9")
  pub too_long_stored : ended (codes "field a z 15 0 field c n 4 4 begin c = a; end") (hex "F1 F0 F0 F0 F0 F0 F0 F0 F0 F0 F0 F0 F0 F0 C0 00 00 00 00") ≡ breaks 2 1 255 TooLong 1
  pub not_held : ended (codes "field weight n 2 0 field price p 5 2 field pay p 5 2 begin pay = weight * price; end") (hex "07 D0 00 07 5C 00 00 0C") ≡ breaks 4 1 255 (NotHeld B.OutOfRange) 2
  pub below_zero : ended (codes "field gross n 2 0 field tare n 2 0 field net n 2 0 begin net = gross - tare; end") (hex "00 0A 00 0C 00 00") ≡ breaks 4 1 255 (NotHeld B.OutOfRange) 2
