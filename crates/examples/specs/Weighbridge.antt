-- The weighbridge sheet: net weight times price. Its steps, the course of a ticket, and what is paid; and the rules that it rests on.
use Rattle.std.specs.Prelude.{◌≡◌, ℕ, List, [], ◌∷◌, length, pos, negsuc, Ok, codes}
use Rattle.encodings.specs.Shipped.{shipped}
use Rattle.language.specs.declared.Entry.{Entry}
use Rattle.language.specs.declared.Fault.TheVariants.{TooLong}
use Rattle.language.specs.declared.Rounding.{Rounding}
use Rattle.language.specs.declared.Rounding.TheVariants.{Dropped, Nearest}
use Rattle.language.specs.declared.Step.TheVariants as S
use Rattle.language.specs.Syntax.{Sheet, takes, only, sum, just, times, read, group, assign, empty, ◌then◌}
use Rattle.language.specs.Arithmetic.{fitted}
use Rattle.language.specs.Trace.{figured, faults, entry_of}
use Rattle.language.specs.Meaning.{multiplied, course}
use Rattle.language.specs.Reading.{sheet_read}
use Rattle.language.specs.Steps.{line, steps}
use Rattle.examples.specs.Hex.{hex}
use Rattle.examples.specs.Lines.{weighing}

-- -0.5 is negsuc 4 with 1 place, and -1 is negsuc 0
pub record RuleExamples : Type 0 where
  pub half_rounded : fitted Nearest (negsuc 4) 1 0 ≡ negsuc 0
  pub half_dropped : fitted Dropped (negsuc 4) 1 0 ≡ pos 0
  pub large_product : multiplied (pos 999_999_999) (pos 999_999_999) ≡ figured (pos 999_999_998_000_000_001)
  pub too_large_product : multiplied (pos 1_000_000_000) (pos 1_000_000_000) ≡ faults TooLong 255
  pub least_read : sheet_read shipped (codes "begin end") ≡ Ok (record { head = []; rows = 0; row_fields = []; body = empty })
  pub least_course : length (course shipped (record { head = []; rows = 0; row_fields = []; body = empty }) []).entries ≡ 1

abbrev pub sheet_text : List ℕ
sheet_text = codes "field gross p 7 1 field tare p 7 1 field price p 5 2 field pay p 9 2 begin pay = (gross - tare) * price rounded; end"

abbrev pub dropping_text : List ℕ
dropping_text = codes "field gross p 7 1 field tare p 7 1 field price p 5 2 field pay p 9 2 begin pay = (gross - tare) * price; end"

abbrev pub weighbridge : Rounding → Sheet
weighbridge r = record {
  head =
      record { name = codes "gross"; letter = 112; size = 7; places = 1 }
      ∷ record { name = codes "tare"; letter = 112; size = 7; places = 1 }
      ∷ record { name = codes "price"; letter = 112; size = 5; places = 2 }
      ∷ record { name = codes "pay"; letter = 112; size = 9; places = 2 }
      ∷ [];
  rows = 0;
  row_fields = [];
  body = empty then assign 3 (only (times (just (group (sum (only (just (read 0))) takes (just (read 1))))) (read 2))) r;
}

abbrev pub figure : ℕ → ℕ → Entry
figure k n = record { statement = k; row = 255; figure = pos n }

pub record WeighbridgeExamples : Type 0 where
  pub rounded_read : sheet_read shipped sheet_text ≡ Ok (weighbridge Nearest)
  pub dropped_read : sheet_read shipped dropping_text ≡ Ok (weighbridge Dropped)
  pub its_steps : steps (weighbridge Nearest) ≡
      line 1 (S.Field 0) ∷ line 1 (S.Field 1) ∷ line 1 (S.Subtract 0 0) ∷ line 1 (S.Field 2) ∷ line 1 S.Multiply ∷ line 1 (S.Store 3 Nearest 3)
      ∷ line 0 S.End ∷ []
  pub its_course : (course shipped (weighbridge Nearest) weighing).entries ≡
      figure 1 12505 ∷ figure 1 12000 ∷ figure 1 505 ∷ figure 1 685 ∷ figure 1 345925 ∷ figure 1 34593 ∷ figure 0 0 ∷ []
  pub its_length : length (course shipped (weighbridge Nearest) weighing).entries ≡ 7
  pub third_entry : entry_of (course shipped (weighbridge Nearest) weighing).entries 3 ≡ record { statement = 1; row = 255; figure = pos 505 }
  -- pay is 345.93, and 345.92 where digits are dropped
  pub pay_rounded : (course shipped (weighbridge Nearest) weighing).outcome ≡
      Ok (hex "00 12 50 5C 00 12 00 0C 00 68 5C 00 00 34 59 3C")
  pub pay_dropped : (course shipped (weighbridge Dropped) weighing).outcome ≡
      Ok (hex "00 12 50 5C 00 12 00 0C 00 68 5C 00 00 34 59 2C")
