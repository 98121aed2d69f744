-- Worked examples of printed lines, and of a ticket's account by the shipped bank.
use Rattle.std.specs.Prelude.{◌≡◌, ℕ, List, [], ◌∷◌, pos, negsuc, Some, None, codes}
use Rattle.encodings.specs.Shipped.{shipped}
use Rattle.figures.specs.Line.{line_bytes}
use Rattle.account.specs.Account.{account_text}

-- gross 1250.5, tare 1200.0, price 6.85, pay 0.00
abbrev pub weighing : List ℕ
weighing = 0x00 ∷ 0x12 ∷ 0x50 ∷ 0x5C ∷ 0x00 ∷ 0x12 ∷ 0x00 ∷ 0x0C ∷ 0x00 ∷ 0x68 ∷ 0x5C ∷ 0x00 ∷ 0x00 ∷ 0x00 ∷ 0x00 ∷ 0x0C ∷ []

-- the same, with no sign half in the tare
abbrev pub damaged : List ℕ
damaged = 0x00 ∷ 0x12 ∷ 0x50 ∷ 0x5C ∷ 0x00 ∷ 0x12 ∷ 0x00 ∷ 0x00 ∷ 0x00 ∷ 0x68 ∷ 0x5C ∷ 0x00 ∷ 0x00 ∷ 0x00 ∷ 0x00 ∷ 0x0C ∷ []

-- -5 is negsuc 4
pub record LineExamples : Type 0 where
  pub places : line_bytes 3 None (Some (pos 34593)) 2 ≡ codes "3 - 345.93\n"
  pub no_places : line_bytes 4 (Some 7) (Some (pos 120)) 0 ≡ codes "4 7 120\n"
  pub below_zero : line_bytes 0 None (Some (negsuc 4)) 2 ≡ codes "0 - -0.05\n"
  pub no_value : line_bytes 63 (Some 0) None 6 ≡ codes "63 0 ?\n"
  pub account : account_text shipped weighing ≡ codes "0 - 1250.5\n1 - 1200.0\n2 - 6.85\n3 - 0.00\n"
  pub damaged_account : account_text shipped damaged ≡ codes "0 - 1250.5\n1 - ?\n2 - 6.85\n3 - 0.00\n"
  pub short_ticket : account_text shipped [] ≡ codes "lay 22\n"
