-- Texts that are refused, with the check that fails and its place: every refusal that docs/LANGUAGE.md shows.
use Rattle.std.specs.Prelude.{◌≡◌, ℕ, zero, suc, Bool, true, false, ◌&&◌, List, [], ◌∷◌, ◌++◌, Ok, Err, codes, ◌==◌}
use Rattle.encodings.specs.Shipped.{shipped}
use Rattle.language.specs.declared.Check.{Check}
use Rattle.language.specs.declared.Check.TheVariants.{TextTooLong, NoToken, Misplaced, DeclaredBefore, NotDeclared, RowMisused, FormLacking, OutOfBounds, TooMany, TooFine}
use Rattle.language.specs.Tokens.{all}
use Rattle.language.specs.Numbers.{check_number}
use Rattle.language.specs.Reading.{sheet_read}

pub record Row : Type 0 where
  pub text : List ℕ
  pub check : Check
  pub place : ℕ

abbrev pub row : List ℕ → Check → ℕ → Row
row t c p = record { text = t; check = c; place = p }

abbrev pub times : ℕ → List ℕ → List ℕ
times zero bytes = []
times (suc n) bytes = bytes ++ times n bytes

-- the text is refused as the row says
abbrev pub refused_so : Row → Bool
refused_so r = elim (sheet_read shipped r.text) [
  | Ok s ↦ false
  | Err e ↦ (check_number e.check == check_number r.check) && e.place == r.place
]

-- field a0 to field a63
abbrev pub sixty_four_fields : List ℕ
sixty_four_fields = codes "field a0 n 2 0 field a1 n 2 0 field a2 n 2 0 field a3 n 2 0 field a4 n 2 0 field a5 n 2 0 field a6 n 2 0 field a7 n 2 0 field a8 n 2 0 field a9 n 2 0 field a10 n 2 0 field a11 n 2 0 field a12 n 2 0 field a13 n 2 0 field a14 n 2 0 field a15 n 2 0 field a16 n 2 0 field a17 n 2 0 field a18 n 2 0 field a19 n 2 0 field a20 n 2 0 field a21 n 2 0 field a22 n 2 0 field a23 n 2 0 field a24 n 2 0 field a25 n 2 0 field a26 n 2 0 field a27 n 2 0 field a28 n 2 0 field a29 n 2 0 field a30 n 2 0 field a31 n 2 0 field a32 n 2 0 field a33 n 2 0 field a34 n 2 0 field a35 n 2 0 field a36 n 2 0 field a37 n 2 0 field a38 n 2 0 field a39 n 2 0 field a40 n 2 0 field a41 n 2 0 field a42 n 2 0 field a43 n 2 0 field a44 n 2 0 field a45 n 2 0 field a46 n 2 0 field a47 n 2 0 field a48 n 2 0 field a49 n 2 0 field a50 n 2 0 field a51 n 2 0 field a52 n 2 0 field a53 n 2 0 field a54 n 2 0 field a55 n 2 0 field a56 n 2 0 field a57 n 2 0 field a58 n 2 0 field a59 n 2 0 field a60 n 2 0 field a61 n 2 0 field a62 n 2 0 field a63 n 2 0 "

abbrev pub refusals : List Row
refusals =
    row (codes "begin end" ++ times 4088 (codes " ")) TextTooLong 0
    ∷ row (codes "field net p 7 1kg begin end") NoToken 14
    ∷ row (codes "field a p 3 2 begin a = .5; end") NoToken 24
    ∷ row (codes "field a p 3 2 begin a = 5.; end") NoToken 24
    ∷ row (codes "field a p 3 2 begin a = 1.2.3; end") NoToken 24
    ∷ row (codes "field net.kg p 7 1 begin end") NoToken 6
    ∷ row (codes "field weighbridge01 p 7 1 begin end") NoToken 6
    ∷ row (codes "field a p 3 2 begin a = 1234567890.123456; end") NoToken 24
    ∷ row (codes "field a p 3 2 begin a = 0.1234567; end") NoToken 24
    ∷ row (codes "field Gross p 7 1 begin end") NoToken 6
    ∷ row (codes "field gross_kg p 7 1 begin end") NoToken 11
    ∷ row (codes "field a p 3 2 begin a = a / 2; end") NoToken 26
    ∷ row (codes "begin" ++ (0x09 ∷ []) ++ codes "end") NoToken 5
    ∷ row (codes "begin" ++ (0x0D ∷ []) ++ (0x0A ∷ []) ++ codes "end") NoToken 5
    ∷ row (codes "begin " ++ (0xC3 ∷ 0xA9 ∷ []) ++ codes " end") NoToken 6
    ∷ row (codes "begin end $") NoToken 10
    ∷ row (codes "") Misplaced 0
    ∷ row (codes "begin") Misplaced 5
    ∷ row (codes "begin  \n") Misplaced 8
    ∷ row (codes "field a n 2 0 begin a = 1") Misplaced 25
    ∷ row (codes "field a n 2 0 begin a 5; end") Misplaced 22
    ∷ row (codes "field a n 2 0 begin a = 5 end") Misplaced 26
    ∷ row (codes "field a n 2 0 begin a = 5 down; end") Misplaced 26
    ∷ row (codes "field a n 2 0 begin a = 1 < 2; end") Misplaced 26
    ∷ row (codes "begin if 1 then endif end") Misplaced 11
    ∷ row (codes "begin if 1 < 2 < 3 then endif end") Misplaced 15
    ∷ row (codes "field a n 2 0 begin a = +1; end") Misplaced 24
    ∷ row (codes "field a n 2 0 begin a = (1 + 2; end") Misplaced 30
    ∷ row (codes "field a n 2 0 begin a = 1 + 2); end") Misplaced 29
    ∷ row (codes "field end p 7 1 begin end") Misplaced 6
    ∷ row (codes "field a n 2 0 begin a = rows; end") Misplaced 24
    ∷ row (codes "field a pp 7 1 begin end") Misplaced 8
    ∷ row (codes "field a p 7.0 1 begin end") Misplaced 10
    ∷ row (codes "field a p 7 1.0 begin end") Misplaced 12
    ∷ row (codes "rows 8.0 begin end") Misplaced 5
    ∷ row (codes "field a p 7 begin end") Misplaced 12
    ∷ row (codes "rows 2 rows 3 begin end") Misplaced 7
    ∷ row (codes "begin field a n 2 0 end") Misplaced 6
    ∷ row (codes "begin if 1 = 1 then else else endif end") Misplaced 25
    ∷ row (codes "begin if 1 = 1 then end") Misplaced 20
    ∷ row (codes "rows 2 begin each if 1 = 1 then endeach endif end") Misplaced 32
    ∷ row (codes "begin ; end") Misplaced 6
    ∷ row (codes "begin end end") Misplaced 10
    ∷ row (codes "field pay p 7 2 field pay p 9 2 begin end") DeclaredBefore 22
    ∷ row (codes "field net p 7 1 rows 8 field net n 2 1 begin end") DeclaredBefore 29
    ∷ row (codes "field pay p 7 2 begin pay = net; end") NotDeclared 28
    ∷ row (codes "begin pay = 1; end") NotDeclared 6
    ∷ row (codes "field pay p 7 2 rows 8 field net n 2 1 begin pay = net; end") RowMisused 51
    ∷ row (codes "rows 8 field net n 2 1 begin net = 0; end") RowMisused 29
    ∷ row (codes "rows 8 begin each each endeach endeach end") RowMisused 18
    ∷ row (codes "rows 8 begin each if 1 = 1 then each endeach endif endeach end") RowMisused 32
    ∷ row (codes "begin each endeach end") RowMisused 6
    ∷ row (codes "field a p 256 0 begin end") FormLacking 10
    ∷ row (codes "field a p 16 0 begin end") FormLacking 10
    ∷ row (codes "field a z 0 0 begin end") FormLacking 10
    ∷ row (codes "field a n 3 0 begin end") FormLacking 10
    ∷ row (codes "field a q 7 1 begin end") FormLacking 10
    ∷ row (codes "field a p 9 7 begin end") OutOfBounds 12
    ∷ row (codes "rows 0 begin end") OutOfBounds 5
    ∷ row (codes "rows 65 begin end") OutOfBounds 5
    ∷ row (sixty_four_fields ++ codes "field a64 n 2 0 begin end") TooMany 1014
    ∷ row (codes "field a n 2 0 begin " ++ times 255 (codes "a=1; ") ++ codes "a=1; end") TooMany 1295
    ∷ row (codes "field a n 2 0 begin a = (((((((((((((1))))))))))))); end") TooMany 36
    ∷ row (codes "field a b 2 0 begin a = -------------1; end") TooMany 36
    ∷ row (codes "field a b 2 0 begin a = -(-(-(-(-(-(-1)))))); end") TooMany 36
    ∷ row (codes "begin " ++ times 9 (codes "if 1=1 then ") ++ times 9 (codes "endif ") ++ codes "end") TooMany 102
    ∷ row (codes "rows 2 begin " ++ times 8 (codes "if 1=1 then ") ++ codes "each endeach " ++ times 8 (codes "endif ") ++ codes "end") TooMany 109
    ∷ row (codes "rows 64 field a z 15 0 field b z 15 0 field c z 3 0 begin end") TooMany 50
    ∷ row (codes "field a n 2 6 begin a = a * a * 0.1; end") TooFine 32
    ∷ row (codes "field a n 2 6 begin a = a * (a * 0.1); end") TooFine 36
    ∷ row (codes "field a n 2 6 begin a = a * 0.1 * -a; end") TooFine 35
    ∷ row (codes "field a q 300 9 begin end") FormLacking 10
    ∷ row (codes "begin a = 1;; end") NotDeclared 6
    ∷ row (codes "field a n 2 6 begin a = a * a * 0.1 $ end") TooFine 32
    ∷ row (codes "field a n 2 0 begin a = 1 b = 2; end") Misplaced 26
    ∷ row (codes "field a n 2 0 begin " ++ times 255 (codes "a=1; ") ++ codes "b=1; end") NotDeclared 1295
    ∷ row (codes "begin " ++ times 8 (codes "if 1=1 then ") ++ codes "each endeach " ++ times 8 (codes "endif ") ++ codes "end") RowMisused 102
    ∷ row (codes "rows 64 field a z 15 0 field b z 15 0 field c z 3 7 begin end") OutOfBounds 50
    ∷ row (codes "field a n 2 6 begin a = a * a * b; end") NotDeclared 32
    ∷ row (codes "field a n 2 6 rows 2 field b n 2 1 begin a = a * a * b; end") RowMisused 53
    ∷ []

abbrev pub RefusalExamples : Type 0
RefusalExamples = all refused_so refusals ≡ true
