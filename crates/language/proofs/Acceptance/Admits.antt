-- What `admitted` says, part by part.
use Rattle.std.proofs.Common.{◌≡◌, ◌<◌, ◌≤◌, true, false, eqb, ltb, ◌⊎◌, [], ◌++◌, length, ap, inl, inr, ⊎_elim}
use Rattle.std.proofs.lemmas.List.{nil_from_length}
use Rattle.std.proofs.lemmas.Bool.{and_parts, and_from, or_cases, or_left, or_right, leb-true, le-leb, ltb-true, lt-ltb, eqb-true, eq-eqb}
use Rattle.bank.specs.Model.{Forms}
use Rattle.language.specs.Tokens.{all}
use Rattle.language.specs.Syntax.{Sheet, empty, block_count}
use Rattle.language.specs.Layout.{ticket_length}
use Rattle.language.specs.Admitted as A

-- what is asked of the declarations
pub record Declarations (forms : Forms) (sheet : Sheet) : Type 0 where
  pub few_fields : length (sheet.head ++ sheet.row_fields) ≤ 64
  pub good_fields : all (A.field_good forms) (sheet.head ++ sheet.row_fields) ≡ true
  pub apart : A.distinct (sheet.head ++ sheet.row_fields) ≡ true
  pub few_rows : sheet.rows ≤ 64
  pub row_fields_in_rows : (0 < sheet.rows) ⊎ (sheet.row_fields ≡ [])
  pub fits : ticket_length forms sheet ≤ 2048

abbrev pub without_body : Sheet → Sheet
without_body s = record { head = s.head; rows = s.rows; row_fields = s.row_fields; body = empty }

pub record Admits (forms : Forms) (sheet : Sheet) : Type 0 where
  pub declared : Declarations forms (without_body sheet)
  pub few_statements : block_count sheet.body ≤ 255
  pub few_nests : A.block_nests sheet.body ≤ 8
  pub good_body : A.block_good sheet false sheet.body ≡ true

module _ (forms : Forms) (sheet : Sheet) where
  pub admits : A.admitted forms sheet ≡ true → Admits forms sheet
  admits h =
      let (h₈, body) = and_parts _ _ h in
      let (h₇, nests) = and_parts _ _ h₈ in
      let (h₆, count) = and_parts _ _ h₇ in
      let (h₅, ticket) = and_parts _ _ h₆ in
      let (h₄, rows) = and_parts _ _ h₅ in
      let (h₃, r) = and_parts _ _ h₄ in
      let (h₂, apart) = and_parts _ _ h₃ in
      let (few, good) = and_parts _ _ h₂ in
      record {
        declared = record {
          few_fields = leb-true (length (sheet.head ++ sheet.row_fields)) 64 few;
          good_fields = good;
          apart = apart;
          few_rows = leb-true sheet.rows 64 r;
          row_fields_in_rows = ⊎_elim (λ e. inl (ltb-true 0 sheet.rows e)) (λ e. inr (nil_from_length sheet.row_fields (eqb-true (length sheet.row_fields) 0 e))) (or_cases _ _ rows);
          fits = leb-true (ticket_length forms sheet) 2048 ticket;
        };
        few_statements = leb-true (block_count sheet.body) 255 count;
        few_nests = leb-true (A.block_nests sheet.body) 8 nests;
        good_body = body;
      }

  pub admitted_by : Admits forms sheet → A.admitted forms sheet ≡ true
  admitted_by a =
      and_from _ _ (and_from _ _ (and_from _ _ (and_from _ _ (and_from _ _ (and_from _ _ (and_from _ _ (and_from _ _
      (le-leb (length (sheet.head ++ sheet.row_fields)) 64 a.declared.few_fields)
      a.declared.good_fields)
      a.declared.apart)
      (le-leb sheet.rows 64 a.declared.few_rows))
      (⊎_elim (λ e. or_left _ (eqb (length sheet.row_fields) 0) (lt-ltb 0 sheet.rows e)) (λ e. or_right (ltb 0 sheet.rows) _ (eq-eqb (length sheet.row_fields) 0 (ap length e))) a.declared.row_fields_in_rows))
      (le-leb (ticket_length forms sheet) 2048 a.declared.fits))
      (le-leb (block_count sheet.body) 255 a.few_statements))
      (le-leb (A.block_nests sheet.body) 8 a.few_nests))
      a.good_body
