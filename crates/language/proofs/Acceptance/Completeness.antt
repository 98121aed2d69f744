-- A text that writes an admitted sheet is read as that sheet.
use Rattle.std.proofs.Common.{◌≡◌, ℕ, zero, suc, ◌+◌, ◌<◌, ◌≤◌, true, false, ◌⊎◌, List, [], ◌∷◌, ◌++◌, length, Some, Ok, refl, ap, ◌∙◌, ⊎_elim, append_assoc, not-suc-le-zero, zero-add, arith, length-append}
use Rattle.std.proofs.lemmas.Bool.{and_parts, ltb-true, le-ltb, ne_eqb}
use Rattle.std.proofs.lemmas.List.Recursion.{and_at}
use Rattle.bank.specs.Model.{Forms}
use Rattle.language.specs.Tokens.{number, Token, tokens, all}
use Rattle.language.specs.Words.{begin_word, end_word, rows_word}
use Rattle.language.specs.Syntax.{Sheet, Field, no_field, fields_tokens, rows_tokens, block_tokens, printed, block_count, reserved_token}
use Rattle.language.specs.Layout.{ticket_length}
use Rattle.language.specs.Reading.{State, starting, finished, count_rows, sheet_of, sheet_read, reading, with_rows}
use Rattle.language.specs.Acceptance.{Writes}
use Rattle.language.specs.Admitted as A
use Rattle.language.proofs.Acceptance.Runs.{follow, runs, Known}
use Rattle.language.proofs.Acceptance.BodyRuns.{block_runs}
use Rattle.language.proofs.Acceptance.Names.{all_parts, found_at, distinct_left}
use Rattle.language.proofs.Acceptance.Unplaced.{unplaced_ok, reads, reading_reads, runs_read}
use Rattle.language.proofs.Acceptance.DeclRuns.{declared, head_runs, row_runs}
use Rattle.language.proofs.Acceptance.Admits.{Admits, admits}

module _ (forms : Forms) where
  counts_rows : (s : State) (n : ℕ) → (n ≡ 0 → ⊥) → n ≤ 64 → count_rows s n ≡ Ok (with_rows s n)
  counts_rows s n some few = rw (ne_eqb n 0 some, le-ltb 64 n few)

  -- `rows` and the fields after it, if any
  rows_run : (head : List Field) (n : ℕ) (fs : List Field) (rest : List Token) → n ≤ 64 → (0 < n) ⊎ (fs ≡ []) → length (head ++ fs) ≤ 64 → all (A.field_good forms) fs ≡ true → A.distinct (head ++ fs) ≡ true
      → ticket_length forms (sheet_of (declared forms head n fs)) ≤ 2048
      → runs forms (declared forms head 0 []) (rows_tokens n ++ (fields_tokens fs ++ rest)) ≡ runs forms (declared forms head n fs) rest
  rows_run head zero fs rest few some h g d t =
      let none : fs ≡ [] = ⊎_elim (λ q. absurd (not-suc-le-zero q)) (λ e. e) some in
      rw none
  rows_run head (suc m) fs rest few some h g d t =
      let n = suc m in
      let nonzero : n ≡ 0 → ⊥ = λ e. omega arith in
      ap (λ b. runs forms (declared forms head 0 []) (elim b [ true ↦ [] | false ↦ reserved_token rows_word ∷ number n 0 ∷ [] ] ++ (fields_tokens fs ++ rest))) (ne_eqb n 0 nonzero)
      ∙ ap (λ o. follow o (λ u. runs forms u (fields_tokens fs ++ rest))) (counts_rows (declared forms head 0 []) n nonzero few)
      ∙ row_runs forms head n fs rest nonzero h g d t

module _ (forms : Forms) (sheet : Sheet) (a : Admits forms sheet) where
  abbrev fields : List Field
  fields = sheet.head ++ sheet.row_fields

  known : Known fields
  known f h =
      let below = ltb-true f (length fields) h in
      let good = and_at (all (A.field_good forms)) (A.field_good forms) refl (λ _ _. refl) fields f no_field below a.declared.good_fields in
      ((and_parts _ _ (and_parts _ _ (and_parts _ _ good).0).0).0, found_at 0 fields f a.declared.apart below ∙ ap Some (zero-add f))

  begun_head : (rest : List Token) → runs forms starting (fields_tokens sheet.head ++ rest) ≡ runs forms (declared forms sheet.head 0 []) rest
  begun_head rest =
      head_runs forms sheet.head rest (omega (arith, length-append sheet.head sheet.row_fields, a.declared.few_fields)) (all_parts (A.field_good forms) sheet.head sheet.row_fields a.declared.good_fields).0
      (distinct_left sheet.head sheet.row_fields a.declared.apart) (omega (arith, a.declared.fits))

  declarations_run : (rest : List Token) → runs forms starting ((fields_tokens sheet.head ++ rows_tokens sheet.rows ++ fields_tokens sheet.row_fields) ++ rest)
      ≡ runs forms (declared forms sheet.head sheet.rows sheet.row_fields) rest
  declarations_run rest =
      let rows_part : List Token = rows_tokens sheet.rows in
      ap (runs forms starting) (append_assoc (fields_tokens sheet.head ++ rows_part) (fields_tokens sheet.row_fields) rest ∙ append_assoc (fields_tokens sheet.head) rows_part (fields_tokens sheet.row_fields ++ rest))
      ∙ begun_head (rows_part ++ (fields_tokens sheet.row_fields ++ rest))
      ∙ rows_run forms sheet.head sheet.rows sheet.row_fields rest a.declared.few_rows a.declared.row_fields_in_rows a.declared.few_fields (all_parts (A.field_good forms) sheet.head sheet.row_fields a.declared.good_fields).1 a.declared.apart a.declared.fits

  abbrev end : State
  end = record { head = sheet.head; rows = sheet.rows; row_fields = sheet.row_fields; statements = 0 + block_count sheet.body; nests = []; so_far = sheet.body; phase = finished }

  printed_runs : runs forms starting (printed sheet) ≡ Ok end
  printed_runs =
      let rows_part : List Token = rows_tokens sheet.rows in
      let before = fields_tokens sheet.head ++ rows_part ++ fields_tokens sheet.row_fields in
      ap (runs forms starting) (append_assoc before (reserved_token begin_word ∷ block_tokens fields sheet.body) (reserved_token end_word ∷ []))
      ∙ declarations_run (reserved_token begin_word ∷ block_tokens fields sheet.body ++ reserved_token end_word ∷ [])
      ∙ block_runs forms sheet.head sheet.rows sheet.row_fields known sheet.body 0 [] (reserved_token end_word ∷ []) a.good_body (omega (arith, a.few_statements)) (omega (arith, a.few_nests))

pub complete : (forms : Forms) (text : List ℕ) (sheet : Sheet) → Writes text sheet → A.admitted forms sheet ≡ true → sheet_read forms text ≡ Ok sheet
complete forms text sheet w h =
    let a = admits forms sheet h in
    let whole = runs_read forms (printed sheet) starting (end forms sheet a) (printed_runs forms sheet a) refl in
    rw (le-ltb 4096 (length text) w.short, sheet_read) (unplaced_ok (reading forms starting (tokens text)) sheet (reading_reads forms (tokens text) starting ∙ ap (reads forms starting) w.same_tokens ∙ whole))
