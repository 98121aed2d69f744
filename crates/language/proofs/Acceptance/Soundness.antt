-- A text that is read as a sheet writes that sheet, and the sheet is admitted.
use Rattle.std.proofs.Common.{◌≡◌, ℕ, Bool, true, false, ltb, List, [], ◌∷◌, ◌++◌, length, Ok, Err, Result, sym, refl, ap, ◌∙◌, subst, inr, append_assoc, arith}
use Rattle.std.proofs.lemmas.Bool.{ltb-false}
use Rattle.bank.specs.Model.{Forms}
use Rattle.language.specs.declared.Check.{Check}
use Rattle.language.specs.declared.Check.TheVariants.{Misplaced, TextTooLong}
use Rattle.language.specs.declared.TextRefusal.{TextRefusal}
use Rattle.language.specs.Tokens.{Token, word, number, symbol, none, ends, tokens}
use Rattle.language.specs.Words.{reserved, begin_word, end_word}
use Rattle.language.specs.Syntax.{Sheet, block_tokens, fields_tokens, printed, constant, reserved_token, rows_tokens}
use Rattle.language.specs.Reading.{State, Outcome, Phase, declaring, field_name, field_letter, field_size, field_places, row_count, statement, becomes, operand, operator, closing, finished, is_finished, starting, sheet_of, on_word, on_number, on_symbol, after_by_word, reading, sheet_read}
use Rattle.language.specs.Acceptance.{Writes}
use Rattle.language.specs.Admitted as A
use Rattle.language.proofs.Acceptance.Words.{spelled}
use Rattle.language.proofs.Acceptance.Zipper.{nested, declared_then, whole, Sound, Fine, Reaches}
use Rattle.language.proofs.Acceptance.ExprSteps.{complete_fine, operand_word_fine, operand_symbol_fine, operator_symbol_fine, leave_fine}
use Rattle.language.proofs.Acceptance.BodySteps.{after_symbol_fine, after_word_fine, closing_fine, becomes_fine, statement_fine}
use Rattle.language.proofs.Acceptance.DeclSteps.{declaring_fine, name_fine, letter_fine, size_fine, places_fine, rows_fine}
use Rattle.language.proofs.Acceptance.Unplaced.{unplaced, reads, reading_reads}
use Rattle.language.proofs.Tokens.Lexing.{kinds}
use Rattle.language.proofs.Tokens.Closing.{closed, is_empty, closed_tokens}
use Rattle.language.proofs.Acceptance.Admits.{Admits, admitted_by}

regrouped : (a b c d : List Token) (x y z : Token) → a ++ (b ++ (c ++ (x ∷ (d ++ y ∷ z ∷ [])))) ≡ a ++ b ++ c ++ x ∷ d ++ y ∷ [] ++ z ∷ []
regrouped a b c d x y z = simp append_assoc

module _ (forms : Forms) (s : State) where
  word_step : (p : Phase) (w : List ℕ) → Sound forms s p → Fine (Reaches forms (λ rest. whole s p (word w ∷ rest))) (on_word s w p)
  word_step declaring w h = declaring_fine forms s h.declarations h.at w (reserved w) (spelled w)
  word_step field_name w h = name_fine forms s h.declarations w h.at
  word_step (field_letter n) w h = letter_fine forms s h.declarations n w h.at
  word_step (field_size n c) w h = tt
  word_step (field_places n c z) w h = tt
  word_step row_count w h = tt
  word_step statement w h = statement_fine forms s h.declarations h.at w (reserved w) (spelled w)
  word_step (becomes f) w h = tt
  word_step (operand p os) w h = let (body, g, o, l) = h.at in operand_word_fine forms s h.declarations body p g os w o l
  word_step (operator p os t) w h =
      let (body, g, o, gt, l) = h.at in
      leave_fine forms s h.declarations body p g os t (word w) (λ e. after_by_word s p e w) o gt l (after_word_fine forms s h.declarations body p g w)
  word_step (closing f e) w h = tt
  word_step finished w h = tt

  number_step : (p : Phase) (n q : ℕ) → Sound forms s p → Fine (Reaches forms (λ rest. whole s p (number n q ∷ rest))) (on_number s forms n q p)
  number_step declaring n q h = tt
  number_step field_name n q h = tt
  number_step (field_letter m) n q h = tt
  number_step (field_size m c) n q h = size_fine forms s h.declarations m c n q h.at
  number_step (field_places m c z) n q h = places_fine forms s h.declarations m c z n q h.at.0 h.at.1
  number_step row_count n q h = rows_fine forms s h.declarations n q h.at
  number_step statement n q h = tt
  number_step (becomes f) n q h = tt
  number_step (operand p os) n q h = let (body, g, o, l) = h.at in complete_fine forms s h.declarations body p g os (constant n q) o refl (omega arith)
  number_step (operator p os t) n q h = tt
  number_step (closing f e) n q h = tt
  number_step finished n q h = tt

  symbol_step : (p : Phase) (b : ℕ) → Sound forms s p → Fine (Reaches forms (λ rest. whole s p (symbol b ∷ rest))) (on_symbol s b p)
  symbol_step declaring b h = tt
  symbol_step field_name b h = tt
  symbol_step (field_letter m) b h = tt
  symbol_step (field_size m c) b h = tt
  symbol_step (field_places m c z) b h = tt
  symbol_step row_count b h = tt
  symbol_step statement b h = tt
  symbol_step (becomes f) b h = becomes_fine forms s h.declarations h.at.0 f b h.at.1
  symbol_step (operand p os) b h = let (body, g, o, l) = h.at in operand_symbol_fine forms s h.declarations body p g os b o l
  symbol_step (operator p os t) b h =
      let (body, g, o, gt, l) = h.at in
      operator_symbol_fine forms s h.declarations body p g os t b o gt l (after_symbol_fine forms s h.declarations body p g b)
  symbol_step (closing f e) b h = closing_fine forms s h.declarations h.at.0 f e b h.at.1 h.at.2
  symbol_step finished b h = tt

  -- at the end all of a sheet is read
  end_tokens : s.nests ≡ [] → whole s finished (ends ∷ []) ≡ printed (sheet_of s) ++ ends ∷ []
  end_tokens e =
      let fields = s.head ++ s.row_fields in
      ap (λ ns. declared_then s (reserved_token begin_word ∷ nested fields ns (block_tokens fields s.so_far ++ reserved_token end_word ∷ ends ∷ []))) e
      ∙ regrouped (fields_tokens s.head) (rows_tokens s.rows) (fields_tokens s.row_fields) (block_tokens fields s.so_far) (reserved_token begin_word) (reserved_token end_word) ends

  end_admits : Sound forms s finished → Admits forms (sheet_of s)
  end_admits h =
      let (body, closed_all) = h.at in
      record {
        declared = h.declarations;
        few_statements = omega (arith, body.counted, body.few);
        few_nests = omega (arith, body.here.deep);
        good_body = rw closed_all at body.here.good;
      }

abbrev Right : Forms → List Token → Sheet → Type 0
Right forms ts sheet = (ts ≡ printed sheet ++ ends ∷ []) × Admits forms sheet

module _ (forms : Forms) (sheet : Sheet) where
  ends_right : (s : State) (p : Phase) → Sound forms s p → ◌≡◌ {A = Result Sheet Check} (elim (is_finished p) [ true ↦ Ok (sheet_of s) | false ↦ Err Misplaced ]) (Ok sheet) → Right forms (whole s p (ends ∷ [])) sheet
  ends_right s declaring h e = cc
  ends_right s field_name h e = cc
  ends_right s (field_letter m) h e = cc
  ends_right s (field_size m c) h e = cc
  ends_right s (field_places m c z) h e = cc
  ends_right s row_count h e = cc
  ends_right s statement h e = cc
  ends_right s (becomes f) h e = cc
  ends_right s (operand p os) h e = cc
  ends_right s (operator p os t) h e = cc
  ends_right s (closing f x) h e = cc
  ends_right s finished h e =
      let same : sheet_of s ≡ sheet = cc in
      subst (Right forms (whole s finished (ends ∷ []))) same (end_tokens forms s h.at.1, end_admits forms s h)

  reads_right : (ts : List Token) (s : State) → Sound forms s s.phase → closed ts ≡ true → reads forms s ts ≡ Ok sheet → Right forms (whole s s.phase ts) sheet
  reads_right [] s h c e = cc
  reads_right (t ∷ ts) s h c e = by t c e (reads_right ts)
    where
      Later : Type 0
      Later = (u : State) → Sound forms u u.phase → closed ts ≡ true → reads forms u ts ≡ Ok sheet → Right forms (whole u u.phase ts) sheet

      step : (k : Token) (o : Outcome) → Fine (Reaches forms (λ rest. whole s s.phase (k ∷ rest))) o → closed ts ≡ true
          → ◌≡◌ {A = Result Sheet Check} (elim o [ Err c ↦ Err c | Ok u ↦ reads forms u ts ]) (Ok sheet) → Later → Right forms (whole s s.phase (k ∷ ts)) sheet
      step k (Err x) f c e later = cc
      step k (Ok u) f c e later = let (a, b) = later u f.sound c e in (sym (f.same ts) ∙ a, b)

      last : (ts : List Token) → is_empty ts ≡ true → reads forms s (ends ∷ ts) ≡ Ok sheet → Right forms (whole s s.phase (ends ∷ ts)) sheet
      last [] c e = ends_right s s.phase h e
      last (x ∷ xs) c e = cc

      by : (t : Token) → closed (t ∷ ts) ≡ true → reads forms s (t ∷ ts) ≡ Ok sheet → Later → Right forms (whole s s.phase (t ∷ ts)) sheet
      by (word w) c e later = step (word w) (on_word s w s.phase) (word_step forms s s.phase w h) c e later
      by (number n q) c e later = step (number n q) (on_number s forms n q s.phase) (number_step forms s s.phase n q h) c e later
      by (symbol b) c e later = step (symbol b) (on_symbol s b s.phase) (symbol_step forms s s.phase b h) c e later
      by none c e later = cc
      by ends c e later = last ts c e

starting_sound : (forms : Forms) → Sound forms starting declaring
starting_sound forms = record {
  declarations = record { few_fields = omega arith; good_fields = refl; apart = refl; few_rows = omega arith; row_fields_in_rows = inr refl; fits = omega arith };
  at = record { none_counted = refl; none_open = refl; none_so_far = refl };
}

pub sound : (forms : Forms) (text : List ℕ) (sheet : Sheet) → sheet_read forms text ≡ Ok sheet → Writes text sheet × (A.admitted forms sheet ≡ true)
sound forms text sheet h = go (ltb 4096 (length text)) refl h
  where
    go : (b : Bool) → ltb 4096 (length text) ≡ b
        → ◌≡◌ {A = Result Sheet TextRefusal} (elim b [ true ↦ Err (record { check = TextTooLong; place = 0 }) | false ↦ reading forms starting (tokens text) ]) (Ok sheet) → Writes text sheet × (A.admitted forms sheet ≡ true)
    go true e q = cc
    go false e q =
        let (same, admits) = reads_right forms sheet (kinds (tokens text)) starting (starting_sound forms) (closed_tokens text) (sym (reading_reads forms (tokens text) starting) ∙ ap unplaced q) in
        (record { same_tokens = same; short = ltb-false 4096 (length text) e }, admitted_by forms sheet admits)
