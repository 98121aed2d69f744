-- Before `begin` every step adds its token to what is read, and keeps what holds.
use Rattle.std.proofs.Common.{◌≡◌, ℕ, ◌<◌, ◌≤◌, Bool, true, false, cond, not, ◌||◌, eqb, ltb, leb, ◌⊎◌, List, [], ◌∷◌, ◌++◌, length, is_some, Some, None, Ok, Err, Option, sym, refl, ap, ◌∙◌, inl, inr, ⊎_elim, append_assoc, append-nil, arith, length-append}
use Rattle.std.proofs.lemmas.Bool.{and_from, or_parts, ltb-false, le-leb, leb-false, eqb-true, eqb-false, ne_eqb, not-false}
use Rattle.std.proofs.lemmas.List.Recursion.{and_push}
use Rattle.bank.specs.Model.{Form, Forms}
use Rattle.language.specs.declared.Check.TheVariants.{Misplaced, DeclaredBefore, FormLacking, OutOfBounds, TooMany}
use Rattle.language.specs.Tokens.{Token, word, number, all}
use Rattle.language.specs.Words.{Reserved, field_word, rows_word, begin_word, end_word, rounded_word, if_word, then_word, else_word, endif_word, each_word, endeach_word, is_name}
use Rattle.language.specs.Syntax.{Sheet, Field, Block, empty, block_tokens, fields_tokens, rows_tokens, reserved_token}
use Rattle.language.specs.Layout.{ticket_length}
use Rattle.language.specs.Reading.{State, found, Nest, declaring, field_name, field_letter, field_size, field_places, row_count, goes, with_field, sheet_of, declaring_word, name_field, letter_field, on_number}
use Rattle.language.specs.Admitted as A
use Rattle.language.proofs.Acceptance.Names.{distinct_push}
use Rattle.language.proofs.Acceptance.Words.{Spelled}
use Rattle.language.proofs.Acceptance.Admits.{Declarations}
use Rattle.language.proofs.Acceptance.Zipper.{bare, nested, declared_then, whole, Unbegun, UnbegunHere, NewName, NewForm, Body, Fine, Reaches}
use Rattle.language.proofs.Acceptance.ExprSteps.{fine_refuse_if, fine_cond, fine_same}

unbegun_body : (forms : Forms) (sheet : Sheet) (k : ℕ) (ns : List Nest) (b : Block) → Unbegun k ns b → Body forms sheet 0 k ns b
unbegun_body forms sheet k ns b u = rw (u.none_counted, u.none_open, u.none_so_far) (record { counted = refl; few = omega arith; here = record { good = refl; deep = omega arith }; around = tt })

fields_append : (xs ys : List Field) → fields_tokens (xs ++ ys) ≡ fields_tokens xs ++ fields_tokens ys
fields_append [] ys = refl
fields_append (x ∷ xs) ys = ap (λ r. reserved_token field_word ∷ word x.name ∷ word (x.letter ∷ []) ∷ number x.size 0 ∷ number x.places 0 ∷ r) (fields_append xs ys)

-- one more field, however the fields are divided
more_declared : (forms : Forms) (old new : Sheet) (f : Field) → Declarations forms old → new.head ++ new.row_fields ≡ old.head ++ old.row_fields ++ f ∷ [] → NewName old f.name → A.field_good forms f ≡ true
    → new.rows ≤ 64 → (0 < new.rows) ⊎ (new.row_fields ≡ []) → ticket_length forms new ≤ 2048 → Declarations forms new
more_declared forms old new f d same n g few rows fits = record {
  few_fields = rw same (simp length-append (omega (arith, simp length-append at n.room)));
  good_fields = rw same (and_push (all (A.field_good forms)) (A.field_good forms) refl (λ _ _. refl) (old.head ++ old.row_fields) f ∙ and_from _ _ d.good_fields g);
  apart = rw same (distinct_push 0 (old.head ++ old.row_fields) f d.apart n.new);
  few_rows = few;
  row_fields_in_rows = rows;
  fits = fits;
}

module _ (forms : Forms) (s : State) (d : Declarations forms (bare s)) where
  -- without rows no field is a row's
  no_row_fields : s.rows ≡ 0 → s.row_fields ≡ []
  no_row_fields e = ⊎_elim (λ h. absurd (omega arith)) (λ q. q) d.row_fields_in_rows

  pub declaring_fine : UnbegunHere forms s → (w : List ℕ) (r : Option Reserved) → Spelled w r → Fine (Reaches forms (λ rest. declared_then s (word w ∷ rest))) (declaring_word s r)
  declaring_fine u w (Some field_word) sp = fine_refuse_if _ (leb 64 (length (s.head ++ s.row_fields))) TooMany _ (λ e.
      record { sound = record { declarations = d; at = leb-false 64 (length (s.head ++ s.row_fields)) e }; same = λ rest. ap (λ v. declared_then s (word v ∷ rest)) (sym sp) })
  declaring_fine u w (Some rows_word) sp = fine_refuse_if _ (not (eqb s.rows 0)) Misplaced _ (λ e.
      record { sound = record { declarations = d; at = eqb-true s.rows 0 (not-false (eqb s.rows 0) e) }; same = λ rest. ap (λ v. declared_then s (word v ∷ rest)) (sym sp) })
  declaring_fine u w (Some begin_word) sp = record {
    sound = record { declarations = d; at = unbegun_body forms (bare s) s.statements s.nests s.so_far u };
    same = λ rest. ap (λ ns. declared_then s (reserved_token begin_word ∷ nested (s.head ++ s.row_fields) ns (block_tokens (s.head ++ s.row_fields) s.so_far ++ rest))) u.none_open
        ∙ ap (λ b. declared_then s (reserved_token begin_word ∷ (block_tokens (s.head ++ s.row_fields) b ++ rest))) u.none_so_far
        ∙ ap (λ v. declared_then s (word v ∷ rest)) (sym sp);
  }
  declaring_fine u w (Some end_word) sp = tt
  declaring_fine u w (Some rounded_word) sp = tt
  declaring_fine u w (Some if_word) sp = tt
  declaring_fine u w (Some then_word) sp = tt
  declaring_fine u w (Some else_word) sp = tt
  declaring_fine u w (Some endif_word) sp = tt
  declaring_fine u w (Some each_word) sp = tt
  declaring_fine u w (Some endeach_word) sp = tt
  declaring_fine u w None sp = tt

  pub name_fine : (w : List ℕ) → length (s.head ++ s.row_fields) < 64 → Fine (Reaches forms (λ rest. whole s field_name (word w ∷ rest))) (name_field s w)
  name_fine w room = fine_refuse_if _ (not (is_name w)) Misplaced _ (λ n. go n (found s w) refl)
    where
      go : not (is_name w) ≡ false → (x : Option ℕ) → found s w ≡ x → Fine (Reaches forms (λ rest. whole s field_name (word w ∷ rest))) (elim x [ Some f ↦ Err DeclaredBefore | None ↦ goes s (field_letter w) ])
      go n None e = record { sound = record { declarations = d; at = record { room = room; a_name = not-false (is_name w) n; new = e } }; same = λ rest. refl }
      go n (Some f) e = tt

  pub letter_fine : (n w : List ℕ) → NewName (bare s) n → Fine (Reaches forms (λ rest. whole s (field_letter n) (word w ∷ rest))) (letter_field s n w)
  letter_fine n [] g = tt
  letter_fine n (c ∷ []) g = record { sound = record { declarations = d; at = g }; same = λ rest. refl }
  letter_fine n (c ∷ e ∷ es) g = tt

  pub size_fine : (n : List ℕ) (c z q : ℕ) → NewName (bare s) n → Fine (Reaches forms (λ rest. whole s (field_size n c) (number z q ∷ rest))) (on_number s forms z q (field_size n c))
  size_fine n c z q g = fine_cond _ (eqb q 0) _ _
      (λ whole_q. fine_refuse_if _ (ltb 255 z) FormLacking _ (λ small. go (ltb-false 255 z small) (eqb-true q 0 whole_q) (forms c z) refl))
      (λ _. tt)
    where
      go : z ≤ 255 → q ≡ 0 → (x : Option Form) → forms c z ≡ x → Fine (Reaches forms (λ rest. whole s (field_size n c) (number z q ∷ rest))) (elim x [ None ↦ Err FormLacking | Some f ↦ goes s (field_places n c z) ])
      go small e None k = tt
      go small e (Some f) k = record {
        sound = record { declarations = d; at = (g, record { small = small; known = ap is_some k }) };
        same = λ rest. ap (λ v. whole s (field_size n c) (number z v ∷ rest)) (sym e);
      }

  -- the tokens of one more field
  push_tokens : (xs : List Field) (f : Field) (rest : List Token) → fields_tokens (xs ++ f ∷ []) ++ rest ≡ fields_tokens xs ++ (fields_tokens (f ∷ []) ++ rest)
  push_tokens xs f rest = ap (λ x. x ++ rest) (fields_append xs (f ∷ [])) ∙ append_assoc (fields_tokens xs) (fields_tokens (f ∷ [])) rest

  -- a field before `rows`
  abbrev in_head : Field → State
  in_head f = record { head = s.head ++ f ∷ []; rows = 0; row_fields = []; statements = 0; nests = []; so_far = empty; phase = declaring }

  head_field : (f : Field) → NewName (bare s) f.name → A.field_good forms f ≡ true → s.rows ≡ 0 → ticket_length forms (sheet_of (in_head f)) ≤ 2048
      → Reaches forms (λ rest. declared_then s (fields_tokens (f ∷ []) ++ rest)) (in_head f)
  head_field f n g e fits =
      let none = no_row_fields e in
      record {
        sound = record {
          declarations = more_declared forms (bare s) (bare (in_head f)) f d
              (append-nil (s.head ++ f ∷ []) ∙ ap (λ x. x ++ f ∷ []) (sym (append-nil s.head) ∙ ap (λ r. s.head ++ r) (sym none))) n g (omega arith) (inr refl) fits;
          at = record { none_counted = refl; none_open = refl; none_so_far = refl };
        };
        same = λ rest. push_tokens s.head f rest
            ∙ ap (λ r. fields_tokens s.head ++ (rows_tokens r ++ (fields_tokens (f ∷ []) ++ rest))) (sym e)
            ∙ ap (λ x. fields_tokens s.head ++ (rows_tokens s.rows ++ (fields_tokens x ++ (fields_tokens (f ∷ []) ++ rest)))) (sym none);
      }

  -- a field after `rows`
  abbrev in_rows : Field → State
  in_rows f = record { head = s.head; rows = s.rows; row_fields = s.row_fields ++ f ∷ []; statements = 0; nests = []; so_far = empty; phase = declaring }

  row_field : (f : Field) → NewName (bare s) f.name → A.field_good forms f ≡ true → (s.rows ≡ 0 → ⊥) → ticket_length forms (sheet_of (in_rows f)) ≤ 2048
      → Reaches forms (λ rest. declared_then s (fields_tokens (f ∷ []) ++ rest)) (in_rows f)
  row_field f n g some fits = record {
    sound = record {
      declarations = more_declared forms (bare s) (bare (in_rows f)) f d (sym (append_assoc s.head s.row_fields (f ∷ []))) n g d.few_rows (inl (omega (arith, some))) fits;
      at = record { none_counted = refl; none_open = refl; none_so_far = refl };
    };
    same = λ rest. ap (λ x. fields_tokens s.head ++ (rows_tokens s.rows ++ x)) (push_tokens s.row_fields f rest);
  }

  pub places_fine : (n : List ℕ) (c z p q : ℕ) → NewName (bare s) n → NewForm forms c z → Fine (Reaches forms (λ rest. whole s (field_places n c z) (number p q ∷ rest))) (on_number s forms p q (field_places n c z))
  places_fine n c z p q g k = fine_cond _ (eqb q 0) _ _
      (λ e. fine_refuse_if _ (ltb 6 p) OutOfBounds _ (λ small. fine_refuse_if _ (ltb 2048 (ticket_length forms (sheet_of (with_field s f)))) TooMany (Ok (with_field s f)) (λ fits.
      fine_same forms _ _ (Ok (with_field s f)) (λ rest. ap (λ v. whole s (field_places n c z) (number p v ∷ rest)) (sym (eqb-true q 0 e)))
      (go (ltb-false 6 p small) (eqb s.rows 0) refl (ltb-false 2048 (ticket_length forms (sheet_of (with_field s f))) fits)))))
      (λ _. tt)
    where
      f : Field
      f = record { name = n; letter = c; size = z; places = p }

      good : p ≤ 6 → A.field_good forms f ≡ true
      good h = and_from _ _ (and_from _ _ (and_from _ _ g.a_name (le-leb z 255 k.small)) k.known) (le-leb p 6 h)

      go : p ≤ 6 → (b : Bool) → eqb s.rows 0 ≡ b → ticket_length forms (sheet_of (cond b (in_head f) (in_rows f))) ≤ 2048
          → Reaches forms (λ rest. declared_then s (fields_tokens (f ∷ []) ++ rest)) (cond b (in_head f) (in_rows f))
      go small true e fits = head_field f g (good small) (eqb-true s.rows 0 e) fits
      go small false e fits = row_field f g (good small) (eqb-false s.rows 0 e) fits

  pub rows_fine : (n q : ℕ) → s.rows ≡ 0 → Fine (Reaches forms (λ rest. whole s row_count (number n q ∷ rest))) (on_number s forms n q row_count)
  rows_fine n q e = fine_cond _ (eqb q 0) _ _
      (λ z. fine_refuse_if _ (eqb n 0 || ltb 64 n) OutOfBounds _ (λ h.
      let (some, few) = or_parts (eqb n 0) (ltb 64 n) h in
      let none = no_row_fields e in
      let nonzero = eqb-false n 0 some in
      record {
        sound = record {
          declarations = record {
            few_fields = rw none at d.few_fields;
            good_fields = rw none at d.good_fields;
            apart = rw none at d.apart;
            few_rows = ltb-false 64 n few;
            row_fields_in_rows = inr refl;
            fits = omega (arith, d.fits);
          };
          at = record { none_counted = refl; none_open = refl; none_so_far = refl };
        };
        same = λ rest. ap (λ b. fields_tokens s.head ++ (elim b [ true ↦ [] | false ↦ reserved_token rows_word ∷ number n 0 ∷ [] ] ++ rest)) (ne_eqb n 0 nonzero)
            ∙ ap (λ v. fields_tokens s.head ++ (reserved_token rows_word ∷ number n v ∷ rest)) (sym (eqb-true q 0 z))
            ∙ ap (λ r. fields_tokens s.head ++ (rows_tokens r ++ (reserved_token rows_word ∷ number n q ∷ rest))) (sym e)
            ∙ ap (λ x. fields_tokens s.head ++ (rows_tokens s.rows ++ (fields_tokens x ++ (reserved_token rows_word ∷ number n q ∷ rest)))) (sym none);
      }))
      (λ _. tt)
