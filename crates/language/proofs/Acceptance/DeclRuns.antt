-- What a reader does on the tokens of a sheet's declarations.
use Rattle.std.proofs.Common.{◌≡◌, ℕ, ◌+◌, ◌<◌, ◌≤◌, true, List, [], ◌∷◌, ◌++◌, length, is_some, Some, None, Ok, Err, Option, sym, refl, ap, ◌∙◌, append_assoc, append-nil, mul-le-mul_left, arith, length-append}
use Rattle.std.proofs.lemmas.Bool.{and_parts, leb-true, lt-leb, le-ltb, ne_eqb}
use Rattle.bank.specs.Model.{Form, Forms}
use Rattle.language.specs.declared.Check.TheVariants.{FormLacking}
use Rattle.language.specs.Tokens.{Token, word, number, all}
use Rattle.language.specs.Words.{field_word, is_name}
use Rattle.language.specs.Syntax.{Field, empty, fields_tokens}
use Rattle.language.specs.Layout.{ticket_length, widths}
use Rattle.language.specs.Reading.{State, declaring, field_name, field_letter, field_places, declaring_word, name_field, size_field, places_field, found, all_fields, with_field, sheet_of, to, goes}
use Rattle.language.specs.Admitted as A
use Rattle.language.proofs.Acceptance.Runs.{follow, runs}
use Rattle.language.proofs.Acceptance.Names.{found_before}

module _ (forms : Forms) (s : State) where
  begins_field : length (all_fields s) < 64 → declaring_word s (Some field_word) ≡ goes s field_name
  begins_field h = rw (lt-leb 64 (length (all_fields s)) h)

  names_field : (w : List ℕ) → is_name w ≡ true → found s w ≡ None → name_field s w ≡ goes s (field_letter w)
  names_field w n g = rw (n, g)

  sizes_field : (n : List ℕ) (c z : ℕ) → z ≤ 255 → is_some (forms c z) ≡ true → size_field s forms n c z ≡ goes s (field_places n c z)
  sizes_field n c z h k = rw (le-ltb 255 z h) (go (forms c z) k)
    where
      go : (o : Option Form) → is_some o ≡ true → elim o [ None ↦ Err FormLacking | Some f ↦ goes s (field_places n c z) ] ≡ goes s (field_places n c z)
      go None q = cc
      go (Some f) q = refl

  places_of_field : (f : Field) → f.places ≤ 6 → ticket_length forms (sheet_of (with_field s f)) ≤ 2048 → places_field s forms f.name f.letter f.size f.places ≡ Ok (with_field s f)
  places_of_field f h k = rw (le-ltb 6 f.places h, le-ltb 2048 (ticket_length forms (sheet_of (with_field s f))) k)

  pub field_runs : (f : Field) (rest : List Token) → length (all_fields s) < 64 → A.field_good forms f ≡ true → found s f.name ≡ None
      → ticket_length forms (sheet_of (with_field s f)) ≤ 2048 → runs forms (to s declaring) (fields_tokens (f ∷ []) ++ rest) ≡ runs forms (with_field s f) rest
  field_runs f rest h g n k =
      let (g₃, gp) = and_parts _ _ g in
      let (g₂, gs) = and_parts _ _ g₃ in
      let (gn, gz) = and_parts _ _ g₂ in
      let size = number f.size 0 ∷ number f.places 0 ∷ rest in
      ap (λ o. follow o (λ u. runs forms u (word f.name ∷ word (f.letter ∷ []) ∷ size))) (begins_field h)
      ∙ ap (λ o. follow o (λ u. runs forms u (word (f.letter ∷ []) ∷ size))) (names_field f.name gn n)
      ∙ ap (λ o. follow o (λ u. runs forms u (number f.places 0 ∷ rest))) (sizes_field f.name f.letter f.size (leb-true f.size 255 gz) gs)
      ∙ ap (λ o. follow o (λ u. runs forms u rest)) (places_of_field f (leb-true f.places 6 gp) k)

-- fields that are declared one after another, where st l is the state after l, and before are the fields before those
module _ (forms : Forms) (st : List Field → State) (before : List Field)
    (fresh : (l : List Field) → st l ≡ to (st l) declaring)
    (all_is : (l : List Field) → all_fields (st l) ≡ before ++ l)
    (adds : (l : List Field) (f : Field) → with_field (st l) f ≡ st (l ++ f ∷ []))
    (grows : (l m : List Field) → ticket_length forms (sheet_of (st l)) ≤ ticket_length forms (sheet_of (st (l ++ m))))
  where
    pub fields_run : (fs l : List Field) (rest : List Token) → length (before ++ (l ++ fs)) ≤ 64 → all (A.field_good forms) fs ≡ true → A.distinct (before ++ (l ++ fs)) ≡ true
        → ticket_length forms (sheet_of (st (l ++ fs))) ≤ 2048 → runs forms (st l) (fields_tokens fs ++ rest) ≡ runs forms (st (l ++ fs)) rest
    fields_run [] l rest h g d t = ap (λ x. runs forms (st x) rest) (sym (append-nil l))
    fields_run (f ∷ fs) l rest h g d t =
        let (gf, gs) = and_parts (A.field_good forms f) (all (A.field_good forms) fs) g in
        let more = append_assoc l (f ∷ []) fs in
        let h' : length (before ++ (l ++ f ∷ [] ++ fs)) ≤ 64 = rw more h in
        let d' : A.distinct (before ++ (l ++ f ∷ [] ++ fs)) ≡ true = rw more d in
        let t' : ticket_length forms (sheet_of (st (l ++ f ∷ [] ++ fs))) ≤ 2048 = rw more t in
        let few : length (all_fields (st l)) < 64 = rw (all_is l) (simp length-append (omega (arith, simp length-append at h))) in
        let new : found (st l) f.name ≡ None = rw (all_is l) (found_before 0 (before ++ l) f fs (rw (append_assoc before l (f ∷ fs)) d)) in
        let fits : ticket_length forms (sheet_of (with_field (st l) f)) ≤ 2048 = rw (adds l f) (omega (arith, grows (l ++ f ∷ []) fs)) in
        ap (λ s. runs forms s (fields_tokens (f ∷ fs) ++ rest)) (fresh l)
        ∙ field_runs forms (st l) f (fields_tokens fs ++ rest) few gf new fits
        ∙ ap (λ s. runs forms s (fields_tokens fs ++ rest)) (adds l f)
        ∙ fields_run fs (l ++ f ∷ []) rest h' gs d' t'
        ∙ ap (λ x. runs forms (st x) rest) more

module _ (forms : Forms) where
  abbrev pub declared : List Field → ℕ → List Field → State
  declared h n r = record { head = h; rows = n; row_fields = r; statements = 0; nests = []; so_far = empty; phase = declaring }

  widths_append : (l m : List Field) → widths forms (l ++ m) ≡ widths forms l + widths forms m
  widths_append [] m = omega arith
  widths_append (f ∷ l) m = omega (arith, widths_append l m)

  -- the fields before `rows`
  pub head_runs : (fs : List Field) (rest : List Token) → length fs ≤ 64 → all (A.field_good forms) fs ≡ true → A.distinct fs ≡ true
      → widths forms fs ≤ 2048 → runs forms (declared [] 0 []) (fields_tokens fs ++ rest) ≡ runs forms (declared fs 0 []) rest
  head_runs fs rest h g d t = fields_run forms (λ l. declared l 0 []) [] (λ l. refl) (λ l. append-nil l) (λ l f. refl) grows fs [] rest h g d (omega arith)
    where
      grows : (l m : List Field) → ticket_length forms (sheet_of (declared l 0 [])) ≤ ticket_length forms (sheet_of (declared (l ++ m) 0 []))
      grows l m = omega (arith, widths_append l m)

  -- the fields after `rows`
  pub row_runs : (head : List Field) (n : ℕ) (fs : List Field) (rest : List Token) → (n ≡ 0 → ⊥) → length (head ++ fs) ≤ 64 → all (A.field_good forms) fs ≡ true → A.distinct (head ++ fs) ≡ true
      → ticket_length forms (sheet_of (declared head n fs)) ≤ 2048 → runs forms (declared head n []) (fields_tokens fs ++ rest) ≡ runs forms (declared head n fs) rest
  row_runs head n fs rest some h g d t = fields_run forms (λ l. declared head n l) head (λ l. refl) (λ l. refl) adds grows fs [] rest h g d t
    where
      adds : (l : List Field) (f : Field) → with_field (declared head n l) f ≡ declared head n (l ++ f ∷ [])
      adds l f = rw (ne_eqb n 0 some)

      grows : (l m : List Field) → ticket_length forms (sheet_of (declared head n l)) ≤ ticket_length forms (sheet_of (declared head n (l ++ m)))
      grows l m =
          let longer : widths forms l ≤ widths forms (l ++ m) = omega (arith, widths_append l m) in
          omega (arith, mul-le-mul_left n longer)
