-- A refusal at a token stays the same whatever text follows that token; every text is accepted or refused.
use Rattle.std.proofs.Common.{◌≡◌, ℕ, ◌+◌, ◌<◌, ◌≤◌, Bool, true, false, ◌&&◌, ltb, ◌⊎◌, List, [], ◌∷◌, ◌++◌, length, Ok, Err, Result, sym, refl, ap, ◌∙◌, ap₂, inl, inr, append_assoc, append-nil, zero-add, arith, length-append}
use Rattle.std.proofs.lemmas.List.{nil_from_length}
use Rattle.std.proofs.lemmas.Bool.{le-ltb}
use Rattle.bank.specs.Model.{Forms}
use Rattle.language.specs.declared.Check.TheVariants.{TextTooLong}
use Rattle.language.specs.declared.TextRefusal.{TextRefusal}
use Rattle.language.specs.Tokens.{tokens_from, tokens}
use Rattle.language.specs.Lexemes.{Lexeme, Whole, Lexed, token_of, end_at}
use Rattle.language.specs.Syntax.{Sheet}
use Rattle.language.specs.Reading.{State, Outcome, starting, on_token, is_last, is_finished, reading, sheet_read}
use Rattle.language.specs.Refusals.{RefusedFirst}
use Rattle.language.proofs.Tokens.Closing.{closed_lexed, closed_tokens}
use Rattle.language.proofs.Tokens.Stepping.{next_token, some_bytes}
use Rattle.language.proofs.Tokens.Lexing.{lexed, lexed_tokens}
use Rattle.language.proofs.Refusals.Places.{answer_by, refused_at, Between, token_places}
use Rattle.language.proofs.Refusals.Prefixes.{longer_front, same_token, whole_alike}

module _ (forms : Forms) (token after other : List ℕ) (w : Whole token after) (v : Whole token other) where
  pub stays_from : (ls : List Lexeme) (at : ℕ) (text before : List ℕ) (s : State) (r : TextRefusal) → Lexed at text ls → text ≡ before ++ (token ++ after)
      → reading forms s (tokens_from at [] text) ≡ Err r → r.place ≡ at + length before → reading forms s (tokens_from at [] (before ++ (token ++ other))) ≡ Err r
  stays_from [] at text before s r h e refused place =
      let n : length text ≡ length before + (length token + length after) = ap length e ∙ simp length-append in
      let some : 0 < length token = some_bytes token after w in
      let last : r.place ≡ at + length text =
      refused_at forms (λ n. n ≡ at + length text) (end_at (at + length text) ∷ []) s r refl (refl, tt) (sym (ap (reading forms s) (lexed_tokens [] at text h)) ∙ refused) in
      absurd (omega arith)
  stays_from (l ∷ ls) at text before s r (gap, rest, cut, blanks, p, u, more) e refused place =
      go (is_last (token_of l.bytes) && is_finished s.phase) (on_token s forms (token_of l.bytes)) refl refl
      (sym (ap (reading forms s) (ap (tokens_from at []) cut ∙ next_token gap l.bytes rest at blanks u)) ∙ refused) (stays_from ls)
    where
      Later : Type 0
      Later = (at : ℕ) (text before : List ℕ) (s : State) (r : TextRefusal) → Lexed at text ls → text ≡ before ++ (token ++ after)
          → reading forms s (tokens_from at [] text) ≡ Err r → r.place ≡ at + length before → reading forms s (tokens_from at [] (before ++ (token ++ other))) ≡ Err r

      go : (b : Bool) (o : Outcome) → (is_last (token_of l.bytes) && is_finished s.phase) ≡ b → on_token s forms (token_of l.bytes) ≡ o
          → answer_by forms s (tokens_from (at + length gap + length l.bytes) [] rest) (at + length gap) b o ≡ Err r → Later
          → reading forms s (tokens_from at [] (before ++ (token ++ other))) ≡ Err r
      go true o eb eo q later = cc
      go false (Err c) eb eo q later =
          let here : at + length gap ≡ r.place = cc in
          let (zs, longer, rests) = longer_front gap before (l.bytes ++ rest) (token ++ after) (sym cut ∙ e) (omega arith) in
          let n : length before ≡ length gap + length zs = ap length longer ∙ length-append gap zs in
          let nil : zs ≡ [] = nil_from_length zs (omega arith) in
          let same : before ≡ gap = longer ∙ ap (λ z. gap ++ z) nil ∙ append-nil gap in
          let own : token ≡ l.bytes = sym (same_token l.bytes token rest after u w (rests ∙ ap (λ z. z ++ (token ++ after)) nil)) in
          ap (λ x. reading forms s (tokens_from at [] (x ++ (token ++ other)))) same
          ∙ ap (reading forms s) (next_token gap token other at blanks v)
          ∙ ap (λ x. reading forms s (record { place = at + length gap; token = token_of x } ∷ tokens_from (at + length gap + length token) [] other)) own
          ∙ ap₂ (answer_by forms s (tokens_from (at + length gap + length token) [] other) (at + length gap)) eb eo
          ∙ q
      go false (Ok t) eb eo q later =
          let past : ℕ = at + length gap + length l.bytes in
          let low = (refused_at forms (Between past (past + length rest)) (tokens_from past [] rest) t r (closed_lexed ls past rest more) (token_places ls past rest more) q).from in
          let (zs, longer, rests) = longer_front (gap ++ l.bytes) before rest (token ++ after) (append_assoc gap l.bytes rest ∙ sym cut ∙ e) (simp length-append (omega arith)) in
          let n : length before ≡ length gap + length l.bytes + length zs = ap length longer ∙ simp length-append in
          let u' : Whole l.bytes (zs ++ (token ++ other)) = whole_alike l.bytes zs token after other (some_bytes token after w) (rw rests at u) in
          let same : before ++ (token ++ other) ≡ gap ++ (l.bytes ++ (zs ++ (token ++ other))) =
          ap (λ x. x ++ (token ++ other)) longer ∙ append_assoc (gap ++ l.bytes) zs (token ++ other) ∙ append_assoc gap l.bytes (zs ++ (token ++ other)) in
          ap (λ x. reading forms s (tokens_from at [] x)) same
          ∙ ap (reading forms s) (next_token gap l.bytes (zs ++ (token ++ other)) at blanks u')
          ∙ ap₂ (answer_by forms s (tokens_from past [] (zs ++ (token ++ other))) (at + length gap)) eb eo
          ∙ later past rest zs t r more rests q (omega arith)

-- a text that is not too long is read by its tokens
short_read : (forms : Forms) (text : List ℕ) → length text ≤ 4096 → sheet_read forms text ≡ reading forms starting (tokens text)
short_read forms text h = rw (le-ltb 4096 (length text) h, sheet_read)

decides : (forms : Forms) (text : List ℕ) → ((sheet : Sheet) × (sheet_read forms text ≡ Ok sheet)) ⊎ ((r : TextRefusal) × (sheet_read forms text ≡ Err r) × (r.place ≤ length text))
decides forms text = go (ltb 4096 (length text)) refl
  where
    Decided : Result Sheet TextRefusal → Type 0
    Decided a = ((sheet : Sheet) × (a ≡ Ok sheet)) ⊎ ((r : TextRefusal) × (a ≡ Err r) × (r.place ≤ length text))

    by : (a : Result Sheet TextRefusal) → reading forms starting (tokens text) ≡ a → Decided a
    by (Ok sheet) e = inl (sheet, refl)
    by (Err r) e =
        let within = (refused_at forms (Between 0 (0 + length text)) (tokens text) starting r (closed_tokens text) (token_places (lexed text).0 0 text (lexed text).1) e).to in
        inr (r, refl, omega arith)

    go : (b : Bool) → ltb 4096 (length text) ≡ b → Decided (elim b [ true ↦ Err (record { check = TextTooLong; place = 0 }) | false ↦ reading forms starting (tokens text) ])
    go true e = inr (record { check = TextTooLong; place = 0 }, refl, omega arith)
    go false e = by (reading forms starting (tokens text)) refl

pub refused_first : (forms : Forms) → RefusedFirst forms
refused_first forms = record {
  stays = λ before token after other check w v short still h.
      let text = before ++ (token ++ after) in
      short_read forms (before ++ (token ++ other)) still
      ∙ stays_from forms token after other w v (lexed text).0 0 text before starting (record { check = check; place = length before }) (lexed text).1 refl
      (sym (short_read forms text short) ∙ h) (sym (zero-add (length before)));
  decides = decides forms;
}
