-- The place of a refusal is that of a token.
use Rattle.std.proofs.Common.{◌≡◌, ℕ, ◌+◌, ◌≤◌, Bool, true, false, List, [], ◌∷◌, map, length, Ok, Err, Result, ap, ◌∙◌, arith, length-append}
use Rattle.std.specs.List.{AllByRecursion}
use Rattle.std.proofs.ByRecursion.{All-append, All-map}
use Rattle.bank.specs.Model.{Forms}
use Rattle.language.specs.declared.TextRefusal.{TextRefusal}
use Rattle.language.specs.Tokens.{Token, Placed, word, number, symbol, none, ends, tokens_from}
use Rattle.language.specs.Lexemes.{Lexeme, Lexed, token_at, end_at}
use Rattle.language.specs.Syntax.{Sheet}
use Rattle.language.specs.Reading.{State, Outcome, on_token, is_finished, sheet_of, reading}
use Rattle.language.proofs.Tokens.Closing.{closed}
use Rattle.language.proofs.Tokens.Lexing.{kinds, lexed_tokens}

module _ (forms : Forms) where
  -- one token more: the answer by the test for the end and the token's outcome
  abbrev pub answer_by : State → List Placed → ℕ → Bool → Outcome → Result Sheet TextRefusal
  answer_by s ps place b o = elim b [
    | true ↦ Ok (sheet_of s)
    | false ↦ elim o [ Err c ↦ Err (record { check = c; place = place }) | Ok t ↦ reading forms t ps ]
  ]

  -- what holds of the place of every token holds of a refusal's place
  pub refused_at : (P : ℕ → Type 0) (ps : List Placed) (s : State) (r : TextRefusal) → closed (kinds ps) ≡ true → AllByRecursion (λ p. P p.place) ps → reading forms s ps ≡ Err r → P r.place
  refused_at P [] s r c h e = cc
  refused_at P (p ∷ ps) s r c (here, later) e = go p.token c e (refused_at P ps)
    where
      Later : Type 0
      Later = (s : State) (r : TextRefusal) → closed (kinds ps) ≡ true → AllByRecursion (λ p. P p.place) ps → reading forms s ps ≡ Err r → P r.place

      by : (o : Outcome) → closed (kinds ps) ≡ true → answer_by s ps p.place false o ≡ Err r → Later → P r.place
      by (Err k) c e ih = let q : p.place ≡ r.place = cc in rw q at here
      by (Ok t) c e ih = ih t r c later e

      last : (b : Bool) → answer_by s ps p.place b (on_token s forms ends) ≡ Err r → P r.place
      last true e = cc
      last false e = let q : p.place ≡ r.place = cc in rw q at here

      go : (t : Token) → closed (t ∷ kinds ps) ≡ true → reading forms s (record { place = p.place; token = t } ∷ ps) ≡ Err r → Later → P r.place
      go (word w) c e ih = by (on_token s forms (word w)) c e ih
      go (number n q) c e ih = by (on_token s forms (number n q)) c e ih
      go (symbol b) c e ih = by (on_token s forms (symbol b)) c e ih
      go none c e ih = by (on_token s forms none) c e ih
      go ends c e ih = last (is_finished s.phase) e

-- tokens stand at their text's places
pub record Between (low high n : ℕ) : Type 0 where
  pub from : low ≤ n
  pub to : n ≤ high

lexeme_places : (ls : List Lexeme) (at : ℕ) (text : List ℕ) (low high : ℕ) → low ≤ at → at + length text ≤ high → Lexed at text ls → AllByRecursion (λ l. Between low high l.place) ls
lexeme_places [] at text low high a b h = tt
lexeme_places (l ∷ ls) at text low high a b (gap, rest, e, blanks, p, w, more) =
    let n : length text ≡ length gap + (length l.bytes + length rest) = ap length e ∙ simp length-append in (
      record { from = omega arith; to = omega arith },
      lexeme_places ls (at + length gap + length l.bytes) rest low high (omega arith) (omega arith) more,
    )

pub token_places : (ls : List Lexeme) (at : ℕ) (text : List ℕ) → Lexed at text ls → AllByRecursion (λ p. Between at (at + length text) p.place) (tokens_from at [] text)
token_places ls at text h =
    let P : Placed → Type 0 = λ p. Between at (at + length text) p.place in
    rw (lexed_tokens ls at text h)
    (All-append P (map token_at ls) (end_at (at + length text) ∷ [])
    (All-map P token_at ls (lexeme_places ls at text at (at + length text) (omega arith) (omega arith) h))
    (record { from = omega arith; to = omega arith }, tt))
