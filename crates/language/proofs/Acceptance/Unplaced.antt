-- A sheet's reading without the places of its tokens.
use Rattle.std.proofs.Common.{◌≡◌, Bool, true, false, ◌&&◌, List, [], ◌∷◌, ◌++◌, Ok, Err, Result, refl, ap}
use Rattle.bank.specs.Model.{Forms}
use Rattle.language.specs.declared.Check.{Check}
use Rattle.language.specs.declared.Check.TheVariants.{Misplaced}
use Rattle.language.specs.declared.TextRefusal.{TextRefusal}
use Rattle.language.specs.Tokens.{Token, Placed, word, number, symbol, none, ends}
use Rattle.language.specs.Syntax.{Sheet}
use Rattle.language.specs.Reading.{State, Outcome, on_token, is_last, is_finished, sheet_of, reading}
use Rattle.language.proofs.Tokens.Lexing.{kinds}
use Rattle.language.proofs.Acceptance.Runs.{follow, runs}

-- a reading's answer without the place
abbrev pub unplaced : Result Sheet TextRefusal → Result Sheet Check
unplaced (Ok s) = Ok s
unplaced (Err r) = Err r.check

pub unplaced_ok : (r : Result Sheet TextRefusal) (s : Sheet) → unplaced r ≡ Ok s → r ≡ Ok s
unplaced_ok (Ok t) s h = let e : t ≡ s = cc in ap Ok e
unplaced_ok (Err x) s h = cc

module _ (forms : Forms) where
  abbrev pub reads : State → List Token → Result Sheet Check
  reads s [] = Err Misplaced
  reads s (t ∷ ts) =
      elim (is_last t && is_finished s.phase) [
        | true ↦ Ok (sheet_of s)
        | false ↦ elim (on_token s forms t) [ Err c ↦ Err c | Ok u ↦ reads u ts ]
      ]

  pub reading_reads : (ps : List Placed) (s : State) → unplaced (reading forms s ps) ≡ reads s (kinds ps)
  reading_reads [] s = refl
  reading_reads (p ∷ ps) s = go (is_last p.token && is_finished s.phase) (on_token s forms p.token) (reading_reads ps)
    where
      go : (b : Bool) (o : Outcome) → ((t : State) → unplaced (reading forms t ps) ≡ reads t (kinds ps))
          → unplaced (elim b [ true ↦ Ok (sheet_of s) | false ↦ elim o [ Err c ↦ Err (record { check = c; place = p.place }) | Ok t ↦ reading forms t ps ] ])
          ≡ elim b [ true ↦ Ok (sheet_of s) | false ↦ elim o [ Err c ↦ Err c | Ok t ↦ reads t (kinds ps) ] ]
      go true o ih = refl
      go false (Err c) ih = refl
      go false (Ok t) ih = ih t

  -- a run to the end of a sheet reads it
  pub runs_read : (ts : List Token) (s u : State) → runs forms s ts ≡ Ok u → is_finished u.phase ≡ true → reads s (ts ++ ends ∷ []) ≡ Ok (sheet_of u)
  runs_read [] s u h f = let e : s ≡ u = cc in rw e (rw (f, reads))
  runs_read (t ∷ ts) s u h f = go t h (runs_read ts)
    where
      Later : Type 0
      Later = (v w : State) → runs forms v ts ≡ Ok w → is_finished w.phase ≡ true → reads v (ts ++ ends ∷ []) ≡ Ok (sheet_of w)

      step : (o : Outcome) → follow o (λ v. runs forms v ts) ≡ Ok u → Later → ◌≡◌ {A = Result Sheet Check} (elim o [ Err c ↦ Err c | Ok v ↦ reads v (ts ++ ends ∷ []) ]) (Ok (sheet_of u))
      step (Err c) q later = cc
      step (Ok v) q later = later v u q f

      go : (t : Token) → runs forms s (t ∷ ts) ≡ Ok u → Later → reads s ((t ∷ ts) ++ ends ∷ []) ≡ Ok (sheet_of u)
      go (word w) q later = step (on_token s forms (word w)) q later
      go (number n k) q later = step (on_token s forms (number n k)) q later
      go (symbol b) q later = step (on_token s forms (symbol b)) q later
      go none q later = cc
      go ends q later = cc
