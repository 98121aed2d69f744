-- What the calls from C answer: 0 and the result, or the refusal's number and nothing changed.
use Rattle.std.specs.Prelude.{◌≡◌, ℕ, List, ℤ, Ok, Err, Result}
use Rattle.bank.specs.Answers.{refusal_number, read_by, written}
use Rattle.bank.specs.declared.BankRefusal.{BankRefusal}
use Rattle.encodings.specs.Shipped.{shipped}

-- a place before and after a call, and the answer: the place takes the result, or stays
abbrev pub Put : {X : Type 0} → Result X BankRefusal → X → X → ℕ → Type 0
Put (Ok x) before after r = (r ≡ 0) × (after ≡ x)
Put (Err e) before after r = (r ≡ refusal_number e) × (after ≡ before)

abbrev pub ReadForC : ℕ → ℕ → List ℕ → ℤ → ℤ → ℕ → Type 0
ReadForC letter size part before after r = Put (read_by (shipped letter size) part) before after r

abbrev pub WrittenForC : ℕ → ℕ → ℤ → List ℕ → List ℕ → ℕ → Type 0
WrittenForC letter size number before after r = Put (written (shipped letter size) number before) before after r
