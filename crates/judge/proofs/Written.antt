-- What was written over a part, said of any part as long.
use Rattle.std.proofs.Common.{◌≡◌, ℕ, Bool, List, length, ℤ, Some, None, Ok, Err, Decides, Option, Result, refl, ap, arith}
use Rattle.bank.specs.Model.{Form}
use Rattle.bank.specs.Answers.{written, WriteCase, Writes}
use Rattle.bank.specs.declared.BankRefusal.{BankRefusal}

-- a part counts by its length alone
pub written_as_long : (f : Option Form) (n : ℤ) (a b : List ℕ) → length a ≡ length b → written f n a ≡ written f n b
written_as_long None n a b same = refl
written_as_long (Some f) n a b same = rw same refl

-- after a write that was done: the part is the image just where the image is what the form writes
pub image_decides : (f : Option Form) (m n : ℤ) (before after image : List ℕ) (r : Bool) → m ≡ n → length before ≡ length image → Writes f m before after (Ok tt) → Decides r (after ≡ image) → Decides r (written f n image ≡ Ok image)
image_decides f m n before after image r is_n same done d = by_case (written f m before) refl done
  where
    by_case : (w : Result (List ℕ) BankRefusal) → written f m before ≡ w → WriteCase w before after (Ok tt) → Decides r (written f n image ≡ Ok image)
    by_case (Ok made) e (ok, is) =
        let moved = written_as_long f n before image same in
        let given = ap (λ k. written f k before) is_n in
        ((λ told. let eq = d.0 told in cc), (λ says. d.1 (cc)))
    by_case (Err refusal) e (ok, is) = absurd (let z : ◌≡◌ {A = ℕ} 0 1 = cc in omega arith)
