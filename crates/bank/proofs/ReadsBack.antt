-- A number that was written is read back.
use Rattle.std.proofs.Common.{◌≡◌, Bool, true, false, cond, ◌&&◌, eqb, length, ℤ, Some, None, Ok, Err, refl, eq-eqb}
use lib.Signed.{le_z, le_z_yes}
use Rattle.std.proofs.lemmas.Bool.{and_parts}
use Rattle.bank.specs.Model.{Form, Within, LawfulForm}
use Rattle.bank.specs.Answers.{read_by}
use Rattle.bank.specs.ReadsBack.{ReadsBack}
use Rattle.bank.specs.declared.BankRefusal.TheVariants.{OutOfRange, WrongWidth}

pub within_from_test : (f : Form) (n : ℤ) → (le_z f.low n && le_z n f.high) ≡ true → Within f n
within_from_test f n h =
    let p = and_parts (le_z f.low n) (le_z n f.high) h in
    record { above = le_z_yes (rw p.0 tt); below = le_z_yes (rw p.1 tt) }

image_reads : (f : Form) → LawfulForm f → (n : ℤ) → Within f n → read_by (Some f) (f.image n) ≡ Ok n
image_reads f l n w = rw (eq-eqb (length (f.image n)) f.width (l.long n w), l.back n w)

pub reads_back : ReadsBack
reads_back None l n before after e = cc
reads_back (Some f) l n before after e = go (eqb (length before) f.width) (le_z f.low n && le_z n f.high) refl e
  where
    go : (wide inside : Bool) → (le_z f.low n && le_z n f.high) ≡ inside → cond wide (cond inside (Ok (f.image n)) (Err OutOfRange)) (Err WrongWidth) ≡ Ok after → read_by (Some f) after ≡ Ok n
    go true true h e = let a : f.image n ≡ after = cc in rw a at (image_reads f l n (within_from_test f n h))
    go true false h e = cc
    go false inside h e = cc
