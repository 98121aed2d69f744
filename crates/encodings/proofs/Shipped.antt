-- The shipped bank is lawful: each of its kinds is, at each of its sizes.
use Rattle.std.proofs.Common.{◌≡◌, ℕ, ◌≤◌, Bool, true, false, cond, ◌&&◌, ◌||◌, eqb, leb, IfSome, Some, None, Option, refl, ⊎_elim, arith, eqb-true, leb-true}
use Rattle.std.proofs.lemmas.Bool.{and_parts, or_cases}
use Rattle.bank.specs.Model.{Lawful, LawfulForm}
use Rattle.encodings.specs.declared.Kind.{Kind}
use Rattle.encodings.specs.declared.Kind.TheVariants.{Zoned, Packed, Signed, Unsigned}
use Rattle.encodings.specs.Shipped.{kind_of, has_size, form_of, at_size, shipped}
use Rattle.encodings.proofs.Zoned.{zoned_lawful}
use Rattle.encodings.proofs.Packed.{packed_lawful}
use Rattle.encodings.proofs.Binary.{signed_lawful, unsigned_lawful}

pub decimal_sizes : (size : ℕ) → (leb 1 size && leb size 15) ≡ true → (1 ≤ size) × (size ≤ 15)
decimal_sizes size e = let p = and_parts (leb 1 size) (leb size 15) e in (leb-true 1 size p.0, leb-true size 15 p.1)

pub binary_sizes : (size : ℕ) → (eqb size 2 || eqb size 4) ≡ true → (1 ≤ size) × (size ≤ 6)
binary_sizes size e =
    ⊎_elim (λ h. let n = eqb-true size 2 h in (omega arith, omega arith)) (λ h. let n = eqb-true size 4 h in (omega arith, omega arith))
    (or_cases (eqb size 2) (eqb size 4) e)

pub form_lawful : (kind : Kind) (size : ℕ) → has_size kind size ≡ true → LawfulForm (form_of kind size)
form_lawful Zoned size e = let p = decimal_sizes size e in zoned_lawful size p.0 p.1
form_lawful Packed size e = let p = decimal_sizes size e in packed_lawful size p.0 p.1
form_lawful Signed size e = let p = binary_sizes size e in signed_lawful size p.0 p.1
form_lawful Unsigned size e = let p = binary_sizes size e in unsigned_lawful size p.0 p.1

at_lawful : (kind : Option Kind) (size : ℕ) → IfSome (at_size kind size) LawfulForm
at_lawful None size = tt
at_lawful (Some kind) size = go (has_size kind size) refl
  where
    go : (t : Bool) → has_size kind size ≡ t → IfSome (cond t (Some (form_of kind size)) None) LawfulForm
    go true e = form_lawful kind size e
    go false e = tt

pub shipped_lawful : Lawful shipped
shipped_lawful letter size = at_lawful (kind_of letter) size
