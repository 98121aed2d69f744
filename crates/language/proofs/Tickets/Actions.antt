-- What an action leaves: a value that is not too long, a ticket of the same length.
use Rattle.std.proofs.Common.{◌≡◌, ℕ, zero, suc, ◌+◌, ◌-◌, ◌^◌, ◌<◌, ◌≤◌, Bool, true, false, cond, ◌&&◌, ◌||◌, eqb, List, ◌++◌, length, take, drop, ℤ, pos, negsuc, ◌*ℤ◌, neg_ℤ, nat_abs, IfSome, Some, None, Ok, Err, Option, Result, refl, ◌∙◌, arith, length-append, length-drop, length-take}
use Rattle.std.specs.Int.Signed.{le_z}
use Rattle.std.proofs.ByRecursion.{All-append, All-take, All-drop}
use Rattle.std.proofs.lemmas.Int.{ints}
use Rattle.std.proofs.lemmas.Bool.{or_parts, cond_both, leb-false, eqb-true}
use Rattle.bank.specs.Model.{Form, Forms, Within, LawfulForm, Lawful, Bytes}
use Rattle.bank.specs.Answers.{read_by, written, valued}
use Rattle.bank.specs.declared.BankRefusal.{BankRefusal}
use Rattle.bank.specs.declared.BankRefusal.TheVariants.{OutOfRange, WrongWidth}
use Rattle.bank.proofs.ReadsBack.{within_from_test}
use Rattle.language.specs.declared.Rounding.{Rounding}
use Rattle.language.specs.declared.Fault.TheVariants.{NoValue, TooLong, NotHeld}
use Rattle.language.specs.Syntax.{Sheet, Sign}
use Rattle.language.specs.Layout.{form_of, width_of, field_at, offset, part, stored, places_of}
use Rattle.language.specs.Arithmetic.{too_long, padded, fitted}
use Rattle.language.specs.Trace.{Action, yields, fails, faults, figured}
use Rattle.language.specs.Meaning.{signed, summed, multiplied, read_field, assigned}
use Rattle.language.specs.Tickets.{Kept}

-- P holds of what an action comes to
abbrev pub Leaves : {A : Type 0} → Action A → (A → Type 0) → Type 0
Leaves (yields figure a) P = P a
Leaves (fails b) P = Unit {0}

abbrev pub Short : ℤ → Type 0
Short x = nat_abs x < 10 ^ 18

-- ---- values

-- a value that is tested, perhaps after others
limited : (others : Bool) (x : ℤ) → Leaves (cond (others || too_long x) (faults TooLong 255) (figured x)) Short
limited others x = cond_both (others || too_long x) (faults TooLong 255) (figured x) (λ d. Leaves d Short)
    (λ e. tt) (λ e. leb-false (10 ^ 18) (nat_abs x) (or_parts others (too_long x) e).1)

pub summed_short : (g : Sign) (x : ℤ) (a : ℕ) (y : ℤ) (b : ℕ) → Leaves (summed g x a y b) Short
summed_short g x a y b = limited (too_long (padded x a) || too_long (padded y b)) (signed g (padded x a) (padded y b))

pub multiplied_short : (x y : ℤ) → Leaves (multiplied x y) Short
multiplied_short x y = limited false (x *ℤ y)

pub negated_short : (x : ℤ) → Short x → Short (neg_ℤ x)
negated_short (pos zero) h = h
negated_short (pos (suc n)) h = h
negated_short (negsuc n) h = h

-- a number that a form holds
within_short : (f : Form) → LawfulForm f → (n : ℤ) → Within f n → Short n
within_short f l (pos n) w = omega (arith, ints, l.high_bound, w.below)
within_short f l (negsuc n) w = omega (arith, ints, l.low_bound, w.above)

valued_short : (f : Form) → LawfulForm f → (v : Option ℤ) → IfSome v (Within f) → (field : ℕ)
    → Leaves (elim (valued v) [ Ok n ↦ figured n | Err e ↦ faults (NoValue e) field ]) Short
valued_short f l None w field = tt
valued_short f l (Some n) w field = within_short f l n w

read_short : (o : Option Form) → IfSome o LawfulForm → (part : List ℕ) → Bytes part → (field : ℕ)
    → Leaves (elim (read_by o part) [ Ok n ↦ figured n | Err e ↦ faults (NoValue e) field ]) Short
read_short None l part bytes field = tt
read_short (Some f) l part bytes field = go (eqb (length part) f.width) refl
  where
    go : (b : Bool) → eqb (length part) f.width ≡ b
        → Leaves (elim (cond b (valued (f.value part)) (Err WrongWidth)) [ Ok n ↦ figured n | Err e ↦ faults (NoValue e) field ]) Short
    go true e = valued_short f l (f.value part) (l.held part bytes (eqb-true (length part) f.width e)) field
    go false e = tt

-- ---- tickets

-- an image that is written over a part: as long as the part, which is not empty, and of bytes
record Image (bs image : List ℕ) : Type 0 where
  some : 1 ≤ length bs
  long : length image ≡ length bs
  bytes : Bytes image

written_image : (o : Option Form) → IfSome o LawfulForm → (n : ℤ) (bs : List ℕ) (image : List ℕ) → written o n bs ≡ Ok image → Image bs image
written_image None l n bs image e = cc
written_image (Some f) l n bs image e = go (eqb (length bs) f.width) (le_z f.low n && le_z n f.high) refl refl e
  where
    go : (wide inside : Bool) → eqb (length bs) f.width ≡ wide → (le_z f.low n && le_z n f.high) ≡ inside
        → cond wide (cond inside (Ok (f.image n)) (Err OutOfRange)) (Err WrongWidth) ≡ Ok image → Image bs image
    go true true h k e =
        let same : f.image n ≡ image = cc in
        let width = eqb-true (length bs) f.width h in
        let within = within_from_test f n k in
        let made : Image bs (f.image n) = record { some = omega (arith, l.some_bytes); long = omega (arith, l.long n within); bytes = l.bytes n within } in
        rw same at made
    go true false h k e = cc
    go false inside h k e = cc

pub kept_same : (ticket : List ℕ) → Kept ticket ticket
kept_same ticket = record { same_length = refl; bytes = λ b. b }

pub kept_on : {a b c : List ℕ} → Kept a b → Kept b c → Kept a c
kept_on h k = record { same_length = k.same_length ∙ h.same_length; bytes = λ b. k.bytes (h.bytes b) }

put_kept : (at width : ℕ) (ticket image : List ℕ) → Image (take width (drop at ticket)) image → Kept ticket (take at ticket ++ image ++ drop (at + length image) ticket)
put_kept at width ticket image i =
    let room : length (take width (drop at ticket)) ≤ length ticket - at = simp (length-take, length-drop) (omega arith) in
    record {
      same_length = simp (length-append, length-take, length-drop) (omega (arith, i.some, i.long));
      bytes = λ b. All-append _ (take at ticket ++ image) _ (All-append _ (take at ticket) image (All-take _ at ticket b) i.bytes) (All-drop _ (at + length image) ticket b);
    }

module _ (forms : Forms) (lawful : Lawful forms) (sheet : Sheet) where
  law : (f : ℕ) → IfSome (form_of forms (field_at sheet f)) LawfulForm
  law f = lawful (field_at sheet f).letter (field_at sheet f).size

  pub field_short : (row f : ℕ) (ticket : List ℕ) → Bytes ticket → Leaves (read_field forms sheet row f ticket) Short
  field_short row f ticket bytes =
      read_short (form_of forms (field_at sheet f)) (law f) (part forms sheet f row ticket)
      (All-take _ (width_of forms (field_at sheet f)) _ (All-drop _ (offset forms sheet f row) ticket bytes)) f

  -- a number that is written into its field
  pub stored_kept : (row f : ℕ) (n : ℤ) (ticket image : List ℕ) → written (form_of forms (field_at sheet f)) n (part forms sheet f row ticket) ≡ Ok image
      → Kept ticket (stored forms sheet f row image ticket)
  stored_kept row f n ticket image e =
      put_kept (offset forms sheet f row) (width_of forms (field_at sheet f)) ticket image (written_image (form_of forms (field_at sheet f)) (law f) n _ image e)

  pub assigned_kept : (row f : ℕ) (r : Rounding) (from : ℕ) (ticket : List ℕ) (x : ℤ) → Leaves (assigned forms sheet row f r from ticket x) (Kept ticket)
  assigned_kept row f r from ticket x = go (too_long n) (written (form_of forms (field_at sheet f)) n (part forms sheet f row ticket)) refl
    where
      n : ℤ
      n = fitted r x from (places_of sheet f)

      go : (b : Bool) (w : Result (List ℕ) BankRefusal) → written (form_of forms (field_at sheet f)) n (part forms sheet f row ticket) ≡ w
          → Leaves (cond b (faults TooLong f) (elim w [ Ok image ↦ yields n (stored forms sheet f row image ticket) | Err e ↦ faults (NotHeld e) f ])) (Kept ticket)
      go true w e = tt
      go false (Ok image) e = stored_kept row f n ticket image e
      go false (Err b) e = tt
