use Rattle.std.proofs.Common.{◌≡◌, ◌-◌, ◌/◌, ◌%◌, length, map, take, set, unsigned_abs, ap, ◌∙◌, arith, length-set, w64}
use Rattle.std.proofs.lemmas.List.{length-take-le}
use Rattle.std.proofs.lemmas.Int.{to_z-of_z}
use Rattle.encodings.specs.Digits.{digits}
use Rattle.encodings.specs.Decimal.{sign_of}
use Rattle.encodings.proofs.Layouts.{image_written}
use Rattle.forms.proofs.decimal.put.Goals as goal

pub returns : goal.returns
returns g c =
    let l = g.L.Layout.layout in
    let xs = c.args.part.now in
    let n = c.unsigned_abs-magnitude.result in
    let z = to_z-of_z w64 c.args.number c.ranges.number in
    let last : c.last.result ≡ l.last (n % 10) (sign_of c.args.number) = c.last.ensures ∙ ap (l.last (n % 10)) (c.of.ensures ∙ ap sign_of z) in
    let long : length (take (length xs - 1) (set xs (length xs - 1) c.last.result)) ≡ length xs - 1 = length-take-le (length xs - 1) (set xs (length xs - 1) c.last.result) (simp length-set (omega arith)) in
    let front : c.put_digits.new.part ≡ map l.byte (digits l.base (length xs - 1) (n / 10)) = c.put_digits.ensures ∙ ap (λ k. map l.byte (digits g.L.Layout.BASE k (n / 10))) long ∙ ap (λ b. map l.byte (digits b (length xs - 1) (n / 10))) g.met.L.Layout.base_is in
    image_written g.met.L.Layout.lawful (sign_of c.args.number) n c.last.result xs c.put_digits.new.part (omega arith) last front
    ∙ ap (l.image (sign_of c.args.number) (length xs)) (c.unsigned_abs-magnitude.ensures.value ∙ ap unsigned_abs z)
