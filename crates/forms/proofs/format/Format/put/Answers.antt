use Rattle.std.proofs.Common.{◌≡◌, true, length, w64}
use Rattle.std.proofs.lemmas.Int.{to_z-of_z}
use Rattle.encodings.specs.declared.Kind.TheVariants.{Packed}
use Rattle.encodings.specs.Shipped.{has_size}
use Rattle.encodings.proofs.Shipped.{decimal_sizes}
use Rattle.encodings.proofs.Layouts.{packed_written}
use Rattle.forms.proofs.format.Format.put.Goals as goal

pub returns-in-Packed : goal.returns-in-Packed
returns-in-Packed c =
    let z = to_z-of_z w64 c.args.number c.ranges.number in
    let good : has_size Packed c.args.self.now.size ≡ true = rw c.in-Packed.is at c.args.self.now.good in
    let sizes = decimal_sizes c.args.self.now.size good in
    let p = packed_written c.args.self.now.size (length c.args.part.now) c.args.number sizes.0 sizes.1 (rw c.in-Packed.is at c.requires.width) (rw c.in-Packed.is at c.requires.held) in
    cc
