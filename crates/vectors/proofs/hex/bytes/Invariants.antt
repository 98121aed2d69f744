-- The bytes found so far are those of the text's first parts.
use Rattle.std.proofs.Common.{vec_items}
use Rattle.std.specs.Slice.Iter.{chunks_rest, chunks_size}
use Rattle.vectors.proofs.Parts.{IsRead}
use Rattle.vectors.proofs.hex.bytes.Given as goal

abbrev pub invariant-loop-part : goal.invariant-loop-part
invariant-loop-part l =
    IsRead l.text (vec_items l.found) (chunks_rest l.part-iterator) (chunks_size l.part-iterator)
