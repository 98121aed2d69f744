use Rattle.std.proofs.Common.{◌≡◌, ◌^◌, ◌<◌, ◌∷◌, ◌++◌, [], drop}
use Rattle.encodings.specs.Decimal.{digits_then_sign}
use Rattle.forms.proofs.decimal.value.Given as goal

-- what is read so far, before what is left
abbrev pub invariant-loop-byte : goal.invariant-loop-byte
invariant-loop-byte g l =
    (digits_then_sign 0 (g.L.Layout.layout.halves l.part) ≡ digits_then_sign l.n (g.L.Layout.layout.halves (drop l.byte-index l.front ++ l.last ∷ [])))
    × (l.n < g.L.Layout.BASE ^ l.byte-index)
