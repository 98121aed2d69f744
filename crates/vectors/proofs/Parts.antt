-- Hex text read in parts of three bytes.
use Rattle.std.proofs.Common.{◌≡◌, ℕ, ◌+◌, ◌-◌, ◌*◌, ◌%◌, ◌<◌, ◌≤◌, ◌∷◌, [], ◌++◌, List, length, drop, get_or, min, Some, sym, refl, ap, ◌∙◌, arith, below_more, length-append, length-drop}
use Rattle.std.proofs.Math.ListN.{get_or-append}
use Rattle.std.proofs.lemmas.List.{get_or-drop, drop_at, drop_min, drop-drop}
use Rattle.std.proofs.lemmas.Grind.{common_steps}
use Rattle.vectors.specs.Hex.{byte_value, HexOf}

-- the text's first parts are the hex of the bytes, and the rest of it is left
pub record IsRead (text bs left : List ℕ) (size : ℕ) : Type 0 where
  pub three : size ≡ 3
  pub rest : left ≡ drop (3 * length bs) text
  pub few : 3 * length bs ≤ length text + 1
  pub digits : (k : ℕ) → k < length bs → byte_value (get_or text (3 * k) 0) (get_or text (3 * k + 1) 0) ≡ Some (get_or bs k 0)
  pub spaces : (k : ℕ) → k < length bs + 1 → 0 < k → 3 * k ≤ length text → get_or text (3 * k - 1) 0 ≡ 32

-- the part that comes off what is left, as `chunks` says it
abbrev pub Comes : (part left rest : List ℕ) → ℕ → Type 0
Comes part left rest size = (left ≡ part ++ rest) × (length part ≡ min size (length left)) × (0 < length left)

-- where the part stands in the text
record PartAt (text part rest : List ℕ) (n : ℕ) : Type 0 where
  more : 3 * n < length text
  long : length part ≡ min 3 (length text - 3 * n)
  same : (i j : ℕ) → i ≡ 3 * n + j → j < length part → get_or text i 0 ≡ get_or part j 0
  behind : rest ≡ drop (3 * (n + 1)) text

part_at : (text bs part left rest : List ℕ) (size : ℕ) → IsRead text bs left size → Comes part left rest size → PartAt text part rest (length bs)
part_at text bs part left rest size r (cut, long, some) =
    let n = length bs in
    let d : length left ≡ length text - 3 * n = ap length r.rest ∙ length-drop (3 * n) text in
    let three = r.three in
    let off : rest ≡ drop size left = sym (drop_at part rest (length part) refl) ∙ ap (λ l. drop (length part) l) (sym cut) ∙ ap (λ k. drop k left) long ∙ drop_min size left in
    let e : 3 * n + 3 ≡ 3 * (n + 1) = omega arith in
    record {
      more = omega arith;
      long = omega arith;
      same = λ i j at within. ap (λ k. get_or text k 0) at ∙ sym (get_or-drop (3 * n) text j 0) ∙ ap (λ l. get_or l j 0) (sym r.rest ∙ cut) ∙ get_or-append part rest 0 j within;
      behind = off ∙ ap (λ k. drop k left) three ∙ ap (λ l. drop 3 l) r.rest ∙ drop-drop 3 (3 * n) text ∙ ap (λ k. drop k text) e;
    }

-- two digits of the byte number n and, where a third byte comes, a space
pub record PartOf (part bs : List ℕ) (n : ℕ) : Type 0 where
  pub two : 2 ≤ length part
  pub three : length part ≤ 3
  pub digits : byte_value (get_or part 0 0) (get_or part 1 0) ≡ Some (get_or bs n 0)
  pub space : 2 < length part → get_or part 2 0 ≡ 32

-- each part of a hex text is so
pub part_of : (text bs part left rest whole : List ℕ) (size : ℕ) → IsRead text bs left size → Comes part left rest size → HexOf text whole → PartOf part whole (length bs)
part_of text bs part left rest whole size r step h =
    let n = length bs in
    let p = part_at text bs part left rest size r step in
    let high = p.same (3 * n) 0 (omega arith) (omega arith) in
    let low = p.same (3 * n + 1) 1 (omega arith) (omega arith) in
    let byte = h.digits n (omega arith) in
    record {
      two = omega arith;
      three = omega arith;
      digits = cc;
      space = λ third. sym (p.same (3 * (n + 1) - 1) 2 (omega arith) third) ∙ h.spaces (n + 1) (omega arith) (omega arith);
    }

-- one more part is read
pub read_more : (text bs part left rest : List ℕ) (b size after : ℕ) → IsRead text bs left size → (after ≡ size) × Comes part left rest size → length text % 3 ≡ 2 → Some b ≡ byte_value (get_or part 0 0) (get_or part 1 0) → (2 < length part → get_or part 2 0 ≡ 32) → IsRead text (bs ++ b ∷ []) rest after
read_more text bs part left rest b size after r (same, step) fits byte space =
    let n = length bs in
    let p = part_at text bs part left rest size r step in
    let high = p.same (3 * n) 0 (omega arith) (omega arith) in
    let low = p.same (3 * n + 1) 1 (omega arith) (omega arith) in
    let long : length (bs ++ b ∷ []) ≡ n + 1 = length-append bs (b ∷ []) in
    let earlier : (k : ℕ) → k < n → get_or (bs ++ b ∷ []) k 0 ≡ get_or bs k 0 = λ k. get_or-append bs (b ∷ []) 0 k in
    let last : get_or (bs ++ b ∷ []) n 0 ≡ b = grind (arith, common_steps) in
    record {
      three = same ∙ r.three;
      rest = rw long p.behind;
      few = omega arith;
      digits = rw long (below_more _ _ (λ k h. r.digits k h ∙ sym (ap Some (earlier k h))) (cc));
      spaces = rw long (below_more _ _ r.spaces (λ some more. p.same _ 2 (omega arith) (omega arith) ∙ space (omega arith)));
    }
