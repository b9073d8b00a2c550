-- The ends of chains, by counting.
use Rattle.std.proofs.Common.{◌≡◌, ℕ, ◌+◌, ◌<◌, List, length, map, sym, ◌∙◌, arith, Option, Some, None}
use Rattle.std.specs.Prelude.{slice_get}
use Rattle.std.specs.List.{range_with_len}
use Rattle.std.proofs.lemmas.List.FromFn.{get_or-map-range_with_len, length-map-range_with_len}
use Rattle.std.proofs.lemmas.Option.{slice_get_within, get_or_from_slice_get}
use Rattle.go_digraph_core.specs.chain.Laws.{counted_end}
use Rattle.go_digraph_core.proofs.ChainCounted.{ends_are_counted}
use Rattle.go_workspace_laws.specs.existence.Laws.{ChainsHaveEnds}

pub has_ends : ChainsHaveEnds
has_ends next = (ends, record { as_many = many; ends_at = λ i j h. (ends_are_counted.counted next i j).1 (sym (at i (Some j) h)); endless = λ i j h e. (let is : Some j ≡ None = sym ((ends_are_counted.counted next i j).0 e) ∙ sym (at i None h) in cc) })
  where
    f : ℕ → Option ℕ
    f i = counted_end (length next) next i

    ends : List (Option ℕ)
    ends = map (λ i. counted_end (length next) next i) (range_with_len 0 (length next))

    many : length (map (λ i. counted_end (length next) next i) (range_with_len 0 (length next))) ≡ length next
    many = length-map-range_with_len (λ i. counted_end (length next) next i) 0 (length next)

    at : (i : ℕ) (o : Option ℕ) → slice_get (map (λ i. counted_end (length next) next i) (range_with_len 0 (length next))) i ≡ Some o → o ≡ counted_end (length next) next i
    at i o h =
        let lt : i < length next = (let within = slice_get_within (map (λ i. counted_end (length next) next i) (range_with_len 0 (length next))) i o h in omega (arith, within, many)) in
        let z : 0 + i ≡ i = omega arith in
        sym (get_or_from_slice_get (map (λ i. counted_end (length next) next i) (range_with_len 0 (length next))) i o o h) ∙ get_or-map-range_with_len (λ i. counted_end (length next) next i) 0 (length next) i i o lt z
