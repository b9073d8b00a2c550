use Rattle.std.proofs.Common.{◌≤◌, inl, inr, bit_or, length, get_or, sym, ap, ◌∙◌, arith}
use Rattle.std.specs.Int.Bits.{or_zero_r}
use Rattle.std.proofs.lemmas.Bool.{cases_lt}
use Rattle.std.proofs.lemmas.List.{get_or_past}
use Rattle.go_digraph_core.proofs.reach.numbers.unite.Goals as goal

pub returns : goal.returns
returns c = λ k. elim (cases_lt k c.loop-i.i) [
  | inl lt ↦ c.loop-i.invariant.done k lt
  | inr past ↦
      let out : length c.args.more.now ≤ k = omega arith in
      c.loop-i.invariant.rest k past ∙ (sym (or_zero_r (get_or c.args.words.now k 0)) ∙ ap (λ m. bit_or (get_or c.args.words.now k 0) m) (sym (get_or_past c.args.more.now k 0 out)))
]
