-- Programs that were worked out by hand.
use Rattle.std.proofs.Common.{◌≡◌, ◌↔◌, ℕ, zero, suc, true, false, List, [], ◌∷◌, get_or, inl, inr, refl, sym, ◌∙◌, arith}
use Rattle.std.specs.Prelude.{codes}
use Rattle.std.proofs.lemmas.Bool.{true≢false}
use Rattle.go_digraph_core.specs.declared.cycle.edge.Edge.{Edge}
use Rattle.go_digraph_core.specs.cycle.Cycle.{Leads, Reaches}
use Rattle.go_object_core.specs.declared.instructions.instruction.Instruction.TheVariants as instructions
use Rattle.go_object_core.specs.Objects.{ObjectOf}
use Rattle.go_machine_core.specs.link.Functions.{PlaceModel}
use Rattle.go_machine_core.specs.link.Reaching.{ReachesOutside}
use Rattle.go_machine_core.specs.link.Linked.{IsBegun}
use Rattle.std.specs.Int.{int_wrap}
use Rattle.std.specs.Fmt.{digits}
use Rattle.go_machine_core.specs.Words.{negated, inverted, sum, difference, product, quotient, remainder, equal, differs, less, at_most, greater, at_least}
use Rattle.go_machine_core.specs.runs.Samples.{SamplesRun, alone, program}

-- the package alone reaches itself

by_none : (n : ℕ) (es : List Edge) → Leads [] es 0 n → n ≡ 0
by_none n [] h = sym h
by_none n (e ∷ es) h = absurd (omega (arith, h.0.1))

no_more : (n : ℕ) → get_or (true ∷ []) (suc n) false ≡ false
no_more zero = refl
no_more (suc n) = refl

itself : (n : ℕ) → (get_or (true ∷ []) n false ≡ true) ↔ Reaches [] 0 n
itself zero = (λ m. ([], refl), λ r. refl)
itself (suc n) = (λ m. absurd (true≢false (sym m ∙ no_more n)), λ r. (let same : suc n ≡ 0 = by_none (suc n) r.0 r.1 in absurd (omega (arith, same))))

abbrev pub out : List (ObjectOf PlaceModel)
out = alone (codes "main") 0 (instructions.Outside ∷ [])

begins_alone : IsBegun (program out) (record { functions = (program out).functions; starts = 0 ∷ [] })
begins_alone = record {
  entry = record { root = 0; main = 0 };
  marks = true ∷ [];
  begins = refl;
  reached = record { many = refl; each = itself };
  functions = refl;
  starts = refl;
}

leads_out : ReachesOutside (program out).functions (0 ∷ [])
leads_out = record {
  start = 0;
  number = 0;
  function = record { slots = 0; callees = []; code = instructions.Outside ∷ [] };
  begins = (0, omega arith, refl);
  reached = ([], refl);
  is = refl;
  outside = refl;
}

pub samples_run : SamplesRun
unfolding negated inverted sum difference product quotient remainder equal differs less at_most greater at_least int_wrap digits
samples_run = record {
  sum_ends = refl;
  sum_spends = refl;
  zero_spends = refl;
  zero_panics = refl;
  truth_panics = refl;
  test_ends = refl;
  test_spends = refl;
  begins = refl;
  another_name = refl;
  outside = inr (record { functions = (program out).functions; starts = 0 ∷ [] }, begins_alone, leads_out);
  every_panics = refl;
  every_spends = refl;
  truncates = refl;
  in_order = refl;
  in_any_order = refl;
}
