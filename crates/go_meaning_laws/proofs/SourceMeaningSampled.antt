-- The program of the samples means something.
use Rattle.std.proofs.Common.{◌≡◌, ◌≢◌, ℕ, zero, suc, [], ◌∷◌, ◌++◌, Some, refl, sym, ◌∙◌}
use Rattle.std.specs.Prelude.{codes}
use Rattle.std.specs.Int.{int_wrap}
use Rattle.std.specs.Fmt.{digits}
use Rattle.go_constant_core.specs.text_core.declared.span.Span.{Span}
use Rattle.go_machine_core.specs.Words.{sum}
use Rattle.go_machine_core.specs.Machine.{begun}
use Rattle.go_meaning_laws.specs.source_meaning.Meaning.{Done, Nonsense}
use Rattle.go_meaning_laws.specs.source_meaning.Whole.{linked_source, meaning}
use Rattle.go_meaning_laws.specs.source_meaning.Samples.{main, main_looks, sample, SampleMeans}

-- with two calls in one another, and more
enough : (s : Span) (n : ℕ) → meaning (sample s) (1 ∷ []) (suc (suc n)) ≡ Done tt (codes "5 true" ++ 10 ∷ [])
unfolding sum int_wrap digits
enough s n = refl

never : (s : Span) (n : ℕ) → meaning (sample s) (1 ∷ []) n ≢ Nonsense
never s zero = λ e. cc e
never s (suc zero) = λ e. cc e
never s (suc (suc n)) = λ e. let other : Done tt (codes "5 true" ++ 10 ∷ []) ≡ Nonsense = sym (enough s n) ∙ e in cc other

pub sample_means : SampleMeans
sample_means s = record {
  ends = enough s 0;
  runs_out = refl;
  meant = record {
    frames = begun (linked_source (record { looks = main_looks; callees = Some 0 ∷ Some 0 ∷ []; tree = main s })) [] ∷ [];
    all_there = refl;
    meant = never s;
  };
}
