-- Faults settle beside what occurrences have, and both are reported.
use Rattle.std.proofs.Common.{◌≡◌, inl, inr, Bool, true, false, not, List, ◌++◌, filter, refl, sym}
use Rattle.std.proofs.lemmas.Bool.{true≢false}
use Rattle.std.proofs.lemmas.List.Elements.{Contains-append_cases, Contains-append_left, Contains-append_right}
use Rattle.go_names_core.specs.local_core.declared.Fault.{Fault}
use Rattle.go_term_core.proofs.Members.{contained_in, filter_in, in_contained, in_filter}
use Rattle.go_names_core.specs.block_core.SortedOnce.{sorted_once}
use Rattle.go_report_core.specs.Faults.{fault_order}
use Rattle.go_report_core.specs.mirrors.Settling.{is_among, is_new, said_of}
use Rattle.go_report_core.proofs.Order.{order_same, order_total, sorted_pairs}
use Rattle.go_report_core.proofs.Settled.{among_in, among_said, in_among, said_among}
use Rattle.go_workspace_laws.specs.existence.Laws.{FaultsSettle, FilesAreReported}

not_true : (b : Bool) → (b ≡ true → ⊥) → not b ≡ true
not_true true h = absurd (h refl)
not_true false h = refl

true_not : (b : Bool) → not b ≡ true → b ≡ true → ⊥
true_not true h k = true≢false (sym h)
true_not false h k = true≢false (sym k)

pub faults_settle : FaultsSettle
faults_settle uses faults =
    let said : List Fault = said_of uses in
    let new : List Fault = filter (is_new said) faults in
    let all = sorted_once fault_order order_total order_same new in (
      all.0,
      record {
        ordered = sorted_pairs all.0 all.1;
        kept = λ f h fresh. (all.2 f).1 (contained_in new f (in_filter (is_new said) faults f (in_contained faults f h) (not_true (is_among said f) (λ k. fresh (among_said uses f k)))));
        found = λ f h. contained_in faults f (filter_in (is_new said) faults f (in_contained new f ((all.2 f).0 h))).0;
        unsaid = λ f h s. true_not (is_among said f) (filter_in (is_new said) faults f (in_contained new f ((all.2 f).0 h))).1 (said_among uses f s);
      },
    )

pub files_are_reported : FilesAreReported
files_are_reported uses faults =
    let said : List Fault = said_of uses in
    let all = sorted_once fault_order order_total order_same (said ++ faults) in (
      all.0,
      record {
        ordered = sorted_pairs all.0 all.1;
        same = λ f. (
          (λ h. elim (Contains-append_cases said faults f ((all.2 f).0 h)) [
            | inl a ↦ inl (among_said uses f (in_among said f (in_contained said f a)))
            | inr b ↦ inr b
          ]),
          (λ h. (all.2 f).1 (elim h [
            | inl s ↦ Contains-append_left said faults f (contained_in said f (among_in said f (said_among uses f s)))
            | inr b ↦ Contains-append_right said faults f b
          ])),
        );
      },
    )
