-- What is reported: what outcomes say, and the faults beside.
use Rattle.std.proofs.Common.{◌≡◌, ◌⊎◌, inl, inr, ⊎_elim, ℕ, List, [], ◌∷◌, ◌++◌, refl, sym, ap, subst, ◌∙◌}
use Rattle.std.specs.Prelude.{AllPairs, Contains}
use Rattle.go_path_core.specs.text_core.declared.rule.Rule.{Rule}
use Rattle.go_term_core.proofs.Members.{In, contained_in, in_back, in_contained, in_either, in_front}
use Rattle.go_report_core.specs.Faults.{ComesBefore, IsSaid, IsSettled}
use Rattle.go_report_core.specs.Laws.{SettledFaultsAreOne}
use Rattle.go_expr_core.specs.local_core.declared.Fault.{Fault}
use Rattle.go_expr_core.specs.denote_core.declared.things.Outcome.TheVariants as outcomes
use Rattle.go_summary_core.specs.handle_core.Declarations.{Declaration}
use Rattle.go_report_core.specs.usage.Laws.{ReportsAreOne}
use Rattle.go_report_core.specs.usage.Reported.{IsReported}
use Rattle.go_report_core.specs.usage.Used.{TheOutcome, FileUse}
use Rattle.go_report_core.specs.usage.mirrors.Steps.{said, said_at}

fault_is : (f g : Fault) → f.offset ≡ g.offset → f.rule ≡ g.rule → f ≡ g
fault_is f g offset rule = ap (λ (n : ℕ). let h : Fault = record { offset = n; rule = f.rule } in h) offset ∙ ap (λ r. let h : Fault = record { offset = g.offset; rule = r } in h) rule

refused_in : (u : FileUse) (us : List FileUse) (f : Fault) (r : Rule) → u.outcome ≡ outcomes.Refused r → In (said_at u.offset (outcomes.Refused r)) f → IsSaid (u ∷ us) f
refused_in u us f r e (inl same) = inl (ap (λ (g : Fault). g.offset) same, e ∙ ap (λ (g : Fault). let o : TheOutcome = outcomes.Refused g.rule in o) same)
refused_in u us f r e (inr none) = absurd none

first_said : (u : FileUse) (us : List FileUse) (f : Fault) (o : TheOutcome) → u.outcome ≡ o → In (said_at u.offset o) f → IsSaid (u ∷ us) f
first_said u us f (outcomes.Refused r) e h = refused_in u us f r e h
first_said u us f (outcomes.Declared d) e h = absurd h
first_said u us f (outcomes.Selected d path) e h = absurd h

said_in : (us : List FileUse) (f : Fault) → In (said us) f → IsSaid us f
said_in [] f h = absurd h
said_in (u ∷ us) f h = ⊎_elim (first_said u us f u.outcome refl) (λ k. inr (said_in us f k)) (in_either (said_at u.offset u.outcome) (said us) f h)

in_said : (us : List FileUse) (f : Fault) → IsSaid us f → In (said us) f
in_said [] f h = absurd h
in_said (u ∷ us) f (inl h) = in_front (said_at u.offset u.outcome) (said us) f (subst (λ x. In (said_at u.offset x) f) (sym h.1) (inl (fault_is (record { offset = u.offset; rule = f.rule }) f h.0 refl)))
in_said (u ∷ us) f (inr h) = in_back (said_at u.offset u.outcome) (said us) f (in_said us f h)

-- what is reported, by what all of it settles to beside no occurrence
pub reported : (uses none : List FileUse) (faults all report : List Fault) → none ≡ [] → all ≡ faults ++ said uses
    → AllPairs ComesBefore report → ((f : Fault) → Contains all f → ¬ IsSaid none f → Contains report f) → ((f : Fault) → Contains report f → Contains all f) → IsReported uses faults report
reported uses none faults all report nothing is ordered kept found = record {
  ordered = ordered;
  same = λ f. (
    λ h. sides f (in_either faults (said uses) f (subst (λ l. In l f) is (in_contained all f (found f h)))),
    λ h. kept f (subst (λ l. Contains l f) (sym is) (contained_in (faults ++ said uses) f (back f h))) (λ s. subst (λ us. IsSaid us f) nothing s),
  );
}
  where
    sides : (f : Fault) → In faults f ⊎ In (said uses) f → IsSaid uses f ⊎ Contains faults f
    sides f (inl k) = inr (contained_in faults f k)
    sides f (inr k) = inl (said_in uses f k)

    back : (f : Fault) → IsSaid uses f ⊎ Contains faults f → In (faults ++ said uses) f
    back f (inl k) = in_back faults (said uses) f (in_said uses f k)
    back f (inr k) = in_front faults (said uses) f (in_contained faults f k)

-- reports of the same are one: each settles to itself beside no occurrence
pub reports_one : SettledFaultsAreOne Declaration (List ℕ) → ReportsAreOne
reports_one settled uses more faults others report again same one other =
    settled [] [] report again report again
    (λ f. (λ h. h, λ h. h))
    (λ f. (λ h. (other.same f).1 ((same f).0 ((one.same f).0 h)), λ h. (one.same f).1 ((same f).1 ((other.same f).0 h))))
    (settles_to_itself report one.ordered)
    (settles_to_itself again other.ordered)
  where
    settles_to_itself : (fs : List Fault) → AllPairs ComesBefore fs → IsSettled Declaration (List ℕ) [] fs fs
    settles_to_itself fs ordered = record { ordered = ordered; kept = λ f h new. h; found = λ f h. h; unsaid = λ f h s. absurd s }
