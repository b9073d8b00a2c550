-- What is reported of a file is nothing exactly where nothing is wrong with it.
use Rattle.std.proofs.Common.{◌≡◌, ◌↔◌, ◌⊎◌, inl, inr, ℕ, suc, ◌<◌, Bool, true, false, if◌then◌else◌, List, [], ◌∷◌, length, All, Contains, Some, None, is_some, refl, sym, ap, subst, ◌∙◌, arith}
use Rattle.std.proofs.lemmas.Bool.{and_parts, and_from}
use Rattle.std.proofs.lemmas.List.Elements.{All-nil, All-cons}
use Rattle.go_tree_nodes.specs.Trees.{FileTree}
use Rattle.go_digraph_core.proofs.NeedsEdges.{none_inside}
use Rattle.go_expr_core.specs.denote_core.declared.things.Outcome.{Outcome}
use Rattle.go_expr_core.specs.denote_core.declared.things.Outcome.TheVariants as outcomes
use Rattle.go_declared_core.specs.handle_core.Declarations.{Declaration}
use Rattle.go_expr_core.specs.local_core.declared.Fault.{Fault}
use Rattle.go_package_core.specs.summary_core.Summaries.{SummaryModel}
use Rattle.go_declared_core.specs.graph_core.Lists.{AllNumbered}
use Rattle.go_declared_core.specs.block_core.Blocks.{BlocksModel}
use Rattle.go_package_core.specs.body_core.Notes.{TheUse}
use Rattle.go_package_core.specs.Checked.{AnswersOf}
use Rattle.go_package_core.specs.prepare.Packages.{trees_in}
use Rattle.go_package_core.specs.report_core.Faults.{IsSaid}
use Rattle.go_package_core.specs.report_core.UsageUsed.{is_declared}
use Rattle.go_package_core.specs.package_part.Inputs.{InputModel}
use Rattle.go_package_core.specs.package_part.Parts.{ContentOf, FileOf, IsFileMadeIn, IsPart}
use Rattle.go_object_core.specs.Objects.{ObjectOf}
use Rattle.go_emit_core.specs.Emitted.{are_clean, nothing_reported, object_over, code_scene_over, whole_object}
use Rattle.go_emit_core.specs.Laws.{HasNoFault, ObjectsAreOfFaultless}

abbrev IsDeclared : TheUse → Type 0
IsDeclared u = is_declared u.outcome ≡ true

-- outcomes that say no fault are declarations, and the other way round
all_declared : (us : List TheUse) → ((f : Fault) → IsSaid us f → ⊥) → All IsDeclared us
all_declared [] h = All-nil IsDeclared
all_declared (u ∷ us) h = All-cons IsDeclared u us (one u.outcome refl) (all_declared us (λ f s. h f (inr s)))
  where
    one : (o : Outcome Declaration (List ℕ)) → u.outcome ≡ o → is_declared u.outcome ≡ true
    one (outcomes.Declared d) e = ap is_declared e
    one (outcomes.Selected d path) e = ap is_declared e
    one (outcomes.Refused rule) e = absurd (h (record { offset = u.offset; rule = rule }) (inl (refl, e)))

none_said : (us : List TheUse) (f : Fault) → All IsDeclared us → IsSaid us f → ⊥
none_said [] f h s = s
none_said (u ∷ us) f h (inl s) = (let said : is_declared u.outcome ≡ false = ap is_declared s.1 in let fine : is_declared u.outcome ≡ true = h 0 u (omega arith) in let no : false ≡ true = sym said ∙ fine in cc)
none_said (u ∷ us) f h (inr s) = none_said us f (λ k d lt. h (suc k) d (omega (arith, lt))) s

nothing_left : {A : Type 0} (xs : List A) → ((x : A) → Contains xs x → ⊥) → xs ≡ []
nothing_left [] h = refl
nothing_left (x ∷ xs) h = (let lt : 0 < suc (length xs) = omega arith in absurd (h x (0, lt, refl)))

abbrev IsReportedIn : FileOf → Type 0
IsReportedIn f = (x : Fault) → Contains f.report x ↔ (IsSaid f.answers.uses x ⊎ Contains f.answers.faults x)

faultless : (f : FileOf) → IsReportedIn f → f.report ≡ [] → HasNoFault f
faultless f h none = record {
  declared = all_declared f.answers.uses (λ x s. none_inside x (subst (λ (l : List Fault). Contains l x) none ((h x).1 (inl s))));
  unfaulted = nothing_left f.answers.faults (λ x s. none_inside x (subst (λ (l : List Fault). Contains l x) none ((h x).1 (inr s))));
}

unreported : (f : FileOf) → IsReportedIn f → HasNoFault f → f.report ≡ []
unreported f h fine = nothing_left f.report (λ x s. by x ((h x).0 s))
  where
    by : (x : Fault) → IsSaid f.answers.uses x ⊎ Contains f.answers.faults x → ⊥
    by x (inl s) = none_said f.answers.uses x fine.declared s
    by x (inr s) = none_inside x (subst (λ (l : List Fault). Contains l x) fine.unfaulted s)

is_nothing : (r : List Fault) → nothing_reported r ≡ true → r ≡ []
is_nothing [] h = refl
is_nothing (f ∷ fs) h = cc

nothing_is : (r : List Fault) → r ≡ [] → nothing_reported r ≡ true
nothing_is r e = ap nothing_reported e

-- all files
all_reported : (b : BlocksModel) (all : List AnswersOf) (k : ℕ) (ts : List FileTree) (fs : List FileOf) → AllNumbered (IsFileMadeIn b all) k ts fs → All IsReportedIn fs
all_reported b all k [] [] h = All-nil IsReportedIn
all_reported b all k [] (f ∷ fs) h = absurd h
all_reported b all k (t ∷ ts) [] h = absurd h
all_reported b all k (t ∷ ts) (f ∷ fs) h = All-cons IsReportedIn f fs h.0.made_of.reported.same (all_reported b all (suc k) ts fs h.1)

pub reported : (i : InputModel) (c : ContentOf) → IsPart i c → All IsReportedIn c.files
reported i c h = all_reported c.blocks h.checked.files 0 (trees_in i.source) c.files h.files

all_faultless : (fs : List FileOf) → All IsReportedIn fs → are_clean fs ≡ true → All HasNoFault fs
all_faultless [] h e = All-nil HasNoFault
all_faultless (f ∷ fs) h e =
    let p = and_parts (nothing_reported f.report) (are_clean fs) e in
    All-cons HasNoFault f fs (faultless f (h 0 f (omega arith)) (is_nothing f.report p.0)) (all_faultless fs (λ k d lt. h (suc k) d (omega (arith, lt))) p.1)

all_clean : (fs : List FileOf) → All IsReportedIn fs → All HasNoFault fs → are_clean fs ≡ true
all_clean [] h fine = refl
all_clean (f ∷ fs) h fine =
    and_from (nothing_reported f.report) (are_clean fs) (nothing_is f.report (unreported f (h 0 f (omega arith)) (fine 0 f (omega arith))))
    (all_clean fs (λ k d lt. h (suc k) d (omega (arith, lt))) (λ k d lt. fine (suc k) d (omega (arith, lt))))

chosen : (b : Bool) (o : ObjectOf Declaration) → is_some (if b then Some o else None) ≡ true → b ≡ true
chosen true o h = refl
chosen false o h = h

pub objects_faultless : (all : List SummaryModel) (i : InputModel) (c : ContentOf) → IsPart i c → is_some (object_over all i c) ≡ true → All HasNoFault c.files
objects_faultless all i c h e = all_faultless c.files (reported i c h) (chosen (are_clean c.files) (whole_object (code_scene_over all i c) i c) e)

pub objects_are_of_faultless : ObjectsAreOfFaultless
objects_are_of_faultless all i c h =
    (objects_faultless all i c h, (λ fine. ap (λ (b : Bool). is_some (if b then Some (whole_object (code_scene_over all i c) i c) else None)) (all_clean c.files (reported i c h) fine)))
