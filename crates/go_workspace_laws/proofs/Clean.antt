-- What stands in a file of which nothing is reported: what its check gives, with no fault.
use Rattle.std.proofs.Common.{◌≡◌, inl, inr, ℕ, zero, suc, ◌+◌, Bool, true, false, ◌&&◌, not, List, [], ◌∷◌, ◌++◌, map, All, Some, None, is_some, nat_eq, refl, sym, ap, ap₂, subst, ◌∙◌, arith}
use Rattle.std.specs.Prelude.{if◌then◌else◌, slice_get}
use Rattle.std.specs.List.{AllZip, enumerate_from, list_any}
use Rattle.std.proofs.lemmas.Option.{none-some}
use Rattle.go_tree_nodes.specs.Trees.{FileTree}
use Rattle.go_graph_core.specs.Lists.{AllNumbered}
use Rattle.go_report_core.specs.denote_core.declared.things.Outcome.TheVariants as outcomes
use Rattle.go_names_core.specs.local_core.declared.Fault.{Fault}
use Rattle.govisd_resolve.specs.handle_core.Declarations.{Declaration}
use Rattle.go_report_core.specs.Faults.{IsSaid, IsSettled}
use Rattle.go_body_core.specs.Notes.{TheUse}
use Rattle.go_body_core.specs.file.Files.{file_faults, file_locals, file_uses}
use Rattle.go_report_core.specs.usage.Used.{TheOutcome, is_declared, is_import, judged_import, refused_use, unused_outcome}
use Rattle.go_emit_core.specs.package_core.PreparePackages.{trees_in}
use Rattle.go_emit_core.specs.package_core.Checked.{IsFileChecked, imports_at}
use Rattle.go_report_core.specs.summary_core.Views.{types_told}
use Rattle.go_emit_core.specs.package_core.PackagePartInputs.{InputModel, IsInput}
use Rattle.go_emit_core.specs.package_core.PackagePartParts.{ContentOf, FileOf, IsFileMadeIn, IsPart, package_seen, seen_by}
use Rattle.go_emit_core.specs.Emitted.{are_clean, code_scene_over, told_to, whole_object}
use Rattle.go_emit_core.specs.Laws.{HasNoFault, ObjectsAreOfFaultless}
use Rattle.go_workspace_laws.specs.Standing.{stand_in_part}
use Rattle.go_workspace_laws.proofs.FoldingInside.{none_left}
use Rattle.go_workspace_laws.proofs.ConstantLists.{HasItem, contained, has, has_get, has_of_all}
use Rattle.go_workspace_laws.proofs.Told.{seen, table, types_are}

-- lists

numbered_at : {A B : Type 0} (R : ℕ → A → B → Type 0) (k : ℕ) (xs : List A) (ys : List B) (n : ℕ) (x : A) (y : B) → AllNumbered R k xs ys → slice_get xs n ≡ Some x → slice_get ys n ≡ Some y → R (k + n) x y
numbered_at R k [] [] n x y h a b = absurd (none-some x a)
numbered_at R k [] (w ∷ ys) n x y h a b = absurd h
numbered_at R k (z ∷ xs) [] n x y h a b = absurd h
numbered_at R k (z ∷ xs) (w ∷ ys) zero x y h a b =
    let first : z ≡ x = cc in
    let second : w ≡ y = cc in
    let sum : k ≡ k + 0 = omega arith in
    subst (λ m. R m x y) sum (subst (λ u. R k x u) second (subst (λ u. R k u w) first h.0))
numbered_at R k (z ∷ xs) (w ∷ ys) (suc n) x y h a b = (let sum : suc k + n ≡ k + suc n = omega arith in subst (λ m. R m x y) sum (numbered_at R (suc k) xs ys n x y h.1 a b))

zipped_at : {A B : Type 0} (R : ℕ × A → B → Type 0) (k : ℕ) (xs : List A) (ys : List B) (n : ℕ) (x : A) (y : B) → AllZip R (enumerate_from k xs) ys → slice_get xs n ≡ Some x → slice_get ys n ≡ Some y → R (k + n, x) y
zipped_at R k [] [] n x y h a b = absurd (none-some x a)
zipped_at R k [] (w ∷ ys) n x y h a b = absurd h
zipped_at R k (z ∷ xs) [] n x y h a b = absurd h
zipped_at R k (z ∷ xs) (w ∷ ys) zero x y h a b =
    let first : z ≡ x = cc in
    let second : w ≡ y = cc in
    let sum : k ≡ k + 0 = omega arith in
    subst (λ m. R (m, x) y) sum (subst (λ u. R (k, x) u) second (subst (λ u. R (k, u) w) first h.0))
zipped_at R k (z ∷ xs) (w ∷ ys) (suc n) x y h a b = (let sum : k + 1 + n ≡ k + suc n = omega arith in subst (λ m. R (m, x) y) sum (zipped_at R (k + 1) xs ys n x y h.1 a b))

-- outcomes

unused_false : (o : TheOutcome) → is_declared (unused_outcome o) ≡ false
unused_false (outcomes.Declared d) = refl
unused_false (outcomes.Selected d path) = refl
unused_false (outcomes.Refused rule) = refl

judged_same : (places : List ℕ) (u : TheUse) → is_declared (judged_import places u).outcome ≡ true → judged_import places u ≡ u
judged_same places u = by (is_import u.role && not (list_any (λ place. nat_eq place u.offset) places))
  where
    by : (b : Bool) → is_declared (if b then refused_use u else u).outcome ≡ true → (if b then refused_use u else u) ≡ u
    by true h = absurd (let lie : true ≡ false = sym h ∙ unused_false u.outcome in cc)
    by false h = refl

all_judged : (places : List ℕ) (us : List TheUse) → ((u : TheUse) → HasItem (map (judged_import places) us) u → is_declared u.outcome ≡ true) → map (judged_import places) us ≡ us
all_judged places [] h = refl
all_judged places (u ∷ us) h = ap₂ ◌∷◌ (judged_same places u (h (judged_import places u) (inl refl))) (all_judged places us (λ v k. h v (inr k)))

none_said : (us : List TheUse) (f : Fault) → ((u : TheUse) → HasItem us u → is_declared u.outcome ≡ true) → IsSaid us f → ⊥
none_said [] f h s = s
none_said (u ∷ us) f h (inl s) = (let lie : false ≡ true = sym (ap is_declared s.1) ∙ h u (inl refl) in absurd cc)
none_said (u ∷ us) f h (inr s) = none_said us f (λ v k. h v (inr k)) s

nothing_in : {A : Type 0} (xs : List A) → ((x : A) → HasItem xs x → ⊥) → xs ≡ []
nothing_in [] h = refl
nothing_in (x ∷ xs) h = absurd (h x (inl refl))

-- where nothing settles and all occurrences have declarations, there are no faults
none_settled : (us : List TheUse) (fs settled : List Fault) → ((u : TheUse) → HasItem us u → is_declared u.outcome ≡ true) → IsSettled Declaration (List ℕ) us fs settled → settled ≡ [] → fs ≡ []
none_settled us fs settled h s e =
    nothing_in fs (λ f k. (let there = s.kept f (contained fs f k) (none_said us f h) in let here : HasItem settled f = has settled f there in let lie : HasItem [] f = subst (λ l. HasItem l f) e here in lie))

-- files

pub record IsCleanFile (i : InputModel) (c : ContentOf) (n : ℕ) (t : FileTree) (f : FileOf) : Type 0 where
  pub uses : f.answers.uses ≡ file_uses (stand_in_part i c n t) (imports_at (package_seen i c.blocks (seen_by i)) n) t
  pub faults : file_faults (stand_in_part i c n t) t ≡ []
  pub locals : f.answers.locals ≡ file_locals (stand_in_part i c n t) t
  pub declared : (u : TheUse) → HasItem f.answers.uses u → is_declared u.outcome ≡ true

module _ (law : ObjectsAreOfFaultless) (i : InputModel) (c : ContentOf) (well : IsInput i) (part : IsPart i c) (clean : are_clean c.files ≡ true) where
  faultless : All HasNoFault c.files
  faultless = (law (told_to i c) i c part).0 (ap (λ (b : Bool). is_some (if b then Some (whole_object (code_scene_over (told_to i c) i c) i c) else None)) clean)

  module _ (n : ℕ) (t : FileTree) (f : FileOf) (tree : slice_get (trees_in i.source) n ≡ Some t) (there : slice_get c.files n ≡ Some f) where
    fine : HasNoFault f
    fine = has_of_all HasNoFault c.files f faultless (has_get c.files n f there)

    each_declared : (u : TheUse) → HasItem f.answers.uses u → is_declared u.outcome ≡ true
    each_declared u h = has_of_all (λ (v : TheUse). is_declared v.outcome ≡ true) f.answers.uses u fine.declared h

    made : IsFileMadeIn c.blocks part.checked.files n t f
    made = (let sum : 0 + n ≡ n = omega arith in subst (λ m. IsFileMadeIn c.blocks part.checked.files m t f) sum (numbered_at (IsFileMadeIn c.blocks part.checked.files) 0 (trees_in i.source) c.files n t f part.files tree there))

    checked : IsFileChecked (seen i c well part) (types_told i.reached ++ part.checked.types) part.checked.declared part.is_checked.type_faults part.is_checked.looped (n, t) made.checked
    checked =
        let sum : 0 + n ≡ n = omega arith in
        subst (λ m. IsFileChecked (seen i c well part) (types_told i.reached ++ part.checked.types) part.checked.declared part.is_checked.type_faults part.is_checked.looped (m, t) made.checked) sum
        (zipped_at (IsFileChecked (seen i c well part) (types_told i.reached ++ part.checked.types) part.checked.declared part.is_checked.type_faults part.is_checked.looped) 0 (trees_in i.source) part.checked.files n t made.checked
        part.is_checked.files tree made.there)

    here : IsFileChecked (seen i c well part) (table i c well part) c.declared part.is_checked.type_faults part.is_checked.looped (n, t) made.checked
    here =
        subst (λ ks. IsFileChecked (seen i c well part) (table i c well part) ks part.is_checked.type_faults part.is_checked.looped (n, t) made.checked) (sym part.declared)
        (subst (λ es. IsFileChecked (seen i c well part) es part.checked.declared part.is_checked.type_faults part.is_checked.looped (n, t) made.checked) (sym (types_are i c well part)) checked)

    uses_same : f.answers.uses ≡ made.checked.uses
    uses_same = made.made_of.uses ∙ all_judged _ made.checked.uses (λ u h. each_declared u (subst (λ us. HasItem us u) (sym made.made_of.uses) h))

    checked_faults : made.checked.faults ≡ []
    checked_faults = none_settled f.answers.uses made.checked.faults f.answers.faults each_declared made.made_of.settled fine.unfaulted

    pub is_clean_file : IsCleanFile i c n t f
    is_clean_file = record {
      uses = uses_same ∙ here.uses;
      faults = none_left _ _ (none_settled made.checked.uses _ made.checked.faults (λ u h. each_declared u (subst (λ us. HasItem us u) (sym uses_same) h)) here.settled checked_faults);
      locals = made.made_of.locals ∙ here.locals;
      declared = each_declared;
    }
