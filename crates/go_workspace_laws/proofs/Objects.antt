-- The object of a package over what all packages of its workspace tell is the one over what it reaches and its own.
use Rattle.std.proofs.Common.{◌≡◌, ℕ, zero, suc, ◌⊎◌, inl, inr, if◌then◌else◌, List, [], ◌∷◌, ◌++◌, All, refl, sym, ap, subst, ◌∙◌}
use Rattle.std.specs.Prelude.{Option, Some, None, AllPairs, Contains, slice_get}
use Rattle.std.specs.List.{flat_map}
use Rattle.std.proofs.lemmas.List.Kept.{AllPairs-cons}
use Rattle.go_term_core.specs.decl_core.declared.keys.DeclRef.{DeclRef}
use Rattle.go_graph_core.specs.Plans.{PlanModel, IsPlan}
use Rattle.go_graph_core.proofs.PlanLaws.{has_plan}
use Rattle.go_graph_core.specs.Workspaces.{PackageModel, IsWorkspace}
use Rattle.go_body_core.specs.typexpr_core.EntryAmong.{Among, among_cases, among_from, among_left, among_map, among_right, among_to}
use Rattle.go_snap_core.specs.whole_workspace.Known.{KnownAlike}
use Rattle.go_snap_core.specs.whole_workspace.LocalLaws.{CheckIsLocal, ImportsBindTheirs}
use Rattle.govisd_resolve.specs.handle_core.Declarations.{Declaration}
use Rattle.go_body_core.specs.Notes.{TheUse}
use Rattle.go_emit_core.specs.package_core.PreparePackages.{trees_in}
use Rattle.go_report_core.specs.summary_core.Summaries.{SummaryModel, IsOfOne, path_of}
use Rattle.go_report_core.specs.summary_core.Views.{PathsAreApart, faces_told, types_told}
use Rattle.go_emit_core.specs.package_core.PackagePartInputs.{InputModel, path_in}
use Rattle.go_emit_core.specs.package_core.PackagePartParts.{ContentOf, FileOf, IsPart, PartModel}
use Rattle.go_snap_core.specs.whole_workspace.Inputs.{AreParts, Tells}
use Rattle.go_snap_core.specs.whole_workspace.mirrors.Steps.{AreRight}
use Rattle.go_snap_core.proofs.WholeWorkspaceLists.{all_from_among, among_all, pairs_head, pairs_tail}
use Rattle.go_snap_core.proofs.WholeWorkspaceTold.{AreWell, NoneIsOf, known_alike, known_by}
use Rattle.go_snap_core.proofs.WholeWorkspaceParts.{all_inside, none_reached, of_one, path_told, reach_paths, told_by, well_reached}
use Rattle.go_snap_core.proofs.WholeWorkspacePartsWhole.{all_right}
use Rattle.go_snap_core.proofs.WholeWorkspaceChecks.{trees_are_placed}
use Rattle.go_object_core.specs.Objects.{FunctionOf, ObjectOf}
use Rattle.go_emit_core.specs.meaning.Scenes.{methods_spotted, package_decl_refs}
use Rattle.go_emit_core.specs.lookup.Places.{spotted_meaning, decl_spot}
use Rattle.go_emit_core.specs.Imports.{all_passing}
use Rattle.go_emit_core.specs.Emitted.{are_clean, object_of, object_over, package_functions, code_scene_over, told_to}
use Rattle.go_emit_core.specs.Emitted as emitted
use Rattle.go_emit_core.specs.Laws.{OneObject}
use Rattle.go_workspace_laws.proofs.Methods.{told_methods}
use Rattle.go_workspace_laws.proofs.Scenes.{functions_same, methods_same}
use Rattle.go_workspace_laws.proofs.Wider.{IsToldIn}
use Rattle.go_workspace_laws.proofs.Uses.{IsUseIn}
use Rattle.go_workspace_laws.proofs.Parts.{IsFileIn, IsPartIn, IsToldOf, all_in, faces_told_in, reached_in}
use Rattle.go_workspace_laws.specs.Reached.{HasDeclaredIn, reached_paths}
use Rattle.go_workspace_laws.specs.ObjectLaws.{AreOfPartsAlone}
use Rattle.go_tree_nodes.specs.Spelling.{IsPlaced}
use Rattle.go_body_core.specs.stmt_core.StatementLocality.{Each}
use Rattle.go_emit_core.specs.package_core.PackagePartSlots.{if_there, somes}

-- one more behind others that are apart from it
apart_more : {A : Type 0} (R : A → A → Type 0) (xs : List A) (x : A) → AllPairs R xs → ((y : A) → Among xs y → R y x) → AllPairs R (xs ++ x ∷ [])
apart_more R [] x pairs h = AllPairs-cons R x [] (all_from_among (R x) [] (λ y a. absurd a)) pairs
apart_more {A = A} R (y ∷ xs) x pairs h =
    AllPairs-cons R y (xs ++ x ∷ []) (all_from_among (R y) (xs ++ x ∷ []) (λ z a. by z (among_cases xs (x ∷ []) z a)))
    (apart_more R xs x (pairs_tail R y xs pairs) (λ z a. h z (inr a)))
  where
    by : (z : A) → Among xs z ⊎ Among (x ∷ []) z → R y z
    by z (inl a) = pairs_head R y xs pairs z a
    by z (inr (inl e)) = subst (R y) e (h y (inl refl))
    by z (inr (inr never)) = absurd never

module _ (local : CheckIsLocal) (bind : ImportsBindTheirs) (ps : List PackageModel) (parts : List (Option PartModel)) (well : IsWorkspace ps) (right : AreRight ps parts) (plan : PlanModel) (planned : IsPlan ps plan)
    (n : ℕ) (part : PartModel) (there : slice_get parts n ≡ Some (Some part)) where
  abbrev i : InputModel
  i = part.input

  abbrev c : ContentOf
  c = part.content

  abbrev own : SummaryModel
  own = part.content.summary

  abbrev one : List SummaryModel
  one = told_to i c

  abbrev Inside : List ℕ → Type 0
  Inside path = Contains (reach_paths i) path

  part_in : IsPartIn part
  part_in = all_in ps parts well right local bind plan planned n part there

  none : NoneIsOf i.reached (path_in i)
  none =
      none_reached ps parts well right n i (right n part there).input bind plan planned (right n part there).numbered
      (λ m q reached at. all_inside ps parts well right local bind plan planned m q at)

  abbrev tells : Tells parts n own
  tells = record { of_part = part; there = there; is = refl }

  own_path : path_of own ≡ path_in i
  own_path = path_told ps parts well right n own tells

  well_one : AreWell one
  well_one =
      let reached = well_reached ps parts well right n i (right n part there).input in
      record {
        apart = apart_more (λ s t. path_of s ≡ path_of t → ⊥) i.reached own reached.apart (λ s a same. among_all (λ (t : SummaryModel). path_in i ≡ path_of t → ⊥) i.reached s none a (sym own_path ∙ sym same));
        own = all_from_among IsOfOne one (λ s a. one_of s (among_cases i.reached (own ∷ []) s a));
      }
    where
      one_of : (s : SummaryModel) → Among i.reached s ⊎ Among (own ∷ []) s → IsOfOne s
      one_of s (inl a) = among_all IsOfOne i.reached s (well_reached ps parts well right n i (right n part there).input).own a
      one_of s (inr (inl e)) = subst IsOfOne e (of_one ps parts well right n part there)
      one_of s (inr (inr never)) = absurd never

  -- of each package that it reaches, and of itself, there is what it tells
  record IsNamed (path : List ℕ) : Type 0 where
    summary : SummaryModel
    among : Among one summary
    is : path_of summary ≡ path
    inside : IsToldIn Inside summary

  named : (path : List ℕ) → Among (reach_paths i) path → IsNamed path
  named path (inl e) = record { summary = own; among = among_right i.reached (own ∷ []) own (inl refl); is = own_path ∙ e; inside = part_in.told }
  named path (inr a) =
      let t = among_map path_of i.reached path a in
      record {
        summary = t.0;
        among = among_left i.reached (own ∷ []) t.0 t.1;
        is = t.2;
        inside = reached_in ps parts well right local bind plan planned n part there (λ m r q at. all_in ps parts well right local bind plan planned m q at) t.0 t.1;
      }

  module _ (all : List SummaryModel) (apart : PathsAreApart all) (owned : All IsOfOne all) (holds : (s : SummaryModel) → Among one s → Among all s) where
    well_all : AreWell all
    well_all = record { apart = apart; own = owned }

    alike : KnownAlike Inside (known_by one) (known_by all)
    alike =
        known_alike one all well_one well_all Inside
        (λ path h. (let m = named path (among_from (reach_paths i) path h) in
        inl (record { summary = m.summary; one = among_to one m.summary m.among; other = among_to all m.summary (holds m.summary m.among); is = m.is })))

    of : (path : List ℕ) → Inside path → IsToldOf Inside one path ⊎ NoneIsOf one path
    of path h = (let m = named path (among_from (reach_paths i) path h) in inl (record { summary = m.summary; there = among_to one m.summary m.among; is = m.is; inside = m.inside }))

    selected : (q : List ℕ) (d : DeclRef) → Inside q → spotted_meaning (methods_spotted (types_told one) (types_told one)) (decl_spot q d) ≡ spotted_meaning (methods_spotted (types_told all) (types_told all)) (decl_spot q d)
    selected q d h =
        let m = named q (among_from (reach_paths i) q h) in
        told_methods (types_told one) q d one m.summary well_one.apart well_one.own m.is m.among
        ∙ (ap (λ ms. spotted_meaning ms (decl_spot q d)) (methods_same Inside (types_told one) (types_told all) alike.types m.summary.types.entries m.inside.types)
        ∙ sym (told_methods (types_told all) q d all m.summary apart owned m.is (holds m.summary m.among)))

    functions : package_functions (code_scene_over one i c) 0 (trees_in i.source) c.files ≡ package_functions (code_scene_over all i c) 0 (trees_in i.source) c.files
    functions =
        functions_same Inside (types_told one) (types_told all) alike.types (path_in i) (package_decl_refs 0 (trees_in i.source)) c.declared part_in.declared (faces_told one) (faces_told all)
        (faces_told_in Inside one well_one of) alike.declared selected 0 (trees_in i.source) c.files part_in.files

    abbrev with_functions : List (FunctionOf Declaration) → Option (ObjectOf Declaration)
    with_functions fs = if are_clean c.files then Some (record { path = path_in i; name = c.summary.exports.name; imports = all_passing i.imports; functions = fs }) else None

    pub object_alone : object_over all i c ≡ object_of i c
    object_alone = ap with_functions (sym functions)

-- all parts of a workspace

each_among : {X : Type 0} (Is : X → Type 0) (xs : List X) (x : X) → Each Is xs → Among xs x → Is x
each_among Is [] x h at = absurd at
each_among Is (y ∷ xs) x h (inl e) = subst Is e h.0
each_among Is (y ∷ xs) x h (inr a) = each_among Is xs x h.1 a

record IsNumbered (xs : List (Option PartModel)) (p : PartModel) : Type 0 where
  number : ℕ
  there : slice_get xs number ≡ Some (Some p)

numbered_in : (xs : List (Option PartModel)) (p : PartModel) → Among (somes xs) p → IsNumbered xs p
numbered_in [] p h = absurd h
numbered_in (None ∷ xs) p h = (let r = numbered_in xs p h in record { number = suc r.number; there = r.there })
numbered_in (Some q ∷ xs) p (inl e) = record { number = 0; there = ap (λ x. Some (Some x)) e }
numbered_in (Some q ∷ xs) p (inr a) = (let r = numbered_in xs p a in record { number = suc r.number; there = r.there })

among_somes : (xs : List (Option PartModel)) (n : ℕ) (p : PartModel) → slice_get xs n ≡ Some (Some p) → Among (emitted.told_by (somes xs)) p.content.summary
among_somes [] n p is = absurd (let no : None ≡ Some (Some p) = is in cc)
among_somes (None ∷ xs) zero p is = absurd (let no : Some None ≡ Some (Some p) = is in cc)
among_somes (None ∷ xs) (suc n) p is = among_somes xs n p is
among_somes (Some q ∷ xs) zero p is = inl (ap (λ (x : PartModel). x.content.summary) (let s : Some (Some q) ≡ Some (Some p) = is in let t : q ≡ p = cc in t))
among_somes (Some q ∷ xs) (suc n) p is = inr (among_somes xs n p is)

module _ (local : CheckIsLocal) (bind : ImportsBindTheirs) (ps : List PackageModel) (parts : List (Option PartModel)) (well : IsWorkspace ps) (made : AreParts ps parts) (apart : PathsAreApart (emitted.told_by (somes parts))) where
  right : AreRight ps parts
  right = all_right ps parts made

  abbrev all : List SummaryModel
  all = emitted.told_by (somes parts)

  owned : All IsOfOne all
  owned = all_from_among IsOfOne all (λ s a. one_of (somes parts) (λ p b. b) s a)
    where
      one_of : (xs : List PartModel) → ((p : PartModel) → Among xs p → Among (somes parts) p) → (s : SummaryModel) → Among (emitted.told_by xs) s → IsOfOne s
      one_of [] f s a = absurd a
      one_of (x ∷ xs) f s (inl e) = (let r = numbered_in parts x (f x (inl refl)) in subst IsOfOne e (of_one ps parts well right r.number x r.there))
      one_of (x ∷ xs) f s (inr a) = one_of xs (λ p b. f p (inr b)) s a

  holds : (n : ℕ) (part : PartModel) → slice_get parts n ≡ Some (Some part) → (s : SummaryModel) → Among (told_to part.input part.content) s → Among all s
  holds n part there s a = by (among_cases part.input.reached (part.content.summary ∷ []) s a)
    where
      by : Among part.input.reached s ⊎ Among (part.content.summary ∷ []) s → Among all s
      by (inl b) = (let t = told_by ps parts well right n part.input (right n part there).input s b in subst (Among all) (sym t.tells.is) (among_somes parts t.number t.tells.of_part t.tells.there))
      by (inr (inl e)) = subst (Among all) e (among_somes parts n part there)
      by (inr (inr never)) = absurd never

  plan : (p : PlanModel) × IsPlan ps p
  plan = has_plan ps well

  alone : (p : PartModel) → Among (somes parts) p → object_over all p.input p.content ≡ object_of p.input p.content
  alone p a = (let r = numbered_in parts p a in object_alone local bind ps parts well right plan.0 plan.1 r.number p r.there all apart owned (holds r.number p r.there))

  each_alone : (xs : List PartModel) → ((p : PartModel) → Among xs p → Among (somes parts) p) → flat_map (λ p. if_there (object_over all p.input p.content)) xs ≡ flat_map (λ p. if_there (object_of p.input p.content)) xs
  each_alone [] f = refl
  each_alone (x ∷ xs) f = λ j. if_there (alone x (f x (inl refl)) j) ++ each_alone xs (λ p a. f p (inr a)) j

  -- a part is what its input gives, of files whose tokens follow one another
  pub record IsMadeOf (p : PartModel) : Type 0 where
    pub is_placed : All IsPlaced (trees_in p.input.source)
    pub is_part : IsPart p.input p.content

  pub made_of : (p : PartModel) → Contains (somes parts) p → IsMadeOf p
  made_of p h =
      let at = numbered_in parts p (among_from (somes parts) p h) in
      let r = right at.number p at.there in
      record { is_placed = trees_are_placed ps at.number p.input.source well r.numbered; is_part = r.made }

  -- what the occurrences of its files have is declared in its package or in those that it reaches
  pub declared_there : (p : PartModel) → Contains (somes parts) p → (f : FileOf) → Contains p.content.files f → (u : TheUse) → Contains f.answers.uses u → HasDeclaredIn (Contains (reached_paths p.input)) u.outcome
  declared_there p h f in_part u in_file =
      let at = numbered_in parts p (among_from (somes parts) p h) in
      let part = all_in ps parts well right local bind plan.0 plan.1 at.number p at.there in
      let uses = each_among (IsFileIn (Contains (reach_paths p.input))) p.content.files f part.files (among_from p.content.files f in_part) in
      each_among (IsUseIn (Contains (reach_paths p.input))) f.answers.uses u uses.0 (among_from f.answers.uses u in_file)

  pub all_alone : AreOfPartsAlone parts
  all_alone = record { each = λ p h. alone p (among_from (somes parts) p h); objects = each_alone (somes parts) (λ p a. a) }

-- equal inputs have one object

pub one_object_of : OneObject → (p q : PartModel) → p.input ≡ q.input → All IsPlaced (trees_in p.input.source) → IsPart p.input p.content → IsPart q.input q.content → object_of p.input p.content ≡ object_of q.input q.content
one_object_of one p q same placed mine theirs =
    (one p.input p.content q.content placed mine (subst (λ i. IsPart i q.content) (sym same) theirs)).0 ∙ ap (λ i. object_of i q.content) same
