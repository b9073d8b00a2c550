-- The number that a reference leads to is that of the source that is declared there.
use Rattle.std.proofs.Common.{◌≡◌, inl, inr, cond, ◌+◌, ◌&&◌, ℕ, zero, suc, Bool, true, false, List, [], ◌∷◌, ◌++◌, map, Option, Some, None, nat_eq, refl, sym, ap, ◌∙◌, subst, arith, if◌then◌else◌}
use Rattle.std.specs.Prelude.{slice_get}
use Rattle.std.specs.List.{position_from}
use Rattle.std.specs.Str.{bytes_eq}
use Rattle.std.proofs.lemmas.Bool.{and_parts, eqb-true}
use Rattle.std.proofs.lemmas.Option.{none-some}
use Rattle.std.proofs.lemmas.Slice.Eq.{bytes_eq-Decides}
use Rattle.go_tree_nodes.specs.Trees.{FileTree, FuncTree}
use Rattle.go_term_core.specs.decl_core.TopDecls.{FormTree, FuncForm, TopDeclTree, TypeForm, ValueForm, top_decls}
use Rattle.go_term_core.specs.declared.term.MemberPlace.TheVariants as places
use Rattle.go_object_core.specs.Objects.{FunctionOf}
use Rattle.go_meaning_laws.specs.source_meaning.Meaning.{SourceOf}
use Rattle.go_machine_core.specs.link.Functions.{PlaceModel, all_functions, is_at, number_at, number_of, same_place}
use Rattle.go_meaning_laws.specs.handle_core.Declarations.{Declaration, InFile}
use Rattle.go_code_core.specs.fragments.Names.{CodeLooks}
use Rattle.go_emit_core.specs.package_core.PreparePackages.{trees_in}
use Rattle.go_report_core.specs.summary_core.Summaries.{SummaryModel}
use Rattle.go_emit_core.specs.package_core.PackagePartInputs.{path_in}
use Rattle.go_emit_core.specs.package_core.PackagePartParts.{FileOf, PartModel}
use Rattle.go_emit_core.specs.package_core.PackagePartSlots.{if_there}
use Rattle.go_emit_core.specs.Emitted.{are_clean, code_scene_over, file_functions, form_function, functions_of, objects_of, objects_over, package_functions, told_by, whole_object}
use Rattle.go_emit_core.specs.meaning.Looking.{looks_of}
use Rattle.go_emit_core.specs.meaning.Scenes.{CodeScene, decl_at}
use Rattle.go_workspace_laws.proofs.ConstantLists.{HasItem, contained}
use Rattle.go_meaning_laws.specs.object_sources.Sources.{file_sources, form_source, package_sources, source_in, sources_in, sources_of, sources_over}
use Rattle.go_program_laws.specs.calls.Places.{ReferencesLeadToTheirs}

-- functions and sources, each beside the other

module _ (number : Declaration → Option ℕ) (all : List SummaryModel) (ps : List PartModel) where
  -- the source of a function is the function that is declared there
  pub record IsBeside (f : FunctionOf Declaration) (s : SourceOf) : Type 0 where
    pub part : PartModel
    pub there : HasItem ps part
    pub clean : are_clean part.content.files ≡ true
    pub place : ℕ
    pub tree : FileTree
    pub in_package : slice_get (trees_in part.input.source) place ≡ Some tree
    pub file : FileOf
    pub made : slice_get part.content.files place ≡ Some file
    pub decl : TopDeclTree
    pub among : HasItem (top_decls tree) decl
    pub func : FuncTree
    pub form : decl.form ≡ FuncForm func
    pub declaration : f.declaration ≡ InFile (path_in part.input) (places.Declared (decl_at place decl))
    pub is : s ≡ source_in number file.answers.uses (looks_of (code_scene_over all part.input part.content) place file.answers.uses file.answers.locals) func

  abbrev AreBeside : List (FunctionOf Declaration) → List SourceOf → Type 0
  AreBeside [] [] = Unit {0}
  AreBeside [] (s ∷ ss) = ⊥
  AreBeside (f ∷ fs) [] = ⊥
  AreBeside (f ∷ fs) (s ∷ ss) = IsBeside f s × AreBeside fs ss

  joined : (fs gs : List (FunctionOf Declaration)) (ss ts : List SourceOf) → AreBeside fs ss → AreBeside gs ts → AreBeside (fs ++ gs) (ss ++ ts)
  joined [] gs [] ts h k = k
  joined [] gs (s ∷ ss) ts h k = absurd h
  joined (f ∷ fs) gs [] ts h k = absurd h
  joined (f ∷ fs) gs (s ∷ ss) ts h k = (h.0, joined fs gs ss ts h.1 k)

  -- the source at the number of a function
  pub beside_at : (fs : List (FunctionOf Declaration)) (ss : List SourceOf) → AreBeside fs ss → (n : ℕ) (f : FunctionOf Declaration) → slice_get fs n ≡ Some f → (s : SourceOf) × (slice_get ss n ≡ Some s) × IsBeside f s
  beside_at [] [] h n f e = absurd (none-some f e)
  beside_at [] (s ∷ ss) h n f e = absurd h
  beside_at (g ∷ fs) [] h n f e = absurd h
  beside_at (g ∷ fs) (s ∷ ss) h zero f e = (let same : g ≡ f = cc e in (s, refl, subst (λ x. IsBeside x s) same h.0))
  beside_at (g ∷ fs) (s ∷ ss) h (suc n) f e = beside_at fs ss h.1 n f e

  module _ (part : PartModel) (in_parts : HasItem ps part) (clean : are_clean part.content.files ≡ true) where
    abbrev scene : CodeScene
    scene = code_scene_over all part.input part.content

    module _ (place : ℕ) (tree : FileTree) (file : FileOf) (in_package : slice_get (trees_in part.input.source) place ≡ Some tree) (made : slice_get part.content.files place ≡ Some file) where
      abbrev looking : ℕ → CodeLooks
      looking = looks_of scene place file.answers.uses file.answers.locals

      form_beside : (d : TopDeclTree) → HasItem (top_decls tree) d → (t : FormTree) → d.form ≡ t → AreBeside (form_function (path_in part.input) place file.answers.uses looking d t) (form_source number file.answers.uses looking t)
      form_beside d h (ValueForm k v at) e = tt
      form_beside d h (TypeForm t) e = tt
      form_beside d h (FuncForm g) e = (record { part = part; there = in_parts; clean = clean; place = place; tree = tree; in_package = in_package; file = file; made = made; decl = d; among = h; func = g; form = e; declaration = refl; is = refl }, tt)

      decls_beside : (ds : List TopDeclTree) → ((d : TopDeclTree) → HasItem ds d → HasItem (top_decls tree) d) → AreBeside (functions_of (path_in part.input) place file.answers.uses looking ds) (sources_in number file.answers.uses looking ds)
      decls_beside [] h = tt
      decls_beside (d ∷ ds) h =
          joined (form_function (path_in part.input) place file.answers.uses looking d d.form) (functions_of (path_in part.input) place file.answers.uses looking ds) (form_source number file.answers.uses looking d.form) (sources_in number file.answers.uses looking ds)
          (form_beside d (h d (inl refl)) d.form refl) (decls_beside ds (λ x k. h x (inr k)))

    files_beside : (first : ℕ) (ts : List FileTree) (files : List FileOf)
        → ((k : ℕ) (t : FileTree) (f : FileOf) → slice_get ts k ≡ Some t → slice_get files k ≡ Some f → (slice_get (trees_in part.input.source) (first + k) ≡ Some t) × (slice_get part.content.files (first + k) ≡ Some f))
        → AreBeside (package_functions scene first ts files) (package_sources number scene first ts files)
    files_beside first [] files h = tt
    files_beside first (t ∷ ts) [] h = tt
    files_beside first (t ∷ ts) (f ∷ files) h =
        let here = h 0 t f refl refl in
        let zero_sum : first + 0 ≡ first = omega arith in
        let in_package = subst (λ n. slice_get (trees_in part.input.source) n ≡ Some t) zero_sum here.0 in
        let made = subst (λ n. slice_get part.content.files n ≡ Some f) zero_sum here.1 in
        joined (file_functions scene first (top_decls t) f) (package_functions scene (suc first) ts files) (file_sources number scene first (top_decls t) f) (package_sources number scene (suc first) ts files)
        (decls_beside first t f in_package made (top_decls t) (λ d k. k))
        (files_beside (suc first) ts files (λ k u g a b. (
        let next = h (suc k) u g a b in
        let sum : first + suc k ≡ suc first + k = omega arith in
        (subst (λ n. slice_get (trees_in part.input.source) n ≡ Some u) sum next.0, subst (λ n. slice_get part.content.files n ≡ Some g) sum next.1)
        )))

    package_beside : AreBeside (package_functions scene 0 (trees_in part.input.source) part.content.files) (package_sources number scene 0 (trees_in part.input.source) part.content.files)
    package_beside = files_beside 0 (trees_in part.input.source) part.content.files (λ k t f a b. (
        let sum : k ≡ 0 + k = omega arith in
        (subst (λ n. slice_get (trees_in part.input.source) n ≡ Some t) sum a, subst (λ n. slice_get part.content.files n ≡ Some f) sum b)
        ))

  with_part : (t : Bool) (p : PartModel) (qs : List PartModel) → HasItem ps p → are_clean p.content.files ≡ t → AreBeside (all_functions (objects_over all qs)) (sources_over number all qs)
      → AreBeside (all_functions (if_there (if t then Some (whole_object (code_scene_over all p.input p.content) p.input p.content) else None) ++ objects_over all qs))
      ((if t then package_sources number (code_scene_over all p.input p.content) 0 (trees_in p.input.source) p.content.files else []) ++ sources_over number all qs)
  with_part true p qs there clean rest =
      joined (package_functions (code_scene_over all p.input p.content) 0 (trees_in p.input.source) p.content.files) (all_functions (objects_over all qs))
      (package_sources number (code_scene_over all p.input p.content) 0 (trees_in p.input.source) p.content.files) (sources_over number all qs) (package_beside p there clean) rest
  with_part false p qs there clean rest = rest

  pub parts_beside : (qs : List PartModel) → ((p : PartModel) → HasItem qs p → HasItem ps p) → AreBeside (all_functions (objects_over all qs)) (sources_over number all qs)
  parts_beside [] h = tt
  parts_beside (p ∷ qs) h = with_part (are_clean p.content.files) p qs (h p (inl refl)) refl (parts_beside qs (λ x k. h x (inr k)))

-- what is found in a list

pub record IsFoundAt {A : Type 0} (test : A → Bool) (xs : List A) (n : ℕ) : Type 0 where
  pub item : A
  pub there : slice_get xs n ≡ Some item
  pub passes : test item ≡ true

found_from : {A : Type 0} (test : A → Bool) (xs : List A) (from n : ℕ) → position_from test from xs ≡ Some n → (k : ℕ) × (n ≡ from + k) × IsFoundAt test xs k
found_from test [] from n e = absurd (none-some n e)
found_from test (x ∷ xs) from n e = by (test x) refl e (found_from test xs (from + 1) n)
  where
    by : (b : Bool) → test x ≡ b → cond b (Some from) (position_from test (from + 1) xs) ≡ Some n → (position_from test (from + 1) xs ≡ Some n → (k : ℕ) × (n ≡ from + 1 + k) × IsFoundAt test xs k)
        → (k : ℕ) × (n ≡ from + k) × IsFoundAt test (x ∷ xs) k
    by true t e rest = (let same : from ≡ n = cc e in let sum : n ≡ from + 0 = omega (arith, same) in (0, sum, record { item = x; there = refl; passes = t }))
    by false t e rest =
        let r = rest e in
        let at = r.1 in
        let sum : n ≡ from + suc r.0 = omega (arith, at) in
        (suc r.0, sum, record { item = r.2.item; there = r.2.there; passes = r.2.passes })

mapped_at : {A B : Type 0} (g : A → B) (xs : List A) (n : ℕ) (y : B) → slice_get (map g xs) n ≡ Some y → (x : A) × (slice_get xs n ≡ Some x) × (g x ≡ y)
mapped_at g [] n y e = absurd (none-some y e)
mapped_at g (x ∷ xs) zero y e = (let same : g x ≡ y = cc e in (x, refl, same))
mapped_at g (x ∷ xs) (suc n) y e = mapped_at g xs n y e

pub references_lead : ReferencesLeadToTheirs
references_lead place ps placing path d number e =
    let fs = all_functions (objects_of ps) in
    let of = number_of place fs in
    let p : PlaceModel = record { path = path; file = d.file; number = d.number } in
    let found = found_from (is_at p) (map (λ (f : FunctionOf Declaration). place f.declaration) fs) 0 number
    (subst (λ o. number_at (map (λ (f : FunctionOf Declaration). place f.declaration) fs) o ≡ Some number) (placing path d) e) in
    let at : number ≡ found.0 = (let sum = found.1 in omega (arith, sum)) in
    let f = mapped_at (λ (f : FunctionOf Declaration). place f.declaration) fs found.0 found.2.item found.2.there in
    let s = beside_at of (told_by ps) ps fs (sources_of place ps) (parts_beside of (told_by ps) ps ps (λ x k. k)) found.0 f.0 f.1 in
    let b = s.2 in
    let item : found.2.item ≡ Some (record { path = path_in b.part.input; file = b.place; number = b.decl.number }) = sym f.2 ∙ (ap place b.declaration ∙ placing (path_in b.part.input) (decl_at b.place b.decl)) in
    let passes : same_place p (record { path = path_in b.part.input; file = b.place; number = b.decl.number }) ≡ true = subst (λ o. is_at p o ≡ true) item found.2.passes in
    let parts = and_parts (bytes_eq path (path_in b.part.input)) (nat_eq d.file b.place && nat_eq d.number b.decl.number) passes in
    let numbers = and_parts (nat_eq d.file b.place) (nat_eq d.number b.decl.number) parts.1 in
    let same_file : b.place ≡ d.file = sym (eqb-true d.file b.place numbers.0) in (
      s.0,
      subst (λ n. slice_get (sources_of place ps) n ≡ Some s.0) (sym at) s.1,
      record {
        part = b.part;
        there = contained ps b.part b.there;
        clean = b.clean;
        of_path = sym ((bytes_eq-Decides path (path_in b.part.input)).0 parts.0);
        tree = b.tree;
        in_package = subst (λ n. slice_get (trees_in b.part.input.source) n ≡ Some b.tree) same_file b.in_package;
        file = b.file;
        made = subst (λ n. slice_get b.part.content.files n ≡ Some b.file) same_file b.made;
        decl = b.decl;
        among = contained (top_decls b.tree) b.decl b.among;
        number = sym (eqb-true d.number b.decl.number numbers.1);
        func = b.func;
        form = b.form;
        is = subst (λ n. s.0 ≡ source_in of b.file.answers.uses (looks_of (code_scene_over (told_by ps) b.part.input b.part.content) n b.file.answers.uses b.file.answers.locals) b.func) same_file b.is;
      },
    )
