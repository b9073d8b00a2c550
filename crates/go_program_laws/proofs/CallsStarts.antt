-- What begins a program takes and gives nothing.
use Rattle.std.proofs.Common.{◌≡◌, inl, inr, ℕ, zero, suc, ◌+◌, Bool, true, false, List, [], ◌∷◌, ◌++◌, length, Contains, Option, Some, None, codes, refl, sym, ap, ◌∙◌, subst, arith}
use Rattle.std.specs.Prelude.{MatchOption, if◌then◌else◌, slice_get}
use Rattle.std.specs.List.{flat_map}
use Rattle.std.specs.Str.{bytes_eq}
use Rattle.std.proofs.lemmas.Option.{none-some}
use Rattle.go_tree_nodes.specs.Trees.{FileTree}
use Rattle.go_term_core.specs.decl_core.TopDecls.{TopDeclTree, top_decls}
use Rattle.go_names_core.specs.block_core.Declarations.{is_main_package}
use Rattle.go_code_core.specs.declared.fragments.names.Gives.TheVariants as gives
use Rattle.go_object_core.specs.Objects.{ObjectOf}
use Rattle.go_machine_core.specs.link.Functions.{PlaceModel, all_functions, number_of}
use Rattle.go_machine_core.specs.link.Linked.{IsBegun, RunnableOf, program_of}
use Rattle.go_machine_core.specs.link.Order.{initialised, inits_in}
use Rattle.go_machine_core.specs.link.Packages.{PackageOf, entry_if, entry_in, entry_of, package_number, package_of, packages_from}
use Rattle.go_meaning_laws.specs.source_meaning.Meaning.{SourceOf}
use Rattle.go_meaning_laws.specs.fitting_sources.Fitting.{IsDeclared}
use Rattle.go_meaning_laws.specs.handle_core.Declarations.{Declaration}
use Rattle.go_graph_core.specs.Packages.{trees_of}
use Rattle.go_emit_core.specs.package_core.PreparePackages.{trees_in}
use Rattle.go_report_core.specs.summary_core.Summaries.{SummaryModel}
use Rattle.go_emit_core.specs.package_core.PackagePartParts.{FileOf, PartModel}
use Rattle.go_emit_core.specs.package_core.PackagePartSlots.{if_there}
use Rattle.go_emit_core.specs.meaning.Looking.{looks_of}
use Rattle.go_emit_core.specs.meaning.Scenes.{CodeScene}
use Rattle.go_emit_core.specs.Emitted.{are_clean, code_scene_over, file_functions, objects_of, objects_over, package_functions, told_by, whole_object}
use Rattle.go_emit_core.specs.Laws.{ObjectsAreOfFaultless}
use Rattle.go_workspace_laws.proofs.ConstantLists.{HasItem, contained, from_flat, has, has_either}
use Rattle.go_meaning_laws.specs.object_sources.Sources.{file_sources, package_sources, sources_of, sources_over}
use Rattle.go_program_laws.specs.checked_sources.Laws.{IsOfGrammar}
use Rattle.go_program_laws.specs.checked_sources.RunLaws.{ObjectsRunAsTyped}
use Rattle.go_program_laws.specs.calls.Starts.{StartsTakeNothing, TypedObjectsRun}
use Rattle.go_program_laws.proofs.CallsProcedures.{IsRightDecl, main_by_name, right_decl}
use Rattle.go_program_laws.proofs.CallsBeginning.{ArePaired, StandsAt, as_long, before_others, behind_others, called_stands, decls_paired, joined}

-- the functions of a package

module _ (number : Declaration → Option ℕ) (is_main : Bool) where
  abbrev AreRight : List FileTree → List FileOf → Type 0
  AreRight ts fs = (k : ℕ) (t : FileTree) (f : FileOf) → slice_get ts k ≡ Some t → slice_get fs k ≡ Some f → (d : TopDeclTree) → HasItem (top_decls t) d → IsRightDecl is_main d

  package_paired : (s : CodeScene) (n : ℕ) (ts : List FileTree) (fs : List FileOf) → AreRight ts fs → ArePaired is_main (package_functions s n ts fs) (package_sources number s n ts fs)
  package_paired s n [] fs right = tt
  package_paired s n (t ∷ ts) [] right = tt
  package_paired s n (t ∷ ts) (f ∷ fs) right =
      joined is_main (file_functions s n (top_decls t) f) (package_functions s (suc n) ts fs) (file_sources number s n (top_decls t) f) (package_sources number s (suc n) ts fs)
      (decls_paired is_main number s.path n f.answers.uses (looks_of s n f.answers.uses f.answers.locals) (top_decls t) (right 0 t f refl refl))
      (package_paired s (suc n) ts fs (λ k u g a b. right (suc k) u g a b))

-- the functions of all packages

-- the `init` functions of a package take and give nothing, and its `main` functions where it is called `main`
pub record IsRightPackage (ss : List SourceOf) (first : ℕ) (p : PackageOf) : Type 0 where
  pub inits : (number : ℕ) → HasItem p.inits number → StandsAt ss first number
  pub mains : p.is_main ≡ true → (number : ℕ) → HasItem p.mains number → StandsAt ss first number

later_package : (ss ts : List SourceOf) (first : ℕ) (p : PackageOf) → IsRightPackage ts (first + length ss) p → IsRightPackage (ss ++ ts) first p
later_package ss ts first p h = record { inits = λ n k. behind_others ss ts first n (h.inits n k); mains = λ e n k. behind_others ss ts first n (h.mains e n k) }

module _ (fine : ObjectsAreOfFaultless) (number : Declaration → Option ℕ) (of_path : List ℕ → Option ℕ) (all : List SummaryModel) where
  module _ (p : PartModel) (grammar : IsOfGrammar p) (clean : are_clean p.content.files ≡ true) where
    abbrev the_object : ObjectOf Declaration
    the_object = whole_object (code_scene_over all p.input p.content) p.input p.content

    abbrev the_sources : List SourceOf
    the_sources = package_sources number (code_scene_over all p.input p.content) 0 (trees_in p.input.source) p.content.files

    called_main : is_main_package (trees_of p.input.source.1) ≡ bytes_eq the_object.name (codes "main")
    called_main = main_by_name (trees_of p.input.source.1) ∙ ap (λ (s : SummaryModel). bytes_eq s.exports.name (codes "main")) (sym grammar.part.summary)

    paired : ArePaired (bytes_eq the_object.name (codes "main")) the_object.functions the_sources
    paired =
        subst (λ b. ArePaired b the_object.functions the_sources) called_main
        (package_paired number (is_main_package (trees_of p.input.source.1)) (code_scene_over all p.input p.content) 0 (trees_in p.input.source) p.content.files
        (λ k t f tree there d h. right_decl fine p.input p.content grammar.part clean k t f tree there d h))

    own_package : (ts : List SourceOf) (first : ℕ) → IsRightPackage (the_sources ++ ts) first (package_of of_path first the_object)
    own_package ts first = record {
      inits = λ n k. before_others the_sources ts first n (called_stands (bytes_eq the_object.name (codes "main")) (codes "init") (λ f s pair e. pair.inits e) first the_object.functions the_sources paired n k);
      mains = λ is_main n k. before_others the_sources ts first n (called_stands (bytes_eq the_object.name (codes "main")) (codes "main") (λ f s pair e. pair.mains is_main e) first the_object.functions the_sources paired n k);
    }

  abbrev AreRightFrom : List PartModel → ℕ → Type 0
  AreRightFrom ps first = (k : ℕ) (q : PackageOf) → slice_get (packages_from of_path first (objects_over all ps)) k ≡ Some q → IsRightPackage (sources_over number all ps) first q

  with_part : (t : Bool) (p : PartModel) (ps : List PartModel) → IsOfGrammar p → are_clean p.content.files ≡ t → ((first : ℕ) → AreRightFrom ps first) → (first : ℕ) (k : ℕ) (q : PackageOf)
      → slice_get (packages_from of_path first (if_there (if t then Some (whole_object (code_scene_over all p.input p.content) p.input p.content) else None) ++ objects_over all ps)) k ≡ Some q
      → IsRightPackage ((if t then package_sources number (code_scene_over all p.input p.content) 0 (trees_in p.input.source) p.content.files else []) ++ sources_over number all ps) first q
  with_part false p ps grammar clean rest first k q e = rest first k q e
  with_part true p ps grammar clean rest first zero q e =
      let same : package_of of_path first (the_object p grammar clean) ≡ q = cc in
      subst (λ x. IsRightPackage (the_sources p grammar clean ++ sources_over number all ps) first x) same (own_package p grammar clean (sources_over number all ps) first)
  with_part true p ps grammar clean rest first (suc k) q e =
      let ss = the_sources p grammar clean in
      let long = as_long (bytes_eq (the_object p grammar clean).name (codes "main")) (the_object p grammar clean).functions ss (paired p grammar clean) in
      later_package ss (sources_over number all ps) first q (subst (λ n. IsRightPackage (sources_over number all ps) (first + n) q) long (rest (first + length (the_object p grammar clean).functions) k q e))

  pub all_right : (ps : List PartModel) → ((p : PartModel) → HasItem ps p → IsOfGrammar p) → (first : ℕ) → AreRightFrom ps first
  all_right [] grammar first k q e = absurd (none-some q e)
  all_right (p ∷ ps) grammar first k q e = with_part (are_clean p.content.files) p ps (grammar p (inl refl)) refl (λ n. all_right ps (λ x h. grammar x (inr h)) n) first k q e

-- what begins a program

-- the function that `main` is, of a package that is called `main`
pub record IsMain (ps : List PackageOf) (number : ℕ) : Type 0 where
  pub place : ℕ
  pub «package» : PackageOf
  pub there : slice_get ps place ≡ Some «package»
  pub is_main : «package».is_main ≡ true
  pub has_it : HasItem «package».mains number

entry_there : (ps : List PackageOf) (root : ℕ) (o : Option PackageOf) → slice_get ps root ≡ o → MatchOption (entry_of root o) (Unit {0}) (λ e. IsMain ps e.main)
entry_there ps root None is = tt
entry_there ps root (Some p) is = by p.is_main p.mains refl refl
  where
    by : (b : Bool) (mains : List ℕ) → p.is_main ≡ b → p.mains ≡ mains → MatchOption (entry_if b root mains) (Unit {0}) (λ e. IsMain ps e.main)
    by true [] e h = tt
    by true (m ∷ others) e h = record { place = root; «package» = p; there = is; is_main = e; has_it = subst (λ ms. HasItem ms m) (sym h) (inl refl) }
    by false mains e h = tt

is_entry : (ps : List PackageOf) (o : Option ℕ) → MatchOption (entry_in ps o) (Unit {0}) (λ e. IsMain ps e.main)
is_entry ps None = tt
is_entry ps (Some root) = entry_there ps root (slice_get ps root) refl

-- an `init` of a package
pub record IsInit (ps : List PackageOf) (number : ℕ) : Type 0 where
  pub place : ℕ
  pub «package» : PackageOf
  pub there : slice_get ps place ≡ Some «package»
  pub has_it : HasItem «package».inits number

init_there : (ps : List PackageOf) (k : ℕ) (o : Option PackageOf) (number : ℕ) → slice_get ps k ≡ o → HasItem (inits_in o) number → IsInit ps number
init_there ps k None number is h = absurd h
init_there ps k (Some p) number is h = record { place = k; «package» = p; there = is; has_it = h }

declared_at : (ss : List SourceOf) (n : ℕ) → StandsAt ss 0 n → IsDeclared ss n gives.Nothing []
declared_at ss n at =
    let sum = at.sum in
    let same : n ≡ at.place = omega (arith, sum) in
    record { source = at.source; is_source = subst (λ m. slice_get ss m ≡ Some at.source) (sym same) at.there; given = at.takes.0; takes = at.takes.1 }

module _ (fine : ObjectsAreOfFaultless) (place : Declaration → Option PlaceModel) (ps : List PartModel) (main : List ℕ) (r : RunnableOf) (grammar : (p : PartModel) → Contains ps p → IsOfGrammar p) (begun : IsBegun (program_of place (objects_of ps) main) r) where
  abbrev packages : List PackageOf
  packages = packages_from (package_number (objects_of ps)) 0 (objects_of ps)

  right : (k : ℕ) (q : PackageOf) → slice_get packages k ≡ Some q → IsRightPackage (sources_of place ps) 0 q
  right = all_right fine (number_of place (all_functions (objects_of ps))) (package_number (objects_of ps)) (told_by ps) ps (λ p h. grammar p (contained ps p h)) 0

  main_stands : StandsAt (sources_of place ps) 0 begun.entry.main
  main_stands =
      let e : IsMain packages begun.entry.main = subst (λ o. MatchOption o (Unit {0}) (λ e. IsMain packages e.main)) begun.begins (is_entry packages (package_number (objects_of ps) main)) in
      (right e.place e.«package» e.there).mains e.is_main begun.entry.main e.has_it

  init_stands : (number : ℕ) → IsInit packages number → StandsAt (sources_of place ps) 0 number
  init_stands number h = (right h.place h.«package» h.there).inits number h.has_it

  starts_declared : (number : ℕ) → HasItem r.starts number → IsDeclared (sources_of place ps) number gives.Nothing []
  starts_declared number h =
      let order = initialised packages (program_of place (objects_of ps) main).order begun.marks in
      elim (has_either (flat_map (λ n. inits_in (slice_get packages n)) order) (begun.entry.main ∷ []) number (subst (λ ns. HasItem ns number) begun.starts h)) [
        | inl early ↦ (
            let one = from_flat (λ n. inits_in (slice_get packages n)) order number early in
            declared_at (sources_of place ps) number (init_stands number (init_there packages one.item (slice_get packages one.item) number refl one.here))
            )
        | inr last ↦ by_last number last
      ]
    where
      by_last : (number : ℕ) → HasItem (begun.entry.main ∷ []) number → IsDeclared (sources_of place ps) number gives.Nothing []
      by_last number (inl same) = subst (λ n. IsDeclared (sources_of place ps) n gives.Nothing []) same (declared_at (sources_of place ps) begun.entry.main main_stands)
      by_last number (inr none) = absurd none

pub starts_take_nothing : ObjectsAreOfFaultless → StartsTakeNothing
starts_take_nothing fine place ps main r grammar begun number h = starts_declared fine place ps main r grammar begun number (has r.starts number h)

pub typed_objects_run : ObjectsRunAsTyped → StartsTakeNothing → TypedObjectsRun
typed_objects_run run starts place ps main r grammar runnable typed = run place ps main r grammar runnable typed (starts place ps main r grammar runnable.begun)
