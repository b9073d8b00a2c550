-- The functions of packages without faults are left where they may be.
use Rattle.std.proofs.Common.{◌≡◌, ℕ, suc, ◌<◌, true, false, List, [], ◌∷◌, ◌++◌, Some, AllPairs, Contains, refl, sym, ap, ◌∙◌, subst, arith}
use Rattle.std.specs.Prelude.{slice_get}
use Rattle.go_universe_core.specs.declared.Predeclared.{Predeclared}
use Rattle.go_universe_core.specs.declared.Predeclared.TheVariants as predeclared
use Rattle.go_tree_nodes.specs.Rules.{Wf_file}
use Rattle.go_tree_nodes.specs.Spelling.{IsPlaced}
use Rattle.go_tree_nodes.specs.Trees.{FileTree, FuncTree}
use Rattle.go_code_core.specs.declared.fragments.names.Meaning.{Meaning}
use Rattle.go_code_core.specs.declared.fragments.names.Meaning.TheVariants as meanings
use Rattle.go_report_core.specs.denote_core.declared.things.Outcome.TheVariants as outcomes
use Rattle.go_emit_core.specs.lookup.Looking.{meaning_or_other}
use Rattle.go_names_core.specs.block_core.Naming.{file_specs}
use Rattle.go_meaning_laws.specs.handle_core.Declarations.{Declaration, Universe, OfError, Package, InFile}
use Rattle.go_body_core.specs.Ends.{is_panic_name, is_panic_declaration, has_panic, panics_at, end_faults}
use Rattle.go_body_core.specs.Notes.{TheUse, noted_faults, all_uses}
use Rattle.go_names_core.specs.local_core.WalksEnds.{lines_loop_faults}
use Rattle.go_body_core.specs.file.Files.{decl_faults, decl_uses, tops_uses}
use Rattle.go_body_core.specs.file.Imports.{imports_uses}
use Rattle.go_body_core.specs.file.Stands.{file_funcs}
use Rattle.go_body_core.specs.function.Functions.{checked_func, walked_func}
use Rattle.go_emit_core.specs.package_core.PreparePackages.{trees_in}
use Rattle.go_report_core.specs.summary_core.Summaries.{SummaryModel}
use Rattle.go_report_core.specs.usage.Used.{TheOutcome}
use Rattle.go_emit_core.specs.package_core.Checked.{imports_at}
use Rattle.go_emit_core.specs.package_core.PackagePartInputs.{InputModel, IsInput}
use Rattle.go_emit_core.specs.package_core.PackagePartParts.{ContentOf, FileOf, IsPart, package_seen, seen_by}
use Rattle.go_emit_core.specs.Emitted.{are_clean, code_scene_over}
use Rattle.go_emit_core.specs.Laws.{BodiesAreBetweenBraces, ObjectsAreOfFaultless}
use Rattle.go_emit_core.specs.meaning.Looking.{locals_meant, looks_of}
use Rattle.go_emit_core.specs.meaning.Meanings.{universe_meaning}
use Rattle.go_emit_core.specs.meaning.Scenes.{CodeScene, outcome_meaning}
use Rattle.go_workspace_laws.specs.Standing.{stand_in_part}
use Rattle.go_workspace_laws.proofs.Clean.{IsCleanFile, is_clean_file}
use Rattle.go_workspace_laws.proofs.ConstantLists.{HasItem, Rising, contained, found_at, has, has_right}
use Rattle.go_workspace_laws.proofs.Pieces.{file_has, file_none}
use Rattle.go_program_laws.specs.checked_sources.Laws.{EndsWell, FunctionsEndWell}
use Rattle.go_program_laws.proofs.CheckedSourcesEnding.{no_left, no_right, lines_stay, function_ends, panic_at}

name_is : (p : Predeclared) → is_panic_name p ≡ true → universe_meaning p ≡ meanings.Panic
name_is predeclared.Panic e = refl
name_is _ e = absurd (cc e)

declaration_is : (s : CodeScene) (file : ℕ) (locals : List (ℕ × Meaning)) (d : Declaration) → is_panic_declaration d ≡ true → outcome_meaning s file locals (outcomes.Declared d) ≡ meanings.Panic
declaration_is s file locals (Universe p) e = name_is p e
declaration_is s file locals OfError e = absurd (cc e)
declaration_is s file locals (Package path) e = absurd (cc e)
declaration_is s file locals (InFile path place) e = absurd (cc e)

outcome_is : (s : CodeScene) (file : ℕ) (locals : List (ℕ × Meaning)) (o : TheOutcome) → has_panic o ≡ true → outcome_meaning s file locals o ≡ meanings.Panic
outcome_is s file locals (outcomes.Declared d) e = declaration_is s file locals d e
outcome_is s file locals (outcomes.Selected d path) e = absurd (cc e)
outcome_is s file locals (outcomes.Refused rule) e = absurd (cc e)

rising_from : {X V : Type 0} (at : X → ℕ) (value : X → V) (xs : List X) → AllPairs (λ (x y : X). at x < at y) xs → Rising at value xs
rising_from at value [] h = tt
rising_from at value (x ∷ xs) h = (
  (λ y k. (let c = contained xs y k in let low = c.1 in subst (λ z. at x < at z) c.2 (h 0 (suc c.0) y (omega arith) (omega (arith, low))))),
  rising_from at value xs (λ i j d lt within. h (suc i) (suc j) d (omega (arith, lt)) (omega (arith, within))),
)

module _ (fine : ObjectsAreOfFaultless) (between : BodiesAreBetweenBraces) (all : List SummaryModel) (i : InputModel) (c : ContentOf) (well : IsInput i) (part : IsPart i c) (clean : are_clean c.files ≡ true)
    (n : ℕ) (t : FileTree) (f : FileOf) (tree : slice_get (trees_in i.source) n ≡ Some t) (there : slice_get c.files n ≡ Some f) (grammar : Wf_file t) (placed : IsPlaced t)
    (g : FuncTree) (func : Contains (file_funcs t) g) (before : ℕ) where
  file : IsCleanFile i c n t f
  file = is_clean_file fine i c well part clean n t f tree there

  g_there : HasItem (file_funcs t) g
  g_there = has (file_funcs t) g func

  none : (checked_func (stand_in_part i c n t) g).faults ≡ []
  none = file_none (decl_faults (stand_in_part i c n t)) t g g_there file.faults

  beside : ((walked_func (stand_in_part i c n t) g).faults ++ lines_loop_faults false g.body) ++ end_faults (all_uses (walked_func (stand_in_part i c n t) g).notes) g ≡ []
  beside = no_right (noted_faults (walked_func (stand_in_part i c n t) g).notes) _ none

  in_file : (u : TheUse) → HasItem (all_uses (walked_func (stand_in_part i c n t) g).notes) u → HasItem f.answers.uses u
  in_file u h =
      subst (λ us. HasItem us u) (sym file.uses)
      (has_right (imports_uses (file_specs t) (imports_at (package_seen i c.blocks (seen_by i)) n)) (tops_uses (stand_in_part i c n t) t.decls) u (file_has (decl_uses (stand_in_part i c n t)) t g g_there u h))

  abbrev value : TheUse → Meaning
  value u = outcome_meaning (code_scene_over all i c) n (locals_meant (code_scene_over all i c).types f.answers.locals) u.outcome

  panic_is : (offset : ℕ) → panics_at (all_uses (walked_func (stand_in_part i c n t) g).notes) offset ≡ true → (looks_of (code_scene_over all i c) n f.answers.uses f.answers.locals before).meaning offset ≡ meanings.Panic
  panic_is offset e =
      let p = panic_at (all_uses (walked_func (stand_in_part i c n t) g).notes) offset e in
      let rising = rising_from (λ (v : TheUse). v.offset) value f.answers.uses (between i c well part n t f tree there grammar placed).0 in
      ap (λ k. (looks_of (code_scene_over all i c) n f.answers.uses f.answers.locals before).meaning k) p.here
      ∙ ap meaning_or_other (found_at (λ (v : TheUse). v.offset) value f.answers.uses p.occurrence rising (in_file p.occurrence p.there))
      ∙ outcome_is (code_scene_over all i c) n (locals_meant (code_scene_over all i c).types f.answers.locals) p.occurrence.outcome p.denotes

  pub ends_well : EndsWell (looks_of (code_scene_over all i c) n f.answers.uses f.answers.locals before) g
  ends_well =
      let jumps = lines_stay g.body (no_right (walked_func (stand_in_part i c n t) g).faults (lines_loop_faults false g.body) (no_left ((walked_func (stand_in_part i c n t) g).faults ++ lines_loop_faults false g.body) _ beside)) in
      record {
        no_break = jumps.0;
        no_continue = jumps.1;
        ends = function_ends (all_uses (walked_func (stand_in_part i c n t) g).notes) _ g panic_is (no_right ((walked_func (stand_in_part i c n t) g).faults ++ lines_loop_faults false g.body) _ beside);
      }

pub functions_end_well : ObjectsAreOfFaultless → BodiesAreBetweenBraces → FunctionsEndWell
functions_end_well fine between all i c well part clean n t f tree there grammar placed g func before = ends_well fine between all i c well part clean n t f tree there grammar placed g func before
