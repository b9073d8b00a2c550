-- Code and check agree on the expressions of functions.
use Rattle.std.proofs.Common.{◌≡◌, ℕ, suc, ◌<◌, true, List, [], ◌∷◌, Some, AllPairs, Contains, sym, ap, subst, ◌∙◌, arith}
use Rattle.std.specs.Prelude.{slice_get}
use Rattle.go_tree_nodes.specs.Rules.{Wf_file}
use Rattle.go_tree_nodes.specs.Trees.{FileTree, FuncTree, ExprTree}
use Rattle.go_term_core.specs.Terms.{Term, Sign}
use Rattle.go_names_core.specs.local_core.Binding.{Local}
use Rattle.go_names_core.specs.local_core.Steps.{Piece}
use Rattle.go_names_core.specs.local_core.Tables.{IsFuncPlaced}
use Rattle.go_report_core.specs.denote_core.declared.things.Outcome.TheVariants as outcomes
use Rattle.go_report_core.specs.denote_core.declared.things.Stand.TheVariants as stands
use Rattle.go_report_core.specs.expr_core.Faults.{faults}
use Rattle.go_report_core.specs.expr_core.Uses.{uses}
use Rattle.govisd_resolve.specs.handle_core.Declarations.{Declaration}
use Rattle.go_body_core.specs.env_core.declared.meaning.Meaning.{Meaning}
use Rattle.go_body_core.specs.Notes.{TheLocal, TheUse}
use Rattle.go_body_core.specs.function.Functions.{AreFuncDeclarations}
use Rattle.go_body_core.specs.function.Laws.{FunctionsHaveOneTable}
use Rattle.go_body_core.specs.function.Locals.{LocalsAreDeclarations}
use Rattle.go_body_core.specs.file.Files.{decl_faults, decl_uses, tops_uses}
use Rattle.go_body_core.specs.file.Imports.{imports_uses}
use Rattle.go_body_core.specs.file.Laws.{FunctionsArePlaced}
use Rattle.go_body_core.specs.file.Stands.{file_funcs}
use Rattle.go_names_core.specs.block_core.Naming.{file_specs}
use Rattle.go_snap_core.specs.whole_workspace.LocalLaws.{ImportsBindTheirs}
use Rattle.go_report_core.specs.usage.Used.{TheOutcome, is_declared}
use Rattle.go_emit_core.specs.package_core.PreparePackages.{trees_in}
use Rattle.go_emit_core.specs.package_core.Checked.{imports_at}
use Rattle.go_report_core.specs.summary_core.Views.{types_told}
use Rattle.go_emit_core.specs.package_core.PackagePartInputs.{InputModel, IsInput}
use Rattle.go_emit_core.specs.package_core.PackagePartParts.{ContentOf, FileOf, IsPart, package_seen, seen_by}
use Rattle.go_emit_core.specs.Emitted.{are_clean, code_scene_over, told_to}
use Rattle.go_emit_core.specs.Laws.{BodiesAreBetweenBraces, ObjectsAreOfFaultless}
use Rattle.go_emit_core.specs.meaning.Looking.{locals_meant}
use Rattle.go_emit_core.specs.meaning.Meanings.{local_meaning}
use Rattle.go_emit_core.specs.meaning.Scenes.{outcome_meaning}
use Rattle.go_emit_core.specs.lookup.Looking.{meaning_or_other}
use Rattle.go_workspace_laws.specs.folding.Laws.{AreMeant, ConstantsAreFolded, ExpressionsAreFolded, HasDeclaration}
use Rattle.go_workspace_laws.specs.folding.Reading.{AreNamesRead, AreRead}
use Rattle.go_workspace_laws.specs.Calling.{without_method, without_methods}
use Rattle.go_workspace_laws.specs.ConstantLaws.{ConstantsAreOfTheCheck, ImportsAreOthers, code_names_of}
use Rattle.go_workspace_laws.specs.Standing.{looks_among, piece_exprs, pieces_of, stand_in_part}
use Rattle.go_workspace_laws.proofs.ConstantCalling.{folded_same, meant_calm}
use Rattle.go_workspace_laws.proofs.Clean.{IsCleanFile, is_clean_file}
use Rattle.go_workspace_laws.proofs.ConstantLists.{HasItem, Rising, contained, found_at, has, has_right}
use Rattle.go_workspace_laws.proofs.Names.{are_read, names_read}
use Rattle.go_workspace_laws.proofs.Pieces.{expr_breaks, expr_has, file_has, file_none}
use Rattle.go_workspace_laws.proofs.Within.{file_rises}
use Rattle.go_tree_nodes.specs.Spelling.{IsPlaced}

declared_from : (o : TheOutcome) → is_declared o ≡ true → HasDeclaration o
declared_from (outcomes.Declared d) h = tt
declared_from (outcomes.Selected d path) h = tt
declared_from (outcomes.Refused rule) h = absurd cc

rising_from : {X V : Type 0} (at : X → ℕ) (value : X → V) (xs : List X) → AllPairs (λ (x y : X). at x < at y) xs → Rising at value xs
rising_from at value [] h = tt
rising_from at value (x ∷ xs) h = (
  (λ y k. (let c = contained xs y k in let low = c.1 in subst (λ z. at x < at z) c.2 (h 0 (suc c.0) y (omega arith) (omega (arith, low))))),
  rising_from at value xs (λ i j d lt within. h (suc i) (suc j) d (omega (arith, lt)) (omega (arith, within))),
)

module _ (fine : ObjectsAreOfFaultless) (one : FunctionsHaveOneTable) (of_locals : LocalsAreDeclarations) (funcs : FunctionsArePlaced) (binds : ImportsBindTheirs) (between : BodiesAreBetweenBraces) where
  module _ (i : InputModel) (c : ContentOf) (well : IsInput i) (others : ImportsAreOthers i) (part : IsPart i c) (clean : are_clean c.files ≡ true) where
    module _ (n : ℕ) (t : FileTree) (f : FileOf) (tree : slice_get (trees_in i.source) n ≡ Some t) (there : slice_get c.files n ≡ Some f) (grammar : Wf_file t) (in_order : IsPlaced t) where
      file : IsCleanFile i c n t f
      file = is_clean_file fine i c well part clean n t f tree there

      locals_rise : Rising (λ (l : TheLocal). l.offset) (λ (l : TheLocal). local_meaning (types_told (told_to i c)) l.offset l.value) f.answers.locals
      locals_rise =
          subst (Rising (λ (l : TheLocal). l.offset) (λ (l : TheLocal). local_meaning (types_told (told_to i c)) l.offset l.value)) (sym file.locals)
          (file_rises one (stand_in_part i c n t) (λ (l : TheLocal). local_meaning (types_told (told_to i c)) l.offset l.value) t in_order)

      module _ (g : FuncTree) (func : Contains (file_funcs t) g) (all : List (Local Meaning)) (right : AreFuncDeclarations (stand_in_part i c n t) g all) where
        placed : IsFuncPlaced g
        placed = funcs t in_order g func

        g_there : HasItem (file_funcs t) g
        g_there = has (file_funcs t) g func

        pub names : AreNamesRead Term Sign Declaration (List ℕ) (looks_among (stand_in_part i c n t) all) (outcome_meaning (code_scene_over (told_to i c) i c) n (locals_meant (types_told (told_to i c)) f.answers.locals))
        names = names_read binds of_locals i c well others part n t f file locals_rise g g_there placed all right

        pub read : AreRead Term Sign Declaration (List ℕ) (looks_among (stand_in_part i c n t) all) (λ o. without_method (outcome_meaning (code_scene_over (told_to i c) i c) n (locals_meant (types_told (told_to i c)) f.answers.locals) o))
        read = are_read binds of_locals i c well others part n t f file locals_rise g g_there placed all right

        module _ (p : Piece) (piece : Contains (pieces_of g) p) (e : ExprTree) (expr : Contains (piece_exprs p) e) where
          in_file : (u : TheUse) → Contains (uses (looks_among (stand_in_part i c n t) all) stands.«Value» e) u → HasItem f.answers.uses u
          in_file u h =
              let here = expr_has one (stand_in_part i c n t) g placed all right p e u (has (pieces_of g) p piece) (has (piece_exprs p) e expr) (has (uses (looks_among (stand_in_part i c n t) all) stands.«Value» e) u h) in
              subst (λ us. HasItem us u) (sym file.uses)
              (has_right (imports_uses (file_specs t) (imports_at (package_seen i c.blocks (seen_by i)) n)) (tops_uses (stand_in_part i c n t) t.decls) u (file_has (decl_uses (stand_in_part i c n t)) t g g_there u here))

          pub are_meant : AreMeant (code_names_of i c n f g) (outcome_meaning (code_scene_over (told_to i c) i c) n (locals_meant (types_told (told_to i c)) f.answers.locals)) (uses (looks_among (stand_in_part i c n t) all) stands.«Value» e)
          are_meant u h =
              let here = in_file u h in
              let value = λ (v : TheUse). outcome_meaning (code_scene_over (told_to i c) i c) n (locals_meant (types_told (told_to i c)) f.answers.locals) v.outcome in
              record {
                meaning = ap meaning_or_other (found_at (λ (v : TheUse). v.offset) value f.answers.uses u (rising_from (λ (v : TheUse). v.offset) value f.answers.uses (between i c well part n t f tree there grammar in_order).0) here);
                declared = declared_from u.outcome (file.declared u here);
              }

          pub none_broken : faults (looks_among (stand_in_part i c n t) all) stands.«Value» e ≡ []
          none_broken = expr_breaks one (stand_in_part i c n t) g placed all right p e (has (pieces_of g) p piece) (has (piece_exprs p) e expr) (file_none (decl_faults (stand_in_part i c n t)) t g g_there file.faults)

pub constants_agree : ConstantsAreFolded Term Sign Declaration (List ℕ) → ExpressionsAreFolded Term Sign Declaration (List ℕ) → ObjectsAreOfFaultless → FunctionsHaveOneTable → LocalsAreDeclarations → FunctionsArePlaced → ImportsBindTheirs → BodiesAreBetweenBraces
    → ConstantsAreOfTheCheck
constants_agree constants operands fine one of_locals funcs binds between i c well others part clean n t f tree there grammar in_order g func all right p piece e expr q x inside slots = record {
  constant = λ w gives_one.
      constants (looks_among (stand_in_part i c n t) all) (code_names_of i c n f g) (outcome_meaning (code_scene_over (told_to i c) i c) n (locals_meant (types_told (told_to i c)) f.answers.locals)) slots stands.«Value» e
      (names fine one of_locals funcs binds between i c well others part clean n t f tree there grammar in_order g func all right)
      (are_meant fine one of_locals funcs binds between i c well others part clean n t f tree there grammar in_order g func all right p piece e expr)
      (none_broken fine one of_locals funcs binds between i c well others part clean n t f tree there grammar in_order g func all right p piece e expr)
      q x inside w gives_one;
  operand = λ w gives_one.
      let judged = operands (looks_among (stand_in_part i c n t) all) (without_methods (code_names_of i c n f g)) (λ o. without_method (outcome_meaning (code_scene_over (told_to i c) i c) n (locals_meant (types_told (told_to i c)) f.answers.locals) o)) slots stands.«Value» e
      (read fine one of_locals funcs binds between i c well others part clean n t f tree there grammar in_order g func all right)
      (meant_calm (looks_among (stand_in_part i c n t) all) (outcome_meaning (code_scene_over (told_to i c) i c) n (locals_meant (types_told (told_to i c)) f.answers.locals)) (code_names_of i c n f g) (uses (looks_among (stand_in_part i c n t) all) stands.«Value» e)
      (are_meant fine one of_locals funcs binds between i c well others part clean n t f tree there grammar in_order g func all right p piece e expr))
      (none_broken fine one of_locals funcs binds between i c well others part clean n t f tree there grammar in_order g func all right p piece e expr)
      q x inside w gives_one in
      record { operand = judged.operand; denotes = judged.denotes; value = sym (folded_same (code_names_of i c n f g) x) ∙ judged.value; no_text = judged.no_text };
}
