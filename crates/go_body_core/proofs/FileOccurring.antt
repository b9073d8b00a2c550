-- What is noted of a file stands where its occurrences stand.
use Rattle.std.proofs.Common.{◌≡◌, ℕ, true, List, [], ◌∷◌, ◌++◌, length, map, Option, refl, sym, ap, ◌∙◌, arith}
use Rattle.std.specs.List.{flat_map}
use Rattle.std.proofs.lemmas.List.{map-append}
use Rattle.std.proofs.lemmas.Grind.{flat_map-append}
use Rattle.go_text_core.specs.declared.span.Span.{Span}
use Rattle.go_tree_nodes.specs.declared.decls.ValueKind.{ValueKind}
use Rattle.go_tree_nodes.specs.Trees.{ValueSpecTree, TypeSpecTree, Specs, Single, Group, DeclTree, Value, Types, Func, TopTree, ImportSpecTree, ImportTree, of_specs}
use Rattle.go_tree_nodes.specs.Rules.{Wf_group, Wf_specs, Wf_value_spec, Wf_type_spec, Wf_decl, Wf_tops}
use Rattle.go_tree_core.specs.declared.occurrence.Role.{Role}
use Rattle.go_tree_core.specs.declared.occurrence.Role.TheVariants as roles
use Rattle.go_tree_core.specs.declared.occurrence.Occ.{Occ}
use Rattle.go_tree_core.specs.Occurrences.{group_occs, specs_occs, value_spec_occs, type_spec_occs, decl_occs, tops_occs, import_occs, imports_occs}
use Rattle.go_block_core.specs.declared.imports.Imported.{Imported}
use Rattle.go_block_core.specs.Naming.{specs_in, specs_of, file_specs}
use Rattle.go_term_core.specs.Terms.{Term, Sign}
use Rattle.go_handle_core.specs.Declarations.{Declaration}
use Rattle.go_local_core.specs.Steps.{Spec}
use Rattle.go_expr_core.specs.Laws.{use_place, occurrence_place}
use Rattle.go_expr_core.proofs.Occurring.{uses_occur}
use Rattle.go_stmt_core.specs.piece.Specifications.{spec_uses}
use Rattle.go_stmt_core.proofs.PieceOccurring.{pieces_occur}
use Rattle.go_env_core.specs.Looks.{TheLooks}
use Rattle.go_stmt_core.specs.toplevel.Tops.{type_spec_uses}
use Rattle.go_body_core.specs.Notes.{TheUse}
use Rattle.go_body_core.specs.function.Stands.{FileStand, outer_looks}
use Rattle.go_body_core.proofs.FunctionOccurring.{functions_have_occurrences}
use Rattle.go_body_core.specs.file.Imports.{imports_uses}
use Rattle.go_body_core.specs.file.Files.{decl_uses, decl_faults, decl_locals, tops_uses}
use Rattle.go_body_core.specs.file.Laws.{FilesHaveOccurrences, DeclarationsStandAlone}

abbrev used : List TheUse → List (ℕ × Role)
used us = map use_place us

abbrev occur : List Occ → List (ℕ × Role)
occur os = map occurrence_place os

both : (us vs : List TheUse) (os ps : List Occ) → used us ≡ occur os → used vs ≡ occur ps → used (us ++ vs) ≡ occur (os ++ ps)
both us vs os ps e f = map-append use_place us vs ∙ (ap (λ l. l ++ used vs) e ∙ (ap (λ l. occur os ++ l) f ∙ sym (map-append occurrence_place os ps)))

-- imports

abbrev import_place : ImportSpecTree → ℕ × Role
import_place s = (s.path.span.start, roles.Import)

imports_used : (ss : List ImportSpecTree) (is : List Imported) → length ss ≡ length is → used (imports_uses ss is) ≡ map import_place ss
imports_used [] is e = refl
imports_used (s ∷ ss) [] e = absurd (omega arith)
imports_used (s ∷ ss) (i ∷ more) e = ap (λ l. import_place s ∷ l) (imports_used ss more (let same : length ss ≡ length more = omega arith in same))

lines_occur : (ls : List (ImportSpecTree × Option Span)) → occur (group_occs import_occs ls) ≡ map import_place (map (λ l. l.0) ls)
lines_occur [] = refl
lines_occur (l ∷ ls) = ap (λ r. import_place l.0 ∷ r) (lines_occur ls)

specs_occur : (s : Specs ImportSpecTree) → occur (specs_occs import_occs s) ≡ map import_place (specs_in s)
specs_occur (Single s) = refl
specs_occur (Group first ls last) = lines_occur ls

imports_occur : (is : List ImportTree) → occur (imports_occs is) ≡ map import_place (specs_of is)
imports_occur [] = refl
imports_occur (i ∷ more) =
    map-append occurrence_place (specs_occs import_occs i.specs) (imports_occs more)
    ∙ (ap (λ l. l ++ occur (imports_occs more)) (specs_occur i.specs)
    ∙ (ap (λ l. map import_place (specs_in i.specs) ++ l) (imports_occur more) ∙ sym (map-append import_place (specs_in i.specs) (specs_of more))))

-- declarations

module _ {A : Type 0} (f : A → List TheUse) (g : A → List Occ) (P : A → Type 0) (each : (x : A) → P x → used (f x) ≡ occur (g x)) where
  group_used : (ls : List (A × Option Span)) → Wf_group P ls → used (flat_map (λ (l : A × Option Span). f l.0) ls) ≡ occur (group_occs g ls)
  group_used [] h = refl
  group_used (l ∷ ls) h = both (f l.0) (flat_map (λ (x : A × Option Span). f x.0) ls) (g l.0) (group_occs g ls) (each l.0 h.0) (group_used ls h.2)

  specs_used : (s : Specs A) → Wf_specs P s → used (of_specs f s) ≡ occur (specs_occs g s)
  specs_used (Single x) h = each x h
  specs_used (Group first ls last) h = group_used ls h

spec_used : (looks : TheLooks) (k : ValueKind) (v : ValueSpecTree) → Wf_value_spec k v → used (spec_uses looks v) ≡ occur (value_spec_occs v)
spec_used looks k v h = (pieces_occur Term Sign Declaration (List ℕ)).pieces looks true (Spec k v) h.2

type_used : (looks : TheLooks) (t : TypeSpecTree) → used (type_spec_uses looks t) ≡ occur (type_spec_occs t)
type_used looks t = (uses_occur Term Sign Declaration (List ℕ)).types looks t.type_expr

decl_used : (st : FileStand) (d : DeclTree) → Wf_decl d → used (decl_uses st d) ≡ occur (decl_occs d)
decl_used st (Value v) h = specs_used (spec_uses (outer_looks st)) value_spec_occs (Wf_value_spec v.kind) (spec_used (outer_looks st) v.kind) v.specs h
decl_used st (Types t) h = specs_used (type_spec_uses (outer_looks st)) type_spec_occs Wf_type_spec (λ s k. type_used (outer_looks st) s) t.specs h
decl_used st (Func f) h = functions_have_occurrences st f h

tops_used : (st : FileStand) (ds : List TopTree) → Wf_tops ds → used (tops_uses st ds) ≡ occur (tops_occs ds)
tops_used st [] h = refl
tops_used st (d ∷ ds) h = both (decl_uses st d.decl) (tops_uses st ds) (decl_occs d.decl) (tops_occs ds) (decl_used st d.decl h.0) (tops_used st ds h.1)

pub files_have_occurrences : FilesHaveOccurrences
files_have_occurrences st imports f h e =
    both (imports_uses (file_specs f) imports) (tops_uses st f.decls) (imports_occs f.imports) (tops_occs f.decls)
    (imports_used (file_specs f) imports e ∙ sym (imports_occur f.imports)) (tops_used st f.decls h.1)

pub declarations_stand_alone : DeclarationsStandAlone
declarations_stand_alone = record {
  uses = λ st front rest d. flat_map-append (λ (x : TopTree). decl_uses st x.decl) front (d ∷ rest);
  faults = λ st front rest d. flat_map-append (λ (x : TopTree). decl_faults st x.decl) front (d ∷ rest);
  locals = λ st front rest d. flat_map-append (λ (x : TopTree). decl_locals st x.decl) front (d ∷ rest);
}
