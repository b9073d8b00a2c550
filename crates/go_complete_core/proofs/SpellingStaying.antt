-- Checked packages that differ in the spelling of one identifier.
use Rattle.std.proofs.Common.{◌≡◌, ℕ, ◌+◌, List, ◌∷◌, ◌++◌, length, refl, sym, ap, subst, ◌∙◌, arith}
use Rattle.std.specs.Prelude.{Some, slice_get}
use Rattle.std.specs.List.{enumerate_from}
use Rattle.go_tree_nodes.specs.declared.names.Ident.{Ident}
use Rattle.go_tree_nodes.specs.Trees.{ValueSpecTree, FuncTree, Lines, TopTree, FileTree}
use Rattle.go_term_core.specs.Terms.{Term, Sign}
use Rattle.go_package_core.proofs.Numbered.{numbered_at}
use Rattle.go_typexpr_core.specs.entry.Outlines.{outline_of}
use Rattle.go_type_core.specs.table_core.Entries.{Entry}
use Rattle.go_candidate_core.specs.handle_core.Declarations.{Declaration}
use Rattle.go_names_core.specs.local_core.Binding.{NameLook}
use Rattle.go_stmt_core.specs.expr_core.Uses.{Context, Identifier, rule, role_of, made_use}
use Rattle.go_package_core.specs.env_core.declared.meaning.Meaning.{Meaning}
use Rattle.go_package_core.specs.body_core.FunctionStands.{FileStand, looks_where, outer_look, outer_looks}
use Rattle.go_package_core.specs.body_core.FileFiles.{tops_uses}
use Rattle.go_complete_core.specs.spelling.Contexts.{ContextStays}
use Rattle.go_package_core.specs.prepare.Packages.{PackageIn, stand_in}
use Rattle.go_package_core.specs.prepare.Values.{AreDeclared}
use Rattle.go_package_core.specs.Checked.{CheckedOf, IsChecked, IsFileChecked}
use Rattle.go_complete_core.specs.spelling.Files.{IsWrittenIn, IsBodyIn, WritesInTops, WritesBody, with_decls, with_trees}
use Rattle.go_complete_core.specs.spelling.Outer.{OuterTypesInFilesStay}
use Rattle.go_complete_core.specs.spelling.Packages.{FileInitialisersStay, PackageBodiesStay, TypesStay}
use Rattle.go_complete_core.specs.spelling.Spots.{tops_spots}
use Rattle.go_complete_core.specs.spelling.Laws.{some_uses, uses_in, checked_stand, import_outcomes, ContextsDecide, StaysInFile, IsInValues, IsInBody, ContextsStayInPackages}
use Rattle.go_complete_core.specs.spelling.Places.{placed_spot, placed_use, tops_places, MeanThere}
use Rattle.go_complete_core.specs.spelling.Spellings.{RespellsTops, InInitialiser, InOuterTypes, InBody}
use Rattle.go_complete_core.proofs.SpellingBodies.{stands_same}
use Rattle.go_complete_core.proofs.SpellingListed.{get_mapped, mapped_from, get_behind, get_seam, zip_at}
use Rattle.go_complete_core.proofs.SpellingNoted.{tops_noted, tops_spotted}
use Rattle.go_complete_core.proofs.SpellingWalking.{in_tops}

-- what is answered for a file of a checked package
answered : (p : PackageIn) (far : List Entry) (c : CheckedOf) → IsChecked p far c → (n : ℕ) (f : FileTree) → slice_get p.trees n ≡ Some f → uses_in c n ≡ import_outcomes p n f ++ tops_uses (checked_stand p far c n f) f.decls
answered p far c h n f tree =
    let at_zero : 0 + n ≡ n = omega arith in
    let numbered = subst (λ (k : ℕ). slice_get (enumerate_from 0 p.trees) n ≡ Some (k, f)) at_zero (numbered_at 0 p.trees n f tree) in
    let one = zip_at (IsFileChecked p (far ++ c.types) c.declared h.type_faults h.looped) (enumerate_from 0 p.trees) c.files n (n, f) h.files numbered in
    ap some_uses one.at ∙ one.holds.uses

pub contexts_decide : ContextsDecide
contexts_decide p far c h n f tree =
    let st = checked_stand p far c n f in
    answered p far c h n f tree ∙ ap (λ l. import_outcomes p n f ++ l) (tops_noted st f.decls)

module _ (types_law : TypesStay) (initial_law : FileInitialisersStay) (outer_law : OuterTypesInFilesStay) (body_law : PackageBodiesStay)
    (x : Ident) (name : List ℕ) (n : ℕ) (p q : PackageIn) (far : List Entry) (c d : CheckedOf) (h : IsChecked p far c) (k : IsChecked q far d)
    (front back : List FileTree) (file : FileTree) (decls : List TopTree) (number : n ≡ length front) (before : p.trees ≡ front ++ file ∷ back) (after : q ≡ with_trees p (front ++ with_decls file decls ∷ back)) where
  abbrev st : FileStand
  st = checked_stand p far c n file

  abbrev other : FileStand
  other = checked_stand q far d n (with_decls file decls)

  -- one kind of place

  abbrev written_in : (v w : ValueSpecTree) → WritesInTops v w file.decls decls → IsWrittenIn v w n p q
  written_in v w s = record { front = front; back = back; file = file; decls = decls; writes = s; number = number; before = before; after = after }

  abbrev body_in : (f : FuncTree) (body : Lines) → WritesBody f body file.decls decls → IsBodyIn f body n p q
  body_in f body s = record { front = front; back = back; file = file; decls = decls; writes = s; number = number; before = before; after = after }

  pub same_types : (r : RespellsTops x name file.decls decls) → IsInValues r → c.types ≡ d.types
  same_types (InInitialiser {v = v} {w = w} r s) here = types_law.initialisers x name v w n p q far c.types d.types h.type_faults k.type_faults r (written_in v w s) h.types k.types
  same_types (InOuterTypes r) here = absurd here
  same_types (InBody {f = f} {body = body} r s) here = types_law.bodies f body n p q far c.types d.types h.type_faults k.type_faults (body_in f body s) h.types k.types

  -- where the file would be checked by other types
  abbrev stand_with : List Entry → FileStand
  stand_with types = stand_in p (far ++ types) c.declared n (outline_of file)

  declared_with : c.types ≡ d.types → AreDeclared p (far ++ d.types) c.declared
  declared_with same = subst (λ types. AreDeclared p (far ++ types) c.declared) same h.declared

  pub same_declared : (r : RespellsTops x name file.decls decls) → IsInBody r → c.declared ≡ d.declared
  same_declared (InInitialiser r s) here = absurd here
  same_declared (InOuterTypes r) here = absurd here
  same_declared (InBody {f = f} {body = body} r s) here =
      (body_law x name f body n p q (far ++ d.types) c.declared d.declared r (body_in f body s) (declared_with (same_types (InBody r s) tt)) k.declared).known

  -- among all that the declarations of the file have
  record Kept (r : RespellsTops x name file.decls decls) : Type 0 where
    at : ℕ
    context : Context Term Declaration
    names : NameLook Meaning
    others : NameLook Meaning
    stands : slice_get (tops_places st file.decls) at ≡ Some (placed_spot names (Identifier context x))
    there : MeanThere st other r names others
    has : slice_get (tops_uses other decls) at ≡ Some (made_use x.span.start (role_of context) (rule (looks_where other others) context x.span.start name))

  -- outside functions
  kept_outside : (r : RespellsTops x name file.decls decls) → ((names : NameLook Meaning) → MeanThere st other r names (outer_look other))
      → ContextStays Term Sign Declaration (List ℕ) (outer_looks other) x name (tops_spots st file.decls) (tops_uses other decls) → Kept r
  kept_outside r there stays =
      let spot = mapped_from (λ s. s.spot) (tops_places st file.decls) stays.number (Identifier stays.context x) (ap (λ l. slice_get l stays.number) (sym (tops_spotted st file.decls)) ∙ stays.stands) in
      record {
        at = stays.number;
        context = stays.context;
        names = spot.item.names;
        others = outer_look other;
        stands = spot.at ∙ ap (λ s. Some (placed_spot spot.item.names s)) spot.holds;
        there = there spot.item.names;
        has = stays.has;
      }

  kept : (r : RespellsTops x name file.decls decls) → Kept r
  kept (InInitialiser {v = v} {w = w} r s) =
      let same = same_types (InInitialiser r s) tt in
      kept_outside (InInitialiser r s) (λ names. refl)
      (subst (λ types. ContextStays Term Sign Declaration (List ℕ) (outer_looks other) x name (tops_spots (stand_with types) file.decls) (tops_uses other decls)) (sym same)
      (initial_law x name v w n p q (far ++ d.types) c.declared d.declared r (written_in v w s) (declared_with same) k.declared))
  kept (InOuterTypes r) =
      kept_outside (InOuterTypes r) (λ names. refl) (outer_law st other x name file.decls decls (sym (ap (λ (o : PackageIn). o.path) after)) (sym (ap (λ (o : PackageIn). o.blocks) after)) refl r)
  kept (InBody {f = f} {body = body} r s) =
      let it = in_tops st x name f body r file.decls decls s in
      let types = ap (λ own. far ++ own) (same_types (InBody r s) tt) in
      let same = stands_same f body p q (far ++ c.types) (far ++ d.types) c.declared d.declared n front back file decls s before after types (same_declared (InBody r s) tt) in
      let has = ap (λ l. slice_get l it.number) (tops_noted st decls) ∙ it.has in
      record {
        at = it.number;
        context = it.context;
        names = it.names;
        others = it.names;
        stands = it.stands;
        there = (same, refl);
        has =
            subst (λ (o : FileStand). slice_get (tops_uses o decls) it.number ≡ Some (made_use x.span.start (role_of it.context) (rule (looks_where o it.names) it.context x.span.start name)))
            (sym same) has;
      }

  -- in what is answered for the file

  had_at : uses_in c n ≡ import_outcomes p n file ++ tops_uses st file.decls
  had_at = answered p far c h n file (ap (λ trees. slice_get trees n) before ∙ (ap (slice_get (front ++ file ∷ back)) number ∙ get_seam front file back))

  has_at : uses_in d n ≡ import_outcomes p n file ++ tops_uses other decls
  has_at =
      let new = with_decls file decls in
      answered q far d k n new (ap (λ (o : PackageIn). slice_get o.trees n) after ∙ (ap (slice_get (front ++ new ∷ back)) number ∙ get_seam front new back))
      ∙ ap (λ (o : PackageIn). import_outcomes o n new ++ tops_uses other decls) after

  pub in_file : (r : RespellsTops x name file.decls decls) → StaysInFile x name st other file.decls decls r (import_outcomes p n file) (uses_in c n) (uses_in d n)
  in_file r =
      let it = kept r in
      let imports = import_outcomes p n file in
      record {
        number = it.at;
        context = it.context;
        names = it.names;
        others = it.others;
        stands = it.stands;
        there = it.there;
        had =
            ap (λ l. slice_get l (length imports + it.at)) had_at
            ∙ (get_behind imports (tops_uses st file.decls) it.at
            ∙ (ap (λ l. slice_get l it.at) (tops_noted st file.decls) ∙ get_mapped (placed_use st) (tops_places st file.decls) it.at (placed_spot it.names (Identifier it.context x)) it.stands));
        has = ap (λ l. slice_get l (length imports + it.at)) has_at ∙ (get_behind imports (tops_uses other decls) it.at ∙ it.has);
      }

pub contexts_stay : TypesStay → FileInitialisersStay → OuterTypesInFilesStay → PackageBodiesStay → ContextsStayInPackages
contexts_stay types_law initial_law outer_law body_law = record {
  contexts = λ x name n p q far c d r h k. in_file types_law initial_law outer_law body_law x name n p q far c d h k r.front r.back r.file r.decls r.number r.before r.after r.respells;
  types = λ x name n p q far c d r h k here. same_types types_law initial_law outer_law body_law x name n p q far c d h k r.front r.back r.file r.decls r.number r.before r.after r.respells here;
  declared = λ x name n p q far c d r h k here. same_declared types_law initial_law outer_law body_law x name n p q far c d h k r.front r.back r.file r.decls r.number r.before r.after r.respells here;
}
