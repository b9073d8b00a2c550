-- A method of a type of a package, as it is written there.
use Rattle.std.proofs.Common.{◌≡◌, inl, inr, ℕ, ◌+◌, true, Contains, Option, Some, None, refl, sym, ap, ◌∙◌, subst, arith}
use Rattle.std.specs.Prelude.{slice_get}
use Rattle.std.specs.List.{enumerate_from}
use Rattle.go_tree_nodes.specs.declared.files.Receiver.{Receiver}
use Rattle.go_tree_nodes.specs.Trees.{FileTree, FuncTree}
use Rattle.go_body_core.specs.table_core.Keys.{same_key_true}
use Rattle.go_term_core.specs.decl_core.TopDecls.{FormTree, FuncForm, TopDeclTree, TypeForm, ValueForm, top_decls}
use Rattle.go_term_core.specs.decl_core.declared.keys.DeclKey.{DeclKey}
use Rattle.go_term_core.specs.decl_core.declared.places.DeclKind.TheVariants as decl_kinds
use Rattle.go_names_core.specs.block_core.Declarations.{decl_ref}
use Rattle.go_term_core.specs.declared.term.MemberPlace.TheVariants as places
use Rattle.go_term_core.specs.Terms.{Term, NoType, Predeclared, ErrorType, Defined, PointerTo, StructOf, InterfaceOf}
use Rattle.go_term_core.specs.declared.settling.kind.Kind.{Kind}
use Rattle.go_term_core.specs.settling.Settled.{settled_sign}
use Rattle.go_body_core.specs.table_core.Entries.{Entry, Member, find_entry}
use Rattle.go_body_core.specs.table_core.Tables.{AreOf}
use Rattle.go_body_core.specs.typexpr_core.WrittenWritten.{InFile, Meaning, signature_of}
use Rattle.go_body_core.specs.typexpr_core.EntryAmong.{Among, among_to}
use Rattle.go_body_core.specs.typexpr_core.EntryEntries.{Meanings, Received, decl_methods, file_at, func_methods, is_type_of, package_meanings, received_of}
use Rattle.go_body_core.specs.typexpr_core.EntryOutlines.{FileOutline, IsOutline, outline_of}
use Rattle.go_emit_core.specs.package_core.PreparePackages.{PackageIn, outlines_in, shows_in, trees_in}
use Rattle.go_report_core.specs.summary_core.Views.{types_told}
use Rattle.go_emit_core.specs.package_core.PackagePartInputs.{InputModel, IsInput, path_in}
use Rattle.go_emit_core.specs.package_core.PackagePartParts.{ContentOf, IsPart, package_seen, seen_by}
use Rattle.go_workspace_laws.proofs.ConstantLists.{has}
use Rattle.go_workspace_laws.specs.Standing.{stand_in_part}
use Rattle.go_program_laws.proofs.FaultlessMethods.{from, written}
use Rattle.go_program_laws.specs.references.Headers.{signature_in}
use Rattle.go_program_laws.proofs.ReferencesCallers.{outlined}
use Rattle.go_program_laws.proofs.ReferencesSettling.{kind_same}
use Rattle.go_program_laws.proofs.ReferencesOwn.{enumerated}

-- what is received is a function with a receiver

module _ (mean : Meaning) (f : InFile) (d : TopDeclTree) (r : Received) where
  func_received : (g : FuncTree) (o : Option Receiver) → Among (func_methods mean f d g o) r → (x : Receiver) × (o ≡ Some x) × (received_of mean f d g x ≡ r)
  func_received g None a = absurd a
  func_received g (Some x) (inl e) = (x, refl, e)
  func_received g (Some x) (inr a) = absurd a

  record IsOfFunction (form : FormTree) : Type 0 where
    func : FuncTree
    form_is : form ≡ FuncForm func
    receiver : Receiver
    has_it : func.receiver ≡ Some receiver
    is : received_of mean f d func receiver ≡ r

  form_received : (form : FormTree) → Among (decl_methods mean f d form) r → IsOfFunction form
  form_received (ValueForm k v i) a = absurd a
  form_received (TypeForm t) a = absurd a
  form_received (FuncForm g) a = (let x = func_received g g.receiver a in record { func = g; form_is = refl; receiver = x.0; has_it = x.1; is = x.2 })

-- the base that is the type of a key
base_is : (k : DeclKey) (t : Term) → is_type_of k t ≡ true → t ≡ Defined k
base_is k (Defined j) e = ap Defined (same_key_true j k e)
base_is k NoType e = absurd (cc e)
base_is k (Predeclared b) e = absurd (cc e)
base_is k ErrorType e = absurd (cc e)
base_is k (PointerTo t) e = absurd (cc e)
base_is k (StructOf path fs) e = absurd (cc e)
base_is k (InterfaceOf path ms) e = absurd (cc e)

-- a file declares it, by its receiver of the type, and its signature is the one that is written there
pub record IsWrittenMethod (i : InputModel) (c : ContentOf) (e : Entry) (m : Member) : Type 0 where
  pub file : ℕ
  pub tree : FileTree
  pub in_package : slice_get (trees_in i.source) file ≡ Some tree
  pub decl : TopDeclTree
  pub among : Contains (top_decls tree) decl
  pub func : FuncTree
  pub form : decl.form ≡ FuncForm func
  pub place : m.place ≡ places.Declared (decl_ref file decl.number decl_kinds.Method)
  pub sign : m.sign ≡ signature_in i c file tree func
  pub receiver : Receiver
  pub received : func.receiver ≡ Some receiver
  pub base : (stand_in_part i c file tree).top receiver.base ≡ Defined e.key

module _ (i : InputModel) (c : ContentOf) (input : IsInput i) (part : IsPart i c) (own : AreOf (path_in i) part.checked.types) where
  abbrev p : PackageIn
  p = package_seen i c.blocks (seen_by i)

  abbrev means : Meanings
  means = package_meanings (shows_in p) p.path p.blocks

  lines : (o : FileOutline) → Among (outlines_in p) o → IsOutline o
  lines o a = outlined (trees_in i.source) o a

  pub written_method : (e : Entry) → Among part.checked.types e → (m : Member) → Among e.methods m → IsWrittenMethod i c e m
  written_method e a m b =
      let x = from means p.path (outlines_in p) lines (find_entry (types_told i.reached)) part.checked.types part.is_checked.types.loops part.is_checked.types.built e a m b in
      let y = written means p.path (outlines_in p) lines x.received x.there in
      let z = form_received (means y.file.0) (file_at p.path y.file.0 y.file.1) y.decl x.received y.decl.form y.here in
      let t = enumerated 0 (trees_in i.source) y.file (has (enumerate_from 0 (outlines_in p)) y.file (among_to (enumerate_from 0 (outlines_in p)) y.file y.in_files)) in
      let sum : t.0 ≡ 0 + t.0 = omega arith in
      let numbered : (t.0, outline_of t.1) ≡ y.file = ap (λ n. (n, outline_of t.1)) sum ∙ t.3 in
      let of_file = subst (λ (q : ℕ × FileOutline). Among q.1.decls y.decl) (sym numbered) y.in_file in
      let here : received_of (means t.0) (file_at p.path t.0 (outline_of t.1)) y.decl z.func z.receiver ≡ x.received =
      subst (λ (q : ℕ × FileOutline). received_of (means q.0) (file_at p.path q.0 q.1) y.decl z.func z.receiver ≡ x.received) (sym numbered) z.is in
      let kind : DeclKey → Kind = part.is_checked.types.built.kind in
      record {
        file = t.0;
        tree = t.1;
        in_package = t.2;
        decl = y.decl;
        among = among_to (top_decls t.1) y.decl of_file;
        func = z.func;
        form = z.form_is;
        place = sym (ap (λ (k : Member). k.place) x.is) ∙ sym (ap (λ (r : Received). r.member.place) here);
        sign = (
            sym (ap (λ (k : Member). k.sign) x.is)
            ∙ (sym (ap (λ (r : Received). settled_sign kind r.member.sign) here)
            ∙ ap (λ (known : DeclKey → Kind). settled_sign known (signature_of (means t.0) (file_at p.path t.0 (outline_of t.1)) z.func.signature)) (λ j k. kind_same i c input part own k j))
            );
        receiver = z.receiver;
        received = z.has_it;
        base = ap (λ (r : Received). r.base) here ∙ base_is e.key x.received.base x.base;
      }
