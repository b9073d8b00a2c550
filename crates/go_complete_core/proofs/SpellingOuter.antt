-- Types outside functions in which one identifier is spelled anew, among all that the declarations of the file have.
use Rattle.std.proofs.Common.{◌≡◌, ℕ, List, [], sym, subst}
use Rattle.std.specs.Prelude.{Option, Some}
use Rattle.std.specs.List.{flat_map}
use Rattle.go_tree_nodes.specs.text_core.declared.span.Span.{Span}
use Rattle.go_tree_nodes.specs.declared.names.Ident.{Ident}
use Rattle.go_tree_nodes.specs.declared.files.Receiver.{Receiver}
use Rattle.go_tree_nodes.specs.declared.types.TypeName.{TypeName}
use Rattle.go_tree_nodes.specs.Trees.{TypeTree, SignatureTree, TypeSpecTree, Specs, FuncTree, DeclTree, TopTree, of_specs}
use Rattle.go_names_core.specs.local_core.Outline.{header_idents, lines_steps, func_opens, func_closes}
use Rattle.go_names_core.specs.local_core.Steps.{Header, Done}
use Rattle.go_term_core.specs.Terms.{Term, Sign}
use Rattle.go_candidate_core.specs.handle_core.Declarations.{Declaration}
use Rattle.go_stmt_core.specs.expr_core.Respelling.{RespellsName, RespellsType, RespellsSignature}
use Rattle.go_stmt_core.specs.expr_core.TypeUses.{type_uses, signature_uses}
use Rattle.go_stmt_core.specs.expr_core.Uses.{type_name_spots, type_name_uses, type_spots, signature_spots}
use Rattle.go_package_core.specs.env_core.Looks.{TheLooks}
use Rattle.go_package_core.specs.body_core.Notes.{TheUse}
use Rattle.go_package_core.specs.body_core.Rules.{local_at}
use Rattle.go_stmt_core.specs.piece.Headers.{receiver_uses, header_uses}
use Rattle.go_stmt_core.specs.piece.Specifications.{values_uses}
use Rattle.go_package_core.specs.body_core.FunctionStands.{FileStand, types_where, outer_look, outer_looks, looks_where, outer_meanings}
use Rattle.go_package_core.specs.body_core.FunctionFunctions.{checked_func}
use Rattle.go_package_core.specs.body_core.FileFiles.{decl_uses, tops_uses}
use Rattle.go_complete_core.specs.spelling.Contexts.{ContextStays}
use Rattle.go_complete_core.specs.spelling.Package.{file_looks}
use Rattle.go_complete_core.specs.spelling.PieceSpots.{values_spots, receiver_spots, header_spots}
use Rattle.go_complete_core.specs.spelling.Trees.{value_spec_with, with_base, with_receiver, with_signature}
use Rattle.go_complete_core.proofs.SpellingSplits.{behind, before}
use Rattle.go_complete_core.proofs.SpellingTypes as outer
use Rattle.go_complete_core.proofs.SpellingWalks.{spot_walk, use_walk, block_after}
use Rattle.go_complete_core.specs.spelling.Functions.{TheSpot, func_spots}
use Rattle.go_complete_core.specs.spelling.Outer.{RespellsTypeGroup, InFirstType, InLaterTypes, RespellsTypeSpecs, InOneType, InTypeGroup, RespellsOuterType, InValueType, InTypeDecl, InReceiverType, InHeaderType, RespellsOuterTops, InOuterTop, BehindOuterTop, OuterTypesInFilesStay}
use Rattle.go_complete_core.specs.spelling.Spots.{decl_spots, tops_spots}
use Rattle.go_complete_core.proofs.SpellingChecked.{func_noted}
use Rattle.go_complete_core.proofs.SpellingInFiles.{in_specs}
use Rattle.go_complete_core.proofs.SpellingLengths.{type_long, receiver_long, decl_long}

module _ (st other : FileStand) (x : Ident) (name : List ℕ) (path : st.scene.path ≡ other.scene.path) (blocks : st.scene.blocks ≡ other.scene.blocks) (file : st.file.file ≡ other.file.file) where
  abbrev looks : TheLooks
  looks = outer_looks st

  abbrev after : TheLooks
  after = outer_looks other

  abbrev Stays : List TheSpot → List TheUse → Type 0
  Stays ps us = ContextStays Term Sign Declaration (List ℕ) after x name ps us

  -- the look-ups of the first in the file of the number of the second
  abbrev moved : ℕ → TheLooks
  moved k = file_looks st.scene k (types_where st (outer_look st)) st.known

  name_stays : (n m : TypeName) → RespellsName x name n m → Stays (type_name_spots looks n) (type_name_uses after m)
  name_stays n m r =
      subst (λ k. Stays (type_name_spots (moved k) n) (type_name_uses after m)) (sym file)
      (outer.name_stays st.scene other.scene other.file.file (types_where st (outer_look st)) (types_where other (outer_look other)) st.known other.known x name path blocks n m r)

  type_stays : (t u : TypeTree) → RespellsType x name t u → Stays (type_spots looks t) (type_uses after u)
  type_stays t u r =
      subst (λ k. Stays (type_spots (moved k) t) (type_uses after u)) (sym file)
      (outer.type_stays st.scene other.scene other.file.file (types_where st (outer_look st)) (types_where other (outer_look other)) st.known other.known x name path blocks t u r)

  signature_stays : (a b : SignatureTree) → RespellsSignature x name a b → Stays (signature_spots looks a) (signature_uses after b)
  signature_stays a b r =
      subst (λ k. Stays (signature_spots (moved k) a) (signature_uses after b)) (sym file)
      (outer.signature_stays st.scene other.scene other.file.file (types_where st (outer_look st)) (types_where other (outer_look other)) st.known other.known x name path blocks a b r)

  -- declarations of types

  abbrev group_spots : List (TypeSpecTree × Option Span) → List TheSpot
  group_spots ls = flat_map (λ l. type_spots looks l.0.type_expr) ls

  abbrev group_uses : List (TypeSpecTree × Option Span) → List TheUse
  group_uses ls = flat_map (λ l. type_uses after l.0.type_expr) ls

  group_stays : (ts us : List (TypeSpecTree × Option Span)) → RespellsTypeGroup x name ts us → Stays (group_spots ts) (group_uses us)
  group_stays ts us (InFirstType {t = t} {u = u} {more = more} r) = behind after x name (type_spots looks t.type_expr) (group_spots more) (type_uses after u) (group_uses more) (type_stays t.type_expr u r)
  group_stays ts us (InLaterTypes {a = a} {more = more} {rest = rest} r) =
      before after x name (type_spots looks a.0.type_expr) (group_spots more) (type_uses after a.0.type_expr) (group_uses rest) (type_long st other a.0) (group_stays more rest r)

  types_stay : (ts us : Specs TypeSpecTree) → RespellsTypeSpecs x name ts us → Stays (of_specs (λ s. type_spots looks s.type_expr) ts) (of_specs (λ s. type_uses after s.type_expr) us)
  types_stay ts us (InOneType {t = t} {u = u} r) = type_stays t.type_expr u r
  types_stay ts us (InTypeGroup {ts = olds} {us = news} r) = group_stays olds news r

  -- headers of functions

  func_stays : (f g : FuncTree) → Stays (header_spots looks f.receiver f.signature) (header_uses after g.receiver g.signature) → Stays (func_spots st f) (checked_func other g).uses
  func_stays f g r =
      let opens = block_after (looks_where st) local_at (outer_meanings st) [] [] (Header f.receiver f.signature) (header_idents f.receiver f.signature) in
      let opens' = block_after (looks_where other) local_at (outer_meanings other) [] [] (Header g.receiver g.signature) (header_idents g.receiver g.signature) in
      subst (Stays (func_spots st f)) (sym (func_noted other g))
      (behind after x name (header_spots looks f.receiver f.signature) (spot_walk (looks_where st) local_at (outer_meanings st) [] opens (func_opens f) (func_closes f) (lines_steps f.body Done))
      (header_uses after g.receiver g.signature) (use_walk (looks_where other) local_at (outer_meanings other) [] opens' (func_opens g) (func_closes g) (lines_steps g.body Done)) r)

  receiver_stays : (o : Option Receiver) (r : Receiver) (n : TypeName) (g : SignatureTree) → o ≡ Some r → RespellsName x name r.base n → Stays (header_spots looks o g) (header_uses after (Some (with_base r n)) g)
  receiver_stays o r n g is h =
      subst (λ q. Stays (header_spots looks q g) (header_uses after (Some (with_base r n)) g)) (sym is)
      (behind after x name (type_name_spots looks r.base) (signature_spots looks g) (type_name_uses after n) (signature_uses after g) (name_stays r.base n h))

  -- declarations

  decl_stays : (d e : DeclTree) → RespellsOuterType x name d e → Stays (decl_spots st d) (decl_uses other e)
  decl_stays d e (InValueType {vs = vs} {ws = ws} {xs = xs} {t = t} {u = u} {values = values} r s) =
      in_specs st other after x name (value_spec_with xs (Some t) values) (value_spec_with xs (Some u) values)
      (behind after x name (type_spots looks t) (values_spots looks values) (type_uses after u) (values_uses after values) (type_stays t u r)) vs ws s
  decl_stays d e (InTypeDecl {ts = ts} {us = us} r) = types_stay ts us r
  decl_stays d e (InReceiverType {f = f} {r = r} {n = n} is h) = func_stays f (with_receiver f (with_base r n)) (receiver_stays f.receiver r n f.signature is h)
  decl_stays d e (InHeaderType {f = f} {g = g} h) =
      func_stays f (with_signature f g)
      (before after x name (receiver_spots looks f.receiver) (signature_spots looks f.signature) (receiver_uses after f.receiver) (signature_uses after g) (receiver_long st other f.receiver) (signature_stays f.signature g h))

  pub tops_stay : (ds es : List TopTree) → RespellsOuterTops x name ds es → Stays (tops_spots st ds) (tops_uses other es)
  tops_stay ds es (InOuterTop {d = d} {e = e} {more = more} r) = behind after x name (decl_spots st d) (tops_spots st more) (decl_uses other e) (tops_uses other more) (decl_stays d e r)
  tops_stay ds es (BehindOuterTop {d = d} {more = more} {rest = rest} r) =
      before after x name (decl_spots st d.decl) (tops_spots st more) (decl_uses other d.decl) (tops_uses other rest) (decl_long st other d.decl) (tops_stay more rest r)

pub outer_stay : OuterTypesInFilesStay
outer_stay st other x name ds es path blocks file r = tops_stay st other x name path blocks file ds es r
