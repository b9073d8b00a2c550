-- The signature by which a package checks calls of its own functions is the one that is written there.
use Rattle.std.proofs.Common.{◌≡◌, inl, inr, ℕ, suc, ◌&&◌, List, [], ◌∷◌, map, Option, Some, None, nat_eq, refl, sym, ap, subst, ◌∙◌, if◌then◌else◌}
use Rattle.std.specs.Prelude.{option_map, slice_get, slice_index_or}
use Rattle.std.proofs.lemmas.Option.{slice_get-map}
use Rattle.go_term_core.specs.decl_core.declared.keys.DeclRef.{DeclRef}
use Rattle.go_tree_nodes.specs.Trees.{FileTree}
use Rattle.go_term_core.specs.Terms.{Sign}
use Rattle.go_body_core.specs.typexpr_core.EntryEntries.{file_at}
use Rattle.go_body_core.specs.typexpr_core.EntryMeanings.{file_meaning}
use Rattle.go_body_core.specs.typexpr_core.EntryOutlines.{FileOutline, IsOutline, outline_of}
use Rattle.go_emit_core.specs.declared_core.declared.face.Face.TheVariants as faces
use Rattle.go_emit_core.specs.declared_core.Faces.{TheFace}
use Rattle.go_emit_core.specs.declared_core.Laws.{PositionsAreExact}
use Rattle.go_emit_core.specs.declared_core.Written.{WrittenOf, face_found, form_as_written, position_of, same_decl_place}
use Rattle.go_body_core.specs.env_core.Found.{face_at}
use Rattle.go_emit_core.specs.package_core.PrepareLaws.{package_placed}
use Rattle.go_emit_core.specs.package_core.PreparePackages.{PackageIn, outlines_in, scene_in, shows_in, trees_in}
use Rattle.go_emit_core.specs.package_core.PackagePartParts.{package_seen, seen_by}
use Rattle.go_emit_core.specs.package_core.PackagePartSlots.{somes}
use Rattle.go_program_laws.specs.checked_sources.Statements.{AreOverEach}
use Rattle.go_workspace_laws.specs.ConstantLaws.{code_names_of}
use Rattle.go_body_core.specs.typexpr_core.EntryAmong.{Among}
use Rattle.go_snap_core.proofs.WholeWorkspaceLists.{all_from_among}
use Rattle.go_session_core.specs.launches.Located.{place_declared}
use Rattle.go_meaning_laws.specs.object_sources.Sources.{sources_of}
use Rattle.go_program_laws.specs.types.Functions.{function_looks, known_types, source_with}
use Rattle.go_program_laws.specs.faultless.Parts.{PartsAreAmong}
use Rattle.go_program_laws.specs.faultless.Runs.{callees_of}
use Rattle.go_program_laws.specs.references.Callees.{FunctionsTakeWords, ReachedAreInside}
use Rattle.go_program_laws.specs.references.Headers.{HeadersAreOfSignatures, signature_in}
use Rattle.go_program_laws.specs.references.Callers.{OwnCalleesTakeWords, OwnSignaturesAreTheirs}
use Rattle.go_program_laws.proofs.ReferencesCallees.{behind_receiver}
use Rattle.go_program_laws.proofs.ReferencesOwn.{right, some_func}

pub position_same : (ws : List WrittenOf) (a b : DeclRef) → a.file ≡ b.file → a.number ≡ b.number → position_of ws a ≡ position_of ws b
position_same [] a b f n = refl
position_same (w ∷ ws) a b f n =
    let first : same_decl_place w.decl a ≡ same_decl_place w.decl b =
    ap (λ m. nat_eq w.decl.file m && nat_eq w.decl.number a.number) f ∙ ap (λ m. nat_eq w.decl.file b.file && nat_eq w.decl.number m) n in
    ap (λ t. if t then Some 0 else option_map suc (position_of ws a)) first ∙ ap (λ o. if same_decl_place w.decl b then Some 0 else option_map suc o) (position_same ws a b f n)

pub outlined : (ts : List FileTree) (o : FileOutline) → Among (map outline_of ts) o → IsOutline o
outlined [] o h = absurd h
outlined (t ∷ ts) o (inl e) = (t, sym e)
outlined (t ∷ ts) o (inr h) = outlined ts o h

pub own_signatures : PositionsAreExact → OwnSignaturesAreTheirs
own_signatures exact i c part placed d s is t tree decl among number g form =
    let p : PackageIn = package_seen i c.blocks (seen_by i) in
    let es = known_types i c in
    let ws : List WrittenOf = (scene_in p es).written in
    let os : List FileOutline = outlines_in p in
    let there : slice_get os d.file ≡ Some (outline_of t) = slice_get-map outline_of (trees_in i.source) d.file ∙ ap (option_map outline_of) tree in
    let stands = exact.declared (shows_in p) p.path p.blocks es os d.file (outline_of t) decl (all_from_among IsOutline os (λ o h. outlined (trees_in i.source) o h)) (there, among) in
    let place : position_of ws d ≡ Some stands.place = sym (position_same ws _ d refl number) ∙ stands.found in
    let face : slice_index_or c.declared stands.place None ≡ Some (faces.Func s) = subst (λ o. face_at c.declared o ≡ Some (faces.Func s)) place is in
    let known : ℕ → Option TheFace = λ a. slice_index_or c.declared a None in
    let at = some_func s (scene_in p es) known stands.place (slice_get (package_placed p es) stands.place) (sym ((right i c part placed).values stands.place (faces.Func s) face)) in
    let written = sym (ap face_found stands.there) ∙ at in
    let mean = file_meaning (shows_in p) p.path p.blocks d.file in
    let same : Some (faces.Func (signature_in i c d.file t g)) ≡ Some (faces.Func s) = sym (ap (form_as_written mean (file_at p.path d.file (outline_of t)) es decl.number) form) ∙ written in
    let signs : signature_in i c d.file t g ≡ s = cc same in
    sym signs

pub own_callees : PartsAreAmong → FunctionsTakeWords → ReachedAreInside → HeadersAreOfSignatures → OwnSignaturesAreTheirs → OwnCalleesTakeWords
own_callees among words inside headers own ws parts as_read made main r runnable path d number reached at s is n t all =
    let ps = somes parts in
    let p = at.part in
    let fits = among ws parts as_read made p at.there in
    let callees = callees_of place_declared ps at.file at.func in
    let source = source_with (code_names_of p.input p.content d.file at.file at.func) callees at.func in
    let w = words p.input p.content d.file at.tree at.file at.func at.all at.checked fits.shows (inside ps main r runnable number source reached at.is) callees in
    let written = own p.input p.content fits.part fits.files.placed d s is at.tree at.checked.tree at.decl at.among at.declared at.func at.form in
    let taken = ap (λ (x : Sign). (function_looks p.input p.content d.file at.tree at.all).params x) written ∙ headers p.input p.content d.file at.tree at.file at.func at.all at.checked in
    (w.words, behind_receiver (sources_of place_declared ps) number source w.words at.is w.takes, subst (λ us. AreOverEach (function_looks p.input p.content n t all).types w.words us) (sym taken) w.over)
