use Rattle.std.proofs.Common.{◌≡◌, List, Some, None, [], ◌∷◌, ◌++◌, length, sym, ap, ◌∙◌, arith}
use Rattle.go_collections_core.specs.name_table.Named.{value_at}
use Rattle.go_declared_core.specs.Packages.{PackageFacesModel, with_faces}
use Rattle.go_declared_core.specs.mirrors.Tables.{keyed, place_of}
use Rattle.go_declared_core.proofs.Keyed.{package_within, placed_again, placed_more}
use Rattle.go_declared_core.proofs.table.FaceTable.add.Goals as goal

pub index_mut-requires : goal.index_mut-requires
index_mut-requires c =
    let packages = c.self.inside.packages in
    let path = c.args.faces.path in
    let at : place_of (keyed packages.items) path ≡ Some c.in-Some.place =
    ap (λ l. place_of (keyed l) path) c.self.view_is ∙ (ap (place_of (keyed c.args.self.now)) (sym c.path.ensures) ∙ (sym c.place.ensures ∙ c.in-Some.is)) in
    let l = package_within packages.items path c.in-Some.place at in
    omega (arith, l, packages.ok.0)

pub invariant_of-self : goal.invariant_of-self
invariant_of-self c =
    let ps = c.self.inside.packages.items in
    let path = c.args.faces.path in
    let at : place_of (keyed ps) path ≡ Some c.in-Some.place =
    ap (λ l. place_of (keyed l) path) c.self.view_is ∙ (ap (place_of (keyed c.args.self.now)) (sym c.path.ensures) ∙ (sym c.place.ensures ∙ c.in-Some.is)) in
    (placed_again c.self.inside.places.names ps c.in-Some.place c.args.faces c.self.invariant at).1

pub returns-in-Some-clause-ok : goal.returns-in-Some-clause-ok
returns-in-Some-clause-ok c =
    let ps = c.self.inside.packages.items in
    let path = c.args.faces.path in
    let at : place_of (keyed ps) path ≡ Some c.in-Some.place =
    ap (λ l. place_of (keyed l) path) c.self.view_is ∙ (ap (place_of (keyed c.args.self.now)) (sym c.path.ensures) ∙ (sym c.place.ensures ∙ c.in-Some.is)) in
    (placed_again c.self.inside.places.names ps c.in-Some.place c.args.faces c.self.invariant at).0 ∙ ap (λ l. with_faces l c.args.faces) c.self.view_is

pub add-requires : goal.add-requires
add-requires c =
    let faces = c.args.faces in
    let none : place_of (keyed c.self.inside.packages.items) faces.path ≡ None =
    ap (λ l. place_of (keyed l) faces.path) c.self.view_is ∙ (ap (place_of (keyed c.args.self.now)) (sym c.path.ensures) ∙ (sym c.place.ensures ∙ c.in_default.is)) in
    ap (value_at c.self.inside.places.names) (c.as_str.ensures.text ∙ c.path-2.ensures) ∙ (c.self.invariant faces.path ∙ none)

pub invariant_of-self-2 : goal.invariant_of-self-2
invariant_of-self-2 c =
    let ps = c.self.inside.packages.items in
    let faces = c.args.faces in
    let is_path : c.as_str.result.now ≡ faces.path = c.as_str.ensures.text ∙ c.path-2.ensures in
    let none : place_of (keyed ps) faces.path ≡ None =
    ap (λ l. place_of (keyed l) faces.path) c.self.view_is ∙ (ap (place_of (keyed c.args.self.now)) (sym c.path.ensures) ∙ (sym c.place.ensures ∙ c.in_default.is)) in
    let count : c.len.result ≡ length ps = omega (arith, c.len.ensures, c.in_ok-reserve.ensures.len, c.self.inside.packages.ok.0) in
    let items : c.push.new.self.items ≡ ps ++ faces ∷ [] = c.in_ok-push.ensures.items ∙ ap (λ (l : List PackageFacesModel). l ++ faces ∷ []) c.in_ok-reserve.ensures.items in
    let r = placed_more c.self.inside.places.names c.add.new.self.names ps c.as_str.result.now c.len.result faces c.self.invariant is_path count none c.in_ok-add.ensures.ok in
    λ path. r.1 path ∙ ap (λ (l : List PackageFacesModel). place_of (keyed l) path) (sym items)

pub returns-clause-ok : goal.returns-clause-ok
returns-clause-ok c =
    let ps = c.self.inside.packages.items in
    let faces = c.args.faces in
    let is_path : c.as_str.result.now ≡ faces.path = c.as_str.ensures.text ∙ c.path-2.ensures in
    let none : place_of (keyed ps) faces.path ≡ None =
    ap (λ l. place_of (keyed l) faces.path) c.self.view_is ∙ (ap (place_of (keyed c.args.self.now)) (sym c.path.ensures) ∙ (sym c.place.ensures ∙ c.in_default.is)) in
    let count : c.len.result ≡ length ps = omega (arith, c.len.ensures, c.in_ok-reserve.ensures.len, c.self.inside.packages.ok.0) in
    let items : c.push.new.self.items ≡ ps ++ faces ∷ [] = c.in_ok-push.ensures.items ∙ ap (λ (l : List PackageFacesModel). l ++ faces ∷ []) c.in_ok-reserve.ensures.items in
    let r = placed_more c.self.inside.places.names c.add.new.self.names ps c.as_str.result.now c.len.result faces c.self.invariant is_path count none c.in_ok-add.ensures.ok in
    items ∙ (r.0 ∙ ap (λ l. with_faces l faces) c.self.view_is)
