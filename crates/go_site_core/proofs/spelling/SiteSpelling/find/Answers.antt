use Rattle.std.proofs.Common.{◌≡◌, length, map, Some, slice_get, refl, sym, ap, subst, ◌∙◌}
use Rattle.std.proofs.lemmas.Option.{same_Some, slice_get_read}
use Rattle.go_graph_core.specs.Sources.{SourceModel}
use Rattle.go_graph_core.specs.Workspaces.{PackageModel, files_at}
use Rattle.go_site_core.specs.Sites.{held_items, located_in, offsets_in}
use Rattle.go_site_core.proofs.Locating.{paired}
use Rattle.go_site_core.proofs.spelling.SiteSpelling.find.Goals as goal

pub locate-requires : goal.locate-requires
locate-requires c =
    let n = c.in_ok-number.number in
    let p = c.in_ok-source.source.now in
    let v = c.in_ok-offsets.offsets.now in
    let packages = c.packages-packages.result.now in
    let all = c.deref.result.now in
    let here : slice_get packages n ≡ Some p = slice_get_read packages (length packages) n p refl c.in_ok-source.ensures.lookup.3.0 c.in_ok-source.ensures.lookup.1 in
    let there : slice_get all n ≡ Some v = slice_get_read all (length all) n v refl c.in_ok-offsets.ensures.lookup.3.0 c.in_ok-offsets.ensures.lookup.1 in
    let shown = λ (q : PackageModel). map (λ (f : SourceModel). offsets_in f.content) q.1 in
    let same : map (λ q. map held_items q.items) all ≡ map shown packages =
    ap (map (λ q. map held_items q.items)) c.deref.ensures.value ∙ (c.self.invariant ∙ ap (map shown) (sym c.packages-packages.ensures.packages)) in
    ap (map held_items) c.as_slice.ensures.value
    ∙ (paired (λ q. map held_items q.items) shown all packages n v p same there here
    ∙ ap (map (λ (f : SourceModel). offsets_in f.content)) (sym c.files.ensures.files))

pub returns : goal.returns
returns c =
    let n = c.in_ok-number.number in
    let p = c.in_ok-source.source.now in
    let packages = c.packages-packages.result.now in
    let path = c.args.path.now in
    let found = c.in_ok-number.ensures in
    let here : slice_get packages n ≡ Some p = slice_get_read packages (length packages) n p refl c.in_ok-source.ensures.lookup.3.0 c.in_ok-source.ensures.lookup.1 in
    let one : p ≡ (path, found.0) = same_Some p (path, found.0) (sym here ∙ found.1) in
    let files : c.files.result.now ≡ found.0 = c.files.ensures.files ∙ ap (λ (q : PackageModel). q.1) one in
    let at : files_at c.args.self.now path ≡ Some found.0 = subst (λ ps. files_at ps path ≡ Some found.0) (c.packages-packages.ensures.packages ∙ c.self.view_is) found.2 in
    c.locate.ensures ∙ ap (located_in c.args.place) (ap Some files ∙ sym at)
