-- A declaration of a file, with its doc comment, is the symbol of its name.
use Rattle.std.proofs.Common.{◌≡◌, ℕ, ◌+◌, ◌<◌, List, [], ◌∷◌, ◌++◌, length, get_or, map, take, Some, Result, Ok, slice_get, refl, sym, ap, ◌∙◌, subst, arith}
use Rattle.std.specs.Prelude.{option_map}
use Rattle.std.specs.List.{AllZip}
use Rattle.std.proofs.lemmas.List.{length-map, map-append, take_more}
use Rattle.std.proofs.lemmas.Option.{get_or_from_slice_get, same_Some, slice_get-get_or, slice_get-map, slice_get_within}
use Rattle.go_tree_nodes.specs.token_core.declared.token.Comment.{Comment}
use Rattle.go_doc_core.specs.DocComments.{IsDocComment}
use Rattle.go_tree_nodes.specs.Trees.{FileTree}
use Rattle.go_block_core.specs.decl_core.Shown.{decl_shown}
use Rattle.go_block_core.specs.decl_core.TopDecls.{TopDeclTree, top_decls}
use Rattle.go_block_core.specs.decl_core.declared.tops.TopDecl.{TopDecl}
use Rattle.go_block_core.specs.decl_core.declared.anchoring.Anchor.{Anchor}
use Rattle.go_block_core.specs.decl_core.declared.keys.DeclRef.{DeclRef}
use Rattle.go_block_core.specs.decl_core.AnchorLemmas.{anchors_are_of_declarations}
use Rattle.go_block_core.specs.decl_core.Numbers.{numbers_are_places}
use Rattle.go_parse_core.specs.declared.error.SynFault.{SynFault}
use Rattle.go_block_core.specs.graph_core.Sources.{SourceModel}
use Rattle.go_block_core.specs.graph_core.Zips.{zip_append}
use Rattle.go_block_core.specs.declared.exports.NamedDecl.{NamedDecl}
use Rattle.go_block_core.specs.Exports.{name_and_decl}
use Rattle.go_doc_core.specs.symbol.Symbols.{IsSymbolOf, SymbolOf, comments_found}
use Rattle.go_doc_core.specs.symbol.mirrors.Docs.{AreDeclaredIn, AreDocsOf, DocsOf, HasNumber, HasNumberAt, IsDeclaredIn, IsShownIn}

same_tree : (f g : FileTree) → ◌≡◌ {A = Result FileTree SynFault} (Ok f) (Ok g) → f ≡ g
same_tree f g e = cc

-- each declaration has a comment's place
pub anchored : (files : List SourceModel) (d : DocsOf) → AreDocsOf files d → length d.anchors ≡ length d.decls
anchored files d h = ap length h.anchors ∙ (anchors_are_of_declarations h.tree ∙ sym (ap length h.decls))

pub declared_within : (files : List SourceModel) (e : List ℕ × DeclRef) → IsDeclaredIn files e → e.1.file < length files
declared_within files e k = slice_get_within files e.1.file k.source k.in_files

module _ (files : List SourceModel) (d : DocsOf) (e : List ℕ × DeclRef) (h : AreDocsOf files d) (same : d.file ≡ e.1.file) (k : IsDeclaredIn files e) where
  source_is : h.source ≡ k.source
  source_is = same_Some h.source k.source (sym h.in_files ∙ (ap (λ (n : ℕ). slice_get files n) same ∙ k.in_files))

  tree_is : h.tree ≡ k.tree
  tree_is = same_tree h.tree k.tree (sym h.content ∙ (ap (λ (s : SourceModel). s.content) source_is ∙ k.content))

  pub has_number : HasNumber d.decls e.1.number
  has_number = (
    k.place,
    (k.decl, subst (λ (ds : List TopDeclTree). slice_get ds k.place ≡ Some k.decl) (sym h.decls) (subst (λ (f : FileTree). slice_get (top_decls f) k.place ≡ Some k.decl) (sym tree_is) k.there), k.numbered),
  )

  pub shown : (s : SymbolOf) → IsShownIn d e.1 s → IsSymbolOf files e s
  shown s r =
      let there : slice_get (top_decls h.tree) r.place ≡ Some r.there = subst (λ (ds : List TopDeclTree). slice_get ds r.place ≡ Some r.there) h.decls r.at in
      let own : slice_get (top_decls h.tree) k.place ≡ Some k.decl = subst (λ (f : FileTree). slice_get (top_decls f) k.place ≡ Some k.decl) (sym tree_is) k.there in
      let place : r.place ≡ k.place = numbers_are_places.one h.tree r.place k.place r.there k.decl there own (r.numbered ∙ sym k.numbered) in
      let decl : r.there ≡ k.decl = same_Some r.there k.decl (sym there ∙ (ap (λ (n : ℕ). slice_get (top_decls h.tree) n) place ∙ own)) in
      record {
        name = r.name ∙ (ap (λ (x : TopDeclTree). x.ident.name) decl ∙ k.named);
        kind = r.kind;
        source = h.source;
        in_files = subst (λ (n : ℕ). slice_get files n ≡ Some h.source) same h.in_files;
        doc = record {
          tree = h.tree;
          content = h.content;
          place = r.place;
          decl = r.there;
          declared_there = there;
          numbered = r.numbered;
          anchor = r.anchor;
          anchored = subst (λ (l : List Anchor). slice_get l r.place ≡ Some r.anchor) h.anchors r.anchored;
          comment = subst (λ (t : List ℕ). IsDocComment t (comments_found h.source.text) r.anchor.at r.anchor.behind s.doc) h.text
              (subst (λ (cs : List Comment). IsDocComment d.text cs r.anchor.at r.anchor.behind s.doc) h.comments r.comment);
        };
      }

-- what the code reads

pub shown_at : (d : DocsOf) (decl : DeclRef) (ds : List TopDecl) (place : ℕ) (x : TopDecl) (l : List Anchor) (a : Anchor) (cs : List Comment) (name doc : List ℕ) → d.decls ≡ map decl_shown ds → HasNumberAt (map decl_shown ds) place decl.number → place < length ds → x ≡ get_or ds place x
    → d.anchors ≡ l → place < length l → a ≡ get_or l place a → name ≡ x.ident.now.name → cs ≡ d.comments → IsDocComment d.text cs a.at a.behind doc → IsShownIn d decl (record { name = name; kind = decl.kind; doc = doc })
shown_at d decl ds place x l a cs name doc decls found lt is anchors low anchor_is named comments comment =
    let at : slice_get ds place ≡ Some x = slice_get-get_or ds place x lt ∙ ap Some (sym is) in
    let shown_there : slice_get (map decl_shown ds) place ≡ Some (decl_shown x) = slice_get-map decl_shown ds place ∙ ap (λ o. option_map decl_shown o) at in
    let same : found.0 ≡ decl_shown x = same_Some found.0 (decl_shown x) (sym found.1 ∙ shown_there) in
    record {
      place = place;
      there = decl_shown x;
      at = subst (λ (xs : List TopDeclTree). slice_get xs place ≡ Some (decl_shown x)) (sym decls) shown_there;
      numbered = ap (λ (t : TopDeclTree). t.number) (sym same) ∙ found.2;
      name = named;
      kind = refl;
      anchor = a;
      anchored = subst (λ (xs : List Anchor). slice_get xs place ≡ Some a) (sym anchors) (slice_get-get_or l place a low ∙ ap Some (sym anchor_is));
      comment = subst (λ (xs : List Comment). IsDocComment d.text xs a.at a.behind doc) comments comment;
    }

-- names with their declarations

pub declared_at : (files : List SourceModel) (names : List NamedDecl) (k : ℕ) (n : NamedDecl) → AreDeclaredIn files (map name_and_decl names) → slice_get names k ≡ Some n → IsDeclaredIn files (name_and_decl n)
declared_at files names k n all at =
    let lt : k < length (map name_and_decl names) = (let low = slice_get_within names k n at in let same = length-map names name_and_decl in omega (arith, low, same)) in
    let mapped : slice_get (map name_and_decl names) k ≡ Some (name_and_decl n) = slice_get-map name_and_decl names k ∙ ap (λ o. option_map name_and_decl o) at in
    subst (IsDeclaredIn files) (get_or_from_slice_get (map name_and_decl names) k (name_and_decl n) (name_and_decl n) mapped) (all k (name_and_decl n) lt)

pub item_at : {A : Type 0} (xs : List A) (i : ℕ) (x : A) → i < length xs → x ≡ get_or xs i x → slice_get xs i ≡ Some x
item_at xs i x lt is = slice_get-get_or xs i x lt ∙ ap Some (sym is)

pub zip_next : {A B C D : Type 0} (R : C → D → Type 0) (f : A → C) (g : B → D) (xs : List A) (ys new : List B) (i : ℕ) (x : A) (y : B) → i < length xs → x ≡ get_or xs i x → new ≡ ys ++ y ∷ [] → AllZip R (map f (take i xs)) (map g ys) → R (f x) (g y)
    → AllZip R (map f (take (i + 1) xs)) (map g new)
zip_next {A} {B} {C} {D} R f g xs ys new i x y lt is made h r =
    let e : take (i + 1) xs ≡ take i xs ++ x ∷ [] = take_more xs i x lt ∙ ap (λ (z : A). take i xs ++ z ∷ []) (sym is) in
    let left : map f (take (i + 1) xs) ≡ map f (take i xs) ++ f x ∷ [] = ap (map f) e ∙ map-append f (take i xs) (x ∷ []) in
    let right : map g new ≡ map g ys ++ g y ∷ [] = ap (map g) made ∙ map-append g ys (y ∷ []) in
    subst (λ (l : List C). AllZip R l (map g new)) (sym left)
    (subst (λ (l : List D). AllZip R (map f (take i xs) ++ f x ∷ []) l) (sym right) (zip_append R (map f (take i xs)) (f x ∷ []) (map g ys) (g y ∷ []) h (r, tt)))
