-- What is read of a file gives its doc comments.
use Rattle.std.proofs.Common.{◌≡◌, ℕ, ◌<◌, List, length, get_or, Some, Result, Ok, slice_get, sym, ap, ◌∙◌, subst, inl, inr}
use Rattle.std.proofs.lemmas.Option.{slice_get-get_or}
use Rattle.go_tree_nodes.specs.token_core.declared.token.Comment.{Comment}
use Rattle.go_doc_core.specs.DocComments.{IsDocComment}
use Rattle.go_tree_nodes.specs.Trees.{FileTree}
use Rattle.go_term_core.specs.decl_core.TopDecls.{TopDeclTree, top_decls}
use Rattle.go_term_core.specs.decl_core.declared.anchoring.Anchor.{Anchor}
use Rattle.go_graph_core.specs.parse_core.declared.error.SynFault.{SynFault}
use Rattle.go_graph_core.specs.Sources.{SourceModel}
use Rattle.go_doc_core.specs.symbol.Symbols.{IsDocOf, comments_found}
use Rattle.go_doc_core.specs.symbol.mirrors.Docs.{AreDocsOf, DocsOf, HasNumber, HasNumberAt}
use Rattle.go_type_doc_core.specs.Comments.{HasNoDecl, IsSourceDoc}
use Rattle.go_type_doc_core.specs.mirrors.Read.{IsDocIn, IsDocThere}

same_tree : (f g : FileTree) → ◌≡◌ {A = Result FileTree SynFault} (Ok f) (Ok g) → f ≡ g
same_tree f g e = cc

-- what the code reads at the place of a number
pub read_at : (d : DocsOf) (place number : ℕ) (l : List Anchor) (a : Anchor) (cs : List Comment) (doc : List ℕ) → HasNumberAt d.decls place number → d.anchors ≡ l → place < length l → a ≡ get_or l place a → cs ≡ d.comments → IsDocComment d.text cs a.at a.behind doc
    → IsDocIn d number doc
read_at d place number l a cs doc found anchors low is comments comment = inl (record {
  place = place;
  there = found.0;
  at = found.1;
  numbered = found.2;
  anchor = a;
  anchored = subst (λ (xs : List Anchor). slice_get xs place ≡ Some a) (sym anchors) (slice_get-get_or l place a low ∙ ap Some (sym is));
  comment = subst (λ (xs : List Comment). IsDocComment d.text xs a.at a.behind doc) comments comment;
})

module _ (files : List SourceModel) (d : DocsOf) (h : AreDocsOf files d) (number : ℕ) (doc : List ℕ) where
  there : IsDocThere d number doc → IsDocOf h.source number doc
  there r = record {
    tree = h.tree;
    content = h.content;
    place = r.place;
    decl = r.there;
    declared_there = subst (λ (ds : List TopDeclTree). slice_get ds r.place ≡ Some r.there) h.decls r.at;
    numbered = r.numbered;
    anchor = r.anchor;
    anchored = subst (λ (l : List Anchor). slice_get l r.place ≡ Some r.anchor) h.anchors r.anchored;
    comment = subst (λ (t : List ℕ). IsDocComment t (comments_found h.source.text) r.anchor.at r.anchor.behind doc) h.text
        (subst (λ (cs : List Comment). IsDocComment d.text cs r.anchor.at r.anchor.behind doc) h.comments r.comment);
  }

  nowhere : (HasNumber d.decls number → ⊥) → HasNoDecl h.source number
  nowhere none tree place decl content at is =
      let same : tree ≡ h.tree = same_tree tree h.tree (sym content ∙ h.content) in
      let own : slice_get (top_decls h.tree) place ≡ Some decl = subst (λ (f : FileTree). slice_get (top_decls f) place ≡ Some decl) same at in
      none (place, (decl, subst (λ (ds : List TopDeclTree). slice_get ds place ≡ Some decl) (sym h.decls) own, is))

  pub source_doc : IsDocIn d number doc → IsSourceDoc h.source number doc
  source_doc (inl r) = inl (there r)
  source_doc (inr r) = inr (nowhere r.0, r.1)
