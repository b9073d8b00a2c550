-- Files that are read are found again.
use Rattle.std.proofs.Common.{◌≡◌, ◌<◌, ◌≤◌, ℕ, length, nat_lt, Bool, true, false, List, [], ◌∷◌, Option, Some, None, cond, slice_get, refl, sym, ap, ◌∙◌, subst, inl, inr, arith}
use Rattle.std.specs.BTreeMap.{insert_entry, is_at}
use Rattle.std.specs.Cmp.Lexicographic.{slice_cmp}
use Rattle.std.specs.Map.{lookup}
use Rattle.std.specs.Ordering.{is_eq, match_ordering, nat_cmp, ordering_then}
use Rattle.std.specs.declared.cmp.Ordering.{Ordering}
use Rattle.std.specs.declared.cmp.Ordering.TheVariants.{Less, Equal, Greater}
use Rattle.std.proofs.lemmas.Bool.{true≢false}
use Rattle.std.proofs.lemmas.Map.Lookups.{exact_unsigned}
use Rattle.std.proofs.lemmas.Option.{same_Some, slice_get_past}
use Rattle.go_term_core.specs.decl_core.declared.keys.DeclRef.{DeclRef}
use Rattle.go_graph_core.specs.Sources.{SourceModel}
use Rattle.go_graph_core.proofs.Places.{equal_texts}
use Rattle.go_doc_core.specs.symbol.mirrors.Docs.{AreDocsOf, DocsOf}
use Rattle.go_package_core.specs.package_part.Parts.{PartModel}
use Rattle.go_package_core.specs.package_part.Inputs.{path_in}
use Rattle.go_snap_core.specs.Snapshots.{IsPartAt, IsSnapshot, SnapshotModel}
use Rattle.go_query_core.proofs.Listed.{path_is}
use Rattle.go_type_doc_core.specs.declared.reading.FileDocs.{FileDocs}
use Rattle.go_type_doc_core.specs.Comments.{IsMethodDoc, IsPartDoc}
use Rattle.go_type_doc_core.specs.mirrors.Read.{AreRead, IsDocIn, IsRead, Key, read_shown}
use Rattle.go_type_doc_core.proofs.Remarks.{source_doc}

abbrev pub key_cmp : Key → Key → Ordering
key_cmp a b = ordering_then (slice_cmp nat_cmp a.0.now b.0.now) (nat_cmp a.1 b.1)

both_equal : (a b : Ordering) → ordering_then a b ≡ Equal → (a ≡ Equal) × (b ≡ Equal)
both_equal Less b h = absurd (true≢false (sym (ap is_eq h)))
both_equal Equal b h = (refl, h)
both_equal Greater b h = absurd (true≢false (sym (ap is_eq h)))

equal_by : (o : Ordering) → is_eq o ≡ true → o ≡ Equal
equal_by Less h = absurd (true≢false (sym h))
equal_by Equal h = refl
equal_by Greater h = absurd (true≢false (sym h))

-- equal keys are of one file
same_file : (a b : Key) → key_cmp a b ≡ Equal → (a.0.now ≡ b.0.now) × (a.1 ≡ b.1)
same_file a b h =
    let both = both_equal (slice_cmp nat_cmp a.0.now b.0.now) (nat_cmp a.1 b.1) h in
    (equal_texts a.0.now b.0.now both.0, exact_unsigned a.1 b.1 both.1)

module _ (s : SnapshotModel) where
  moved : (a b : Key) (d : DocsOf) → (a.0.now ≡ b.0.now) × (a.1 ≡ b.1) → IsRead s a.0.now a.1 d → IsRead s b.0.now b.1 d
  moved a b d same h = subst (λ (p : List ℕ). IsRead s p b.1 d) same.0 (subst (λ (n : ℕ). IsRead s a.0.now n d) same.1 h)

  pub read_found : (es : List (Key × FileDocs)) (k : Key) (d : FileDocs) → AreRead s es → lookup (is_at (key_cmp k)) es ≡ Some d → IsRead s k.0.now k.1 (read_shown d)
  read_found [] k d h e = (let none : ◌≡◌ {A = Option FileDocs} None (Some d) = e in cc)
  read_found (x ∷ es) k d h e = by (is_eq (key_cmp k x.0)) refl e (read_found es k d h.1)
    where
      by : (b : Bool) → is_eq (key_cmp k x.0) ≡ b → cond b (Some x.1) (lookup (is_at (key_cmp k)) es) ≡ Some d → (lookup (is_at (key_cmp k)) es ≡ Some d → IsRead s k.0.now k.1 (read_shown d)) → IsRead s k.0.now k.1 (read_shown d)
      by true is e rest =
          let same = same_file k x.0 (equal_by (key_cmp k x.0) is) in
          subst (λ (y : FileDocs). IsRead s k.0.now k.1 (read_shown y)) (same_Some x.1 d e) (moved x.0 k (read_shown x.1) (sym same.0, sym same.1) h.0)
      by false is e rest = rest e

  pub read_put : (es : List (Key × FileDocs)) (k : Key) (d : FileDocs) → AreRead s es → IsRead s k.0.now k.1 (read_shown d) → AreRead s (insert_entry key_cmp es k d)
  read_put [] k d h r = (r, tt)
  read_put (x ∷ es) k d h r = by (key_cmp k x.0) refl (read_put es k d h.1 r)
    where
      by : (o : Ordering) → key_cmp k x.0 ≡ o → AreRead s (insert_entry key_cmp es k d) → AreRead s (match_ordering o ((k, d) ∷ (x ∷ es)) ((x.0, d) ∷ es) (x ∷ insert_entry key_cmp es k d))
      by Less is rest = (r, h)
      by Equal is rest = (moved k x.0 (read_shown d) (same_file k x.0 is) r, h.1)
      by Greater is rest = (h.0, rest)

  -- what is read of a file says the doc comment of a declaration there
  pub method_told : (path : List ℕ) (decl : DeclRef) (d : DocsOf) (doc : List ℕ) → IsRead s path decl.file d → IsDocIn d decl.number doc → IsMethodDoc s (path, decl) doc
  method_told path decl d doc r h = inl (
    r.of_part,
    r.in_workspace,
    inl (
      r.docs.source,
      subst (λ (n : ℕ). ◌≡◌ {A = Option SourceModel} (slice_get r.of_part.input.source.1 n) (Some r.docs.source)) r.of_file r.docs.in_files,
      source_doc r.of_part.input.source.1 d r.docs decl.number doc h,
    ),
  )

  -- what is read of a file of a part is read of that of its path
  pub just_read : (p : PartModel) (files : List SourceModel) (path : List ℕ) (file : ℕ) (d : DocsOf) → IsPartAt s.sources s.parts (path_in p.input) p → path ≡ path_in p.input → files ≡ p.input.source.1 → AreDocsOf files d → d.file ≡ file → IsRead s path file d
  just_read p files path file d at named same docs is = record {
    of_part = p;
    in_workspace = subst (λ (q : List ℕ). IsPartAt s.sources s.parts q p) (sym named) at;
    docs = subst (λ (l : List SourceModel). AreDocsOf l d) same docs;
    of_file = is;
  }

  pub path_at : IsSnapshot s.sources s.parts s.faults → (path : List ℕ) (p : PartModel) → IsPartAt s.sources s.parts path p → path_in p.input ≡ path
  path_at whole path p at = path_is s whole path at.number p (record { files = at.files; numbered = at.numbered; there = at.there })

-- what is read of a file says the doc comment of a declaration of its part
pub part_doc_of : (p : PartModel) (files : List SourceModel) → files ≡ p.input.source.1 → (decl : DeclRef) (d : DocsOf) → AreDocsOf files d → d.file ≡ decl.file → (doc : List ℕ) → IsDocIn d decl.number doc → IsPartDoc p decl doc
part_doc_of p files same decl d h is doc found = inl (
  h.source,
  subst (λ (l : List SourceModel). slice_get l decl.file ≡ Some h.source) same (subst (λ (n : ℕ). slice_get files n ≡ Some h.source) is h.in_files),
  source_doc files d h decl.number doc found,
)

-- a package without the file
past : (a n : ℕ) → nat_lt a n ≡ false → n ≤ a
past a n h = grind arith

pub part_doc_none : (p : PartModel) (decl : DeclRef) (b : Bool) → b ≡ nat_lt decl.file (length p.input.source.1) → b ≡ false → IsPartDoc p decl []
part_doc_none p decl b is off = inr (slice_get_past p.input.source.1 decl.file (past decl.file (length p.input.source.1) (sym is ∙ off)), refl)

-- a package with it
below : (a n : ℕ) → nat_lt a n ≡ true → a < n
below a n h = grind arith

pub has_the_file : (p : PartModel) (decl : DeclRef) (b : Bool) → b ≡ nat_lt decl.file (length p.input.source.1) → b ≡ true → decl.file < length p.input.source.1
has_the_file p decl b is on = below decl.file (length p.input.source.1) (sym is ∙ on)
