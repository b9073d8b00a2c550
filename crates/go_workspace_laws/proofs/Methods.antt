-- What methods come to among those of all types that some packages tell.
use Rattle.std.proofs.Common.{◌≡◌, ℕ, Bool, true, false, cond, List, [], ◌∷◌, ◌++◌, All, inl, inr, refl, sym, ap, ◌∙◌, append_assoc}
use Rattle.std.specs.Prelude.{Option, Some, None, ◌&&◌, nat_eq}
use Rattle.std.specs.Map.{lookup}
use Rattle.std.specs.Str.{bytes_eq}
use Rattle.go_term_core.specs.decl_core.declared.keys.DeclRef.{DeclRef}
use Rattle.go_term_core.specs.declared.term.MemberPlace.{MemberPlace}
use Rattle.go_term_core.specs.declared.term.MemberPlace.TheVariants as places
use Rattle.go_body_core.specs.typexpr_core.EntryAmong.{Among}
use Rattle.go_body_core.specs.table_core.Entries.{Entry, Member}
use Rattle.go_body_core.specs.table_core.Tables.{AreOf}
use Rattle.go_report_core.specs.summary_core.Summaries.{SummaryModel, IsOfOne, path_of}
use Rattle.go_report_core.specs.summary_core.Viewed.{text_apart}
use Rattle.go_report_core.specs.summary_core.Views.{PathsAreApart, types_told}
use Rattle.go_snap_core.proofs.WholeWorkspaceLists.{among_all, pairs_head, pairs_tail}
use Rattle.go_code_core.specs.declared.fragments.names.Meaning.{Meaning}
use Rattle.go_code_core.specs.declared.fragments.names.Meaning.TheVariants as meanings
use Rattle.go_emit_core.specs.meaning.Words.{sign_gives}
use Rattle.go_emit_core.specs.meaning.Scenes.{method_at, method_spotted, methods_spotted}
use Rattle.go_emit_core.specs.lookup.Places.{DeclSpotModel, Spotted, spotted_meaning, same_spot, decl_spot}

-- the first of two
abbrev or_there : Option Meaning → Option Meaning → Option Meaning
or_there None o = o
or_there (Some m) o = Some m

or_none : (o : Option Meaning) → or_there o None ≡ o
or_none None = refl
or_none (Some m) = refl

module _ (test : DeclSpotModel → Bool) where
  looked_append : (xs ys : Spotted) → lookup test (xs ++ ys) ≡ or_there (lookup test xs) (lookup test ys)
  looked_append [] ys = refl
  looked_append (x ∷ xs) ys = by (test x.0) (looked_append xs ys)
    where
      by : (b : Bool) → lookup test (xs ++ ys) ≡ or_there (lookup test xs) (lookup test ys) → cond b (Some x.1) (lookup test (xs ++ ys)) ≡ or_there (cond b (Some x.1) (lookup test xs)) (lookup test ys)
      by true rest = refl
      by false rest = rest

module _ (es : List Entry) where
  spotted_append : (xs ys : List Entry) → methods_spotted es (xs ++ ys) ≡ methods_spotted es xs ++ methods_spotted es ys
  spotted_append [] ys = refl
  spotted_append (x ∷ xs) ys =
      ap (λ l. method_spotted es x.key.path x.methods ++ l) (spotted_append xs ys) ∙ sym (append_assoc (method_spotted es x.key.path x.methods) (methods_spotted es xs) (methods_spotted es ys))

  module _ (path : List ℕ) (d : DeclRef) where
    abbrev At : Spotted → Option Meaning
    At ms = spotted_meaning ms (decl_spot path d)

    -- methods of other packages

    member_none : (q : List ℕ) (ms : List Member) → bytes_eq path q ≡ false → At (method_spotted es q ms) ≡ None
    member_none q [] apart = refl
    member_none q (m ∷ ms) apart = by m.place (member_none q ms apart)
      where
        by : (p : MemberPlace) → At (method_spotted es q ms) ≡ None → At (method_at es q m p ++ method_spotted es q ms) ≡ None
        by (places.Declared r) rest =
            ap (λ b. cond (b && (nat_eq d.file r.file && nat_eq d.number r.number)) (Some (meanings.Method (sign_gives es m.sign))) (At (method_spotted es q ms))) apart ∙ rest
        by (places.Local l) rest = rest

    entries_none : (q : List ℕ) (xs : List Entry) → AreOf q xs → bytes_eq path q ≡ false → At (methods_spotted es xs) ≡ None
    entries_none q [] own apart = refl
    entries_none q (x ∷ xs) own apart =
        looked_append (same_spot (decl_spot path d)) (method_spotted es x.key.path x.methods) (methods_spotted es xs)
        ∙ (ap (λ o. or_there o (At (methods_spotted es xs))) (member_none x.key.path x.methods (ap (bytes_eq path) own.0 ∙ apart))
        ∙ entries_none q xs own.1 apart)

    abbrev told : List SummaryModel → Spotted
    told ss = methods_spotted es (types_told ss)

    told_more : (s : SummaryModel) (ss : List SummaryModel) → At (told (s ∷ ss)) ≡ or_there (At (methods_spotted es s.types.entries)) (At (told ss))
    told_more s ss = ap At (spotted_append s.types.entries (types_told ss)) ∙ looked_append (same_spot (decl_spot path d)) (methods_spotted es s.types.entries) (told ss)

    summary_none : (s : SummaryModel) → IsOfOne s → (path ≡ path_of s → ⊥) → At (methods_spotted es s.types.entries) ≡ None
    summary_none s own apart = entries_none (path_of s) s.types.entries own.own (text_apart path (path_of s) apart)

    told_none : (ss : List SummaryModel) → ((s : SummaryModel) → Among ss s → IsOfOne s) → ((s : SummaryModel) → Among ss s → path ≡ path_of s → ⊥) → At (told ss) ≡ None
    told_none [] own apart = refl
    told_none (s ∷ ss) own apart =
        told_more s ss
        ∙ (ap (λ o. or_there o (At (told ss))) (summary_none s (own s (inl refl)) (apart s (inl refl))) ∙ told_none ss (λ t a. own t (inr a)) (λ t a. apart t (inr a)))

    -- of several packages those of the package of the path
    told_at : (ss : List SummaryModel) (s : SummaryModel) → PathsAreApart ss → ((t : SummaryModel) → Among ss t → IsOfOne t) → path_of s ≡ path → Among ss s → At (told ss) ≡ At (methods_spotted es s.types.entries)
    told_at [] s apart own is at = absurd at
    told_at (x ∷ ss) s apart own is (inl e) =
        told_more x ss
        ∙ (ap (or_there (At (methods_spotted es x.types.entries)))
        (told_none ss (λ t a. own t (inr a)) (λ t a same. pairs_head (λ (s t : SummaryModel). path_of s ≡ path_of t → ⊥) x ss apart t a (ap path_of e ∙ (is ∙ same))))
        ∙ (or_none (At (methods_spotted es x.types.entries)) ∙ ap (λ (t : SummaryModel). At (methods_spotted es t.types.entries)) e))
    told_at (x ∷ ss) s apart own is (inr a) =
        told_more x ss
        ∙ (ap (λ o. or_there o (At (told ss)))
        (summary_none x (own x (inl refl)) (λ same. pairs_head (λ (s t : SummaryModel). path_of s ≡ path_of t → ⊥) x ss apart s a (sym same ∙ sym is)))
        ∙ told_at ss s (pairs_tail (λ (s t : SummaryModel). path_of s ≡ path_of t → ⊥) x ss apart) (λ t b. own t (inr b)) is a)

pub told_methods : (es : List Entry) (path : List ℕ) (d : DeclRef) (ss : List SummaryModel) (s : SummaryModel) → PathsAreApart ss → All IsOfOne ss → path_of s ≡ path → Among ss s
    → spotted_meaning (methods_spotted es (types_told ss)) (decl_spot path d) ≡ spotted_meaning (methods_spotted es s.types.entries) (decl_spot path d)
told_methods es path d ss s apart own is at = told_at es path d ss s apart (λ t a. among_all IsOfOne ss t own a) is at
