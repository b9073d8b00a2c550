-- Members are told one after another.
use Rattle.std.proofs.Common.{◌≡◌, ℕ, Option, Some, None, length, arith, List, [], ◌∷◌, ◌++◌, map, refl, sym, ap, ◌∙◌, subst, append_assoc, append-nil}
use Rattle.std.specs.List.{AllZip}
use Rattle.go_graph_core.proofs.Zips.{zip_append}
use Rattle.go_term_core.specs.Terms.{Term}
use Rattle.go_summary_core.specs.table_core.Entries.{Entry}
use Rattle.go_snap_core.specs.Snapshots.{SnapshotModel}
use Rattle.go_type_doc_core.specs.declared.members.listing.MethodPlace.{MethodPlace}
use Rattle.go_type_doc_core.specs.declared.members.listing.TypeMember.{TypeMember}
use Rattle.go_type_doc_core.specs.members.Members.{MemberOf, type_member_shown}
use Rattle.go_type_doc_core.specs.declared.telling.Member.{Member}
use Rattle.go_type_doc_core.specs.Comments.{IsMemberDoc, IsMethodDoc}
use Rattle.go_type_doc_core.specs.TypeDocs.{AreTold, IsTold, MemberShown, member_shown}
use Rattle.go_type_doc_core.specs.mirrors.Steps.{method_shown}

-- the doc comment of a member, by where it is declared
module _ (s : SnapshotModel) (m : Option MethodPlace) where
  pub of_method : (p : MethodPlace) → m ≡ Some p → (doc : List ℕ) → IsMethodDoc s (p.path.now, p.decl) doc → IsMemberDoc s (method_shown m) doc
  of_method p is doc h = subst (λ (o : Option MethodPlace). IsMemberDoc s (method_shown o) doc) (sym is) h

  pub of_none : m ≡ None → IsMemberDoc s (method_shown m) []
  of_none is = subst (λ (o : Option MethodPlace). IsMemberDoc s (method_shown o) []) (sym is) refl

-- those that are told stand before the rest
pub record SoFar (s : SnapshotModel) (all rest : List MemberOf) (told : List MemberShown) : Type 0 where
  pub done : List MemberOf
  pub split : done ++ rest ≡ all
  pub zipped : AllZip (IsTold s) done told

pub begun : (s : SnapshotModel) (all left : List TypeMember) (told : List Member) → told ≡ [] → left ≡ all → SoFar s (map type_member_shown all) (map type_member_shown left) (map member_shown told)
begun s all left told none same =
    subst (λ (l : List Member). SoFar s (map type_member_shown all) (map type_member_shown left) (map member_shown l)) (sym none)
    (subst (λ (l : List TypeMember). SoFar s (map type_member_shown all) (map type_member_shown l) []) (sym same) (record { done = []; split = refl; zipped = tt }))

pub one_more : (s : SnapshotModel) (all : List MemberOf) (old rest : List TypeMember) (m : TypeMember) (x : MemberShown) (told new : List MemberShown) → old ≡ m ∷ rest → IsTold s (type_member_shown m) x → new ≡ told ++ x ∷ []
    → SoFar s all (map type_member_shown old) told → SoFar s all (map type_member_shown rest) new
one_more s all old rest m x told new is r made h = record {
  done = h.done ++ type_member_shown m ∷ [];
  split = append_assoc h.done (type_member_shown m ∷ []) (map type_member_shown rest) ∙ (ap (λ (l : List TypeMember). h.done ++ map type_member_shown l) (sym is) ∙ h.split);
  zipped = subst (λ (l : List MemberShown). AllZip (IsTold s) (h.done ++ type_member_shown m ∷ []) l) (sym made) (zip_append (IsTold s) h.done (type_member_shown m ∷ []) told (x ∷ []) h.zipped (r, tt));
}

pub nothing_left : (left : List TypeMember) → length left ≡ 0 → left ≡ []
nothing_left [] none = refl
nothing_left (m ∷ left) none = absurd (omega (arith, none))

pub ended : (s : SnapshotModel) (all left : List TypeMember) (told : List Member) → left ≡ [] → SoFar s (map type_member_shown all) (map type_member_shown left) (map member_shown told)
    → AllZip (IsTold s) (map type_member_shown all) (map member_shown told)
ended s all left told none h =
    let is : h.done ≡ map type_member_shown all = sym (append-nil h.done) ∙ (ap (λ (l : List TypeMember). h.done ++ map type_member_shown l) (sym none) ∙ h.split) in
    subst (λ (l : List MemberOf). AllZip (IsTold s) l (map member_shown told)) is h.zipped

-- of a type that may be none
module _ (s : SnapshotModel) (es : List Entry) (o : Option Term) (from : List ℕ) (told : List MemberShown) where
  pub some_told : (t : Term) → o ≡ Some t → AreTold s es (Some t) from told → AreTold s es o from told
  some_told t is h = subst (λ (x : Option Term). AreTold s es x from told) (sym is) h

  pub none_told : o ≡ None → told ≡ [] → AreTold s es o from told
  none_told is h = subst (λ (x : Option Term). AreTold s es x from told) (sym is) h
