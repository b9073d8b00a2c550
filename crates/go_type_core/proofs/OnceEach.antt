-- Edges that stand in a list once or more.
use Rattle.std.proofs.Common.{◌≡◌, inl, inr, ℕ, suc, arith, ◌+◌, ◌<◌, ◌≤◌, Bool, List, [], ◌∷◌, ◌++◌, Option, Some, None, length, map, take, get_or, sym, ap, ◌∙◌, subst}
use Rattle.std.specs.List.{Contains}
use Rattle.std.proofs.lemmas.List.{append-nil, append_assoc, length-map, length-take-le, map_more, take_all, take_more}
use Rattle.std.proofs.lemmas.List.Elements.{Contains-append_left, Contains-append_right, Contains-append_cases, Contains-get_or, All-contains}
use Rattle.go_term_core.specs.decl_core.declared.keys.DeclKey.{DeclKey}
use Rattle.go_digraph_core.specs.declared.cycle.edge.Edge.{Edge}
use Rattle.go_digraph_core.specs.cycle.Cycle.{InRange, Leads, IsOnCycle, IsRanked, IsRanking}
use Rattle.go_term_core.specs.declared.term.Field.{Field}
use Rattle.go_term_core.specs.Shapes.{Line, line_at, fields_in, shape}
use Rattle.go_table_core.specs.declared.entry.TypeEntry.{TypeEntry}
use Rattle.go_table_core.specs.Shown.{entry_shown}
use Rattle.go_table_core.specs.Entries.{Entry}
use Rattle.go_type_core.specs.Built.{direct_keys, direct_fields}
use Rattle.go_type_core.specs.mirrors.Edges.{uses_from, all_uses, HasLoop, MarksTo, SameEdges, HasAlso, LineAdded}
use Rattle.go_type_core.proofs.Looping.{none_there, uses_both}

-- adding

pub also_pushed : (old es new : List Edge) → new ≡ old ++ es → HasAlso old es new
also_pushed old es new is e = (
  (λ h. Contains-append_cases old es e (subst (λ l. Contains l e) is h)),
  (λ h. subst (λ l. Contains l e) (sym is) (elim h [ inl o ↦ Contains-append_left old es e o | inr m ↦ Contains-append_right old es e m ])),
)

pub also_nothing : (old : List Edge) → HasAlso old [] old
also_nothing old e = ((λ h. inl h), (λ h. elim h [ inl o ↦ o | inr m ↦ absurd (none_there e m) ]))

pub also_start : (new : List Edge) → new ≡ [] → HasAlso [] [] new
also_start new none = subst (λ l. HasAlso [] [] l) (sym none) (also_nothing [])

pub also_both : (old es mid ks new : List Edge) → HasAlso old es mid → HasAlso mid ks new → HasAlso old (es ++ ks) new
also_both old es mid ks new first then_ e = (
  (λ h. elim ((then_ e).0 h) [
    | inl m ↦ elim ((first e).0 m) [ inl o ↦ inl o | inr k ↦ inr (Contains-append_left es ks e k) ]
    | inr k ↦ inr (Contains-append_right es ks e k)
  ]),
  (λ h. elim h [
    | inl o ↦ (then_ e).1 (inl ((first e).1 (inl o)))
    | inr k ↦ elim (Contains-append_cases es ks e k) [ inl a ↦ (then_ e).1 (inl ((first e).1 (inr a))) | inr b ↦ (then_ e).1 (inr b) ]
  ]),
)

pub also_same : (es new : List Edge) → HasAlso [] es new → SameEdges new es
also_same es new also e = ((λ h. elim ((also e).0 h) [ inl o ↦ absurd (none_there e o) | inr m ↦ m ]), (λ h. (also e).1 (inr h)))

-- fields of lines

module _ (keys : List DeclKey) (from : ℕ) (ls : List Line) where
  abbrev line_uses : ℕ → List Edge
  line_uses n = uses_from keys from (direct_keys (line_at ls n).term)

  -- the edges of the line that was met last are there
  abbrev pub KnowsUses : List Edge → Option ℕ → Type 0
  KnowsUses edges None = Unit {0}
  KnowsUses edges (Some n) = (e : Edge) → Contains (line_uses n) e → Contains edges e

  here : (met : Option ℕ) (n : ℕ) (mid after : List Edge) → KnowsUses mid met → LineAdded (line_uses n) met n mid after → HasAlso mid (line_uses n) after
  here met n mid after knows (inl h) =
      let known : KnowsUses mid (Some n) = subst (KnowsUses mid) h.0 knows in
      subst (λ l. HasAlso mid (line_uses n) l) (sym h.1) (λ e. ((λ k. inl k), (λ k. elim k [ inl o ↦ o | inr m ↦ known e m ])))
  here met n mid after knows (inr h) = h

  fields_more : (fs : List Field) (f : Field) → direct_fields (fields_in ls (fs ++ f ∷ [])) ≡ direct_fields (fields_in ls fs) ++ direct_keys (line_at ls f.line).term
  fields_more [] f = append-nil (direct_keys (line_at ls f.line).term)
  fields_more (g ∷ fs) f = ap (λ l. direct_keys (line_at ls g.line).term ++ l) (fields_more fs f) ∙ sym (append_assoc (direct_keys (line_at ls g.line).term) (direct_fields (fields_in ls fs)) (direct_keys (line_at ls f.line).term))

  abbrev pub FieldsSoFar : List Edge → List Field → List Edge → Option ℕ → Type 0
  FieldsSoFar before fs edges met = HasAlso before (uses_from keys from (direct_fields (fields_in ls fs))) edges × KnowsUses edges met

  pub fields_step : (before mid after : List Edge) (met : Option ℕ) (fs : List Field) (n : ℕ) (f : Field) → n < length fs → f ≡ get_or fs n f → FieldsSoFar before (take n fs) mid met → LineAdded (line_uses f.line) met f.line mid after → FieldsSoFar before (take (n + 1) fs) after (Some f.line)
  fields_step before mid after met fs n f lt is h added =
      let more : take (n + 1) fs ≡ take n fs ++ f ∷ [] = take_more fs n f lt ∙ ap (λ x. take n fs ++ x ∷ []) (sym is) in
      let sum : uses_from keys from (direct_fields (fields_in ls (take n fs))) ++ line_uses f.line ≡ uses_from keys from (direct_fields (fields_in ls (take (n + 1) fs))) =
      sym (ap (λ l. uses_from keys from (direct_fields (fields_in ls l))) more ∙ (ap (uses_from keys from) (fields_more (take n fs) f) ∙ uses_both keys from (direct_fields (fields_in ls (take n fs))) (direct_keys (line_at ls f.line).term))) in
      let also = here met f.line mid after h.1 added in
      (subst (λ l. HasAlso before l after) sum (also_both before (uses_from keys from (direct_fields (fields_in ls (take n fs)))) mid (line_uses f.line) after h.0 also), λ e k. (also e).1 (inr k))

  pub fields_whole : (before after : List Edge) (met : Option ℕ) (fs items : List Field) (n : ℕ) → fs ≡ items → length fs ≤ n → FieldsSoFar before (take n fs) after met → HasAlso before (uses_from keys from (direct_fields (fields_in ls items))) after
  fields_whole before after met fs items n e le h = subst (λ l. HasAlso before (uses_from keys from (direct_fields (fields_in ls l))) after) (take_all n fs le ∙ e) h.0

-- graphs of the same edges

pub range_same : (n : ℕ) (xs ys : List Edge) → SameEdges xs ys → InRange n ys → InRange n xs
range_same n xs ys same all k d lt = All-contains (λ (e : Edge). (e.from < n) × (e.to < n)) ys (get_or xs k d) all ((same (get_or xs k d)).0 (Contains-get_or xs k d lt))

leads_same : (xs ys : List Edge) → SameEdges xs ys → (es : List Edge) (a b : ℕ) → Leads xs es a b → Leads ys es a b
leads_same xs ys same [] a b h = h
leads_same xs ys same (e ∷ es) a b h = ((same e).0 h.0, h.1, leads_same xs ys same es e.to b h.2)

cycle_same : (xs ys : List Edge) → SameEdges xs ys → (e : Edge) → IsOnCycle xs e → IsOnCycle ys e
cycle_same xs ys same e (inl h) = inl h
cycle_same xs ys same e (inr h) = inr (h.0, leads_same xs ys same h.0 e.to e.from h.1)

turned : (xs ys : List Edge) → SameEdges xs ys → SameEdges ys xs
turned xs ys same e = ((same e).1, (same e).0)

pub ranking_same : (xs ys : List Edge) (ranks : List ℕ) → SameEdges xs ys → IsRanking xs ranks → IsRanking ys ranks
ranking_same xs ys ranks same all k d lt =
    let e = get_or ys k d in
    let r = All-contains (IsRanked xs ranks) xs e all ((same e).1 (Contains-get_or ys k d lt)) in
    (r.0, ((λ q. cycle_same xs ys same e (r.1.0 q)), (λ c. r.1.1 (cycle_same ys xs (turned xs ys same) e c))))

loop_same : (xs ys : List Edge) → SameEdges xs ys → (i : ℕ) → HasLoop xs xs i → HasLoop ys ys i
loop_same xs ys same i h = (h.0, (same h.0).0 h.1, h.2, cycle_same xs ys same h.0 h.3)

pub marks_same : (xs ys : List Edge) (count : ℕ) (marks : List Bool) → SameEdges xs ys → MarksTo xs xs count marks → MarksTo ys ys count marks
marks_same xs ys count marks same m = record {
  as_many = m.as_many;
  each = λ i. ((λ h. loop_same xs ys same i ((m.each i).0 h)), (λ h. (m.each i).1 (loop_same ys xs (turned xs ys same) i h)));
}

-- types one by one

all_more : (keys : List DeclKey) (i n : ℕ) (ws : List Entry) (w : Entry) → i + length ws ≡ n → all_uses keys i (ws ++ w ∷ []) ≡ all_uses keys i ws ++ uses_from keys n (direct_keys w.term)
all_more keys i n [] w e = (let same : i ≡ n = omega (arith, e) in append-nil (uses_from keys i (direct_keys w.term)) ∙ ap (λ x. uses_from keys x (direct_keys w.term)) same)
all_more keys i n (v ∷ ws) w e = ap (λ l. uses_from keys i (direct_keys v.term) ++ l) (all_more keys (suc i) n ws w (omega (arith, e))) ∙ sym (append_assoc (uses_from keys i (direct_keys v.term)) (all_uses keys (suc i) ws) (uses_from keys n (direct_keys w.term)))

pub all_step : (keys : List DeclKey) (mid after : List Edge) (es : List TypeEntry) (n : ℕ) (e : TypeEntry) → n < length es → e ≡ get_or es n e → HasAlso [] (all_uses keys 0 (map entry_shown (take n es))) mid → HasAlso mid (uses_from keys n (direct_keys (shape e.term))) after → HasAlso [] (all_uses keys 0 (map entry_shown (take (n + 1) es))) after
all_step keys mid after es n e lt is h k =
    let count : length (map entry_shown (take n es)) ≡ n = length-map (take n es) entry_shown ∙ length-take-le n es (omega (arith, lt)) in
    let more : map entry_shown (take (n + 1) es) ≡ map entry_shown (take n es) ++ entry_shown e ∷ [] = map_more entry_shown es n e lt ∙ ap (λ x. map entry_shown (take n es) ++ entry_shown x ∷ []) (sym is) in
    subst (λ l. HasAlso [] l after) (sym (all_more keys 0 n (map entry_shown (take n es)) (entry_shown e) (omega (arith, count))) ∙ ap (all_uses keys 0) (sym more))
    (also_both [] (all_uses keys 0 (map entry_shown (take n es))) mid (uses_from keys n (direct_keys (shape e.term))) after h k)

pub all_whole : (keys : List DeclKey) (made : List Edge) (es : List TypeEntry) (n : ℕ) → length es ≤ n → HasAlso [] (all_uses keys 0 (map entry_shown (take n es))) made → SameEdges made (all_uses keys 0 (map entry_shown es))
all_whole keys made es n le h = also_same (all_uses keys 0 (map entry_shown es)) made (subst (λ l. HasAlso [] (all_uses keys 0 (map entry_shown l)) made) (take_all n es le) h)
