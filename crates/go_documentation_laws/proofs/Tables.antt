-- What a package sees of types, as what is told by those that it reaches and by itself.
use Rattle.std.proofs.Common.{◌≡◌, ◌⊎◌, ℕ, inl, inr, List, [], ◌∷◌, ◌++◌, Option, Some, refl, sym, ap, subst, ◌∙◌}
use Rattle.std.specs.Prelude.{AllPairs, Contains, slice_get}
use Rattle.std.proofs.lemmas.List.Kept.{AllPairs-cons}
use Rattle.go_graph_core.specs.Plans.{IsPlan, PlanModel}
use Rattle.go_graph_core.specs.Workspaces.{IsWorkspace, PackageModel}
use Rattle.go_term_core.specs.decl_core.declared.keys.DeclKey.{DeclKey}
use Rattle.go_term_core.specs.Terms.{Term, term_keys}
use Rattle.go_typexpr_core.proofs.EntryAmong.{Among, among_cases, among_from, among_left, among_map, among_right, among_to, map_among}
use Rattle.go_typexpr_core.proofs.EntryNumbered.{flat_map-push}
use Rattle.go_summary_core.specs.Summaries.{IsOfOne, SummaryModel, path_of}
use Rattle.go_summary_core.specs.Views.{types_told}
use Rattle.go_summary_core.specs.table_core.Entries.{Entry, entry_keys, find_entry}
use Rattle.go_summary_core.specs.table_core.Laws.{AgreeFrom, LeadsTo}
use Rattle.go_package_core.specs.package_part.Inputs.{path_in}
use Rattle.go_package_core.specs.package_part.Parts.{PartModel}
use Rattle.go_snap_core.specs.whole_workspace.LocalLaws.{CheckIsLocal, ImportsBindTheirs}
use Rattle.go_snap_core.specs.whole_workspace.mirrors.Steps.{AreRight}
use Rattle.go_snap_core.proofs.WholeWorkspaceLists.{all_from_among, among_all, pairs_head, pairs_tail}
use Rattle.go_snap_core.proofs.WholeWorkspaceOrder.{reaches_on}
use Rattle.go_snap_core.proofs.WholeWorkspaceParts.{all_inside, none_reached, of_one, path_told, reach_paths, told_by, told_to, well_reached}
use Rattle.go_snap_core.proofs.WholeWorkspaceTold.{AreWell, IsTold, NoneIsOf, mentions, told_wider}
use Rattle.go_type_doc_core.specs.Naming.{types_seen}

-- ways from types of some packages stay among these, where their types mention types of these alone

module _ (es : List Entry) (Inside : List ℕ → Type 0) (mention : (key : DeclKey) (e : Entry) (j : DeclKey) → Inside key.path → find_entry es key ≡ Some e → Contains (entry_keys e) j → Inside j.path) where
  leads_in : (mentioned js : List DeclKey) (k : DeclKey) → ((j : DeclKey) → Contains mentioned j → Inside j.path) → LeadsTo (find_entry es) mentioned js k → Inside k.path
  leads_in mentioned [] k all h = all k h
  leads_in mentioned (j ∷ js) k all h = leads_in (entry_keys h.1.0) js k (λ i at. mention j h.1.0 i (all j h.0) h.1.1 at) h.1.2

  pub agree_from : (fs : List Entry) → ((k : DeclKey) → Inside k.path → find_entry es k ≡ find_entry fs k) → (t : Term) → ((j : DeclKey) → Contains (term_keys t) j → Inside j.path) → AgreeFrom (find_entry es) (find_entry fs) t
  agree_from fs same t all = λ k r. same k (leads_in (term_keys t) r.0 k all r.1)

-- one more behind others that are apart from it
apart_more : {A : Type 0} (R : A → A → Type 0) (xs : List A) (x : A) → AllPairs R xs → ((y : A) → Among xs y → R y x) → AllPairs R (xs ++ x ∷ [])
apart_more R [] x pairs h = AllPairs-cons R x [] (all_from_among (R x) [] (λ y a. absurd a)) pairs
apart_more {A = A} R (y ∷ xs) x pairs h =
    AllPairs-cons R y (xs ++ x ∷ []) (all_from_among (R y) (xs ++ x ∷ []) (λ z a. by z (among_cases xs (x ∷ []) z a)))
    (apart_more R xs x (pairs_tail R y xs pairs) (λ z a. h z (inr a)))
  where
    by : (z : A) → Among xs z ⊎ Among (x ∷ []) z → R y z
    by z (inl a) = pairs_head R y xs pairs z a
    by z (inr (inl e)) = subst (R y) e (h y (inl refl))
    by z (inr (inr never)) = absurd never

-- what the packages tell that a package reaches, and what it tells itself
abbrev pub seen : PartModel → List SummaryModel
seen p = p.input.reached ++ p.content.summary ∷ []

pub types_are : (p : PartModel) → types_told (seen p) ≡ types_seen p
types_are p = flat_map-push (λ (s : SummaryModel). s.types.entries) p.input.reached p.content.summary

module _ (local : CheckIsLocal) (bind : ImportsBindTheirs) (ps : List PackageModel) (parts : List (Option PartModel)) (well : IsWorkspace ps) (right : AreRight ps parts) (plan : PlanModel) (planned : IsPlan ps plan)
    (n : ℕ) (p : PartModel) (there : slice_get parts n ≡ Some (Some p)) where
  abbrev own : SummaryModel
  own = p.content.summary

  pub own_path : path_of own ≡ path_in p.input
  own_path = path_told ps parts well right n own (record { of_part = p; there = there; is = refl })

  none : NoneIsOf p.input.reached (path_in p.input)
  none =
      none_reached ps parts well right n p.input (right n p there).input bind plan planned (right n p there).numbered
      (λ m q reached at. all_inside ps parts well right local bind plan planned m q at)

  pub well_seen : AreWell (seen p)
  well_seen =
      let reached = well_reached ps parts well right n p.input (right n p there).input in
      record {
        apart = apart_more (λ s t. path_of s ≡ path_of t → ⊥) p.input.reached own reached.apart
            (λ s a same. among_all (λ (t : SummaryModel). path_in p.input ≡ path_of t → ⊥) p.input.reached s none a (sym own_path ∙ sym same));
        own = all_from_among IsOfOne (seen p) (λ s a. one_of s (among_cases p.input.reached (own ∷ []) s a));
      }
    where
      one_of : (s : SummaryModel) → Among p.input.reached s ⊎ Among (p.content.summary ∷ []) s → IsOfOne s
      one_of s (inl a) = among_all IsOfOne p.input.reached s (well_reached ps parts well right n p.input (right n p there).input).own a
      one_of s (inr (inl e)) = subst IsOfOne e (of_one ps parts well right n p there)
      one_of s (inr (inr never)) = absurd never

  -- types of the package and of those that it reaches
  abbrev pub Inside : List ℕ → Type 0
  Inside path = Contains (reach_paths p.input) path

  pub own_inside : IsTold Inside own
  own_inside = all_inside ps parts well right local bind plan planned n p there

  in_paths : (s : SummaryModel) → Among p.input.reached s → Inside (path_of s)
  in_paths s a = among_to (reach_paths p.input) (path_of s) (inr (map_among path_of p.input.reached (path_of s) s a refl))

  -- what a package tells that is reached mentions types of these alone
  told_inside : (s : SummaryModel) → Among p.input.reached s → IsTold Inside s
  told_inside s a =
      let by = told_by ps parts well right n p.input (right n p there).input s a in
      let q = by.tells.of_part in
      subst (IsTold Inside) (sym by.tells.is)
      (told_wider (Contains (reach_paths q.input)) Inside (λ path c. widen path (among_from (reach_paths q.input) path c)) q.content.summary (all_inside ps parts well right local bind plan planned by.number q by.tells.there))
    where
      widen : (path : List ℕ) → Among (reach_paths (told_by ps parts well right n p.input (right n p there).input s a).tells.of_part.input) path → Inside path
      widen path (inl e) =
          let by = told_by ps parts well right n p.input (right n p there).input s a in
          subst Inside (path_told ps parts well right by.number s by.tells ∙ e) (in_paths s a)
      widen path (inr c) =
          let by = told_by ps parts well right n p.input (right n p there).input s a in
          let q = by.tells.of_part in
          let t = among_map path_of q.input.reached path c in
          let deeper = told_by ps parts well right by.number q.input (right by.number q by.tells.there).input t.0 t.1 in
          subst Inside t.2
          (in_paths t.0 (told_to ps parts well right n p.input (right n p there).input deeper.number t.0 (reaches_on ps n by.number deeper.number by.reached deeper.reached) deeper.tells))

  -- of each of these packages there is what it tells
  pub record IsNamed (path : List ℕ) : Type 0 where
    pub summary : SummaryModel
    pub among : Among (seen p) summary
    pub is : path_of summary ≡ path
    pub inside : IsTold Inside summary

  by_path : (path : List ℕ) → Among (reach_paths p.input) path → IsNamed path
  by_path path (inl e) = record { summary = own; among = among_right p.input.reached (own ∷ []) own (inl refl); is = own_path ∙ e; inside = own_inside }
  by_path path (inr a) =
      let t = among_map path_of p.input.reached path a in
      record { summary = t.0; among = among_left p.input.reached (own ∷ []) t.0 t.1; is = t.2; inside = told_inside t.0 t.1 }

  pub named : (path : List ℕ) → Inside path → IsNamed path
  named path c = by_path path (among_from (reach_paths p.input) path c)

  -- so the types that it sees mention types of these
  pub mention : (key : DeclKey) (e : Entry) (j : DeclKey) → Inside key.path → find_entry (types_seen p) key ≡ Some e → Contains (entry_keys e) j → Inside j.path
  mention key e j here is at =
      let all = mentions Inside (seen p) well_seen (λ path c. (let m = named path c in inl (record { summary = m.summary; there = among_to (seen p) m.summary m.among; is = m.is; inside = m.inside }))) in
      all.types key e j here (ap (λ (es : List Entry). find_entry es key) (types_are p) ∙ is) at
