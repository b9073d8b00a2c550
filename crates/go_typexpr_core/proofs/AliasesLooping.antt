-- Types that reach themselves through aliases.
use Rattle.std.proofs.Common.{◌≡◌, ℕ, ◌⊎◌, inl, inr, ◌↔◌, Bool, true, false, List, [], ◌∷◌, ◌++◌, Option, Some, None, refl, sym, ap, ◌∙◌, subst}
use Rattle.std.specs.List.{Contains}
use Rattle.std.specs.Prelude.{if◌then◌else◌}
use Rattle.std.specs.Str.{bytes_eq}
use Rattle.std.proofs.lemmas.Slice.Eq.{bytes_eq-Decides}
use Rattle.go_term_core.specs.decl_core.declared.keys.DeclKey.{DeclKey}
use Rattle.go_term_core.specs.decl_core.declared.keys.DeclRef.{DeclRef}
use Rattle.go_term_core.specs.Terms.{Term, NoType, Predeclared, ErrorType, Defined, PointerTo, StructOf, InterfaceOf}
use Rattle.go_typexpr_core.specs.entry.Meanings.{through}
use Rattle.go_type_core.specs.Built.{direct_keys, IsLooped, Uses, UsesAlong}
use Rattle.go_type_core.specs.table_core.Entries.{Entry, find_entry}
use Rattle.go_type_core.proofs.Looping.{contains_first, none_there}
use Rattle.go_typexpr_core.specs.aliases.Aliases.{alias_in, own_alias, alias_ends, far_alone, target_by, target_or}
use Rattle.go_typexpr_core.specs.aliases.Laws.{AliasesLead, AreWithTargets, IsNamed, LoopsAgree, MeansOthers}
use Rattle.go_typexpr_core.proofs.AliasesDirect.{direct_from, direct_there, one_there}
use Rattle.go_typexpr_core.proofs.AliasesNumbers.{own_alias_by, option_cases}
use Rattle.go_typexpr_core.proofs.AliasesEnding.{none_in, target_from, target_in}

bool_cases : (b : Bool) → (b ≡ true) ⊎ (b ≡ false)
bool_cases true = inl refl
bool_cases false = inr refl

abbrev far_by : (DeclKey → Term) → DeclKey → Bool → Term
far_by far k b = if b then Defined k else far k

-- one way behind another
along_more : (ws : List Entry) (ks js : List DeclKey) (a m b : DeclKey) → UsesAlong ws a ks m → UsesAlong ws m js b → UsesAlong ws a (ks ++ m ∷ js) b
along_more ws [] js a m b u v = (u, v)
along_more ws (k ∷ ks) js a m b u v = (u.0, along_more ws ks js k m b u.1 v)

module _ (path : List ℕ) (far : DeclKey → Term) (xs : List (DeclRef × Term)) (written types : List Entry) (outside : MeansOthers path far) (are : AreWithTargets path far xs written types) where
  abbrev mean : DeclKey → Term
  mean = target_by path (alias_ends xs path) far

  abbrev mean_by : DeclKey → Bool → Term
  mean_by k b = if b then target_or k (far_alone path far) (alias_in (alias_ends xs path) k.decl) else far k

  abbrev IsType : DeclKey → Type 0
  IsType k = (e : Entry) × (find_entry types k ≡ Some e)

  same_path : (k : DeclKey) → k.path ≡ path → bytes_eq path k.path ≡ true
  same_path k e = (bytes_eq-Decides path k.path).1 (sym e)

  own_in : (k : DeclKey) (w : Term) → own_alias xs path k ≡ Some w → (bytes_eq path k.path ≡ true) × (alias_in xs k.decl ≡ Some w)
  own_in k w h = elim (bool_cases (bytes_eq path k.path)) [
    | inl t ↦ (t, sym (ap (own_alias_by xs k) t) ∙ h)
    | inr f ↦ (let both : None ≡ Some w = sym (ap (own_alias_by xs k) f) ∙ h in absurd (cc))
  ]

  type_own : (k : DeclKey) → IsType k → k.path ≡ path
  type_own k t = (are.types_are k t.0 t.1).0

  -- a type is no alias
  type_plain : (k : DeclKey) → IsType k → own_alias xs path k ≡ None
  type_plain k t = elim (option_cases (own_alias xs path k)) [
    | inl n ↦ n
    | inr w ↦ (let both : None ≡ Some t.0 = sym (are.aliases k w.0 w.1).1 ∙ t.1 in absurd (cc))
  ]

  -- it means itself
  type_mean : (m : DeclKey) → IsType m → mean m ≡ Defined m
  type_mean m t =
      let own : bytes_eq path m.path ≡ true = same_path m (type_own m t) in
      let plain : alias_in xs m.decl ≡ None = sym (ap (own_alias_by xs m) own) ∙ type_plain m t in
      ap (mean_by m) own ∙ ap (target_or m (far_alone path far)) (none_in xs path m.decl plain)

  -- and so do aliases that lead to it
  lead_mean : (x m : DeclKey) (ks : List DeclKey) → IsType m → AliasesLead xs path (Defined x) ks (Defined m) → mean x ≡ Defined m
  lead_mean x m [] t h = (let xm : x ≡ m = cc in ap mean xm ∙ type_mean m t)
  lead_mean x m (k ∷ ks) t h =
      let both : Defined x ≡ Defined k = h.0 in
      let xk : x ≡ k = cc in
      let alias : own_alias xs path x ≡ Some h.1.0 = ap (own_alias xs path) xk ∙ h.1.1 in
      let own = own_in x h.1.0 alias in
      let there : alias_in (alias_ends xs path) x.decl ≡ Some (Defined m) = target_in xs path x.decl h.1.0 (Defined m) own.1 (ks, h.1.2, type_plain m t) in
      ap (mean_by x) own.0 ∙ (ap (target_or x (far_alone path far)) there ∙ ap (far_by far m) (same_path m (type_own m t)))

  -- from what is written to targets

  -- a type uses a name that leads to m
  abbrev LeadsTo : DeclKey → DeclKey → Type 0
  LeadsTo k m = (x : DeclKey) × Uses written k x × ((ks : List DeclKey) × AliasesLead xs path (Defined x) ks (Defined m))

  leads_now : (k m : DeclKey) → Uses written k m → LeadsTo k m
  leads_now k m u = (m, u, ([], refl))

  lead_more : (t : Term) (ks : List DeclKey) (m n : DeclKey) (w : Term) → own_alias xs path m ≡ Some w → w ≡ Defined n → AliasesLead xs path t ks (Defined m) → AliasesLead xs path t (ks ++ m ∷ []) (Defined n)
  lead_more t [] m n w a e h = (h, (w, a, e))
  lead_more t (k ∷ ks) m n w a e h = (h.0, (h.1.0, h.1.1, lead_more h.1.0 ks m n w a e h.1.2))

  -- an alias uses what it is written as alone
  named_use : (w : Term) (n : DeclKey) → IsNamed w → Contains (direct_keys w) n → w ≡ Defined n
  named_use NoType n i h = absurd (none_there n h)
  named_use (Predeclared b) n i h = absurd (none_there n h)
  named_use ErrorType n i h = absurd (none_there n h)
  named_use (Defined k) n i h = ap Defined (one_there k n h)
  named_use (PointerTo t) n i h = absurd i
  named_use (StructOf p fs) n i h = absurd i
  named_use (InterfaceOf p ms) n i h = absurd (none_there n h)

  alias_use : (m n : DeclKey) (w : Term) → own_alias xs path m ≡ Some w → Uses written m n → w ≡ Defined n
  alias_use m n w a u =
      let r = are.aliases m w a in
      let both : Some r.2.0 ≡ Some u.0 = sym r.2.1 ∙ u.1 in
      let same : r.2.0 ≡ u.0 = cc in
      let term : u.0.term ≡ w = sym (ap (λ (e : Entry). e.term) same) ∙ r.2.2 in
      named_use w n r.0 (subst (λ (x : Term). Contains (direct_keys x) n) term u.2)

  leads_through : (k m n : DeclKey) (w : Term) → own_alias xs path m ≡ Some w → LeadsTo k m → Uses written m n → LeadsTo k n
  leads_through k m n w a l u = (l.0, l.1, (l.2.0 ++ m ∷ [], lead_more (Defined l.0) l.2.0 m n w a (alias_use m n w a u) l.2.1))

  use_by_targets : (k m : DeclKey) → IsType k → IsType m → LeadsTo k m → Uses types k m
  use_by_targets k m t s l =
      let r = are.types_are k t.0 t.1 in
      let both : Some r.1.0 ≡ Some l.1.0 = sym r.1.1 ∙ l.1.1 in
      let same : r.1.0 ≡ l.1.0 = cc in
      let uses : Contains (direct_keys r.1.0.term) l.0 = subst (λ (e : Entry). Contains (direct_keys e.term) l.0) (sym same) l.1.2 in
      let means : Contains (direct_keys (mean l.0)) m = subst (λ (x : Term). Contains (direct_keys x) m) (sym (lead_mean l.0 m l.2.0 s l.2.1)) (contains_first m []) in
      (t.0, t.1, subst (λ (x : Term). Contains (direct_keys x) m) (sym r.1.2) (direct_there mean r.1.0.term l.0 m uses means))

  -- what uses something is a type or an alias
  is_either : (m n : DeclKey) → Uses written m n → IsType m ⊎ ((w : Term) × (own_alias xs path m ≡ Some w))
  is_either m n u = elim (option_cases (own_alias xs path m)) [
    | inl plain ↦ elim (option_cases (find_entry types m)) [
      | inl none ↦ (let both : None ≡ Some u.0 = sym (are.others m plain none) ∙ u.1 in absurd (cc))
      | inr e ↦ inl e
    ]
    | inr w ↦ inr w
  ]

  walk : (between : List DeclKey) (k m j : DeclKey) → IsType k → IsType j → LeadsTo k m → UsesAlong written m between j → (by : List DeclKey) × UsesAlong types k by j
  walk [] k m j t s l u = elim (is_either m j u) [
    | inl i ↦ (m ∷ [], (use_by_targets k m t i l, use_by_targets m j i s (leads_now m j u)))
    | inr a ↦ ([], use_by_targets k j t s (leads_through k m j a.0 a.1 l u))
  ]
  walk (n ∷ ns) k m j t s l u = elim (is_either m n u.0) [
    | inl i ↦ (let rest = walk ns m n j i s (leads_now m n u.0) u.1 in (m ∷ rest.0, (use_by_targets k m t i l, rest.1)))
    | inr a ↦ walk ns k n j t s (leads_through k m n a.0 a.1 l u.0) u.1
  ]

  to_targets : (between : List DeclKey) (k : DeclKey) → IsType k → UsesAlong written k between k → IsLooped types k
  to_targets [] k t u = ([], use_by_targets k k t t (leads_now k k u))
  to_targets (m ∷ ms) k t u = walk ms k m k t t (leads_now k m u.0) u.1

  -- from targets to what is written

  -- a name that leads to a type of the package is written as one
  lead_named : (ks : List DeclKey) (w t : Term) → IsNamed w → AliasesLead xs path w ks t → IsNamed t
  lead_named [] w t i h = subst IsNamed h i
  lead_named (k ∷ ks) w t i h = lead_named ks h.1.0 t (are.aliases k h.1.0 h.1.1).0 h.1.2

  far_use : (y m : DeclKey) (b : Bool) → bytes_eq path y.path ≡ b → m.path ≡ path → Contains (direct_keys (far_by far y b)) m → y ≡ m
  far_use y m true t own h = one_there y m h
  far_use y m false t own h = absurd (outside y m (λ e. (let both : false ≡ true = sym t ∙ same_path y e in cc)) h own)

  through_use : (t : Term) (m : DeclKey) → IsNamed t → m.path ≡ path → Contains (direct_keys (through (far_alone path far) t)) m → t ≡ Defined m
  through_use NoType m i own h = absurd (none_there m h)
  through_use (Predeclared b) m i own h = absurd (none_there m h)
  through_use ErrorType m i own h = absurd (none_there m h)
  through_use (Defined y) m i own h = ap Defined (far_use y m (bytes_eq path y.path) refl own h)
  through_use (PointerTo t) m i own h = absurd i
  through_use (StructOf p fs) m i own h = absurd i
  through_use (InterfaceOf p ms) m i own h = absurd (none_there m h)

  abbrev LeadsFrom : DeclKey → DeclKey → Type 0
  LeadsFrom x m = (ks : List DeclKey) × AliasesLead xs path (Defined x) ks (Defined m)

  target_lead : (x m : DeclKey) (o : Option Term) → bytes_eq path x.path ≡ true → alias_in (alias_ends xs path) x.decl ≡ o → m.path ≡ path
      → Contains (direct_keys (target_or x (far_alone path far) o)) m → LeadsFrom x m
  target_lead x m None own at p h = ([], ap Defined (one_there x m h))
  target_lead x m (Some t) own at p h =
      let f = target_from xs path x.decl t at in
      let alias : own_alias xs path x ≡ Some f.0 = ap (own_alias_by xs x) own ∙ f.1 in
      elim f.2 [
        | inl g ↦
            (let is : t ≡ Defined m = through_use t m (lead_named g.0 f.0 t (are.aliases x f.0 alias).0 g.1) p h in
            (x ∷ g.0, (refl, (f.0, alias, subst (AliasesLead xs path f.0 g.0) is g.1))))
        | inr n ↦ absurd (none_there m (subst (λ (y : Term). Contains (direct_keys (through (far_alone path far) y)) m) n.0 h))
      ]

  mean_lead_by : (x m : DeclKey) (b : Bool) → bytes_eq path x.path ≡ b → m.path ≡ path → Contains (direct_keys (mean_by x b)) m → LeadsFrom x m
  mean_lead_by x m true t p h = target_lead x m (alias_in (alias_ends xs path) x.decl) t refl p h
  mean_lead_by x m false t p h = absurd (outside x m (λ e. (let both : false ≡ true = sym t ∙ same_path x e in cc)) h p)

  mean_lead : (x m : DeclKey) → m.path ≡ path → Contains (direct_keys (mean x)) m → LeadsFrom x m
  mean_lead x m p h = mean_lead_by x m (bytes_eq path x.path) refl p h

  -- aliases one behind the other use one another
  next_name : (w : Term) (ks : List DeclKey) (m : DeclKey) → AliasesLead xs path w ks (Defined m) → (z : DeclKey) × (w ≡ Defined z)
  next_name w [] m h = (m, h)
  next_name w (z ∷ ks) m h = (z, h.0)

  alias_on : (x z : DeclKey) (w : Term) → own_alias xs path x ≡ Some w → w ≡ Defined z → Uses written x z
  alias_on x z w a e =
      let r = are.aliases x w a in
      let uses : Contains (direct_keys w) z = subst (λ (t : Term). Contains (direct_keys t) z) (sym e) (contains_first z []) in
      (r.2.0, r.2.1, subst (λ (t : Term). Contains (direct_keys t) z) (sym r.2.2) uses)

  chain_uses : (ks : List DeclKey) (k x m : DeclKey) → Uses written k x → AliasesLead xs path (Defined x) ks (Defined m) → (by : List DeclKey) × UsesAlong written k by m
  chain_uses [] k x m u h = (let xm : x ≡ m = cc in ([], subst (Uses written k) xm u))
  chain_uses (y ∷ ks) k x m u h =
      let both : Defined x ≡ Defined y = h.0 in
      let xy : x ≡ y = cc in
      let z = next_name h.1.0 ks m h.1.2 in
      let on : Uses written x z.0 = alias_on x z.0 h.1.0 (ap (own_alias xs path) xy ∙ h.1.1) z.1 in
      let rest = chain_uses ks x z.0 m on (subst (λ (t : Term). AliasesLead xs path t ks (Defined m)) z.1 h.1.2) in
      (x ∷ rest.0, (u, rest.1))

  use_written : (k m : DeclKey) → m.path ≡ path → Uses types k m → (by : List DeclKey) × UsesAlong written k by m
  use_written k m p u =
      let r = are.types_are k u.0 u.1 in
      let from = direct_from mean r.1.0.term m (subst (λ (t : Term). Contains (direct_keys t) m) r.1.2 u.2) in
      let lead = mean_lead from.0 m p from.2 in
      chain_uses lead.0 k from.0 m (r.1.0, r.1.1, from.1) lead.1

  first_own : (between : List DeclKey) (m j : DeclKey) → UsesAlong types m between j → m.path ≡ path
  first_own [] m j u = type_own m (u.0, u.1)
  first_own (n ∷ ns) m j u = type_own m (u.0.0, u.0.1)

  to_written : (between : List DeclKey) (k j : DeclKey) → j.path ≡ path → UsesAlong types k between j → (by : List DeclKey) × UsesAlong written k by j
  to_written [] k j p u = use_written k j p u
  to_written (m ∷ ms) k j p u =
      let first = use_written k m (first_own ms m j u.1) u.0 in
      let rest = to_written ms m j p u.1 in
      (first.0 ++ m ∷ rest.0, along_more written first.0 rest.0 k m j first.1 rest.1)

  pub agree : (k : DeclKey) (e : Entry) → find_entry types k ≡ Some e → IsLooped written k ↔ IsLooped types k
  agree k e h = ((λ l. to_targets l.0 k (e, h) l.1), (λ l. to_written l.0 k k (type_own k (e, h)) l.1))

pub loops_agree : LoopsAgree
loops_agree path far xs written types outside are k e h = agree path far xs written types outside are k e h
