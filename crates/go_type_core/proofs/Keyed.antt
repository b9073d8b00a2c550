-- Keys, their numbers, and tables that are made item by item.
use Rattle.std.proofs.Common.{◌≡◌, ℕ, zero, suc, ◌+◌, ◌<◌, ◌≤◌, inl, inr, ◌↔◌, Bool, true, false, List, [], ◌∷◌, ◌++◌, Option, Some, None, option_map, map, length, get_or, take, refl, sym, ap, ◌∙◌, subst, arith}
use Rattle.std.specs.Prelude.{slice_get, if◌then◌else◌, ⊤}
use Rattle.std.specs.List.Sorted.{IsPartitionPoint, IsPartitionedBy}
use Rattle.std.proofs.lemmas.List.{length_push, map_more, take_all}
use Rattle.std.proofs.lemmas.Bool.{cases_eq, cases_order, false_from_ne_true}
use Rattle.std.proofs.lemmas.Option.{slice_get_within, slice_get-map, slice_get-get_or, get_or_from_slice_get}
use Rattle.go_term_core.specs.decl_core.declared.keys.DeclKey.{DeclKey}
use Rattle.go_term_core.specs.decl_core.declared.keys.DeclRef.{DeclRef}
use Rattle.go_table_core.specs.Entries.{Entry, same_key, find_entry}
use Rattle.go_table_core.specs.declared.entry.TypeEntry.{TypeEntry}
use Rattle.go_table_core.specs.Shown.{entry_shown}
use Rattle.go_table_core.specs.Tables.{AreOf, KeysRise}
use Rattle.go_table_core.proofs.Keys.{not_before_itself, ref_before_on, rise_first, rise_rest, same_key_from, same_key_itself, same_key_true}
use Rattle.go_type_core.specs.mirrors.Numbers.{keys_of, keys_in, number_of, RefsRise, IsTable}
use Rattle.go_term_core.specs.decl_core.Order.{is_ref_before}

-- an entry that stands at a number, which is its key's
pub record At (es : List Entry) (k : DeclKey) (i : ℕ) (e : Entry) : Type 0 where
  pub numbered : number_of (keys_of es) k ≡ Some i
  pub stands : slice_get es i ≡ Some e
  pub found : find_entry es k ≡ Some e
  pub key : e.key ≡ k

abbrev number_by : List Entry → DeclKey → Bool → Option ℕ
number_by es k b = if b then Some 0 else option_map suc (number_of (keys_of es) k)

abbrev found_by : Entry → List Entry → DeclKey → Bool → Option Entry
found_by w es k b = if b then Some w else find_entry es k

at_first : (w : Entry) (es : List Entry) (k : DeclKey) → same_key w.key k ≡ true → At (w ∷ es) k 0 w
at_first w es k t = record {
  numbered = ap (number_by es k) t;
  stands = refl;
  found = ap (found_by w es k) t;
  key = same_key_true w.key k t;
}

pub found_first : (w : Entry) (es : List Entry) (k : DeclKey) → same_key w.key k ≡ true → find_entry (w ∷ es) k ≡ Some w
found_first w es k t = ap (found_by w es k) t

at_later : (w : Entry) (es : List Entry) (k : DeclKey) (i : ℕ) (e : Entry) → same_key w.key k ≡ false → At es k i e → At (w ∷ es) k (suc i) e
at_later w es k i e t h = record {
  numbered = ap (number_by es k) t ∙ ap (option_map suc) h.numbered;
  stands = h.stands;
  found = ap (found_by w es k) t ∙ h.found;
  key = h.key;
}

found_step : (w : Entry) (es : List Entry) (k : DeclKey) (e : Entry) (b : Bool) → same_key w.key k ≡ b → (find_entry es k ≡ Some e → (i : ℕ) × At es k i e) → find_entry (w ∷ es) k ≡ Some e → (i : ℕ) × At (w ∷ es) k i e
found_step w es k e true t more h =
    let same : Some w ≡ Some e = sym (ap (found_by w es k) t) ∙ h in
    let we : w ≡ e = cc in
    (0, subst (λ (x : Entry). At (w ∷ es) k 0 x) we (at_first w es k t))
found_step w es k e false t more h =
    let rest = more (sym (ap (found_by w es k) t) ∙ h) in
    (suc rest.0, at_later w es k rest.0 e t rest.1)

pub at_found : (es : List Entry) (k : DeclKey) (e : Entry) → find_entry es k ≡ Some e → (i : ℕ) × At es k i e
at_found [] k e h = absurd (cc)
at_found (w ∷ es) k e h = found_step w es k e (same_key w.key k) refl (at_found es k e) h

later_number : (w : Entry) (es : List Entry) (k : DeclKey) (i : ℕ) (o : Option ℕ) → same_key w.key k ≡ false → number_of (keys_of es) k ≡ o → ((j : ℕ) → number_of (keys_of es) k ≡ Some j → (e : Entry) × At es k j e) → option_map suc o ≡ Some i → (e : Entry) × At (w ∷ es) k i e
later_number w es k i None t o more h = absurd (cc)
later_number w es k i (Some j) t o more h =
    let ji : suc j ≡ i = cc in
    let rest = more j o in
    (rest.0, subst (λ (x : ℕ). At (w ∷ es) k x rest.0) ji (at_later w es k j rest.0 t rest.1))

number_step : (w : Entry) (es : List Entry) (k : DeclKey) (i : ℕ) (b : Bool) → same_key w.key k ≡ b → ((j : ℕ) → number_of (keys_of es) k ≡ Some j → (e : Entry) × At es k j e) → number_of (keys_of (w ∷ es)) k ≡ Some i → (e : Entry) × At (w ∷ es) k i e
number_step w es k i true t more h =
    let same : Some 0 ≡ Some i = sym (ap (number_by es k) t) ∙ h in
    let zi : 0 ≡ i = cc in
    (w, subst (λ (x : ℕ). At (w ∷ es) k x w) zi (at_first w es k t))
number_step w es k i false t more h = later_number w es k i (number_of (keys_of es) k) t refl more (sym (ap (number_by es k) t) ∙ h)

pub at_number : (es : List Entry) (k : DeclKey) (i : ℕ) → number_of (keys_of es) k ≡ Some i → (e : Entry) × At es k i e
at_number [] k i h = absurd (cc)
at_number (w ∷ es) k i h = number_step w es k i (same_key w.key k) refl (at_number es k) h

not_found_by : (es : List Entry) (k : DeclKey) (o : Option Entry) → find_entry es k ≡ o → number_of (keys_of es) k ≡ None → find_entry es k ≡ None
not_found_by es k None f h = f
not_found_by es k (Some e) f h = (let at = at_found es k e f in let n : Some at.0 ≡ None = sym at.1.numbered ∙ h in absurd (cc))

-- what has no number is not found
pub not_found : (es : List Entry) (k : DeclKey) → number_of (keys_of es) k ≡ None → find_entry es k ≡ None
not_found es k h = not_found_by es k (find_entry es k) refl h

not_numbered_by : (es : List Entry) (k : DeclKey) (o : Option ℕ) → number_of (keys_of es) k ≡ o → find_entry es k ≡ None → number_of (keys_of es) k ≡ None
not_numbered_by es k None n h = n
not_numbered_by es k (Some i) n h = (let at = at_number es k i n in let f : Some at.0 ≡ None = sym at.1.found ∙ h in absurd (cc))

pub not_numbered : (es : List Entry) (k : DeclKey) → find_entry es k ≡ None → number_of (keys_of es) k ≡ None
not_numbered es k h = not_numbered_by es k (number_of (keys_of es) k) refl h

-- keys that differ

-- no two entries have one key
abbrev pub Apart : List Entry → Type 0
Apart [] = ⊤
Apart (w ∷ es) = ((i : ℕ) (e : Entry) → slice_get es i ≡ Some e → w.key ≡ e.key → ⊥) × Apart es

stands_step : (w : Entry) (es : List Entry) (i : ℕ) (e : Entry) (b : Bool) → same_key w.key e.key ≡ b → (w.key ≡ e.key → ⊥) → At es e.key i e → At (w ∷ es) e.key (suc i) e
stands_step w es i e true t apart at = absurd (apart (same_key_true w.key e.key t))
stands_step w es i e false t apart at = at_later w es e.key i e t at

-- the number of an entry's key is where it stands
pub at_place : (es : List Entry) (i : ℕ) (e : Entry) → Apart es → slice_get es i ≡ Some e → At es e.key i e
at_place [] i e apart h = absurd (cc)
at_place (w ∷ es) zero e apart h =
    let we : w ≡ e = cc in
    subst (λ (x : Entry). At (w ∷ es) x.key 0 x) we (at_first w es w.key (same_key_itself w.key))
at_place (w ∷ es) (suc i) e apart h = stands_step w es i e (same_key w.key e.key) refl (apart.0 i e h) (at_place es i e apart.1 h)

pub rise_apart : (es : List Entry) → KeysRise es → Apart es
rise_apart [] rise = tt
rise_apart (w ∷ es) rise = ((λ i e h same. not_before_itself w.key.decl e.key.decl (ap (λ k. k.decl) same) (rise_first w es rise i e h)), rise_apart es (rise_rest w es rise))

-- tables

pub slice_get_here : {A : Type 0} (xs : List A) (y : A) → slice_get (xs ++ y ∷ []) (length xs) ≡ Some y
slice_get_here [] y = refl
slice_get_here (x ∷ xs) y = slice_get_here xs y

slice_get_before : {A : Type 0} (xs : List A) (y : A) (i : ℕ) → i < length xs → slice_get (xs ++ y ∷ []) i ≡ slice_get xs i
slice_get_before [] y i lt = absurd (omega (arith, lt))
slice_get_before (x ∷ xs) y zero lt = refl
slice_get_before (x ∷ xs) y (suc i) lt = slice_get_before xs y i (omega (arith, lt))

pub table_none : {A : Type 0} (xs : List A) (f : ℕ → A) → xs ≡ [] → IsTable xs 0 f
table_none xs f e = record { as_many = ap length e; each = λ i lt. absurd (omega (arith, lt)) }

table_here : {A : Type 0} (xs : List A) (n : ℕ) (f : ℕ → A) (y : A) (i : ℕ) → length xs ≡ n → y ≡ f n → i ≡ n → slice_get (xs ++ y ∷ []) i ≡ Some (f i)
table_here xs n f y i count is e = ap (slice_get (xs ++ y ∷ [])) (e ∙ sym count) ∙ (slice_get_here xs y ∙ ap Some (is ∙ ap f (sym e)))

pub table_more : {A : Type 0} (xs : List A) (n : ℕ) (f : ℕ → A) (y : A) → IsTable xs n f → y ≡ f n → IsTable (xs ++ y ∷ []) (n + 1) f
table_more xs n f y t is = record {
  as_many = length_push xs y ∙ ap (λ m. m + 1) t.as_many;
  each = λ i lt. elim (cases_eq i n) [
    | inl e ↦ table_here xs n f y i t.as_many is e
    | inr ne ↦ (let below : i < n = omega (arith, lt, ne) in let count = t.as_many in slice_get_before xs y i (omega (arith, below, count)) ∙ t.each i below)
  ];
}

pub table_at : {A : Type 0} (xs : List A) (n : ℕ) (f : ℕ → A) (d : A) (i : ℕ) → IsTable xs n f → i < n → get_or xs i d ≡ f i
table_at xs n f d i t lt = get_or_from_slice_get xs i (f i) d (t.each i lt)

-- numbers of keys of one package

pub number_first : (js : List DeclKey) (k : DeclKey) (i : ℕ) → slice_get js i ≡ Some k → ((m : ℕ) (x : DeclKey) → m < i → slice_get js m ≡ Some x → x ≡ k → ⊥) → number_of js k ≡ Some i
number_first [] k i at below = absurd (cc)
number_first (j ∷ js) k zero at below = (let jk : j ≡ k = cc in ap (λ b. if b then Some zero else option_map suc (number_of js k)) (same_key_from j k jk))
number_first (j ∷ js) k (suc i) at below =
    let rest : number_of js k ≡ Some i = number_first js k i at (λ m x lt at' e. below (suc m) x (omega (arith, lt)) at' e) in
    let other : same_key j k ≡ false = false_from_ne_true (same_key j k) (λ yes. below zero j (omega arith) refl (same_key_true j k yes)) in
    ap (λ b. if b then Some zero else option_map suc (number_of js k)) other ∙ ap (option_map suc) rest

pub number_none : (js : List DeclKey) (k : DeclKey) → ((m : ℕ) (x : DeclKey) → slice_get js m ≡ Some x → x ≡ k → ⊥) → number_of js k ≡ None
number_none [] k gone = refl
number_none (j ∷ js) k gone =
    let rest : number_of js k ≡ None = number_none js k (λ m x at e. gone (suc m) x at e) in
    let other : same_key j k ≡ false = false_from_ne_true (same_key j k) (λ yes. gone zero j refl (same_key_true j k yes)) in
    ap (λ b. if b then Some zero else option_map suc (number_of js k)) other ∙ ap (option_map suc) rest

abbrev key_in : List ℕ → DeclRef → DeclKey
key_in path d = record { path = path; decl = d }

key_at : (path : List ℕ) (ds : List DeclRef) (m : ℕ) (x : DeclKey) → slice_get (keys_in path ds) m ≡ Some x → (d : DeclRef) × (slice_get ds m ≡ Some d) × (key_in path d ≡ x)
key_at path [] m x at = absurd (cc)
key_at path (d ∷ ds) zero x at = (d, refl, (let e : key_in path d ≡ x = cc in e))
key_at path (d ∷ ds) (suc m) x at = key_at path ds m x at

module _ (path : List ℕ) (ds : List DeclRef) (k : DeclKey) (i : ℕ) (split : IsPartitionPoint (λ d. is_ref_before d k.decl ≡ true) (λ d. is_ref_before d k.decl ≡ false) ds i) where
  not_below : (m : ℕ) (x : DeclKey) → m < i → slice_get (keys_in path ds) m ≡ Some x → x ≡ k → ⊥
  not_below m x lt at e =
      let d = key_at path ds m x at in
      let same : d.0 ≡ k.decl = ap (λ (y : DeclKey). y.decl) (d.2 ∙ e) in
      let read : get_or ds m d.0 ≡ d.0 = get_or_from_slice_get ds m d.0 d.0 d.1 in
      not_before_itself d.0 k.decl same (ap (λ y. is_ref_before y k.decl) (sym read) ∙ split.0 m d.0 (omega arith) lt)

  pub number_here : slice_get ds i ≡ Some k.decl → path ≡ k.path → number_of (keys_in path ds) k ≡ Some i
  number_here at same =
      let there : slice_get (keys_in path ds) i ≡ Some (key_in path k.decl) = slice_get-map (key_in path) ds i ∙ ap (option_map (key_in path)) at in
      let is : key_in path k.decl ≡ k = λ j. record { path = same j; decl = k.decl } in
      number_first (keys_in path ds) k i (there ∙ ap Some is) not_below

  pub number_gone : RefsRise ds → (slice_get ds i ≡ Some k.decl → path ≡ k.path → ⊥) → number_of (keys_in path ds) k ≡ None
  number_gone rise not = number_none (keys_in path ds) k (λ m x at e.
      (let d = key_at path ds m x at in
      let same : d.0 ≡ k.decl = ap (λ (y : DeclKey). y.decl) (d.2 ∙ e) in
      let paths : path ≡ k.path = ap (λ (y : DeclKey). y.path) (d.2 ∙ e) in
      elim (cases_order m i) [
        | inl here ↦ not (ap (slice_get ds) (sym here) ∙ (d.1 ∙ ap Some same)) paths
        | inr apart ↦ elim apart [
          | inl below ↦ not_below m x below at e
          | inr above ↦
              let lt : m < length ds = slice_get_within ds m d.0 d.1 in
              let read : get_or ds m d.0 ≡ d.0 = get_or_from_slice_get ds m d.0 d.0 d.1 in
              let yes : is_ref_before (get_or ds i d.0) k.decl ≡ true = ap (is_ref_before (get_or ds i d.0)) (sym (read ∙ same)) ∙ rise i m d.0 above lt in
              let no : is_ref_before (get_or ds i d.0) k.decl ≡ false = split.1 i d.0 (omega arith) (omega (arith, above, lt)) in
              absurd (cc)
        ]
      ]))

pub rise_split : (ds : List DeclRef) (x : DeclRef) → RefsRise ds → IsPartitionedBy (λ d. is_ref_before d x) ds
rise_split ds x rise i j d le lt h = elim (cases_eq i j) [
  | inl e ↦ ap (λ n. is_ref_before (get_or ds n d) x) e ∙ h
  | inr ne ↦ ref_before_on (get_or ds i d) (get_or ds j d) x (rise i j d (omega (arith, le, ne)) lt) h
]

-- entries' keys

pub keys_shown : (path : List ℕ) (es : List TypeEntry) → AreOf path (map entry_shown es) → keys_in path (map (λ e. e.key.decl) es) ≡ keys_of (map entry_shown es)
keys_shown path [] own = refl
keys_shown path (e ∷ es) own =
    let head : key_in path e.key.decl ≡ e.key = λ i. record { path = sym own.0 i; decl = e.key.decl } in
    let tail : keys_in path (map (λ e. e.key.decl) es) ≡ keys_of (map entry_shown es) = keys_shown path es own.1 in
    λ i. head i ∷ tail i

entry_at_ref : (es : List TypeEntry) (j : ℕ) (d : DeclRef) → slice_get (map (λ e. e.key.decl) es) j ≡ Some d → (w : Entry) × (slice_get (map entry_shown es) j ≡ Some w) × (w.key.decl ≡ d)
entry_at_ref [] j d at = absurd (cc)
entry_at_ref (e ∷ es) zero d at = (entry_shown e, refl, (let q : e.key.decl ≡ d = cc in q))
entry_at_ref (e ∷ es) (suc j) d at = entry_at_ref es j d at

rise_at : (es : List TypeEntry) (i j : ℕ) (d : DeclRef) → KeysRise (map entry_shown es) → i < j → j < length (map (λ e. e.key.decl) es) → is_ref_before (get_or (map (λ e. e.key.decl) es) i d) (get_or (map (λ e. e.key.decl) es) j d) ≡ true
rise_at [] i j d rise lt within = absurd (omega (arith, within))
rise_at (e ∷ es) i zero d rise lt within = absurd (omega (arith, lt))
rise_at (e ∷ es) zero (suc j) d rise lt within =
    let shown : slice_get (map (λ e. e.key.decl) es) j ≡ Some (get_or (map (λ e. e.key.decl) es) j d) = slice_get-get_or (map (λ e. e.key.decl) es) j d (omega (arith, within)) in
    let at = entry_at_ref es j (get_or (map (λ e. e.key.decl) es) j d) shown in
    subst (λ x. is_ref_before e.key.decl x ≡ true) at.2 (rise_first (entry_shown e) (map entry_shown es) rise j at.0 at.1)
rise_at (e ∷ es) (suc i) (suc j) d rise lt within = rise_at es i j d (rise_rest (entry_shown e) (map entry_shown es) rise) (omega (arith, lt)) (omega (arith, within))

pub refs_rise : (es : List TypeEntry) → KeysRise (map entry_shown es) → RefsRise (map (λ e. e.key.decl) es)
refs_rise es rise i j d lt within = rise_at es i j d rise lt within

-- what look-ups answer

pub at_some : (ds : List DeclRef) (place : ℕ) (other decl : DeclRef) (r : Bool) → Some other ≡ slice_get ds place → ((r ≡ true) ↔ (other ≡ decl)) → (r ≡ true) ↔ (slice_get ds place ≡ Some decl)
at_some ds place other decl r read same = (
  (λ h. sym read ∙ ap Some (same.0 h)),
  (λ at. same.1 (let both : Some other ≡ Some decl = read ∙ at in let e : other ≡ decl = cc in e)),
)

pub at_none : (ds : List DeclRef) (place : ℕ) (decl : DeclRef) → None ≡ slice_get ds place → (false ≡ true) ↔ (slice_get ds place ≡ Some decl)
at_none ds place decl read = ((λ h. absurd (cc)), (λ at. absurd (let both : None ≡ Some decl = read ∙ at in (cc))))

abbrev SplitAt : List DeclRef → DeclRef → ℕ → Type 0
SplitAt ds x i = IsPartitionPoint (λ d. is_ref_before d x ≡ true) (λ d. is_ref_before d x ≡ false) ds i

pub number_then : (keys : List DeclKey) (path : List ℕ) (ds one two : List DeclRef) (k : DeclKey) (i : ℕ) → keys_in path ds ≡ keys → one ≡ ds → two ≡ ds → SplitAt one k.decl i → slice_get two i ≡ Some k.decl → path ≡ k.path → Some i ≡ number_of keys k
number_then keys path ds one two k i view e f split at same =
    sym (number_here path ds k i (subst (λ l. SplitAt l k.decl i) e split) (ap (λ l. slice_get l i) (sym f) ∙ at) same) ∙ ap (λ l. number_of l k) view

pub number_else : (keys : List DeclKey) (path : List ℕ) (ds one two : List DeclRef) (k : DeclKey) (i : ℕ) → keys_in path ds ≡ keys → one ≡ ds → two ≡ ds → RefsRise ds → SplitAt one k.decl i → (slice_get two i ≡ Some k.decl → path ≡ k.path → ⊥) → None ≡ number_of keys k
number_else keys path ds one two k i view e f rise split not =
    sym (number_gone path ds k i (subst (λ l. SplitAt l k.decl i) e split) rise (λ at same. not (ap (λ l. slice_get l i) f ∙ at) same)) ∙ ap (λ l. number_of l k) view

pub of_shown : (keys : List DeclKey) (path own : List ℕ) (ds : List DeclRef) (es : List TypeEntry) → keys ≡ keys_in own ds → own ≡ path → ds ≡ map (λ e. e.key.decl) es → AreOf path (map entry_shown es) → keys ≡ keys_of (map entry_shown es)
of_shown keys path own ds es is same decls are = is ∙ (ap (λ p. keys_in p ds) same ∙ (ap (keys_in path) decls ∙ keys_shown path es are))

-- declarations of entries, one by one
pub decls_step : (es : List TypeEntry) (ds after : List DeclRef) (n : ℕ) (e : TypeEntry) → n < length es → e ≡ get_or es n e → ds ≡ map (λ x. x.key.decl) (take n es) → after ≡ ds ++ e.key.decl ∷ [] → after ≡ map (λ x. x.key.decl) (take (n + 1) es)
decls_step es ds after n e lt is h pushed =
    let f : TypeEntry → DeclRef = λ x. x.key.decl in
    pushed ∙ (ap (λ l. l ++ e.key.decl ∷ []) h ∙ (ap (λ x. map f (take n es) ++ f x ∷ []) is ∙ sym (map_more f es n e lt)))

pub decls_all : (es : List TypeEntry) (ds : List DeclRef) (n : ℕ) → length es ≤ n → ds ≡ map (λ x. x.key.decl) (take n es) → ds ≡ map (λ x. x.key.decl) es
decls_all es ds n le h = h ∙ ap (map (λ x. x.key.decl)) (take_all n es le)
