-- Tables that loops make, item by item.
use Rattle.std.proofs.Common.{◌≡◌, ℕ, ◌+◌, ◌<◌, ◌≤◌, inl, inr, Bool, true, false, not, ◌||◌, List, [], ◌∷◌, ◌++◌, Option, Some, option_map, All, map, length, get_or, drop, refl, sym, ap, ◌∙◌, subst, arith}
use Rattle.std.specs.Prelude.{slice_get, if◌then◌else◌, nat_eq}
use Rattle.std.specs.Str.{bytes_eq}
use Rattle.std.specs.Arc.{arc_value}
use Rattle.std.specs.Global.{Global}
use Rattle.std.specs.declared.sync.Arc.{Arc}
use Rattle.std.proofs.lemmas.Option.{slice_get_within, slice_get_read, slice_get-map, slice_get_cases, get_or_from_slice_get}
use Rattle.std.proofs.lemmas.List.{map_push, drop_all, drop_more, append_assoc, append-nil}
use Rattle.std.proofs.lemmas.List.Elements.{All-head, All-tail}
use Rattle.std.proofs.lemmas.Bool.{eq-eqb, and_from, not_from_false}
use Rattle.go_term_core.specs.decl_core.declared.keys.DeclKey.{DeclKey}
use Rattle.go_term_core.specs.declared.settling.kind.Kind.{Kind}
use Rattle.go_term_core.specs.settling.Settled.{is_among_names, settled, pointer_to}
use Rattle.go_term_core.specs.text_core.Text.{is_blank}
use Rattle.go_term_core.specs.Shapes.{shape}
use Rattle.go_term_core.specs.Terms.{Term, NoType, Predeclared, ErrorType, Defined, PointerTo, StructOf, InterfaceOf}
use Rattle.go_table_core.specs.declared.entry.DeclaredMethod.{DeclaredMethod}
use Rattle.go_table_core.specs.declared.entry.TypeEntry.{TypeEntry}
use Rattle.go_table_core.specs.Entries.{Entry, EntryLook, Member, find_entry, term_in, same_key, IsUnnamed}
use Rattle.go_table_core.specs.Methods.{has_field_before}
use Rattle.go_table_core.specs.Shown.{entry_shown, member_shown}
use Rattle.go_type_core.specs.Built.{base, IsNoTypeHere, unrepeated_methods, settled_member}
use Rattle.go_type_core.specs.mirrors.Numbers.{term_at, IsTable}
use Rattle.go_type_core.specs.mirrors.Chained.{named_number, next_unless, next_named, next_bare, root_term, root_at, term_unless, under_at}
use Rattle.go_type_core.specs.mirrors.Making.{is_left_out, seen_after, terms_of_arcs, is_root_at, own_term_at, shared_at, shared_entry_at, entry_at, entry_of, no_entry}
use Rattle.go_type_core.proofs.Keyed.{table_more, table_at}
use Rattle.go_type_core.proofs.Nothings.{ends_one, ends_here}
use Rattle.go_type_core.proofs.Unders.{IsRooted, end_there, root_there, some_at_root}

pub table_push : {A : Type 0} (xs ys : List A) (n : ℕ) (f : ℕ → A) (y : A) → IsTable xs n f → y ≡ f n → ys ≡ xs ++ y ∷ [] → IsTable ys (n + 1) f
table_push xs ys n f y t is e = subst (λ l. IsTable l (n + 1) f) (sym e) (table_more xs n f y t is)

pub table_all : {A : Type 0} (xs : List A) (n m : ℕ) (f : ℕ → A) → n ≡ m → IsTable xs n f → IsTable xs m f
table_all xs n m f e t = subst (λ k. IsTable xs k f) e t

pub entry_read : (es : List TypeEntry) (n : ℕ) (e : TypeEntry) → n < length es → e ≡ get_or es n e → slice_get (map entry_shown es) n ≡ Some (entry_shown e)
entry_read es n e lt is = slice_get-map entry_shown es n ∙ ap (option_map entry_shown) (slice_get_read es (length es) n e refl lt is)

pub term_read : (es : List TypeEntry) (n : ℕ) (e : TypeEntry) → n < length es → e ≡ get_or es n e → term_at (map entry_shown es) n ≡ shape e.term
term_read es n e lt is = ap term_in (entry_read es n e lt is)

-- next numbers

pub bare_step : (keys : List DeclKey) (looped : List Bool) (es : List TypeEntry) (next after : List (Option ℕ)) (n : ℕ) (e : TypeEntry) (t : Term) (marked : Bool) (named y : Option ℕ) → n < length es → e ≡ get_or es n e → IsTable next n (next_bare keys looped (map entry_shown es)) → t ≡ base (shape e.term) → named ≡ named_number keys t → marked ≡ get_or looped n false → y ≡ next_unless marked named → after ≡ next ++ y ∷ [] → IsTable after (n + 1) (next_bare keys looped (map entry_shown es))
bare_step keys looped es next after n e t marked named y lt is table based numbered mark made pushed =
    let name : named ≡ named_number keys (base (term_at (map entry_shown es) n)) = numbered ∙ ap (named_number keys) (based ∙ ap base (sym (term_read es n e lt is))) in
    table_push next after n (next_bare keys looped (map entry_shown es)) y table (made ∙ (ap (λ b. next_unless b named) mark ∙ ap (next_unless (get_or looped n false)) name)) pushed

pub named_step : (keys : List DeclKey) (looped : List Bool) (es : List TypeEntry) (next after : List (Option ℕ)) (n : ℕ) (e : TypeEntry) (marked : Bool) (named y : Option ℕ) → n < length es → e ≡ get_or es n e → IsTable next n (next_named keys looped (map entry_shown es)) → named ≡ named_number keys (shape e.term) → marked ≡ get_or looped n false → y ≡ next_unless marked named → after ≡ next ++ y ∷ [] → IsTable after (n + 1) (next_named keys looped (map entry_shown es))
named_step keys looped es next after n e marked named y lt is table numbered mark made pushed =
    let name : named ≡ named_number keys (term_at (map entry_shown es) n) = numbered ∙ ap (named_number keys) (sym (term_read es n e lt is)) in
    table_push next after n (next_named keys looped (map entry_shown es)) y table (made ∙ (ap (λ b. next_unless b named) mark ∙ ap (next_unless (get_or looped n false)) name)) pushed

-- underlying types of roots

pub own_step : (far : EntryLook) (kind : DeclKey → Kind) (nothing : List Bool) (ends : List (Option ℕ)) (es : List TypeEntry) (us after : List (Arc Term Global)) (n : ℕ) (e : TypeEntry) (u : Arc Term Global) → n < length es → e ≡ get_or es n e → IsTable (terms_of_arcs us) n (own_term_at far kind nothing (map entry_shown es) ends) → arc_value u ≡ term_unless (not (is_root_at nothing ends n)) (root_term far kind (shape e.term)) → after ≡ us ++ u ∷ [] → IsTable (terms_of_arcs after) (n + 1) (own_term_at far kind nothing (map entry_shown es) ends)
own_step far kind nothing ends es us after n e u lt is table made pushed =
    let more : terms_of_arcs after ≡ terms_of_arcs us ++ arc_value u ∷ [] = ap terms_of_arcs pushed ∙ map_push (λ x. arc_value x) us u in
    table_push (terms_of_arcs us) (terms_of_arcs after) n (own_term_at far kind nothing (map entry_shown es) ends) (arc_value u) table
    (made ∙ ap (λ t. term_unless (not (is_root_at nothing ends n)) (root_term far kind t)) (sym (term_read es n e lt is))) more

-- what is shared

pub shared_marked : (nothing : List Bool) (ends : List (Option ℕ)) (us : List Term) (i : ℕ) → get_or nothing i false ≡ true → shared_at nothing ends us i ≡ NoType
shared_marked nothing ends us i mark = ap (λ b. term_unless b (get_or us (root_at ends i) NoType)) mark

pub shared_unmarked : (nothing : List Bool) (ends : List (Option ℕ)) (us : List Term) (i : ℕ) → get_or nothing i false ≡ false → shared_at nothing ends us i ≡ get_or us (root_at ends i) NoType
shared_unmarked nothing ends us i mark = ap (λ b. term_unless b (get_or us (root_at ends i) NoType)) mark

pub shared_step : (kind : DeclKey → Kind) (nothing : List Bool) (ends : List (Option ℕ)) (us : List Term) (es : List TypeEntry) (types after : List Entry) (n : ℕ) (e : TypeEntry) (t : Term) (d : Entry) → n < length es → e ≡ get_or es n e → IsTable types n (shared_entry_at kind nothing (map entry_shown es) ends us) → t ≡ shared_at nothing ends us n → d ≡ entry_of kind t (entry_shown e) → after ≡ types ++ d ∷ [] → IsTable after (n + 1) (shared_entry_at kind nothing (map entry_shown es) ends us)
shared_step kind nothing ends us es types after n e t d lt is table shared made pushed =
    let read : get_or (map entry_shown es) n no_entry ≡ entry_shown e = get_or_from_slice_get (map entry_shown es) n (entry_shown e) no_entry (entry_read es n e lt is) in
    table_push types after n (shared_entry_at kind nothing (map entry_shown es) ends us) d table (made ∙ (ap (λ x. entry_of kind x (entry_shown e)) shared ∙ ap (entry_of kind (shared_at nothing ends us n)) (sym read))) pushed

module _ (written : List Entry) (far : EntryLook) (looped nothing : List Bool) (next ends : List (Option ℕ)) (kind : DeclKey → Kind) (r : IsRooted written far looped nothing next ends) where
  -- the root of a root is itself
  root_of_root : (i : ℕ) (w : Entry) → slice_get written i ≡ Some w → root_at ends (root_at ends i) ≡ root_at ends i
  root_of_root i w at =
      let root = root_there written far looped nothing next ends r i w at in
      let end = end_there written far looped nothing next ends r i w at in
      let again = end_there written far looped nothing next ends r (root_at ends i) root.0 root.1 in
      ends_one next (root_at ends i) (root_at ends (root_at ends i)) (root_at ends i) again (ends_here next (root_at ends i) end.2)

  root_unmarked : (i : ℕ) (w v : Entry) (b : Bool) → slice_get written i ≡ Some w → slice_get written (root_at ends i) ≡ Some v → get_or nothing i false ≡ false → get_or nothing (root_at ends i) false ≡ b → b ≡ false
  root_unmarked i w v false at there mark is = refl
  root_unmarked i w v true at there mark is =
      let some : IsNoTypeHere written far (Defined w.key) → ⊥ = λ n. (let yes = (r.nothing_is i w at).1 n in let both : false ≡ true = sym mark ∙ yes in absurd (cc)) in
      absurd (some_at_root written far looped nothing next ends r i w v at there some ((r.nothing_is (root_at ends i) v there).0 is))

  is_root : (i : ℕ) (w : Entry) → slice_get written i ≡ Some w → get_or nothing i false ≡ false → is_root_at nothing ends (root_at ends i) ≡ true
  is_root i w at mark =
      let root = root_there written far looped nothing next ends r i w at in
      let unmarked : get_or nothing (root_at ends i) false ≡ false = root_unmarked i w root.0 (get_or nothing (root_at ends i) false) at root.1 mark refl in
      and_from (not (get_or nothing (root_at ends i) false)) (nat_eq (root_at ends (root_at ends i)) (root_at ends i)) (not_from_false (get_or nothing (root_at ends i) false) unmarked) (eq-eqb (root_at ends (root_at ends i)) (root_at ends i) (root_of_root i w at))

  shared_is : (us : List Term) (i : ℕ) (w : Entry) (b : Bool) → IsTable us (length written) (own_term_at far kind nothing written ends) → slice_get written i ≡ Some w → get_or nothing i false ≡ b → shared_at nothing ends us i ≡ under_at far kind nothing written ends i
  shared_is us i w true table at mark = shared_marked nothing ends us i mark ∙ ap (λ b. term_unless b (root_term far kind (term_at written (root_at ends i)))) (sym mark)
  shared_is us i w false table at mark =
      let root = root_there written far looped nothing next ends r i w at in
      let lt = slice_get_within written (root_at ends i) root.0 root.1 in
      let read : get_or us (root_at ends i) NoType ≡ own_term_at far kind nothing written ends (root_at ends i) = table_at us (length written) (own_term_at far kind nothing written ends) NoType (root_at ends i) table lt in
      let here : own_term_at far kind nothing written ends (root_at ends i) ≡ root_term far kind (term_at written (root_at ends i)) = ap (λ b. term_unless (not b) (root_term far kind (term_at written (root_at ends i)))) (is_root i w at mark) in
      shared_unmarked nothing ends us i mark ∙ (read ∙ (here ∙ ap (λ b. term_unless b (root_term far kind (term_at written (root_at ends i)))) (sym mark)))

  -- the types that are shared are those of the numbers
  pub types_shared : (us : List Term) (types : List Entry) → IsTable us (length written) (own_term_at far kind nothing written ends) → IsTable types (length written) (shared_entry_at kind nothing written ends us) → IsTable types (length written) (entry_at far kind nothing written ends)
  types_shared us types table shared = record {
    as_many = shared.as_many;
    each = λ i lt. elim ((slice_get_cases written i).1) [
      | inl here ↦ shared.each i lt ∙ ap (λ t. Some (entry_of kind t (get_or written i no_entry))) (shared_is us i here.0 (get_or nothing i false) table here.2 refl)
      | inr past ↦ (let le = past.0 in absurd (omega (arith, lt, le)))
    ];
  }

-- plain types

plain_pointer : (t : Term) → IsUnnamed (pointer_to t)
plain_pointer NoType = tt
plain_pointer (Predeclared b) = tt
plain_pointer ErrorType = tt
plain_pointer (Defined k) = tt
plain_pointer (PointerTo t) = tt
plain_pointer (StructOf path fs) = tt
plain_pointer (InterfaceOf path ms) = tt

plain_root : (far : EntryLook) (kind : DeclKey → Kind) (t : Term) → ((k : DeclKey) → IsUnnamed (term_in (far k))) → IsUnnamed (root_term far kind t)
plain_root far kind NoType plain = tt
plain_root far kind (Predeclared b) plain = tt
plain_root far kind ErrorType plain = tt
plain_root far kind (Defined k) plain = plain k
plain_root far kind (PointerTo t) plain = plain_pointer (settled kind t)
plain_root far kind (StructOf path fs) plain = tt
plain_root far kind (InterfaceOf path ms) plain = tt

plain_unless : (b : Bool) (t : Term) → IsUnnamed t → IsUnnamed (term_unless b t)
plain_unless true t plain = tt
plain_unless false t plain = plain

plain_step : (e : Entry) (es : List Entry) (k : DeclKey) (b : Bool) → IsUnnamed e.term → IsUnnamed (term_in (find_entry es k)) → IsUnnamed (term_in (if b then Some e else find_entry es k))
plain_step e es k true here rest = here
plain_step e es k false here rest = rest

pub plain_found : (es : List Entry) (k : DeclKey) → All (λ e. IsUnnamed e.term) es → IsUnnamed (term_in (find_entry es k))
plain_found [] k plain = tt
plain_found (e ∷ es) k plain = plain_step e es k (same_key e.key k) (All-head (λ x. IsUnnamed x.term) e es plain) (plain_found es k (All-tail (λ x. IsUnnamed x.term) e es plain))

pub plain_types : (written types : List Entry) (far : EntryLook) (kind : DeclKey → Kind) (nothing : List Bool) (ends : List (Option ℕ)) → IsTable types (length written) (entry_at far kind nothing written ends) → ((k : DeclKey) → IsUnnamed (term_in (far k))) → All (λ e. IsUnnamed e.term) types
plain_types written types far kind nothing ends table plain k d lt =
    let count = table.as_many in
    let read : get_or types k d ≡ entry_at far kind nothing written ends k = table_at types (length written) (entry_at far kind nothing written ends) d k table (omega (arith, lt, count)) in
    subst (λ x. IsUnnamed x.term) (sym read) (plain_unless (get_or nothing k false) (root_term far kind (term_at written (root_at ends k))) (plain_root far kind (term_at written (root_at ends k)) plain))

-- methods

kept_alike : (kind : DeclKey → Kind) (path : List ℕ) (u : Term) (ms : List Member) (seen other : List (List ℕ)) → ((n : List ℕ) → is_among_names seen n ≡ is_among_names other n) → unrepeated_methods kind path u seen ms ≡ unrepeated_methods kind path u other ms
kept_alike kind path u [] seen other same = refl
kept_alike kind path u (m ∷ ms) seen other same =
    let left : is_left_out path u seen m ≡ is_left_out path u other m = ap (λ b. is_blank m.name || (b || has_field_before path u m)) (same m.name) in
    let out : unrepeated_methods kind path u seen ms ≡ unrepeated_methods kind path u other ms = kept_alike kind path u ms seen other same in
    let kept_on : unrepeated_methods kind path u (m.name ∷ seen) ms ≡ unrepeated_methods kind path u (m.name ∷ other) ms = kept_alike kind path u ms (m.name ∷ seen) (m.name ∷ other) (λ n. ap (λ b. if bytes_eq m.name n then true else b) (same n)) in
    ap (λ b. if b then unrepeated_methods kind path u seen ms else settled_member kind m ∷ unrepeated_methods kind path u (m.name ∷ seen) ms) left
    ∙ (ap (λ l. if is_left_out path u other m then l else settled_member kind m ∷ unrepeated_methods kind path u (m.name ∷ seen) ms) out
    ∙ ap (λ l. if is_left_out path u other m then unrepeated_methods kind path u other ms else settled_member kind m ∷ l) kept_on)

-- one method on: it is kept, or left out
pub kept_on : (kind : DeclKey → Kind) (path : List ℕ) (u : Term) (seen new : List (List ℕ)) (m : Member) (ms : List Member) (b left : Bool) → is_left_out path u seen m ≡ left → b ≡ not left → ((n : List ℕ) → is_among_names new n ≡ is_among_names (seen_after b m.name seen) n) → unrepeated_methods kind path u seen (m ∷ ms) ≡ (if b then settled_member kind m ∷ unrepeated_methods kind path u new ms else unrepeated_methods kind path u new ms)
kept_on kind path u seen new m ms true true is e same = absurd (cc)
kept_on kind path u seen new m ms true false is e same =
    ap (λ x. if x then unrepeated_methods kind path u seen ms else settled_member kind m ∷ unrepeated_methods kind path u (m.name ∷ seen) ms) is
    ∙ ap (λ l. settled_member kind m ∷ l) (kept_alike kind path u ms (m.name ∷ seen) new (λ n. sym (same n)))
kept_on kind path u seen new m ms false true is e same =
    ap (λ x. if x then unrepeated_methods kind path u seen ms else settled_member kind m ∷ unrepeated_methods kind path u (m.name ∷ seen) ms) is ∙ kept_alike kind path u ms seen new (λ n. sym (same n))
kept_on kind path u seen new m ms false false is e same = absurd (cc)

-- methods that a loop takes

pub methods_none : (kind : DeclKey → Kind) (path : List ℕ) (u : Term) (own : List DeclaredMethod) (seen : List (List ℕ)) (methods : List DeclaredMethod) → own ≡ [] → seen ≡ [] → map member_shown own ++ unrepeated_methods kind path u seen (map member_shown (drop 0 methods)) ≡ unrepeated_methods kind path u [] (map member_shown methods)
methods_none kind path u own seen methods none fresh = ap (λ l. map member_shown l ++ unrepeated_methods kind path u seen (map member_shown methods)) none ∙ ap (λ s. unrepeated_methods kind path u s (map member_shown methods)) fresh

-- the method at a number, and those behind it
method_next : (methods : List DeclaredMethod) (n : ℕ) (m : DeclaredMethod) → n < length methods → m ≡ get_or methods n m → map member_shown (drop n methods) ≡ member_shown m ∷ map member_shown (drop (n + 1) methods)
method_next methods n m lt is = ap (map member_shown) (drop_more methods n m lt) ∙ ap (λ x. member_shown x ∷ map member_shown (drop (n + 1) methods)) (sym is)

module _ (kind : DeclKey → Kind) (path : List ℕ) (u : Term) (methods : List DeclaredMethod) (n : ℕ) (m : DeclaredMethod) (lt : n < length methods) (is : m ≡ get_or methods n m) (own : List DeclaredMethod) (seen new : List (List ℕ)) (b : Bool)
    (taken : b ≡ not (is_left_out path u seen (member_shown m)))
    (names : (x : List ℕ) → is_among_names new x ≡ is_among_names (seen_after b m.name seen) x)
    (before : map member_shown own ++ unrepeated_methods kind path u seen (map member_shown (drop n methods)) ≡ unrepeated_methods kind path u [] (map member_shown methods)) where
  one_on : unrepeated_methods kind path u seen (map member_shown (drop n methods)) ≡ (if b then settled_member kind (member_shown m) ∷ unrepeated_methods kind path u new (map member_shown (drop (n + 1) methods)) else unrepeated_methods kind path u new (map member_shown (drop (n + 1) methods)))
  one_on = ap (unrepeated_methods kind path u seen) (method_next methods n m lt is) ∙ kept_on kind path u seen new (member_shown m) (map member_shown (drop (n + 1) methods)) b (is_left_out path u seen (member_shown m)) refl taken names

  pub methods_kept : (after : List DeclaredMethod) (d : DeclaredMethod) → b ≡ true → member_shown d ≡ settled_member kind (member_shown m) → after ≡ own ++ d ∷ [] → map member_shown after ++ unrepeated_methods kind path u new (map member_shown (drop (n + 1) methods)) ≡ unrepeated_methods kind path u [] (map member_shown methods)
  methods_kept after d kept_it settles pushed =
      let rest : List Member = unrepeated_methods kind path u new (map member_shown (drop (n + 1) methods)) in
      let on : unrepeated_methods kind path u seen (map member_shown (drop n methods)) ≡ settled_member kind (member_shown m) ∷ rest = one_on ∙ ap (λ x. if x then settled_member kind (member_shown m) ∷ rest else rest) kept_it in
      let shown : map member_shown after ≡ map member_shown own ++ settled_member kind (member_shown m) ∷ [] = ap (map member_shown) pushed ∙ (map_push member_shown own d ∙ ap (λ x. map member_shown own ++ x ∷ []) settles) in
      ap (λ l. l ++ rest) shown ∙ (append_assoc (map member_shown own) (settled_member kind (member_shown m) ∷ []) rest ∙ (ap (λ l. map member_shown own ++ l) (sym on) ∙ before))

  pub methods_left : (after : List DeclaredMethod) → b ≡ false → after ≡ own → map member_shown after ++ unrepeated_methods kind path u new (map member_shown (drop (n + 1) methods)) ≡ unrepeated_methods kind path u [] (map member_shown methods)
  methods_left after left_it same =
      let rest : List Member = unrepeated_methods kind path u new (map member_shown (drop (n + 1) methods)) in
      let on : unrepeated_methods kind path u seen (map member_shown (drop n methods)) ≡ rest = one_on ∙ ap (λ x. if x then settled_member kind (member_shown m) ∷ rest else rest) left_it in
      ap (λ l. map member_shown l ++ rest) same ∙ (ap (λ l. map member_shown own ++ l) (sym on) ∙ before)

pub methods_all : (kind : DeclKey → Kind) (path : List ℕ) (u : Term) (methods : List DeclaredMethod) (n : ℕ) (own : List DeclaredMethod) (seen : List (List ℕ)) → length methods ≤ n → map member_shown own ++ unrepeated_methods kind path u seen (map member_shown (drop n methods)) ≡ unrepeated_methods kind path u [] (map member_shown methods) → map member_shown own ≡ unrepeated_methods kind path u [] (map member_shown methods)
methods_all kind path u methods n own seen le h =
    let none : unrepeated_methods kind path u seen (map member_shown (drop n methods)) ≡ [] = ap (λ l. unrepeated_methods kind path u seen (map member_shown l)) (drop_all n methods le) in
    sym (append-nil (map member_shown own)) ∙ (ap (λ l. map member_shown own ++ l) (sym none) ∙ h)
