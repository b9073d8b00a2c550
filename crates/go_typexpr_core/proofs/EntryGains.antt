-- Entries that are given methods one after another.
use Rattle.std.proofs.Common.{◌≡◌, ℕ, zero, suc, ◌+◌, ◌<◌, ◌≤◌, Bool, true, false, List, [], ◌∷◌, ◌++◌, length, get_or, set, take, map, Some, None, cond, refl, sym, ap, ◌∙◌, subst, append_assoc, append-nil, arith}
use Rattle.std.specs.Prelude.{slice_get}
use Rattle.std.specs.List.{filter, enumerate_from}
use Rattle.std.proofs.lemmas.Bool.{false_from_ne_true}
use Rattle.std.proofs.lemmas.List.{map-append, take_all}
use Rattle.std.proofs.lemmas.List.Elements.{filter-append}
use Rattle.go_term_core.specs.decl_core.declared.keys.DeclKey.{DeclKey}
use Rattle.go_term_core.specs.decl_core.declared.tops.Outline.{Outline}
use Rattle.go_term_core.specs.decl_core.declared.tops.TopDecl.{TopDecl}
use Rattle.go_term_core.specs.decl_core.Shown.{decl_shown}
use Rattle.go_term_core.specs.decl_core.TopDecls.{TopDeclTree, FormTree, ValueForm, TypeForm, FuncForm}
use Rattle.go_type_core.specs.table_core.Entries.{Entry}
use Rattle.go_type_core.specs.table_core.Tables.{KeysRise}
use Rattle.go_typexpr_core.specs.written.Written.{InFile, Meaning}
use Rattle.go_typexpr_core.specs.entry.Entries.{Received, Meanings, is_type_of, methods_received, decl_methods, spec_entry, is_listed, listed_entry, entry_by, entries_by, file_entries_by, entry_of, file_at, file_entries, file_methods, entries_with, package_methods}
use Rattle.go_typexpr_core.specs.entry.Marks.{alias_mark}
use Rattle.go_typexpr_core.specs.entry.Outlines.{FileOutline, outline_shown}
use Rattle.go_typexpr_core.specs.entry.mirrors.Gaining.{gaining, all_gaining, IsMeantAt}
use Rattle.go_typexpr_core.proofs.EntryNumbered.{map-flat_map, flat_more, flat_item}

-- methods of more

pub methods_of-append : (k : DeclKey) (rs ss : List Received) → methods_received k (rs ++ ss) ≡ methods_received k rs ++ methods_received k ss
methods_of-append k rs ss =
    ap (map (λ r. r.member)) (filter-append (λ r. is_type_of k r.base) rs ss)
    ∙ map-append (λ r. r.member) (filter (λ r. is_type_of k r.base) rs) (filter (λ r. is_type_of k r.base) ss)

gaining_none : (e : Entry) → gaining [] e ≡ e
gaining_none e = λ i. record { key = e.key; name = e.name; term = e.term; methods = append-nil e.methods i }

gaining_both : (rs ss : List Received) (e : Entry) → gaining (rs ++ ss) e ≡ gaining ss (gaining rs e)
gaining_both rs ss e =
    let same : e.methods ++ methods_received e.key (rs ++ ss) ≡ e.methods ++ methods_received e.key rs ++ methods_received e.key ss = ap (λ l. e.methods ++ l) (methods_of-append e.key rs ss) ∙ sym (append_assoc e.methods (methods_received e.key rs) (methods_received e.key ss)) in
    λ i. record { key = e.key; name = e.name; term = e.term; methods = same i }

pub all_gaining_none : (es : List Entry) → all_gaining [] es ≡ es
all_gaining_none [] = refl
all_gaining_none (e ∷ es) = λ i. gaining_none e i ∷ all_gaining_none es i

pub all_gaining_both : (rs ss : List Received) (es : List Entry) → all_gaining (rs ++ ss) es ≡ all_gaining ss (all_gaining rs es)
all_gaining_both rs ss [] = refl
all_gaining_both rs ss (e ∷ es) = λ i. gaining_both rs ss e i ∷ all_gaining_both rs ss es i

-- entries without methods that are given all

listed_gains : (rs : List Received) (e : Entry) (b : Bool) → map (gaining rs) (listed_entry b e) ≡ listed_entry b (gaining rs e)
listed_gains rs e true = refl
listed_gains rs e false = refl

entry_gains : (mean : Meaning) (f : InFile) (rs : List Received) (d : TopDeclTree) (form : FormTree) → map (gaining rs) (entry_of mean f [] d form) ≡ entry_of mean f rs d form
entry_gains mean f rs d (ValueForm k v i) = refl
entry_gains mean f rs d (TypeForm t) = listed_gains rs (spec_entry mean f [] d t) (is_listed false (alias_mark t))
entry_gains mean f rs d (FuncForm g) = refl

file_gains : (mean : Meaning) (f : InFile) (rs : List Received) (ds : List TopDeclTree) → map (gaining rs) (file_entries mean f [] ds) ≡ file_entries mean f rs ds
file_gains mean f rs ds = map-flat_map (gaining rs) (λ d. entry_of mean f [] d d.form) (λ d. entry_of mean f rs d d.form) (λ d. entry_gains mean f rs d d.form) ds

pub entries_gain : (means : Meanings) (path : List ℕ) (rs : List Received) (os : List FileOutline) → all_gaining rs (entries_with means path [] os) ≡ entries_with means path rs os
entries_gain means path rs os =
    map-flat_map (gaining rs) (λ p. file_entries (means p.0) (file_at path p.0 p.1) [] p.1.decls) (λ p. file_entries (means p.0) (file_at path p.0 p.1) rs p.1.decls)
    (λ p. file_gains (means p.0) (file_at path p.0 p.1) rs p.1.decls) (enumerate_from 0 os)

-- the order of keys is as it was

pub rise_gaining : (rs : List Received) (es : List Entry) → KeysRise es → KeysRise (all_gaining rs es)
rise_gaining rs [] rise = tt
rise_gaining rs (e ∷ []) rise = tt
rise_gaining rs (e ∷ f ∷ es) rise = (rise.0, rise_gaining rs (f ∷ es) rise.1)

pub rise_gained : (rs : List Received) (old new : List Entry) → KeysRise old → new ≡ all_gaining rs old → KeysRise new
rise_gained rs old new rise e = subst (λ (es : List Entry). KeysRise es) (sym e) (rise_gaining rs old rise)

-- one method

gains_by : (r : Received) (e : Entry) (b : Bool) → is_type_of e.key r.base ≡ b → methods_received e.key (r ∷ []) ≡ cond b (r.member ∷ []) []
gains_by r e true h = ap (λ b. map (λ (s : Received). s.member) (cond b (r ∷ []) [])) h
gains_by r e false h = ap (λ b. map (λ (s : Received). s.member) (cond b (r ∷ []) [])) h

gain_not : (r : Received) (e : Entry) → is_type_of e.key r.base ≡ false → gaining (r ∷ []) e ≡ e
gain_not r e h =
    let same : e.methods ++ methods_received e.key (r ∷ []) ≡ e.methods = ap (λ l. e.methods ++ l) (gains_by r e false h) ∙ append-nil e.methods in
    λ i. record { key = e.key; name = e.name; term = e.term; methods = same i }

-- an entry of the method's type gets it behind the others
pub gain_one : (r : Received) (e new : Entry) → is_type_of e.key r.base ≡ true → new.key ≡ e.key → new.name ≡ e.name → new.term ≡ e.term → new.methods ≡ e.methods ++ r.member ∷ [] → new ≡ gaining (r ∷ []) e
gain_one r e new h key name term methods =
    let same : new.methods ≡ e.methods ++ methods_received e.key (r ∷ []) = methods ∙ ap (λ l. e.methods ++ l) (sym (gains_by r e true h)) in
    λ i. record { key = key i; name = name i; term = term i; methods = same i }

pub gain_none : (r : Received) (es : List Entry) → IsMeantAt es r.base None → all_gaining (r ∷ []) es ≡ es
gain_none r [] h = refl
gain_none r (e ∷ es) h =
    let here = gain_not r e (h 0 e refl) in
    let rest = gain_none r es (λ i f at. h (suc i) f at) in
    λ i. here i ∷ rest i

pub gain_at : (r : Received) (es : List Entry) (n : ℕ) (e : Entry) → slice_get es n ≡ Some e → ((i : ℕ) (f : Entry) → slice_get es i ≡ Some f → is_type_of f.key r.base ≡ true → i ≡ n) → set es n (gaining (r ∷ []) e) ≡ all_gaining (r ∷ []) es
gain_at r [] n e at one = (let no : None ≡ Some e = at in cc)
gain_at r (x ∷ es) zero e at one =
    let same : x ≡ e = (let s : Some x ≡ Some e = at in cc) in
    let rest = gain_none r es (λ i f there. false_from_ne_true (is_type_of f.key r.base) (λ yes. (let no : suc i ≡ zero = one (suc i) f there yes in absurd (omega (arith, no))))) in
    λ i. gaining (r ∷ []) (sym same i) ∷ sym rest i
gain_at r (x ∷ es) (suc n) e at one =
    let here = gain_not r x (false_from_ne_true (is_type_of x.key r.base) (λ yes. (let no : zero ≡ suc n = one zero x refl yes in absurd (omega (arith, no))))) in
    let rest = gain_at r es n e at (λ i f there yes. (let s : suc i ≡ suc n = one (suc i) f there yes in omega (arith, s))) in
    λ i. sym here i ∷ rest i

-- loops

pub types_step : (also : Bool) (mean : Meaning) (f : InFile) (ds : List TopDecl) (i : ℕ) (d : TopDecl) (first old new : List Entry) → i < length ds → d ≡ get_or ds i d → old ≡ first ++ file_entries_by also mean f [] (map decl_shown (take i ds))
    → new ≡ old ++ entry_by also mean f [] (decl_shown d) (decl_shown d).form → new ≡ first ++ file_entries_by also mean f [] (map decl_shown (take (i + 1) ds))
types_step also mean f ds i d first old new lt is was e =
    e
    ∙ (ap (λ l. l ++ entry_by also mean f [] (decl_shown d) (decl_shown d).form) was
    ∙ (append_assoc first (file_entries_by also mean f [] (map decl_shown (take i ds))) (entry_by also mean f [] (decl_shown d) (decl_shown d).form)
    ∙ ap (λ l. first ++ l) (sym (flat_item decl_shown (λ t. entry_by also mean f [] t t.form) ds i d lt is))))

pub methods_step : (mean : Meaning) (f : InFile) (ds : List TopDecl) (i : ℕ) (d : TopDecl) (first old new : List Entry) → i < length ds → d ≡ get_or ds i d → old ≡ all_gaining (file_methods mean f (map decl_shown (take i ds))) first
    → new ≡ all_gaining (decl_methods mean f (decl_shown d) (decl_shown d).form) old → new ≡ all_gaining (file_methods mean f (map decl_shown (take (i + 1) ds))) first
methods_step mean f ds i d first old new lt is was e =
    let rs = decl_methods mean f (decl_shown d) (decl_shown d).form in
    e
    ∙ (ap (all_gaining rs) was
    ∙ (sym (all_gaining_both (file_methods mean f (map decl_shown (take i ds))) rs first)
    ∙ ap (λ l. all_gaining l first) (sym (flat_item decl_shown (λ t. decl_methods mean f t t.form) ds i d lt is))))

pub entries_step : (also : Bool) (means : Meanings) (path : List ℕ) (os : List Outline) (i : ℕ) (o : Outline) (old new : List Entry) → i < length os → o ≡ get_or os i o → old ≡ entries_by also means path [] (map outline_shown (take i os))
    → new ≡ old ++ file_entries_by also (means i) (file_at path i (outline_shown o)) [] (outline_shown o).decls → new ≡ entries_by also means path [] (map outline_shown (take (i + 1) os))
entries_step also means path os i o old new lt is was e =
    e
    ∙ (ap (λ l. l ++ file_entries_by also (means i) (file_at path i (outline_shown o)) [] (outline_shown o).decls) was
    ∙ sym (flat_more outline_shown (λ p. file_entries_by also (means p.0) (file_at path p.0 p.1) [] p.1.decls) os i o lt is))

pub entries_read : (also : Bool) (means : Meanings) (path : List ℕ) (os : List Outline) (i : ℕ) (o : Outline) (ds : List TopDecl) (old new : List Entry) → i < length os → o ≡ get_or os i o → old ≡ entries_by also means path [] (map outline_shown (take i os))
    → new ≡ old ++ file_entries_by also (means i) (file_at path i (outline_shown o)) [] (map decl_shown ds) → ds ≡ o.decls.items → new ≡ entries_by also means path [] (map outline_shown (take (i + 1) os))
entries_read also means path os i o ds old new lt is was e same =
    entries_step also means path os i o old new lt is was (e ∙ ap (λ l. old ++ file_entries_by also (means i) (file_at path i (outline_shown o)) [] (map decl_shown l)) same)

pub package_step : (means : Meanings) (path : List ℕ) (os : List Outline) (i : ℕ) (o : Outline) (bare old new : List Entry) → i < length os → o ≡ get_or os i o → old ≡ all_gaining (package_methods means path (map outline_shown (take i os))) bare
    → new ≡ all_gaining (file_methods (means i) (file_at path i (outline_shown o)) (outline_shown o).decls) old → new ≡ all_gaining (package_methods means path (map outline_shown (take (i + 1) os))) bare
package_step means path os i o bare old new lt is was e =
    let rs = file_methods (means i) (file_at path i (outline_shown o)) (outline_shown o).decls in
    e
    ∙ (ap (all_gaining rs) was
    ∙ (sym (all_gaining_both (package_methods means path (map outline_shown (take i os))) rs bare)
    ∙ ap (λ l. all_gaining l bare) (sym (flat_more outline_shown (λ p. file_methods (means p.0) (file_at path p.0 p.1) p.1.decls) os i o lt is))))

-- all entries have their methods
pub entries_done : (means : Meanings) (path : List ℕ) (os : List Outline) (i : ℕ) (bare all : List Entry) → length os ≤ i → bare ≡ entries_with means path [] (map outline_shown os) → all ≡ all_gaining (package_methods means path (map outline_shown (take i os))) bare
    → all ≡ entries_with means path (package_methods means path (map outline_shown os)) (map outline_shown os)
entries_done means path os i bare all end is e =
    e
    ∙ (ap (λ l. all_gaining (package_methods means path (map outline_shown l)) bare) (take_all i os end)
    ∙ (ap (all_gaining (package_methods means path (map outline_shown os))) is
    ∙ entries_gain means path (package_methods means path (map outline_shown os)) (map outline_shown os)))

-- all types and aliases
pub all_done : (also : Bool) (means : Meanings) (path : List ℕ) (os : List Outline) (n : ℕ) (now : List Entry) → length os ≤ n → now ≡ entries_by also means path [] (map outline_shown (take n os)) → now ≡ entries_by also means path [] (map outline_shown os)
all_done also means path os n now le h = h ∙ ap (λ l. entries_by also means path [] (map outline_shown l)) (take_all n os le)
