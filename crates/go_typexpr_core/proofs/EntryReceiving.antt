-- A method that is put to the entry of its type.
use Rattle.std.proofs.Common.{◌≡◌, ℕ, true, List, [], ◌∷◌, ◌++◌, get_or, set, map, Some, sym, ap, ◌∙◌}
use Rattle.std.specs.Prelude.{slice_get}
use Rattle.std.proofs.lemmas.List.{map-append, map-set}
use Rattle.std.proofs.lemmas.Option.{get_or_from_slice_get}
use Rattle.go_term_core.specs.decl_core.declared.keys.DeclKey.{DeclKey}
use Rattle.go_term_core.specs.Shapes.{shape}
use Rattle.go_term_core.specs.Terms.{Term, Defined}
use Rattle.go_type_core.specs.table_core.declared.entry.DeclaredMethod.{DeclaredMethod}
use Rattle.go_type_core.specs.table_core.declared.entry.TypeEntry.{TypeEntry}
use Rattle.go_type_core.specs.table_core.Entries.{Entry}
use Rattle.go_type_core.specs.table_core.Shown.{entry_shown, member_shown}
use Rattle.go_type_core.specs.table_core.Tables.{KeysRise}
use Rattle.go_typexpr_core.specs.entry.Entries.{Received, is_type_of}
use Rattle.go_typexpr_core.specs.entry.mirrors.Gaining.{all_gaining, gaining, IsMeantAt}
use Rattle.go_typexpr_core.proofs.EntryGains.{gain_at, gain_one}
use Rattle.go_typexpr_core.proofs.EntryPlacing.{held, rise_one, type_is}

same_defined : (j k : DeclKey) → Defined j ≡ Defined k → j ≡ k
same_defined j k h = cc

one_place : (es : List Entry) (t : Term) (n : ℕ) (e : Entry) → KeysRise es → slice_get es n ≡ Some e → is_type_of e.key t ≡ true → (i : ℕ) (f : Entry) → slice_get es i ≡ Some f → is_type_of f.key t ≡ true → i ≡ n
one_place es t n e rise at meant i f there also =
    let same : f.key ≡ e.key = same_defined f.key e.key (sym (type_is f.key t also) ∙ type_is e.key t meant) in
    rise_one es rise i n f e there at same

module _ (r : Received) (ws : List TypeEntry) (place : ℕ) (rise : KeysRise (map entry_shown ws)) (meant : IsMeantAt (map entry_shown ws) r.base (Some place)) where
  pub put_to : (old new : TypeEntry) (m : DeclaredMethod) → old ≡ get_or ws place old → new.key ≡ old.key → new.name ≡ old.name → new.term ≡ old.term → new.methods.items ≡ old.methods.items ++ m ∷ [] → member_shown m ≡ r.member
      → map entry_shown (set ws place new) ≡ all_gaining (r ∷ []) (map entry_shown ws)
  put_to old new m is key name term methods shown =
      let es = map entry_shown ws in
      let e = meant.0 in
      let own = held ws place e meant.1 in
      let read : old ≡ own.0 = is ∙ get_or_from_slice_get ws place own.0 old own.1 in
      let same : entry_shown old ≡ e = ap entry_shown read ∙ own.2 in
      let at : slice_get es place ≡ Some (entry_shown old) = meant.1 ∙ ap Some (sym same) in
      let yes_meant : is_type_of old.key r.base ≡ true = ap (λ (x : Entry). is_type_of x.key r.base) same ∙ meant.2 in
      let more : map member_shown new.methods.items ≡ map member_shown old.methods.items ++ r.member ∷ [] =
      ap (map member_shown) methods ∙ (map-append member_shown old.methods.items (m ∷ []) ∙ ap (λ x. map member_shown old.methods.items ++ x ∷ []) shown) in
      let gained : entry_shown new ≡ gaining (r ∷ []) (entry_shown old) = gain_one r (entry_shown old) (entry_shown new) yes_meant key name (ap shape term) more in
      map-set entry_shown ws place new
      ∙ (ap (set es place) gained
      ∙ gain_at r es place (entry_shown old) at (one_place es r.base place (entry_shown old) rise at yes_meant))
