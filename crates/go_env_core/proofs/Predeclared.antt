-- The predeclared names, one by one.
use Rattle.std.proofs.Common.{◌≡◌, ◌↔◌, inl, inr, ℕ, true, false, List, refl, sym}
use Rattle.std.proofs.lemmas.Bool.{true≢false}
use Rattle.go_universe_core.specs.declared.Predeclared.{Predeclared}
use Rattle.go_universe_core.specs.declared.Predeclared.TheVariants as universe
use Rattle.go_universe_core.specs.Universe.{kind_of, spelling_of, usable}
use Rattle.go_expr_core.specs.denote_core.declared.things.Builtin.TheVariants as builtins
use Rattle.go_expr_core.specs.denote_core.declared.things.Found.TheVariants as founds
use Rattle.go_env_core.specs.Found.{found_universe}
use Rattle.go_env_core.specs.Laws.{IsPredeclared, UniverseIsThis}

inside : (path : List ℕ) (p : Predeclared) → usable p ≡ true → IsPredeclared path p (kind_of p) (found_universe path p)
unfolding usable kind_of spelling_of
inside path universe.Any e = refl
inside path universe.Append e = absurd (true≢false (sym e))
inside path universe.Bool e = refl
inside path universe.Byte e = absurd (true≢false (sym e))
inside path universe.Cap e = absurd (true≢false (sym e))
inside path universe.Clear e = absurd (true≢false (sym e))
inside path universe.Close e = absurd (true≢false (sym e))
inside path universe.Comparable e = absurd (true≢false (sym e))
inside path universe.Complex e = absurd (true≢false (sym e))
inside path universe.Complex128 e = absurd (true≢false (sym e))
inside path universe.Complex64 e = absurd (true≢false (sym e))
inside path universe.Copy e = absurd (true≢false (sym e))
inside path universe.Delete e = absurd (true≢false (sym e))
inside path universe.Error e = refl
inside path universe.False e = refl
inside path universe.Float32 e = absurd (true≢false (sym e))
inside path universe.Float64 e = absurd (true≢false (sym e))
inside path universe.Imag e = absurd (true≢false (sym e))
inside path universe.Int e = refl
inside path universe.Int16 e = absurd (true≢false (sym e))
inside path universe.Int32 e = absurd (true≢false (sym e))
inside path universe.Int64 e = absurd (true≢false (sym e))
inside path universe.Int8 e = absurd (true≢false (sym e))
inside path universe.Iota e = absurd (true≢false (sym e))
inside path universe.Len e = (builtins.Len, refl, refl)
inside path universe.Make e = absurd (true≢false (sym e))
inside path universe.Max e = absurd (true≢false (sym e))
inside path universe.Min e = absurd (true≢false (sym e))
inside path universe.New e = absurd (true≢false (sym e))
inside path universe.Nil e = refl
inside path universe.Panic e = (builtins.Panic, refl, refl)
inside path universe.Print e = (builtins.Print, inl refl, refl)
inside path universe.Println e = (builtins.Print, inr refl, refl)
inside path universe.Real e = absurd (true≢false (sym e))
inside path universe.Recover e = absurd (true≢false (sym e))
inside path universe.Rune e = absurd (true≢false (sym e))
inside path universe.String e = refl
inside path universe.True e = refl
inside path universe.Uint e = absurd (true≢false (sym e))
inside path universe.Uint16 e = absurd (true≢false (sym e))
inside path universe.Uint32 e = absurd (true≢false (sym e))
inside path universe.Uint64 e = absurd (true≢false (sym e))
inside path universe.Uint8 e = absurd (true≢false (sym e))
inside path universe.Uintptr e = absurd (true≢false (sym e))

outside : (path : List ℕ) (p : Predeclared) → (found_universe path p ≡ founds.Outside) ↔ (usable p ≡ false)
unfolding usable
outside path universe.Any = (λ e. cc, λ e. absurd (true≢false e))
outside path universe.Append = (λ e. refl, λ e. refl)
outside path universe.Bool = (λ e. cc, λ e. absurd (true≢false e))
outside path universe.Byte = (λ e. refl, λ e. refl)
outside path universe.Cap = (λ e. refl, λ e. refl)
outside path universe.Clear = (λ e. refl, λ e. refl)
outside path universe.Close = (λ e. refl, λ e. refl)
outside path universe.Comparable = (λ e. refl, λ e. refl)
outside path universe.Complex = (λ e. refl, λ e. refl)
outside path universe.Complex128 = (λ e. refl, λ e. refl)
outside path universe.Complex64 = (λ e. refl, λ e. refl)
outside path universe.Copy = (λ e. refl, λ e. refl)
outside path universe.Delete = (λ e. refl, λ e. refl)
outside path universe.Error = (λ e. cc, λ e. absurd (true≢false e))
outside path universe.False = (λ e. cc, λ e. absurd (true≢false e))
outside path universe.Float32 = (λ e. refl, λ e. refl)
outside path universe.Float64 = (λ e. refl, λ e. refl)
outside path universe.Imag = (λ e. refl, λ e. refl)
outside path universe.Int = (λ e. cc, λ e. absurd (true≢false e))
outside path universe.Int16 = (λ e. refl, λ e. refl)
outside path universe.Int32 = (λ e. refl, λ e. refl)
outside path universe.Int64 = (λ e. refl, λ e. refl)
outside path universe.Int8 = (λ e. refl, λ e. refl)
outside path universe.Iota = (λ e. refl, λ e. refl)
outside path universe.Len = (λ e. cc, λ e. absurd (true≢false e))
outside path universe.Make = (λ e. refl, λ e. refl)
outside path universe.Max = (λ e. refl, λ e. refl)
outside path universe.Min = (λ e. refl, λ e. refl)
outside path universe.New = (λ e. refl, λ e. refl)
outside path universe.Nil = (λ e. cc, λ e. absurd (true≢false e))
outside path universe.Panic = (λ e. cc, λ e. absurd (true≢false e))
outside path universe.Print = (λ e. cc, λ e. absurd (true≢false e))
outside path universe.Println = (λ e. cc, λ e. absurd (true≢false e))
outside path universe.Real = (λ e. refl, λ e. refl)
outside path universe.Recover = (λ e. refl, λ e. refl)
outside path universe.Rune = (λ e. refl, λ e. refl)
outside path universe.String = (λ e. cc, λ e. absurd (true≢false e))
outside path universe.True = (λ e. cc, λ e. absurd (true≢false e))
outside path universe.Uint = (λ e. refl, λ e. refl)
outside path universe.Uint16 = (λ e. refl, λ e. refl)
outside path universe.Uint32 = (λ e. refl, λ e. refl)
outside path universe.Uint64 = (λ e. refl, λ e. refl)
outside path universe.Uint8 = (λ e. refl, λ e. refl)
outside path universe.Uintptr = (λ e. refl, λ e. refl)

pub universe_is : UniverseIsThis
universe_is = record { inside = inside; outside = outside }
